-- `chart_read::take::take_link` meets its contract: where the body's number is 0 there is room, and the keys of its ends stand in the next place.
use mathlib.Core.Path.{sym, ◌∙◌}
use native.Mathlib.Omega.{arith}
use Rattle.refusal.proofs.Passed.{passed, passed-bad}
use Rattle.chart_read.specs.Private.{link_late_by, link_after_keys, refusing_by, with_link_keys}
use Rattle.chart_read.proofs.Laws.{link-number, link-length-bounds, link-bounds}
use Rattle.chart_read.proofs.Taking.{takes_none, takes_one, link-room, link-keys}
use Rattle.chart_read.proofs.take.take_link.Goals as goal

pub returns-in_err-link_body_refusal : goal.returns-in_err-link_body_refusal
unfolding refusing_by link_after_keys link_late_by
returns-in_err-link_body_refusal c =
    let a = c.args in
    let t = a.keys.now in
    let h = c.from_residual.ensures.1 in
    takes_none t a.form a.b.now _ (passed _ _ h (c.in_err-link_body_refusal.ensures ∙ link-number (refusing_by t) a.form a.b.now c.requires)) (passed-bad _ _ h)

pub link_in-link-requires : goal.link_in-link-requires
link_in-link-requires c =
    let zero = sym c.in_ok-link_body_refusal.ensures in
    omega (arith, (link-bounds _ _ _ zero).0, (link-length-bounds c.args.form).0)

pub offset_bounds-keys-m : goal.offset_bounds-keys-m
offset_bounds-keys-m c =
    let zero = sym c.in_ok-link_body_refusal.ensures in
    record { fits = omega (arith, link-room _ _ _ _ _ _ _ _ zero) }

pub bounds-keys-m : goal.bounds-keys-m
bounds-keys-m c =
    let zero = sym c.in_ok-link_body_refusal.ensures in
    link-room _ _ _ _ _ _ _ _ zero

pub offset_bounds-keys-m-2 : goal.offset_bounds-keys-m-2
offset_bounds-keys-m-2 c =
    let zero = sym c.in_ok-link_body_refusal.ensures in
    record { fits = omega (arith, link-room _ _ _ _ _ _ _ _ zero) }

pub bounds-keys-m-2 : goal.bounds-keys-m-2
bounds-keys-m-2 c =
    let zero = sym c.in_ok-link_body_refusal.ensures in
    link-room _ _ _ _ _ _ _ _ zero

pub overflow_add-keys : goal.overflow_add-keys
overflow_add-keys c =
    let zero = sym c.in_ok-link_body_refusal.ensures in
    record { fits = omega (arith, link-room _ _ _ _ _ _ _ _ zero) }

pub returns : goal.returns
unfolding refusing_by link_after_keys with_link_keys link_late_by
returns c =
    let zero = sym c.in_ok-link_body_refusal.ensures in
    let a = c.args in
    let t = a.keys.now in
    takes_one t a.form a.b.now (sym (link-number (refusing_by t) a.form a.b.now c.requires) ∙ zero) _
    (rw (c.end_key.ensures.key, c.end_key-2.ensures.key, c.link_in-link.ensures) (link-keys t a.form a.b.now c.requires))
