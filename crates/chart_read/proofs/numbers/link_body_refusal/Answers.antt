-- `chart_read::numbers::link_body_refusal` meets its contract: the length decides, then the on byte, then the link's own number.
use mathlib.Core.Path.{sym, ap, ◌∙◌}
use mathlib.Core.Bool.{not}
use native.Mathlib.Omega.{arith}
use borrow.Author.Tests.{lt-ltb, le-ltb, eq-eqb, ne_eqb}
use Rattle.lists.proofs.Chains.{stops, passes}
use Rattle.chart_refuse.specs.Private.{link_refusal_by_keys}
use Rattle.chart_read.specs.Reading.{link_body_refusal}
use Rattle.chart_read.proofs.Laws.{link-length-bounds}
use Rattle.chart_read.proofs.numbers.link_body_refusal.Goals as goal

pub returns-then-b-link_length : goal.returns-then-b-link_length
unfolding link_body_refusal
returns-then-b-link_length c = stops 23 _ (ap not (ne_eqb _ _ (λ e. c.if-b-link_length.true (e ∙ sym c.link_length.ensures))))

pub bounds-b-8 : goal.bounds-b-8
bounds-b-8 c =
    let long = c.if-b-link_length.false ∙ c.link_length.ensures in
    omega (arith, long, (link-length-bounds c.args.form).0)

pub returns-then-b-gt1 : goal.returns-then-b-gt1
unfolding link_body_refusal
returns-then-b-gt1 c =
    let long = c.if-b-link_length.false ∙ c.link_length.ensures in
    passes 23 (ap not (eq-eqb _ _ long)) (stops 24 _ (lt-ltb _ _ c.if-b-gt1.true))

pub link_in-l-requires : goal.link_in-l-requires
link_in-l-requires c =
    let long = c.if-b-link_length.false ∙ c.link_length.ensures in
    omega (arith, long, (link-length-bounds c.args.form).0)

pub returns : goal.returns
unfolding link_body_refusal
returns c =
    let long = c.if-b-link_length.false ∙ c.link_length.ensures in
    passes 23 (ap not (eq-eqb _ _ long))
    (passes 24 (le-ltb _ _ c.if-b-gt1.false)
    (c.link_refusal.ensures ∙ ap (link_refusal_by_keys c.args.late c.args.form c.args.keys.now c.args.n c.args.akeys.now c.args.bkeys.now c.args.m) c.link_in-l.ensures))
