-- `envelope_read::contents_of` meets its contract: the fields that the reader gave say where the contents are.
use Rattle.envelope.proofs.Laws.{accepted}
use Rattle.envelope_read.proofs.Laws.{opened-answer, refused-answer}
use Rattle.envelope_read.proofs.PartsLaws.{contents-cut, contents-begin, contents-refused, contents-at-refused}
use Prim.Native.Nat.{ℕ, ◌+◌}
use mathlib.Core.Path.{◌≡◌, refl, sym, ap}
use native.Mathlib.Nat.{zero-add}
use Rattle.envelope.specs.declared.Fixed.{Fixed}
use Rattle.envelope.specs.Frame.{fields_of}
use Rattle.envelope.specs.Refusal.{frame_refusal}
use native.Mathlib.Omega.{arith}
use Rattle.envelope_read.proofs.parts.contents_of.Goals as goal

pub returns-in_default : goal.returns-in_default
returns-in_default c =
    let f = c.args.frame.now in
    let no : frame_refusal f ≡ 0 → ⊥ = refused-answer f _ (rw c.in_default.is at c.read_frame.ensures.value) in
    record { result_value = sym (contents-refused f no); place = (refl, rw (contents-at-refused f no, zero-add)) }

pub slice_bounds-result-end-2 : goal.slice_bounds-result-end-2
unfolding fields_of
slice_bounds-result-end-2 c =
    let opened = opened-answer c.args.frame.now _ c.in-Ok.ensures.value in
    let f = c.args.frame.now in
    let o = opened in
    omega (arith, (accepted f o.none).frame.sized, ap (λ (x : Fixed). x.count) o.same, ap (λ (x : Fixed). x.length) o.same)

pub returns : goal.returns
returns c =
    let opened = opened-answer c.args.frame.now _ c.in-Ok.ensures.value in
    let o = opened in
    record { result_value = contents-cut _ _ o; place = (refl, ap (λ (n : ℕ). n + c.args.frame.ref_ptr.1) (contents-begin _ _ o)) }
