-- The writer's refusal, from that of its values and from the room.
use Prim.Native.Nat.{ℕ, ◌<◌, ◌≤◌}
use mathlib.Core.Path.{◌≡◌, refl, sym, ◌∙◌}
use mathlib.Core.List.{List}
use mathlib.Core.Bool.{Bool, true, false}
use lib.Dec.{eqb, ltb}
use borrow.Author.Tests.{ltb-false, lt-ltb, le-ltb}
use Rattle.lists.specs.Places.{repeats, element_at, row}
use Rattle.lists.proofs.Bools.{or_right}
use Rattle.lists.proofs.Places.{Agree}
use Rattle.lists.proofs.Refusals.{pass, or-pass, or-refused}
use Rattle.address.specs.declared.Address.{Address}
use Rattle.address.specs.Address.{same_address}
use Rattle.envelope.specs.declared.Fixed.{Fixed}
use Rattle.envelope.specs.Refusal.{outside, out_of_range, values_refusal_by, values_refusal}
use Rattle.envelope.specs.Private.{key_at}
use Rattle.envelope.proofs.Laws.{Valued, valued, outside-false, ranged, version-small, keys-agree, values_agree}
use Rattle.envelope_write.specs.Refusal.{size_for, frame_write_refusal}
use Rattle.envelope_write.specs.Private.{Ready}

-- too many destinations are refused, whatever stands in them
pub count-refused : (e : Fixed) (d : ℕ → Address) (n room : ℕ) → 63 < e.count → 4 ≡ frame_write_refusal e d n room
unfolding frame_write_refusal values_refusal_by outside
count-refused e d n room h = rw (lt-ltb 63 e.count h, or_right)

-- with something out of range no later test counts; else equal keys are equal destinations
stray-first : (e : Fixed) (n : ℕ) (stray equal equal' : Bool) → (stray ≡ false → equal ≡ equal') → values_refusal_by e n stray equal ≡ values_refusal_by e n stray equal'
unfolding values_refusal_by
stray-first e n true equal equal' h = refl
stray-first e n false equal equal' h = rw (h refl)

pub values-by-keys : (e : Fixed) (d : ℕ → Address) (n : ℕ) {stray : Bool} {keys : List ℕ} {v : ℕ} → stray ≡ out_of_range e d → keys ≡ row 63 0 (key_at d) e.count
    → v ≡ values_refusal_by e n stray (repeats eqb (element_at 0 keys) e.count) → v ≡ values_refusal e n d
values-by-keys e d n {stray} {keys} p k h =
    h ∙ rw (p, k) (stray-first e n (out_of_range e d) _ (repeats same_address d e.count) (λ q. keys-agree d e.count (ranged e d q).destination-in))

-- the writer's refusal, from that of its values and from the room
module _ (e : Fixed) (d : ℕ → Address) (n room : ℕ) where
  pub write-values : {v : ℕ} → v ≡ values_refusal e n d → (v ≡ 0 → ⊥) → v ≡ frame_write_refusal e d n room
  unfolding frame_write_refusal
  write-values p h = p ∙ sym (or-refused (values_refusal e n d) _ (λ z. h (p ∙ z)))

  pub write-short : values_refusal e n d ≡ 0 → room < size_for e n → 10 ≡ frame_write_refusal e d n room
  unfolding frame_write_refusal
  write-short z h = rw (z, lt-ltb room (size_for e n) h)

  pub write-fits : values_refusal e n d ≡ 0 → size_for e n ≤ room → 0 ≡ frame_write_refusal e d n room
  unfolding frame_write_refusal
  write-fits z h = rw (z, le-ltb room (size_for e n) h)

  -- what a refusal of 0 says
  pub write-taken : frame_write_refusal e d n room ≡ 0 → values_refusal e n d ≡ 0
  unfolding frame_write_refusal
  write-taken h = (or-pass (values_refusal e n d) _ h).0

  pub ready : frame_write_refusal e d n room ≡ 0 → Ready e n room
  unfolding frame_write_refusal
  ready h =
      let p = or-pass (values_refusal e n d) _ h in
      let r = pass 9 (ltb room (size_for e n)) 0 p.1 in
      let v : Valued e n (out_of_range e d) (repeats same_address d e.count) = valued _ _ _ _ p.0 in
      record {
        counted = (outside-false 63 _ v.counted).1;
        short = v.short;
        urgent = (outside-false 9 _ v.urgent).1;
        versioned = version-small _ _ v.versioned;
        numbered = (ranged e d v.inside).seq-le;
        roomy = ltb-false _ _ r.0;
      }

-- two ways to give the destinations that agree
module _ (e : Fixed) (d d' : ℕ → Address) (a : Agree d d' e.count) where
  pub write-agree : (n room : ℕ) → frame_write_refusal e d n room ≡ frame_write_refusal e d' n room
  unfolding frame_write_refusal
  write-agree n room = rw (values_agree e n d d' a)
