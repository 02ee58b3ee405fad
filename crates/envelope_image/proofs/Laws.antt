-- The stores that make the image of an envelope.
use Prim.Native.Nat.{ℕ, ◌+◌, ◌*◌, ◌-◌, ◌≤◌}
use mathlib.Core.Path.{◌≡◌, refl, ap, ◌∙◌, sym}
use mathlib.Core.List.{List, ◌++◌}
use lib.ListN.{length, replicate}
use lib.Seq.{sets}
use Rattle.lists.specs.Places.{joined}
use Rattle.lists.proofs.Places.{length-joined, joined-used, joined-full}
use Rattle.lists.proofs.Stores.{sets-append}
use Rattle.address.specs.declared.Address.{Address}
use Rattle.address.specs.Address.{zero_address}
use Rattle.address_bytes.specs.Wide.{address_bytes}
use Rattle.address_bytes.proofs.WideLaws.{length-address}
use Rattle.envelope.specs.declared.Fixed.{Fixed}
use Rattle.envelope_image.specs.Image.{field_bytes, envelope_bytes}

module _ (b : List ℕ) (e : Fixed) (d : ℕ → Address) where
  -- all 63 places are used
  pub image-full : 63 ≤ e.count → sets (sets b 0 (field_bytes e)) 15 (joined address_bytes d 63) ≡ sets b 0 (envelope_bytes e d)
  unfolding field_bytes envelope_bytes
  image-full h = sets-append (field_bytes e) b 0 (joined address_bytes d 63) 15 refl ∙ ap (λ (l : List ℕ). sets b 0 (field_bytes e ++ l)) (sym (joined-full address_bytes zero_address d e.count 63 h))

  -- the first of them are used, and the others zero
  pub image-padded : e.count ≤ 63
      → sets (sets (sets b 0 (field_bytes e)) 15 (joined address_bytes d e.count)) (15 + 4 * e.count) (replicate {A = ℕ} (4 * (63 - e.count)) 0) ≡ sets b 0 (envelope_bytes e d)
  unfolding field_bytes envelope_bytes
  image-padded h =
      let x = field_bytes e in
      let y = joined address_bytes d e.count in
      let z : List ℕ = replicate (4 * (63 - e.count)) 0 in
      let m : 15 + 4 * e.count ≡ 15 + length y = rw (length-joined address_bytes 4 length-address d e.count) refl in
      sets-append y (sets b 0 x) 15 z (15 + 4 * e.count) m
      ∙ sets-append x b 0 (y ++ z) 15 refl
      ∙ ap (λ (l : List ℕ). sets b 0 (x ++ l)) (sym (joined-used address_bytes 4 zero_address refl d e.count 63 h))
