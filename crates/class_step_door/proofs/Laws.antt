-- What C gets of a message that goes a step on, from what each step of the call gives.
use Prim.Native.Nat.{ℕ, ◌<◌, ◌≤◌}
use mathlib.Core.Path.{◌≡◌, sym, ap, ◌∙◌, subst}
use mathlib.Core.List.{List}
use native.Mathlib.Omega.{arith}
use lib.ListN.{length}
use lib.Seq.{sets}
use Rattle.address.specs.declared.Address.{Address}
use Rattle.buffer.specs.Bytes.{Bytes}
use Rattle.chart_read.specs.Reading.{read_chart_of}
use Rattle.class.specs.declared.Message.{Message}
use Rattle.class.specs.Calls.{Sent, step_refusal, step_of}
use Rattle.class.proofs.Lending.{Lent, lent-refused, lent-short, lent_written}
use Rattle.class.proofs.Telling.{near, step-number, step-place}
use Rattle.class_image.specs.Message.{message_size, message_in, message_bytes}
use Rattle.class_step_door.specs.Calls.{pz_step_refusal, pz_step_place, pz_step_message}

module _ (bytes tables : List ℕ) (d : Address) (image : List ℕ) {m : Message} (i : m ≡ message_in image) where
  -- the number k, the place p and the image o
  abbrev Gives : ℕ → ℕ → List ℕ → Type 0
  Gives k p o = (k ≡ pz_step_refusal bytes tables d image) × (p ≡ pz_step_place bytes) × (o ≡ pz_step_message bytes tables d image)

  stepped : step_of bytes tables d m ≡ step_of bytes tables d (message_in image)
  stepped = ap (step_of bytes tables d) i

  number : (step_of bytes tables d m).refusal ≡ step_refusal bytes tables d (message_in image)
  number = ap (λ (x : Sent). x.refusal) stepped ∙ step-number bytes tables d (message_in image)

  place : (step_of bytes tables d m).place ≡ (read_chart_of bytes).place
  place = ap (λ (x : Sent). x.place) stepped ∙ step-place bytes tables d (message_in image)

  pub fits : Bytes bytes → (step_of bytes tables d m).place ≤ 1113
  fits b = near bytes b place

  told : {k p : ℕ} {o : List ℕ} → p ≡ (step_of bytes tables d m).place
      → Lent (step_refusal bytes tables d (message_in image)) message_size (message_bytes (step_of bytes tables d (message_in image)).message) image k o → Gives k p o
  unfolding pz_step_refusal pz_step_place pz_step_message
  told e t = (t.number_is, e ∙ place, t.buffer-is)

  -- refused, without room, and written
  pub step-refused : {k p : ℕ} → k ≡ (step_of bytes tables d m).refusal → p ≡ (step_of bytes tables d m).place → (k ≡ 0 → ⊥) → Gives k p image
  step-refused {k} {p} e q h = subst (λ (n : ℕ). Gives n p image) (sym (e ∙ number)) (told q (lent-refused _ _ _ _ (λ z. h (e ∙ number ∙ z))))

  module _ (z : (step_of bytes tables d m).refusal ≡ 0) (q : (step_of bytes tables d m).place ≡ 0) where
    pub step-short : length image < message_size → Gives 10 0 image
    step-short h = told (sym q) (lent-short _ _ _ _ (sym number ∙ z) h)

    pub step-written : message_size ≤ length image → {next : Message} → next ≡ (step_of bytes tables d m).message → {o : List ℕ} → o ≡ sets image 0 (message_bytes next) → Gives 0 0 o
    unfolding message_bytes
    step-written h e g =
        subst (λ (o : List ℕ). Gives 0 0 o) (sym (g ∙ ap (λ (x : Message). sets image 0 (message_bytes x)) (e ∙ ap (λ (x : Sent). x.message) stepped)))
        (told (sym q) (lent_written _ _ _ _ (sym number ∙ z) h (omega arith)))
