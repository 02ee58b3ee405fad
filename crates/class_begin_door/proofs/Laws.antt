-- What C gets of a message that begins, from what each step of the call gives.
use Prim.Native.Nat.{ℕ, ◌<◌, ◌≤◌}
use mathlib.Core.Path.{◌≡◌, sym, ap, ◌∙◌, subst}
use mathlib.Core.List.{List}
use native.Mathlib.Omega.{arith}
use lib.ListN.{length}
use lib.Seq.{sets}
use Rattle.address.specs.declared.Station.{Station}
use Rattle.address.specs.declared.Address.{Address}
use Rattle.buffer.specs.Bytes.{Bytes}
use Rattle.chart_read.specs.Reading.{read_chart_of}
use Rattle.class.specs.declared.Message.{Message}
use Rattle.class.specs.Calls.{send_refusal, begin_of}
use Rattle.class.proofs.Lending.{Lent, lent-refused, lent-short, lent_written}
use Rattle.class.proofs.Telling.{near, begin-number, begin-place}
use Rattle.class_image.specs.Message.{message_size, message_bytes}
use Rattle.class_begin_door.specs.Calls.{pz_begin_refusal, pz_begin_place, pz_begin_message}

module _ (bytes tables : List ℕ) (d : Address) (s : Station) (image : List ℕ) where
  -- the number k, the place p and the image o
  abbrev Gives : ℕ → ℕ → List ℕ → Type 0
  Gives k p o = (k ≡ pz_begin_refusal bytes tables d s (length image)) × (p ≡ pz_begin_place bytes) × (o ≡ pz_begin_message bytes tables d s image)

  number : (begin_of bytes tables d s).refusal ≡ send_refusal bytes tables d s
  number = begin-number bytes tables d s

  place : (begin_of bytes tables d s).place ≡ (read_chart_of bytes).place
  place = begin-place bytes tables d s

  pub fits : Bytes bytes → (begin_of bytes tables d s).place ≤ 1113
  fits b = near bytes b place

  told : {k p : ℕ} {o : List ℕ} → p ≡ (begin_of bytes tables d s).place → Lent (send_refusal bytes tables d s) message_size (message_bytes (begin_of bytes tables d s).message) image k o → Gives k p o
  unfolding pz_begin_refusal pz_begin_place pz_begin_message
  told e t = (t.number_is, e ∙ place, t.buffer-is)

  -- refused, without room, and written
  pub begin-refused : {k p : ℕ} → k ≡ (begin_of bytes tables d s).refusal → p ≡ (begin_of bytes tables d s).place → (k ≡ 0 → ⊥) → Gives k p image
  begin-refused {k} {p} e q h = subst (λ (n : ℕ). Gives n p image) (sym (e ∙ number)) (told q (lent-refused _ _ _ _ (λ z. h (e ∙ number ∙ z))))

  module _ (z : (begin_of bytes tables d s).refusal ≡ 0) (q : (begin_of bytes tables d s).place ≡ 0) where
    pub begin-short : length image < message_size → Gives 10 0 image
    begin-short h = told (sym q) (lent-short _ _ _ _ (sym number ∙ z) h)

    pub begin-written : message_size ≤ length image → {m : Message} → m ≡ (begin_of bytes tables d s).message → {o : List ℕ} → o ≡ sets image 0 (message_bytes m) → Gives 0 0 o
    unfolding message_bytes
    begin-written h e g = subst (λ (o : List ℕ). Gives 0 0 o) (sym (g ∙ ap (λ (x : Message). sets image 0 (message_bytes x)) e)) (told (sym q) (lent_written _ _ _ _ (sym number ∙ z) h (omega arith)))
