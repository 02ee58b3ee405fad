-- What C gets of a message that is passed on, from what each step of the call gives.
use Prim.Native.Nat.{ℕ, ◌<◌, ◌≤◌}
use mathlib.Core.Path.{◌≡◌, sym, ap, ◌∙◌, subst}
use mathlib.Core.List.{List}
use native.Mathlib.Omega.{arith}
use lib.ListN.{length, take}
use lib.Seq.{sets}
use Rattle.lists.proofs.Refusals.{taken, refused}
use Rattle.address.specs.declared.Station.{Station}
use Rattle.address.specs.declared.Address.{Address}
use Rattle.buffer.specs.Bytes.{Bytes}
use Rattle.chart_read.specs.Reading.{read_chart_of}
use Rattle.class.specs.Calls.{longest_way, send_refusal, way_of, pass_of}
use Rattle.class.proofs.Lending.{Lent, lent-refused, lent-short, lent_written}
use Rattle.class.proofs.Telling.{near, pass-number, pass-place, PassedOn}
use Rattle.class_pass_door.specs.Calls.{pz_pass_refusal, pz_pass_place, pz_pass_places, pz_pass_ending, pz_pass_way}

module _ (bytes tables : List ℕ) (d : Address) (s : Station) (way : List ℕ) where
  -- the number k, n places, the ending x, the chart's place p and the way o
  abbrev Gives : ℕ → ℕ → ℕ → ℕ → List ℕ → Type 0
  Gives k n x p o =
      (k ≡ pz_pass_refusal bytes tables d s (length way)) × (n ≡ pz_pass_places bytes tables d s (length way)) × (x ≡ pz_pass_ending bytes tables d s (length way))
      × (p ≡ pz_pass_place bytes) × (o ≡ pz_pass_way bytes tables d s way)

  number : (pass_of bytes tables d s).refusal ≡ send_refusal bytes tables d s
  number = pass-number bytes tables d s

  place : (pass_of bytes tables d s).place ≡ (read_chart_of bytes).place
  place = pass-place bytes tables d s

  pub fits : Bytes bytes → (pass_of bytes tables d s).place ≤ 1113
  fits b = near bytes b place

  abbrev LentWay : ℕ → List ℕ → Type 0
  LentWay = Lent (send_refusal bytes tables d s) longest_way (way_of bytes tables d s) way

  -- beside a refusal zeros, and the way as it was
  none_told : {k p : ℕ} → p ≡ (pass_of bytes tables d s).place → LentWay k way → (k ≡ 0 → ⊥) → Gives k 0 0 p way
  unfolding pz_pass_refusal pz_pass_places pz_pass_ending pz_pass_place pz_pass_way
  none_told e t h = (t.number_is, sym (refused _ _ _ (λ z. h (t.number_is ∙ z))), sym (refused _ _ _ (λ z. h (t.number_is ∙ z))), e ∙ place, t.buffer-is)

  pub pass-refused : {k p : ℕ} → k ≡ (pass_of bytes tables d s).refusal → p ≡ (pass_of bytes tables d s).place → (k ≡ 0 → ⊥) → Gives k 0 0 p way
  pass-refused {k} {p} e q h =
      subst (λ (n : ℕ). Gives n 0 0 p way) (sym (e ∙ number)) (none_told q (lent-refused _ _ _ _ (λ z. h (e ∙ number ∙ z))) (λ z. h (e ∙ number ∙ z)))

  module _ (z : (pass_of bytes tables d s).refusal ≡ 0) (q : (pass_of bytes tables d s).place ≡ 0) where
    pub pass-short : length way < longest_way → Gives 10 0 0 0 way
    pass-short h = none_told (sym q) (lent-short _ _ _ _ (sym number ∙ z) h) (λ g. omega arith)

    pub pass-written : longest_way ≤ length way → PassedOn bytes tables d s (pass_of bytes tables d s) → {o : List ℕ} → o ≡ sets way 0 (take (pass_of bytes tables d s).count (pass_of bytes tables d s).way)
        → Gives 0 (pass_of bytes tables d s).count (pass_of bytes tables d s).ending 0 o
    unfolding pz_pass_refusal pz_pass_places pz_pass_ending pz_pass_place pz_pass_way
    pass-written h t g =
        let l = lent_written (send_refusal bytes tables d s) longest_way (way_of bytes tables d s) way (sym number ∙ z) h (omega (arith, t.count, t.few)) in
        (l.number_is, t.count ∙ sym (taken _ _ (sym l.number_is)), t.ending ∙ sym (taken _ _ (sym l.number_is)), sym q ∙ place, g ∙ ap (sets way 0) t.nodes ∙ l.buffer-is)
