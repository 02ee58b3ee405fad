-- The theorems on pz_mend: what it keeps is a chart that the reader takes, and so no longer than any; and which numbers it gives.
use Prim.Native.Nat.{ℕ, zero, suc, ◌%◌, ◌≤◌}
use mathlib.Core.Path.{◌≡◌, refl, sym, ap, ap₂, ◌∙◌}
use mathlib.Core.List.{List}
use mathlib.Core.Bool.{not}
use native.Mathlib.Omega.{arith}
use lib.ListN.{length, take, drop}
use lib.Seq.{take-append_seam}
use lib.Dec.{ltb}
use Rattle.lists.specs.Refusals.{unless_refused}
use Rattle.lists.proofs.Refusals.{taken, refused}
use Rattle.lists.proofs.Given.{Given, tested}
use Rattle.buffer.specs.Bytes.{Bytes}
use Rattle.chart_read.specs.Reading.{ChartRead, read_chart_of}
use Rattle.chart_write.specs.Writing.{longest_chart}
use Rattle.chart_write.proofs.Promises.{write_undoes_read}
use Rattle.chart_mend.specs.declared.MendedSizes.{MendedSizes}
use Rattle.chart_mend.specs.Mending.{held_of, kept_bytes, list_bytes, mend_refusal, mend_of, sizes_of}
use Rattle.chart_mend.specs.Promises.{longest_list}
use Rattle.chart_mend.proofs.Promises.{kept-is-accepted}
use Rattle.chart_mend.proofs.Sizes.{all-sizes, list-fits, bytes-kept}
use Rattle.chart_mend.proofs.Mending.{passed}
use Rattle.chart_mend_door.specs.Calls.{pz_mend_refusal, pz_mend_kept, pz_mend_listed, pz_mend_chart, pz_mend_list}
use Rattle.chart_mend_door.specs.Promises.{EveryMend, pz_mend_refusals, MendRefused}

-- ---- what is kept and what is listed

-- what is so beside no refusal is so of 0 beside one
within : (k n m : ℕ) → (k ≡ 0 → n ≤ m) → unless_refused k n 0 ≤ m
unfolding unless_refused
within zero n m h = h refl
within (suc k) n m h = omega arith

module _ (input : List ℕ) (room list_room : ℕ) where
  accepted : mend_refusal input room list_room ≡ 0 → (read_chart_of (kept_bytes input)).refusal ≡ 0
  accepted z = ap (λ (r : ChartRead). r.refusal) (kept-is-accepted input (passed input room list_room z).asked)

  pub kept-short : Bytes input → pz_mend_kept input room list_room ≤ longest_chart
  unfolding pz_mend_kept mend_of
  kept-short all =
      within (mend_refusal input room list_room) _ _
      (λ z. (write_undoes_read (kept_bytes input) (bytes-kept input all) (accepted z) (kept_bytes input) (omega arith)).short)

  pub listed-short : pz_mend_listed input room list_room ≤ longest_list
  unfolding pz_mend_listed mend_of
  listed-short =
      within (mend_refusal input room list_room) _ _
      (λ z. let p = passed input room list_room z in list-fits input p.short p.asked)

  -- what C gets of both sizes: those of the call, and 0 beside a refusal
  module _ {s : MendedSizes} (e : s ≡ sizes_of (mend_of input room list_room)) where
    pub kept-is : s.kept ≡ pz_mend_kept input room list_room
    unfolding pz_mend_kept
    kept-is = ap (λ (x : MendedSizes). x.kept) e

    pub listed-is : s.listed ≡ pz_mend_listed input room list_room
    unfolding pz_mend_listed
    listed-is = ap (λ (x : MendedSizes). x.listed) e

  module _ {k : ℕ} (e : k ≡ (mend_of input room list_room).refusal) (h : k ≡ 0 → ⊥) where
    pub none-kept : 0 ≡ pz_mend_kept input room list_room
    unfolding pz_mend_kept mend_of
    none-kept = sym (refused _ 0 _ (λ z. h (e ∙ z)))

    pub none-listed : 0 ≡ pz_mend_listed input room list_room
    unfolding pz_mend_listed mend_of
    none-listed = sym (refused _ 0 _ (λ z. h (e ∙ z)))

-- beside no refusal: what is left in the chart that was lent, and how much is listed
kept_there : (input chart list : List ℕ) → mend_refusal input (length chart) (length list) ≡ 0
    → take (pz_mend_kept input (length chart) (length list)) (pz_mend_chart input chart list) ≡ kept_bytes input
unfolding pz_mend_kept pz_mend_chart mend_of
kept_there input chart list z =
    ap₂ take (taken (length (kept_bytes input)) 0 z) (taken _ chart z) ∙ take-append_seam (kept_bytes input) (drop (length (kept_bytes input)) chart)

listed-there : (input chart list : List ℕ) → mend_refusal input (length chart) (length list) ≡ 0
    → pz_mend_listed input (length chart) (length list) ≡ length (list_bytes input)
unfolding pz_mend_listed mend_of
listed-there input chart list z = taken _ 0 z

pub every-mend : EveryMend
unfolding pz_mend_refusal
every-mend input chart list all z =
    record {
      taken = ap (λ (l : List ℕ). (read_chart_of l).refusal) (kept_there input chart list z) ∙ accepted input (length chart) (length list) z;
      kept = kept-short input (length chart) (length list) all;
      listed = listed-short input (length chart) (length list);
      entries = ap (λ (n : ℕ). n % 3) (listed-there input chart list z) ∙ (all-sizes input).entries;
    }

-- ---- numbers, and what a refusal leaves

abbrev M : List ℕ
M = pz_mend_refusals

mend-given : (input : List ℕ) (room list_room : ℕ) → Given M (pz_mend_refusal input room list_room)
unfolding pz_mend_refusal mend_refusal
mend-given input room list_room =
    tested M 33 (ltb 65535 (length input)) refl
    (tested M 31 (not (held_of input).asked) refl
    (tested M 10 (ltb room (length (kept_bytes input))) refl
    (tested M 10 (ltb list_room (length (list_bytes input))) refl (record { is = refl }))))

pub mend-refused : MendRefused
unfolding pz_mend_refusal pz_mend_chart pz_mend_list
mend-refused =
    record {
      numbers = λ input room list_room. (mend-given input room list_room).is;
      chart_left = λ input chart list z. refused _ chart _ z;
      list_left = λ input chart list z. refused _ list _ z;
    }
