-- What C may count on of pz_mend. proofs/Promises.antt has the theorems.
use Rattle.std.specs.Prelude.{ℕ, ◌%◌, ◌≤◌, ◌≡◌, true, List, [], ◌∷◌, length, take}
use Rattle.lists.specs.Refusals.{among}
use Rattle.buffer.specs.Bytes.{Bytes}
use Rattle.chart_write.specs.Writing.{longest_chart}
use Rattle.chart_read.specs.Reading.{read_chart_of}
use Rattle.chart_mend.specs.Mending.{entry_size}
use Rattle.chart_mend.specs.Promises.{longest_list}
use Rattle.chart_mend_door.specs.Calls.{pz_mend_refusal, pz_mend_kept, pz_mend_listed, pz_mend_chart, pz_mend_list}

-- what a call that is not refused leaves: a chart that the reader takes, of at most 1,113 bytes, and a list of whole entries, of at most 65,520
pub record Mends (input chart list : List ℕ) : Type 0 where
  pub taken : (read_chart_of (take (pz_mend_kept input (length chart) (length list)) (pz_mend_chart input chart list))).refusal ≡ 0
  pub kept : pz_mend_kept input (length chart) (length list) ≤ longest_chart
  pub listed : pz_mend_listed input (length chart) (length list) ≤ longest_list
  pub entries : pz_mend_listed input (length chart) (length list) % entry_size ≡ 0

abbrev pub EveryMend : Type 0
EveryMend = (input chart list : List ℕ) → Bytes input → pz_mend_refusal input (length chart) (length list) ≡ 0 → Mends input chart list

-- its numbers; and a refusal leaves both buffers as they were
abbrev pub pz_mend_refusals : List ℕ
pz_mend_refusals = 0 ∷ 33 ∷ 31 ∷ 10 ∷ []

pub record MendRefused : Type 0 where
  pub numbers : (input : List ℕ) (room list_room : ℕ) → among (pz_mend_refusal input room list_room) pz_mend_refusals ≡ true
  pub chart_left : (input chart list : List ℕ) → (pz_mend_refusal input (length chart) (length list) ≡ 0 → ⊥) → pz_mend_chart input chart list ≡ chart
  pub list_left : (input chart list : List ℕ) → (pz_mend_refusal input (length chart) (length list) ≡ 0 → ⊥) → pz_mend_list input chart list ≡ list
