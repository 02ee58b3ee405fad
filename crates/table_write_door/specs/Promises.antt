-- What C may count on of pz_table. proofs/Promises.antt has the theorems.
use Rattle.std.specs.Prelude.{ℕ, ◌≡◌, true, List, [], ◌∷◌, length}
use Rattle.lists.specs.Refusals.{among}
use Rattle.address.specs.declared.Station.{Station}
use Rattle.buffer.specs.Bytes.{Bytes}
use Rattle.chart_read.specs.Reading.{read_chart_of}
use Rattle.table_image.specs.Table.{table_of}
use Rattle.table_write.specs.Writing.{table_for}
use Rattle.table_write_door.specs.Calls.{pz_table_refusal, pz_table_image}

-- the image that pz_table writes stands for the table of that station, so that pz_choose and pz_accept go by it
abbrev pub ImageHoldsTable : Type 0
ImageHoldsTable = (bytes : List ℕ) (s : Station) (image : List ℕ) → Bytes bytes → pz_table_refusal bytes s (length image) ≡ 0
    → table_of (pz_table_image bytes s image) ≡ table_for (read_chart_of bytes).chart s

-- its refusals; and one leaves the image as it was
abbrev pub pz_table_refusals : List ℕ
pz_table_refusals = 0 ∷ 21 ∷ 22 ∷ 23 ∷ 24 ∷ 25 ∷ 26 ∷ 27 ∷ 28 ∷ 29 ∷ 30 ∷ 31 ∷ 44 ∷ 10 ∷ []

pub record TableRefused : Type 0 where
  pub numbers : (bytes : List ℕ) (s : Station) (room : ℕ) → among (pz_table_refusal bytes s room) pz_table_refusals ≡ true
  pub left : (bytes : List ℕ) (s : Station) (image : List ℕ) → (pz_table_refusal bytes s (length image) ≡ 0 → ⊥) → pz_table_image bytes s image ≡ image
