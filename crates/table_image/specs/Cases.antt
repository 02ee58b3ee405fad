-- The table T as an image by its bytes (include/poztecameh.h), and images that can't be read.
use Rattle.std.specs.Prelude.{ℕ, ◌≡◌, refl, false, List, [], ◌∷◌, ◌++◌, replicate, set, take}
use Rattle.lists.specs.Places.{any_below, element_at, firsts, row, joined}
use Rattle.table.specs.Table.{no_entry, entry_at}
use Rattle.table.specs.Cases.{T}
use Rattle.table_image.specs.Table.{target_of, entry_in, stray_entry_in, entry_held, stray_entry_held, readable_table, table_in, table_of, target_bytes, entry_bytes, table_image}

-- 9/1, three entries: node 9/20 to port 2, off; brigade 9 to port 3, on; everything to port 4, on
unfoldable pub image_t : List ℕ
image_t =
    9 ∷ 0 ∷ 1 ∷ 3 ∷
    0 ∷ 9 ∷ 0 ∷ 20 ∷ 2 ∷ 0 ∷
    1 ∷ 9 ∷ 0 ∷ 0 ∷ 3 ∷ 1 ∷
    2 ∷ 0 ∷ 0 ∷ 0 ∷ 4 ∷ 1 ∷
    replicate 174 0

pub record Cases : Type 0 where
  pub read : table_of image_t ≡ T
  -- and put: what counts as it was, no entry at the other 29 places
  pub put : table_image T ≡ take 22 image_t ++ joined entry_bytes (λ i. no_entry) 29
  pub none : entry_bytes no_entry ≡ 2 ∷ 0 ∷ 0 ∷ 0 ∷ 0 ∷ 0 ∷ []
  -- too short, a kind of 3, an on byte of 2, an entry too many
  pub short : readable_table (take 195 image_t) ≡ false
  pub kind : readable_table (set image_t 4 3) ≡ false
  pub on : readable_table (set image_t 9 2) ≡ false
  pub many : readable_table (set image_t 3 33) ≡ false
  -- what stands past the count is not looked at
  pub past : table_of (set (set image_t 22 3) 27 2) ≡ T
  -- what can't be read stands for a table with one entry too many
  pub stands : (table_of []).count ≡ 33

pub cases : Cases
unfolding T image_t any_below element_at firsts row joined entry_at target_bytes entry_bytes table_image target_of entry_in stray_entry_in entry_held stray_entry_held readable_table table_in table_of
cases = record { read = refl; put = refl; none = refl; short = refl; kind = refl; on = refl; many = refl; past = refl; stands = refl }
