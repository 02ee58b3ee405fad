-- The images of tables for the four nodes of S, byte for byte; Cases.antt has that those of `tables_s` are written from S.
use Rattle.std.specs.Prelude.{ℕ, List, ◌∷◌, ◌++◌, replicate}
use Rattle.lists.specs.Places.{joined}
use Rattle.table.specs.Table.{no_entry}
use Rattle.table_image.specs.Table.{entry_bytes}

-- the table of 9/n: to 9/a by port p, to 9/b by port q, to 9/c by port r; then no entry at 29 places
abbrev pub image_of : ℕ → ℕ → ℕ → ℕ → ℕ → ℕ → ℕ → List ℕ
image_of n a p b q c r =
    9 ∷ 0 ∷ n ∷ 3 ∷
    0 ∷ 9 ∷ 0 ∷ a ∷ p ∷ 1 ∷
    0 ∷ 9 ∷ 0 ∷ b ∷ q ∷ 1 ∷
    0 ∷ 9 ∷ 0 ∷ c ∷ r ∷ 1 ∷
    joined entry_bytes (λ i. no_entry) 29

-- the four tables in the places of their nodes; zeros at the other 12
unfoldable pub tables_s : List ℕ
tables_s = image_of 1 20 2 21 3 30 2 ++ (image_of 20 1 1 21 3 30 2 ++ (image_of 21 1 1 20 3 30 2 ++ (image_of 30 1 1 20 1 21 2 ++ replicate 2352 0)))

-- those of 9/20 and 9/21 exchanged
unfoldable pub exchanged_s : List ℕ
exchanged_s = image_of 1 20 2 21 3 30 2 ++ (image_of 21 1 1 20 3 30 2 ++ (image_of 20 1 1 21 3 30 2 ++ (image_of 30 1 1 20 1 21 2 ++ replicate 2352 0)))
