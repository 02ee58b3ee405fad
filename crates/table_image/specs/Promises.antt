-- A table put into an image is taken from it again, and an image's bytes are those of the table in it. proofs/Undo.antt has the theorem.
use Rattle.std.specs.Prelude.{ℕ, ◌+◌, ◌*◌, ◌<◌, ◌≤◌, ◌≡◌, true, List, ◌++◌, length, get_or, take}
use Rattle.buffer.specs.Bytes.{Bytes}
use Rattle.lists.specs.Places.{row}
use Rattle.table.specs.declared.Table.{Table}
use Rattle.table.specs.Table.{most_entries, no_entry, entry_at}
use Rattle.table_image.specs.Table.{table_size, entries_start, entry_size, entry_bytes, entry_count, readable_table, table_of, table_image}

-- the table with no entry at the places past its count
abbrev pub used_table : Table → Table
used_table t = record { brigade = t.brigade; node = t.node; count = t.count; entries = row most_entries no_entry (entry_at t) t.count }

-- the byte k of the entry at place i
abbrev pub entry_byte : List ℕ → ℕ → ℕ → ℕ
entry_byte b i k = get_or b (entries_start + entry_size * i + k) 0

-- an image that says nothing beside its table: what a kind does not name is 0 (the node of a whole brigade, the brigade and node of everything), and each place
-- past the count has the bytes of no entry
pub record Tidy (b : List ℕ) : Type 0 where
  pub brigade : (i : ℕ) → i < entry_count b → entry_byte b i 0 ≡ 2 → entry_byte b i 1 ≡ 0
  pub high : (i : ℕ) → i < entry_count b → 1 ≤ entry_byte b i 0 → entry_byte b i 2 ≡ 0
  pub low : (i : ℕ) → i < entry_count b → 1 ≤ entry_byte b i 0 → entry_byte b i 3 ≡ 0
  pub unused : (i k : ℕ) → entry_count b ≤ i → i < most_entries → k < entry_size → entry_byte b i k ≡ get_or (entry_bytes no_entry) k 0

-- a table and its image undo each other
pub record TableUndo : Type 0 where
  pub size : (t : Table) → length (table_image t) ≡ table_size
  -- reading undoes writing, of any table that counts no more entries than it has; the image may be longer
  pub read : (t : Table) (rest : List ℕ) → t.count ≤ most_entries → table_of (table_image t ++ rest) ≡ used_table t
  -- writing undoes reading, of any tidy image
  pub write : (b : List ℕ) → Bytes b → readable_table b ≡ true → Tidy b → table_image (table_of b) ≡ take table_size b
