-- The image of a routing table, 196 bytes (include/poztecameh.h): brigade 1, node 2, count 1, then 32 entries of 6: kind 1 (0 one node, 1 brigade,
-- 2 everything), brigade 1, node 2, port 1, on 1.
use Rattle.std.specs.Prelude.{ℕ, ◌+◌, ◌*◌, Bool, not, ◌&&◌, ◌||◌, cond, List, [], ◌∷◌, ◌++◌, leb, ltb, eqb, length, get_or, replicate}
use Rattle.buffer.specs.Bytes.{word_at, word_bytes}
use Rattle.lists.specs.Places.{any_below, row, joined}
use Rattle.table.specs.declared.Target.{Target}
use Rattle.table.specs.declared.Target.TheVariants.{One, Brigade, Everything}
use Rattle.table.specs.declared.Entry.{Entry}
use Rattle.table.specs.declared.Table.{Table}
use Rattle.table.specs.Table.{most_entries, no_entry, entry_at}

abbrev pub table_size : ℕ
table_size = 196

-- where the entries begin, and the bytes of each
abbrev pub entries_start : ℕ
entries_start = 4

abbrev pub entry_size : ℕ
entry_size = 6

-- ---- an entry, 6 bytes

-- the target of a kind; what its kind does not name is not looked at
unfoldable pub target_of : ℕ → ℕ → ℕ → Target
target_of kind brigade node = cond (eqb kind 0) (One brigade (record { 0 = node })) (cond (eqb kind 1) (Brigade brigade) Everything)

-- the entry whose 6 bytes begin at a place
unfoldable pub entry_in : List ℕ → ℕ → Entry
entry_in b at =
    record {
      target = target_of (get_or b at 0) (get_or b (at + 1) 0) (word_at b (at + 2));
      port = record { 0 = get_or b (at + 4) 0 };
      on = eqb (get_or b (at + 5) 0) 1;
    }

-- the 6 bytes of an entry: what its kind does not name is 0
unfoldable pub target_bytes : Target → List ℕ
target_bytes (One brigade node) = 0 ∷ brigade ∷ word_bytes node.0
target_bytes (Brigade brigade) = 1 ∷ brigade ∷ 0 ∷ 0 ∷ []
target_bytes Everything = 2 ∷ 0 ∷ 0 ∷ 0 ∷ []

unfoldable pub entry_bytes : Entry → List ℕ
entry_bytes e = target_bytes e.target ++ (e.port.0 ∷ cond e.on 1 0 ∷ [])

-- the 6 bytes that begin at a place are no entry's: the kind is above 2, or on is above 1
unfoldable pub stray_entry_in : List ℕ → ℕ → Bool
stray_entry_in b at = ltb 2 (get_or b at 0) || ltb 1 (get_or b (at + 5) 0)

-- ---- the table in an image

-- how many of its entries count
abbrev pub entry_count : List ℕ → ℕ
entry_count b = get_or b 3 0

-- the entry at place i
unfoldable pub entry_held : List ℕ → ℕ → Entry
entry_held b i = entry_in b (entries_start + entry_size * i)

-- the bytes at place i are no entry's
unfoldable pub stray_entry_held : List ℕ → ℕ → Bool
stray_entry_held b i = stray_entry_in b (entries_start + entry_size * i)

-- the image can be read: it is long enough, counts at most 32 entries, and none that counts is stray
unfoldable pub readable_table : List ℕ → Bool
readable_table b = leb table_size (length b) && leb (entry_count b) most_entries && not (any_below (stray_entry_held b) (entry_count b))

-- the table in it: places past the count are not looked at, and hold no entry
unfoldable pub table_in : List ℕ → Table
table_in b =
    record {
      brigade = get_or b 0 0;
      node = record { 0 = word_at b 1 };
      count = entry_count b;
      entries = row most_entries no_entry (entry_held b) (entry_count b);
    }

-- a table with one entry too many
abbrev pub broken_table : Table
broken_table = record { brigade = 0; node = record { 0 = 0 }; count = 33; entries = replicate 32 no_entry }

-- the table that an image stands for: one that can't be read stands for a table out of range, so that its number, 50, takes its turn
unfoldable pub table_of : List ℕ → Table
table_of b = cond (readable_table b) (table_in b) broken_table

-- ---- a table as an image

unfoldable pub table_image : Table → List ℕ
table_image t = t.brigade ∷ (word_bytes t.node.0 ++ (t.count ∷ joined entry_bytes (entry_at t) most_entries))
