-- The ranges of entries as they stand in an image.
use Rattle.std.specs.Prelude.{ℕ, ◌+◌, ◌*◌, Bool, not, ◌&&◌, List}
use Rattle.table.specs.Table.{entry_in_range}
use Rattle.table_image.specs.Table.{entries_start, entry_size, entry_in, stray_entry_in}

-- the 6 bytes that begin at a place are an entry's, and in range
unfoldable pub ranged_entry_in : List ℕ → ℕ → Bool
ranged_entry_in b at = not (stray_entry_in b at) && entry_in_range (entry_in b at)

-- those at place i are not
unfoldable pub unranged_held : List ℕ → ℕ → Bool
unranged_held b i = not (ranged_entry_in b (entries_start + entry_size * i))
