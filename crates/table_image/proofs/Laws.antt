-- Laws of a table's image: which bytes are no entry's, what an image that can be read is, and the stores that make one.
use Prim.Native.Nat.{ℕ, ◌+◌, ◌/◌, ◌%◌, ◌≤◌, ◌<◌}
use mathlib.Core.Path.{◌≡◌, refl, sym, ap₂}
use mathlib.Core.Bool.{true, false}
use mathlib.Core.List.{List, [], ◌∷◌, ◌++◌}
use native.Mathlib.Omega.{arith}
use mir.Val.{bool_byte}
use lib.Dec.{ltb}
use lib.ListN.{length, get_or, length-append}
use lib.Seq.{sets}
use borrow.Author.Tests.{leb-true, lt-ltb, le-ltb}
use Rattle.buffer.specs.Bytes.{word_at}
use Rattle.lists.specs.Places.{any_below, row, joined}
use Rattle.lists.proofs.Bools.{all_three, bool-byte}
use Rattle.lists.proofs.Places.{element-own, length-joined}
use Rattle.lists.proofs.Stores.{sets-append}
use Rattle.table.specs.declared.Target.{Target}
use Rattle.table.specs.declared.Target.TheVariants.{One, Brigade, Everything}
use Rattle.table.specs.declared.Entry.{Entry}
use Rattle.table.specs.declared.Table.{Table}
use Rattle.table.specs.Table.{most_entries, no_entry, entry_at}
use Rattle.table_image.specs.Table.{table_size, entries_start, entry_size, entry_count, entry_held, stray_entry_in, stray_entry_held, readable_table, table_in, broken_table, table_of, target_bytes, entry_bytes, table_image}

-- an image that can be read
pub record Readable (b : List ℕ) : Type 0 where
  pub long : 196 ≤ length b
  pub few : entry_count b ≤ 32
  pub none-stray : any_below (stray_entry_held b) (entry_count b) ≡ false

module _ (b : List ℕ) (at : ℕ) where
  pub kind-stray : 2 < get_or b at 0 → true ≡ stray_entry_in b at
  unfolding stray_entry_in
  kind-stray h = rw (lt-ltb 2 (get_or b at 0) h)

  pub on-tells : get_or b at 0 ≤ 2 → ltb 1 (get_or b (at + 5) 0) ≡ stray_entry_in b at
  unfolding stray_entry_in
  on-tells h = rw (le-ltb 2 (get_or b at 0) h)

module _ (b : List ℕ) where
  pub readable : readable_table b ≡ true → Readable b
  unfolding readable_table
  readable h =
      let w = all_three _ _ (any_below (stray_entry_held b) (entry_count b)) h in
      record { long = leb-true 196 (length b) w.0; few = leb-true (entry_count b) 32 w.1.0; none-stray = w.1.1 }

  pub table-read : readable_table b ≡ true → {entries : List Entry} → entries ≡ row 32 no_entry (entry_held b) (entry_count b) → {n : ℕ} → n ≡ word_at b 1
      → ◌≡◌ {A = Table} (record { brigade = get_or b 0 0; node = record { 0 = n }; count = entry_count b; entries = entries }) (table_of b)
  unfolding table_of table_in
  table-read h e w = rw (h, e, w)

  pub table-unread : readable_table b ≡ false → broken_table ≡ table_of b
  unfolding table_of
  table-unread h = rw h

-- ---- the bytes of an entry

pub entry-made : (e : Entry) {g : Target} → e.target ≡ g → target_bytes g ++ (e.port.0 ∷ bool_byte e.on ∷ []) ≡ entry_bytes e
unfolding entry_bytes
entry-made e h = ap₂ (λ (g : Target) (x : ℕ). target_bytes g ++ (e.port.0 ∷ x ∷ [])) (sym h) (bool-byte e.on)

length-target : (g : Target) → length (target_bytes g) ≡ 4
unfolding target_bytes
length-target (One brigade node) = refl
length-target (Brigade brigade) = refl
length-target Everything = refl

pub length-entry : (e : Entry) → length (entry_bytes e) ≡ entry_size
unfolding entry_bytes
length-entry e = rw (length-append, length-target e.target)

-- the entry that the code reads: below its length, an array has the table's own
pub entry_read : (t : Table) (z : Entry) (i : ℕ) → i < length t.entries → get_or t.entries i z ≡ entry_at t i
unfolding entry_at
entry_read t z i h = element-own no_entry z t.entries i h

-- ---- the two stores that make an image

module _ (t : Table) where
  abbrev head : List ℕ
  head = t.brigade ∷ t.node.0 / 256 ∷ t.node.0 % 256 ∷ t.count ∷ []

  pub table-stored : (b : List ℕ)
      → sets (sets b 0 (t.brigade ∷ t.node.0 / 256 ∷ t.node.0 % 256 ∷ t.count ∷ [])) entries_start (joined entry_bytes (entry_at t) most_entries)
      ≡ sets b 0 (table_image t)
  unfolding table_image
  table-stored b = sets-append head b 0 (joined entry_bytes (entry_at t) most_entries) entries_start refl

  pub image-size : length (table_image t) ≡ table_size
  unfolding table_image
  image-size = omega (arith, length-joined entry_bytes entry_size length-entry (entry_at t) most_entries)
