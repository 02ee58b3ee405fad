-- The theorem of a table's image: table-undo. Each of an entry's 6 bytes says one thing, and its kind says which target it is.
use Prim.Native.Nat.{ℕ, zero, suc, ◌+◌, ◌*◌, ◌-◌, ◌/◌, ◌%◌, ◌<◌, ◌≤◌}
use mathlib.Core.Path.{◌≡◌, refl, sym, ap, ap₂, ◌∙◌}
use mathlib.Core.Bool.{Bool, true, false, cond, ◌||◌}
use mathlib.Core.List.{List, [], ◌∷◌, ◌++◌, append-nil}
use native.Mathlib.Nat.{add-zero}
use native.Mathlib.Decide.{dec_lt}
use native.Mathlib.Omega.{arith}
use lib.Dec.{ltb, eqb}
use lib.ListN.{length, get_or, take, length-append}
use lib.Seq.{ext_get_or, get_or-append-add, get_or-take, length-take-le}
use borrow.Author.Tests.{le-leb, ltb-false}
use Rattle.buffer.specs.Bytes.{Bytes, word_at}
use Rattle.buffer.proofs.Words.{word_back, word-high, word_low}
use Rattle.lists.specs.Places.{any_below, firsts, row, joined}
use Rattle.lists.proofs.Bools.{or-no-left, or-no-right}
use Rattle.lists.proofs.Places.{Agree, any_false, any-nowhere, firsts_at, row_at, row-past, row-agree, joined_at}
use Rattle.table.specs.declared.Target.{Target}
use Rattle.table.specs.declared.Target.TheVariants.{One, Brigade, Everything}
use Rattle.table.specs.declared.Entry.{Entry}
use Rattle.table.specs.declared.Table.{Table}
use Rattle.table.specs.Table.{no_entry, entry_at}
use Rattle.table_image.specs.Table.{entry_count, target_of, entry_in, target_bytes, entry_bytes, stray_entry_in, entry_held, stray_entry_held, readable_table, table_in, table_of, table_image}
use Rattle.table_image.specs.Promises.{used_table, entry_byte, Tidy, TableUndo}
use Rattle.table_image.proofs.Laws.{readable, length-entry, image-size}

-- ---- an entry is read from its 6 bytes, wherever they stand

on-back : (on : Bool) → eqb (cond on 1 0) 1 ≡ on
on-back true = refl
on-back false = refl

on-small : (on : Bool) → ltb 1 (cond on 1 0) ≡ false
on-small true = refl
on-small false = refl

-- what the bytes say, one by one
module _ (p : ℕ) (x : ℕ) where
  bytes-say : (g : Target) → let l = target_bytes g ++ (p ∷ x ∷ []) in
      (target_of (get_or l 0 0) (get_or l 1 0) (word_at l 2) ≡ g) × (ltb 2 (get_or l 0 0) ≡ false) × (get_or l 4 0 ≡ p) × (get_or l 5 0 ≡ x)
  unfolding target_bytes target_of
  bytes-say (One brigade node) = (ap (λ (w : ℕ). One brigade (record { 0 = w })) (word_back node.0), refl, refl, refl)
  bytes-say (Brigade brigade) = (refl, refl, refl, refl)
  bytes-say Everything = (refl, refl, refl, refl)

module _ (e : Entry) (b : List ℕ) (at : ℕ) (h : (k : ℕ) → k < 6 → get_or b (at + k) 0 ≡ get_or (entry_bytes e) k 0) where
  byte : (j k : ℕ) → j ≡ at + k → k < 6 → get_or b j 0 ≡ get_or (entry_bytes e) k 0
  byte j k q l = ap (λ (i : ℕ). get_or b i 0) q ∙ h k l

  entry-back : entry_in b at ≡ e
  unfolding entry_in entry_bytes
  entry-back =
      let s = bytes-say e.port.0 (cond e.on 1 0) e.target in
      let target : target_of (get_or b at 0) (get_or b (at + 1) 0) (word_at b (at + 2)) ≡ e.target =
      rw (
        byte at 0 (omega arith) (omega arith),
        byte (at + 1) 1 refl (omega arith),
        byte (at + 2) 2 refl (omega arith),
        byte (at + 2 + 1) 3 (omega arith) (omega arith),
      )
      s.0
      in
      let port : get_or b (at + 4) 0 ≡ e.port.0 = byte (at + 4) 4 refl (omega arith) ∙ s.2 in
      let on : eqb (get_or b (at + 5) 0) 1 ≡ e.on = ap (λ (x : ℕ). eqb x 1) (byte (at + 5) 5 refl (omega arith) ∙ s.3) ∙ on-back e.on in
      λ i. record { target = target i; port = record { 0 = port i }; on = on i }

  entry_known : stray_entry_in b at ≡ false
  unfolding stray_entry_in entry_bytes
  entry_known =
      let s = bytes-say e.port.0 (cond e.on 1 0) e.target in
      ap₂ (λ (x y : Bool). x || y)
      (ap (ltb 2) (byte at 0 (omega arith) (omega arith)) ∙ s.1)
      (ap (ltb 1) (byte (at + 5) 5 refl (omega arith) ∙ s.3) ∙ on-small e.on)

-- ---- and its bytes are those that it was read from

target-forth : (kind brigade high low : ℕ) → kind ≤ 2 → (kind ≡ 2 → brigade ≡ 0) → (1 ≤ kind → high ≡ 0) → (1 ≤ kind → low ≡ 0) → low < 256
    → target_bytes (target_of kind brigade (high * 256 + low)) ≡ kind ∷ brigade ∷ high ∷ low ∷ []
unfolding target_of target_bytes
target-forth zero brigade high low few all h l s =
    let p : (high * 256 + low) / 256 ≡ high = omega arith in
    let q : (high * 256 + low) % 256 ≡ low = omega arith in
    rw (p, q)
target-forth (suc zero) brigade high low few all h l s = rw (h (omega arith), l (omega arith))
target-forth (suc (suc zero)) brigade high low few all h l s = rw (all refl, h (omega arith), l (omega arith))
target-forth (suc (suc (suc k))) brigade high low few all h l s = absurd (omega arith)

on-forth : (x : ℕ) → x ≤ 1 → cond (eqb x 1) 1 0 ≡ x
on-forth zero h = refl
on-forth (suc zero) h = refl
on-forth (suc (suc x)) h = absurd (omega arith)

module _ (b : List ℕ) (bytes : Bytes b) (tidy : Tidy b) where
  entry-forth : (i : ℕ) → i < entry_count b → stray_entry_held b i ≡ false → entry_bytes (entry_held b i) ≡ firsts (entry_byte b i) 6
  unfolding firsts entry_held entry_in entry_bytes stray_entry_held stray_entry_in
  entry-forth i h s =
      let at = 4 + 6 * i in
      let kind : get_or b at 0 ≡ entry_byte b i 0 = ap (λ (j : ℕ). get_or b j 0) (sym (add-zero at)) in
      let low : get_or b (at + 2 + 1) 0 ≡ entry_byte b i 3 = ap (λ (j : ℕ). get_or b j 0) (omega arith) in
      let few : get_or b at 0 ≤ 2 = ltb-false 2 (get_or b at 0) (or-no-left _ (ltb 1 (get_or b (at + 5) 0)) s) in
      let on : get_or b (at + 5) 0 ≤ 1 = ltb-false 1 (get_or b (at + 5) 0) (or-no-right (ltb 2 (get_or b at 0)) _ s) in
      let target : target_bytes (target_of (get_or b at 0) (get_or b (at + 1) 0) (word_at b (at + 2)))
      ≡ get_or b at 0 ∷ get_or b (at + 1) 0 ∷ get_or b (at + 2) 0 ∷ get_or b (at + 2 + 1) 0 ∷ [] =
      target-forth (get_or b at 0) (get_or b (at + 1) 0) (get_or b (at + 2) 0) (get_or b (at + 2 + 1) 0) few
      (λ q. tidy.brigade i h (sym kind ∙ q))
      (λ q. tidy.high i h (rw kind at q))
      (λ q. low ∙ tidy.low i h (rw kind at q))
      (bytes (at + 2 + 1))
      in
      rw (target, on-forth (get_or b (at + 5) 0) on, kind, low)

-- ---- what was written, read

module _ (t : Table) (rest : List ℕ) (few : t.count ≤ 32) where
  image : List ℕ
  image = table_image t ++ rest

  heads-back : (get_or image 0 0 ≡ t.brigade) × (word_at image 1 ≡ t.node.0) × (entry_count image ≡ t.count)
  unfolding image table_image
  heads-back = (refl, word_back t.node.0, refl)

  -- the byte k of the entry at place i
  stands : (i : ℕ) → i < 32 → (k : ℕ) → k < 6 → get_or image (4 + 6 * i + k) 0 ≡ get_or (entry_bytes (entry_at t i)) k 0
  unfolding image table_image
  stands i h k m =
      let e : 4 + 6 * i + k ≡ 4 + (6 * i + k) = omega arith in
      ap (λ (j : ℕ). get_or image j 0) e
      ∙ get_or-append-add (t.brigade ∷ t.node.0 / 256 ∷ t.node.0 % 256 ∷ t.count ∷ []) (joined entry_bytes (entry_at t) 32 ++ rest) (6 * i + k) 0
      ∙ joined_at entry_bytes 6 length-entry (entry_at t) 32 i k h m rest

  entries-back : Agree (entry_held image) (entry_at t) t.count
  unfolding entry_held
  entries-back i h = entry-back (entry_at t i) image (4 + 6 * i) (stands i (omega arith))

  none-stray : any_below (stray_entry_held image) t.count ≡ false
  unfolding stray_entry_held
  none-stray = any-nowhere (stray_entry_held image) t.count (λ i h. entry_known (entry_at t i) image (4 + 6 * i) (stands i (omega arith)))

  long-enough : 196 ≤ length image
  unfolding image
  long-enough = omega (arith, length-append (table_image t) rest, image-size t)

  read_again : readable_table image ≡ true
  unfolding readable_table
  read_again = rw (heads-back.2, none-stray, le-leb t.count 32 few, le-leb 196 (length image) long-enough)

  table-again : table_in image ≡ used_table t
  unfolding table_in
  table-again =
      let entries : row 32 no_entry (entry_held image) (entry_count image) ≡ row 32 no_entry (entry_at t) t.count =
      ap (row 32 no_entry (entry_held image)) heads-back.2 ∙ row-agree 32 no_entry (entry_held image) (entry_at t) t.count entries-back
      in
      λ j. record { brigade = heads-back.0 j; node = record { 0 = heads-back.1 j }; count = heads-back.2 j; entries = entries j }

  table-back : table_of (table_image t ++ rest) ≡ used_table t
  unfolding table_of image
  table-back = rw read_again table-again

-- ---- what was read, written

module _ (b : List ℕ) (bytes : Bytes b) (ok : readable_table b ≡ true) (tidy : Tidy b) where
  -- the byte k of the entry at place i
  byte-forth : (i k : ℕ) → i < 32 → k < 6 → get_or (entry_bytes (entry_at (table_in b) i)) k 0 ≡ entry_byte b i k
  unfolding table_in entry_at
  byte-forth i k h m = go (dec_lt i (entry_count b))
    where
      go : Dec (i < entry_count b) → get_or (entry_bytes (entry_at (table_in b) i)) k 0 ≡ entry_byte b i k
      go (yes l) =
          ap (λ (e : Entry). get_or (entry_bytes e) k 0) (sym (row_at 32 no_entry (entry_held b) (entry_count b) i l))
          ∙ ap (λ (x : List ℕ). get_or x k 0) (entry-forth b bytes tidy i l (any_false (stray_entry_held b) (entry_count b) i (readable b ok).none-stray l))
          ∙ firsts_at (entry_byte b i) 6 k 0 m
      go (no l) =
          let e : i ≡ entry_count b + (i - entry_count b) = omega arith in
          ap (λ (j : ℕ). get_or (entry_bytes (entry_at (table_in b) j)) k 0) e
          ∙ ap (λ (x : Entry). get_or (entry_bytes x) k 0) (row-past 32 no_entry (entry_held b) (entry_count b) (i - entry_count b))
          ∙ sym (tidy.unused i k (omega arith) h m)

  each : (j : ℕ) → j < 196 → get_or (table_image (table_in b)) j 0 ≡ get_or b j 0
  unfolding table_image
  each zero h = unfold table_in in refl
  each (suc zero) h = unfold table_in in word-high b bytes 1
  each (suc (suc zero)) h = unfold table_in in word_low b bytes 1
  each (suc (suc (suc zero))) h = unfold table_in in refl
  each (suc (suc (suc (suc j)))) h =
      let e : j ≡ 6 * (j / 6) + j % 6 = omega arith in
      let q : 4 + 6 * (j / 6) + j % 6 ≡ suc (suc (suc (suc j))) = omega arith in
      ap₂ (λ (l : List ℕ) (n : ℕ). get_or l n 0) (sym (append-nil (joined entry_bytes (entry_at (table_in b)) 32))) e
      ∙ joined_at entry_bytes 6 length-entry (entry_at (table_in b)) 32 (j / 6) (j % 6) (omega arith) (omega arith) []
      ∙ byte-forth (j / 6) (j % 6) (omega arith) (omega arith)
      ∙ ap (λ (n : ℕ). get_or b n 0) q

  table-forth : table_image (table_of b) ≡ take 196 b
  unfolding table_of
  table-forth =
      let long : length (take 196 b) ≡ 196 = length-take-le 196 b (readable b ok).long in
      rw ok (ext_get_or 0 (table_image (table_in b)) (take 196 b) (image-size (table_in b) ∙ sym long)
      (λ j h. let l : j < 196 = omega (arith, image-size (table_in b)) in each j l ∙ sym (get_or-take 196 b j 0 l)))

pub table-undo : TableUndo
table-undo = record { size = image-size; read = table-back; write = table-forth }
