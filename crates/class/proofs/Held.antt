-- The tables of an image, one by one.
use Prim.Native.Nat.{ℕ, zero, suc, ◌+◌, ◌*◌, ◌-◌, ◌<◌, ◌≤◌}
use mathlib.Core.Path.{◌≡◌, refl, sym, ap, ◌∙◌}
use mathlib.Core.Bool.{Bool, true, false, not}
use mathlib.Core.List.{List}
use native.Mathlib.Omega.{arith}
use lib.Dec.{ltb}
use lib.ListN.{length, get_or, take, drop, length-drop}
use lib.Seq.{take_all, get_or-drop}
use borrow.Author.Tests.{lt-ltb, le-ltb, ltb-true, ltb-false}
use Rattle.buffer.specs.Bytes.{word_at}
use Rattle.lists.specs.Places.{any_below}
use Rattle.lists.proofs.Bools.{both_ways}
use Rattle.lists.proofs.Places.{any_found}
use Rattle.address.specs.declared.Station.{Station}
use Rattle.table.specs.Table.{own_station, table_in_range}
use Rattle.table_image.specs.Table.{table_size, table_in, table_of}
use Rattle.table_image.proofs.InImage.{ranged-read}
use Rattle.class.specs.Class.{stray_table}
use Rattle.class.specs.Calls.{tables_size, tables_in}

module _ (b : List ℕ) where
  -- the part from a place on, as the code takes it
  rest : (at : ℕ) → take (length b - at) (drop at b) ≡ drop at b
  rest at = take_all (length b - at) (drop at b) (simp length-drop (omega arith))

  pub held : tables_size ≤ length b → (a : ℕ) → tables_in b a ≡ table_of (take (length b - table_size * a) (drop (table_size * a) b))
  unfolding tables_in
  held h a = rw (le-ltb (length b) tables_size h, rest (table_size * a))

  -- an image that is too short has no table in range
  short-out : length b < tables_size → (a : ℕ) → table_in_range (tables_in b a) ≡ false
  unfolding tables_in table_in_range
  short-out h a = rw (lt-ltb (length b) tables_size h)

  pub short-stray : length b < tables_size → (n : ℕ) → ltb 0 n ≡ any_below (stray_table (tables_in b)) n
  unfolding any_below stray_table
  short-stray h zero = refl
  short-stray h (suc n) = lt-ltb 0 (suc n) (omega arith) ∙ sym (any_found (stray_table (tables_in b)) (suc n) 0 (omega arith) (ap not (short-out h 0)))

  pub long_of : {n a : ℕ} → a < n → any_below (stray_table (tables_in b)) n ≡ false → tables_size ≤ length b
  long_of {n} l h = go (ltb (length b) tables_size) refl
    where
      go : (short : Bool) → ltb (length b) tables_size ≡ short → tables_size ≤ length b
      go true e = absurd (both_ways (lt-ltb 0 n (omega arith)) (short-stray (ltb-true (length b) tables_size e) n ∙ h))
      go false e = ltb-false (length b) tables_size e

  -- the own station of a table in range
  own_in : (at : ℕ) → own_station (table_in (drop at b)) ≡ record { brigade = get_or b at 0; node = record { 0 = word_at b (at + 1) } }
  unfolding table_in
  own_in at =
      let zero-on : at + 0 ≡ at = omega arith in
      let two-on : at + 2 ≡ at + 1 + 1 = omega arith in
      simp (get_or-drop, zero-on, two-on)

  is-in : (a : ℕ) → table_in_range (tables_in b a) ≡ true → tables_in b a ≡ table_in (drop (table_size * a) b)
  unfolding tables_in table_of
  is-in a h = go (ltb (length b) tables_size) refl
    where
      t : List ℕ
      t = drop (table_size * a) b

      go : (short : Bool) → ltb (length b) tables_size ≡ short → tables_in b a ≡ table_in (drop (table_size * a) b)
      go true q = absurd (both_ways h (short-out (ltb-true (length b) tables_size q) a))
      go false q = rw (q, ranged-read t (rw q at h))

  pub own-station : (a : ℕ) → table_in_range (tables_in b a) ≡ true → {brigade node : ℕ} → brigade ≡ get_or b (table_size * a) 0 → node ≡ word_at b (table_size * a + 1)
      → ◌≡◌ {A = Station} (record { brigade = brigade; node = record { 0 = node } }) (own_station (tables_in b a))
  own-station a h e f = rw (e, f) (sym (ap own_station (is-in a h) ∙ own_in (table_size * a)))
