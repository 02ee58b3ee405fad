-- What is told of a table from its image, without taking it out: the range of each entry and of the whole, and the way out.
use Prim.Native.Nat.{ℕ, ◌+◌, ◌≤◌, ◌<◌}
use mathlib.Core.Path.{◌≡◌, refl, sym, ap, ◌∙◌}
use mathlib.Core.Bool.{Bool, true, false, not, cond, ◌&&◌, ◌||◌, and-false}
use mathlib.Core.List.{List}
use native.Mathlib.Omega.{arith}
use lib.Dec.{leb, ltb, eqb}
use lib.ListN.{length, get_or}
use borrow.Author.Tests.{leb-true, le-leb, lt-leb, le-ltb, ltb-false, eqb-false, ne_eqb, not-true}
use Rattle.buffer.specs.Bytes.{word_at}
use Rattle.lists.specs.Places.{any_below}
use Rattle.lists.proofs.Bools.{both-same, and_left, and_right, or-neither-of, both_ways}
use Rattle.lists.proofs.Places.{any-or, any-agree, row_at}
use Rattle.address.specs.declared.Port.{Port}
use Rattle.address.specs.declared.Address.{Address}
use Rattle.address.specs.Address.{station_in_range, same_station}
use Rattle.table.specs.declared.Entry.{Entry}
use Rattle.table.specs.declared.Table.{Table}
use Rattle.table.specs.declared.Target.TheVariants.{Brigade, Everything}
use Rattle.table.specs.Choice.{Out, Refused}
use Rattle.table.specs.Table.{no_entry, entry_at, is_own, qualifies, qualifies_at, out_choice, target_in_range, entry_in_range, stray_entry, table_in_range}
use Rattle.table.proofs.Laws.{out-found, out_none}
use Rattle.table_image.specs.Table.{entry_count, target_of, entry_in, entry_held, stray_entry_in, stray_entry_held, readable_table, table_in, broken_table, table_of}
use Rattle.table_image.specs.Private.{ranged_entry_in, unranged_held}

-- ---- an entry

-- a port is 1 to 63
ported : (p : ℕ) → (leb 1 p && leb p 63) ≡ not (eqb p 0 || ltb 63 p)
ported p = both-same _ _ there back
  where
    there : (leb 1 p && leb p 63) ≡ true → not (eqb p 0 || ltb 63 p) ≡ true
    there h =
        let l = leb-true 1 p (and_left _ _ h) in
        rw (ne_eqb p 0 (λ e. omega arith), le-ltb 63 p (leb-true p 63 (and_right (leb 1 p) _ h)))

    back : not (eqb p 0 || ltb 63 p) ≡ true → (leb 1 p && leb p 63) ≡ true
    back h =
        let w = or-neither-of _ _ (not-true _ h) in
        let z = eqb-false p 0 w.0 in
        let one : 1 ≤ p = omega arith in
        rw (le-leb 1 p one, le-leb p 63 (ltb-false 63 p w.1))

-- what is not one node has no node that could be out of range
unnamed : (kind brigade node : ℕ) → (kind ≡ 0 → ⊥) → target_in_range (target_of kind brigade node) ≡ true
unfolding target_of target_in_range
unnamed kind brigade node h = rw (ne_eqb kind 0 h) (go (eqb kind 1))
  where
    go : (one : Bool) → target_in_range (cond one (Brigade brigade) Everything) ≡ true
    go true = refl
    go false = refl

module _ (b : List ℕ) (at : ℕ) where
  pub stray-unranged : stray_entry_in b at ≡ true → false ≡ ranged_entry_in b at
  unfolding ranged_entry_in
  stray-unranged h = rw h

  module _ (kept : stray_entry_in b at ≡ false) where
    pub port-unranged : (eqb (get_or b (at + 4) 0) 0 || ltb 63 (get_or b (at + 4) 0)) ≡ true → false ≡ ranged_entry_in b at
    unfolding ranged_entry_in entry_in_range entry_in
    port-unranged h = rw (kept, ported, h)

    module _ (port : (eqb (get_or b (at + 4) 0) 0 || ltb 63 (get_or b (at + 4) 0)) ≡ false) where
      -- a brigade, or everything
      pub kind-ranged : (get_or b at 0 ≡ 0 → ⊥) → true ≡ ranged_entry_in b at
      unfolding ranged_entry_in entry_in_range entry_in
      kind-ranged h = rw (kept, ported, port, unnamed _ (get_or b (at + 1) 0) (word_at b (at + 2)) h)

      -- one node
      pub node-ranged : get_or b at 0 ≡ 0 → get_or b (at + 1) 0 ≤ 255 → {w : ℕ} → w ≡ word_at b (at + 2) → leb w 1023 ≡ ranged_entry_in b at
      unfolding ranged_entry_in entry_in_range entry_in target_of target_in_range station_in_range
      node-ranged h l e = rw (kept, ported, port, h, le-leb _ _ l, e)

unless-good : (stray good : Bool) → not (not stray && good) ≡ (stray || not good)
unless-good true good = refl
unless-good false good = refl

-- ---- the whole

module _ (b : List ℕ) where
  -- a table that can be read has the entries of the image
  held : (i : ℕ) → i < entry_count b → entry_at (table_in b) i ≡ entry_held b i
  unfolding entry_at table_in
  held i l = sym (row_at 32 no_entry (entry_held b) (entry_count b) i l)

  -- an image stands for a table in range if it can be read and the table in it is
  stands : (stray entry : Bool) → table_in_range (table_in b) ≡ not entry → not (stray || entry) ≡ table_in_range (cond (not stray) (table_in b) broken_table)
  unfolding table_in_range
  stands true entry h = refl
  stands false entry h = sym h

  stands-out : (r : Bool) → table_in_range (table_in b) ≡ false → false ≡ table_in_range (cond r (table_in b) broken_table)
  unfolding table_in_range
  stands-out true h = sym h
  stands-out false h = refl

  pub short-out : length b < 196 → false ≡ table_in_range (table_of b)
  unfolding table_of readable_table table_in_range
  short-out h = rw (lt-leb _ _ h)

  pub many-out : 32 < entry_count b → false ≡ table_in_range (table_of b)
  unfolding table_of table_in table_in_range
  many-out h = stands-out (readable_table b) (rw (lt-leb (entry_count b) 32 h))

  pub node-out : 1023 < word_at b 1 → false ≡ table_in_range (table_of b)
  unfolding table_of table_in table_in_range station_in_range
  node-out h =
      stands-out (readable_table b) (rw (lt-leb (word_at b 1) 1023 h, and-false, and-false))

  -- an entry of the image is out of range if it is none or that of the table is
  unranged : (i : ℕ) → i < entry_count b → unranged_held b i ≡ (stray_entry_held b i || stray_entry (table_in b) i)
  unfolding unranged_held ranged_entry_in stray_entry_held stray_entry entry_held
  unranged i l = rw (held i l) (unless-good (stray_entry_held b i) (entry_in_range (entry_held b i)))

  module _ (long : 196 ≤ length b) (few : entry_count b ≤ 32) (node : word_at b 1 ≤ 1023) (brigade : get_or b 0 0 ≤ 255) where
    ranged : table_in_range (table_in b) ≡ not (any_below (stray_entry (table_in b)) (entry_count b))
    unfolding table_in_range station_in_range table_in
    ranged = rw (le-leb _ _ few, le-leb _ _ node, le-leb _ _ brigade)

    pub entries-tell : not (any_below (unranged_held b) (entry_count b)) ≡ table_in_range (table_of b)
    unfolding table_of readable_table
    entries-tell =
        ap not (any-agree _ _ (entry_count b) unranged ∙ sym (any-or (stray_entry_held b) (stray_entry (table_in b)) (entry_count b)))
        ∙ rw (le-leb _ _ long, le-leb _ _ few) (stands (any_below (stray_entry_held b) (entry_count b)) _ ranged)

  -- what stands for a table in range can be read
  pub ranged-read : table_in_range (table_of b) ≡ true → readable_table b ≡ true
  unfolding table_of table_in_range
  ranged-read h = go (readable_table b) refl
    where
      go : (r : Bool) → readable_table b ≡ r → readable_table b ≡ true
      go true e = e
      go false e = absurd (both_ways h (rw e))

-- ---- the choice, by an image that can be read

module _ (b : List ℕ) (read : readable_table b ≡ true) where
  in-it : table_of b ≡ table_in b
  unfolding table_of
  in-it = rw read

  counts : (table_of b).count ≡ entry_count b
  unfolding table_in
  counts = ap (λ (t : Table). t.count) in-it

  entry_of : (i : ℕ) → i < entry_count b → entry_at (table_of b) i ≡ entry_held b i
  entry_of i l = ap (λ (t : Table). entry_at t i) in-it ∙ held b i l

  pub own_held : (d : Address) {w : ℕ} → w ≡ word_at b 1 → (eqb (get_or b 0 0) d.brigade && eqb w d.node.0) ≡ is_own (table_of b) d
  unfolding is_own same_station table_in
  own_held d e = rw (in-it, e)

  module _ (d : Address) (arrival : Port) where
    pub qualifies-held : (i : ℕ) → i < entry_count b → {e : Entry} → e ≡ entry_held b i → qualifies_at (table_of b) d arrival i ≡ qualifies d arrival e
    unfolding qualifies_at
    qualifies-held i l e = ap (qualifies d arrival) (entry_of i l ∙ sym e)

    -- the search stops here
    pub out-held : (i : ℕ) → i < entry_count b → {e : Entry} → e ≡ entry_held b i → any_below (qualifies_at (table_of b) d arrival) i ≡ false
        → qualifies d arrival e ≡ true → Out e.port ≡ out_choice (table_of b) d arrival
    out-held i l e n q =
        ap (λ (x : Entry). Out x.port) (e ∙ sym (entry_of i l))
        ∙ sym (out-found (table_of b) d arrival i (record { below = rw counts l; passes = qualifies-held i l e ∙ q; none_before = n }))

    pub none-held : {n : ℕ} → n ≡ entry_count b → any_below (qualifies_at (table_of b) d arrival) n ≡ false → Refused 52 ≡ out_choice (table_of b) d arrival
    none-held e h = sym (out_none (table_of b) d arrival (ap (any_below (qualifies_at (table_of b) d arrival)) (counts ∙ sym e) ∙ h))
