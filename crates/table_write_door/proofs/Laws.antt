-- What C gets of pz_table, from what the reader and the writer give.
use Prim.Native.Nat.{ℕ, ◌<◌, ◌≤◌}
use mathlib.Core.Path.{◌≡◌, refl, sym, ap, ◌∙◌}
use mathlib.Core.Bool.{Bool, true, false, not}
use mathlib.Core.List.{List, ◌++◌}
use native.Mathlib.Nat.{le_refl}
use native.Mathlib.Omega.{arith}
use borrow.Author.Tests.{lt-ltb, le-ltb}
use lib.Dec.{ltb}
use lib.ListN.{length, drop}
use lib.Seq.{sets}
use Rattle.lists.specs.Refusals.{refuse, unless_refused}
use Rattle.lists.proofs.Refusals.{or-refused, refused}
use Rattle.lists.proofs.Stores.{sets-front}
use Rattle.buffer.specs.Bytes.{Bytes}
use Rattle.address.specs.declared.Station.{Station}
use Rattle.table.specs.declared.Table.{Table}
use Rattle.table_image.specs.Table.{table_image}
use Rattle.table_image.proofs.Laws.{image-size}
use Rattle.chart.specs.declared.Chart.{Chart}
use Rattle.chart.specs.Values.{has_node}
use Rattle.chart_refuse.specs.Refusal.{chart_refusal}
use Rattle.refusal.specs.declared.Refusal.{Refusal}
use Rattle.refusal.specs.declared.Fault.{Fault}
use Rattle.refusal.specs.Numbers.{number}
use Rattle.refusal.proofs.Laws.{names}
use Rattle.chart_read.specs.Reading.{read_chart_of}
use Rattle.chart_write.proofs.Promises.{write_undoes_read, place-near}
use Rattle.table_write.specs.Writing.{TableWritten, table_for, table_refusal, no_table, write_table_of}
use Rattle.table_write.specs.Private.{write_known_of}
use Rattle.table_write.proofs.Known.{written_known}
use Rattle.table_write_door.specs.Calls.{pz_table_refusal, pz_table_place, pz_table_image}

-- a chart that is read is right, and needs no second test
pub right : (bytes : List ℕ) → Bytes bytes → (read_chart_of bytes).refusal ≡ 0 → chart_refusal (read_chart_of bytes).chart ≡ 0
right bytes b z = (write_undoes_read bytes b z bytes (le_refl (length bytes))).refusal

-- the answer by whether the chart has the station: the table, or 44
abbrev table_or44 : Bool → Table → TableWritten
table_or44 has t = unless_refused (refuse 44 (not has) 0) (record { refusal = 0; table = t }) (record { refusal = refuse 44 (not has) 0; table = no_table })

table-or : (c : Chart) (s : Station) → chart_refusal c ≡ 0 → (b : Bool) → has_node c.nodes s ≡ b → write_table_of c s ≡ table_or44 b (table_for c s)
unfolding write_table_of table_refusal
table-or c s e b h = rw (e, h)

module _ (bytes : List ℕ) (s : Station) (image : List ℕ) where
  -- what C gets: the number k and the image o
  pub record Gives (k : ℕ) (o : List ℕ) : Type 0 where
    pub number : k ≡ pz_table_refusal bytes s (length image)
    pub table : o ≡ pz_table_image bytes s image

  -- a refusal leaves the image
  pub left : (pz_table_refusal bytes s (length image) ≡ 0 → ⊥) → pz_table_image bytes s image ≡ image
  unfolding pz_table_image
  left h =
      let written = table_image (table_for (read_chart_of bytes).chart s) in
      refused (written ++ drop (length written) image) image (pz_table_refusal bytes s (length image)) h

  refuses : {k : ℕ} → k ≡ pz_table_refusal bytes s (length image) → (k ≡ 0 → ⊥) → Gives k image
  refuses e h = record { number = e; table = sym (left (λ z. h (e ∙ z))) }

  -- of a chart that is not read
  module _ (f : Fault) (g : (number f.refusal ≡ (read_chart_of bytes).refusal) × (f.place ≡ (read_chart_of bytes).place)) where
    pub near : Bytes bytes → f.place ≤ 1113
    near b = rw g.1 (place-near bytes b)

    placed : f.place ≡ pz_table_place bytes
    unfolding pz_table_place
    placed = g.1

    pub unread : {k : ℕ} → k ≡ number f.refusal
        → (k ≡ pz_table_refusal bytes s (length image)) × (f.place ≡ pz_table_place bytes) × (image ≡ pz_table_image bytes s image)
    unfolding pz_table_refusal
    unread e =
        let some : (read_chart_of bytes).refusal ≡ 0 → ⊥ = λ z. names.none_zero f.refusal (g.0 ∙ z) in
        let t = refuses (e ∙ g.0 ∙ sym (or-refused (read_chart_of bytes).refusal _ some)) (λ z. names.none_zero f.refusal (sym e ∙ z)) in
        (t.number, placed, t.table)

  -- of one that is
  module _ (b : Bytes bytes) {c : Chart} (g : ((read_chart_of bytes).refusal ≡ 0) × (((read_chart_of bytes).place ≡ 0) × (c ≡ (read_chart_of bytes).chart))) where
    pub told : {k : ℕ} {o : List ℕ} → Gives k o → (k ≡ pz_table_refusal bytes s (length image)) × (0 ≡ pz_table_place bytes) × (o ≡ pz_table_image bytes s image)
    unfolding pz_table_place
    told t = (t.number, sym g.1.0, t.table)

    wrote : (x : Bool) → has_node (read_chart_of bytes).chart.nodes s ≡ x → write_known_of c s ≡ table_or44 x (table_for (read_chart_of bytes).chart s)
    wrote x h =
        let r = (read_chart_of bytes).chart in
        ap (λ (q : Chart). write_known_of q s) g.1.1 ∙ written_known r s (right bytes b g.0) ∙ table-or r s (right bytes b g.0) x h

    pub nobody : (r : Refusal) → number r ≡ (write_known_of c s).refusal → {k : ℕ} → k ≡ number r → Gives k image
    unfolding pz_table_refusal unless_refused
    nobody r e {k} f = go (has_node (read_chart_of bytes).chart.nodes s) refl
      where
        go : (x : Bool) → has_node (read_chart_of bytes).chart.nodes s ≡ x → Gives k image
        go true q = absurd (names.none_zero r (e ∙ ap (λ (t : TableWritten). t.refusal) (wrote true q)))
        go false q = refuses (f ∙ e ∙ ap (λ (t : TableWritten). t.refusal) (wrote false q) ∙ rw (g.0, q) refl) (λ z. names.none_zero r (sym f ∙ z))

    module _ (y : (write_known_of c s).refusal ≡ 0) where
      -- no refusal is no 44: the chart has the station
      found : has_node (read_chart_of bytes).chart.nodes s ≡ true
      unfolding unless_refused
      found = go (has_node (read_chart_of bytes).chart.nodes s) refl
        where
          go : (x : Bool) → has_node (read_chart_of bytes).chart.nodes s ≡ x → has_node (read_chart_of bytes).chart.nodes s ≡ true
          go true q = q
          go false q = let n : ◌≡◌ {A = ℕ} 44 0 = sym (ap (λ (t : TableWritten). t.refusal) (wrote false q)) ∙ y in absurd (omega arith)

      number_is : pz_table_refusal bytes s (length image) ≡ refuse 10 (ltb (length image) 196) 0
      unfolding pz_table_refusal
      number_is = rw (g.0, found)

      pub short : length image < 196 → {k : ℕ} → k ≡ 10 → Gives k image
      short l e = refuses (e ∙ sym (number_is ∙ rw (lt-ltb (length image) 196 l) refl)) (λ n. omega (arith, e))

      pub stored : 196 ≤ length image → {t : Table} → t ≡ (write_known_of c s).table → {o : List ℕ} → o ≡ sets image 0 (table_image t) → Gives 0 o
      unfolding pz_table_image unless_refused
      stored l h q =
          let n : pz_table_refusal bytes s (length image) ≡ 0 = number_is ∙ rw (le-ltb (length image) 196 l) refl in
          let t = table_for (read_chart_of bytes).chart s in
          let front = sets-front image (table_image t) (omega (arith, image-size t)) in
          record {
            number = sym n;
            table = q ∙ ap (λ (x : Table). sets image 0 (table_image x)) (h ∙ ap (λ (x : TableWritten). x.table) (wrote true found)) ∙ front ∙ rw n refl;
          }
