-- The table of a station is in range, and where a message goes by it.
use Prim.Native.Nat.{ℕ, ◌<◌, ◌≤◌}
use mathlib.Core.Path.{◌≡◌, refl, sym, ap, ◌∙◌}
use mathlib.Core.Bool.{Bool, true, false, cond, ◌&&◌}
use native.Mathlib.Omega.{arith}
use borrow.Author.Tests.{le-leb}
use lib.Dec.{leb}
use lib.ListN.{length}
use Rattle.lists.specs.Places.{any_below}
use Rattle.lists.proofs.Bools.{and_left, and_right, and_both, not-no, not_yes, no_true}
use Rattle.lists.proofs.Places.{any-nowhere}
use Rattle.address.specs.declared.Port.{Port}
use Rattle.address.specs.declared.Station.{Station}
use Rattle.address.specs.declared.Address.{Address}
use Rattle.address.specs.Address.{station_of, station_in_range, in_range, same_station}
use Rattle.table.specs.declared.Entry.{Entry}
use Rattle.table.specs.Choice.{Local, Out, Refused}
use Rattle.table.specs.Table.{entry_at, is_own, covers, target_in_range, entry_in_range, stray_entry, table_in_range, call_in_range, choose_of}
use Rattle.table.specs.Promises.{Taken, Qualifies, First}
use Rattle.table.proofs.Laws.{chosen-here}
use Rattle.table.proofs.Promises.{next_route}
use Rattle.chart.specs.declared.Link.{Link}
use Rattle.chart.specs.declared.Chart.{Chart}
use Rattle.chart.specs.Values.{node_at, link_at, node_in_range, end_in_range, direction_in_range, link_in_range}
use Rattle.chart_net.specs.Net.{station_place}
use Rattle.chart_net.proofs.Places.{station-eq, station-refl, place-written}
use Rattle.table_write.specs.Writing.{first_link_to, near_end, entry_over, entries_by, table_with, table_for}
use Rattle.table_write.specs.Promises.{HasTable, EntryFor, Choices}
use Rattle.table_write.proofs.Entries.{entries-few}
use Rattle.table_write.proofs.Reaching.{first, EntryOf, ok, standing, own, one-node, entry-there, listed-for, entry-whose, entry-for, reached, leaves_by}

-- ---- ranges

near-ranged : (form : ℕ) (l : Link) (s : Station) → link_in_range form l ≡ true → end_in_range (near_end l s) ≡ true
unfolding link_in_range near_end
near-ranged form l s h = go (same_station (station_of l.a) s)
  where
    both : (end_in_range l.a && end_in_range l.b) ≡ true
    both = and_left (end_in_range l.a && end_in_range l.b) (direction_in_range form l.direction) h

    go : (b : Bool) → end_in_range (cond b l.a l.b) ≡ true
    go true = and_left (end_in_range l.a) (end_in_range l.b) both
    go false = and_right (end_in_range l.a) (end_in_range l.b) both

end-ports : (e : Address) → end_in_range e ≡ true → (leb 1 e.port.0 && leb e.port.0 63) ≡ true
unfolding end_in_range in_range
end-ports e h =
    let within = and_right (leb 1 e.port.0) (in_range e) h in
    and_both (and_left (leb 1 e.port.0) (in_range e) h) (and_right (station_in_range (station_of e)) (leb e.port.0 63) within)

module _ (c : Chart) (s : Station) (asked : HasTable c s) where
  station-ranged : (b : ℕ) → b < c.nodes.count → station_in_range (node_at c.nodes b).station ≡ true
  unfolding node_in_range
  station-ranged b h = and_left (station_in_range (node_at c.nodes b).station) _ ((ok c s asked).ranged b h)

  entry-ranged : (k b i : ℕ) → EntryOf c s k b i → entry_in_range (entry_at (table_for c s) k) ≡ true
  unfolding EntryOf entry_over entry_in_range target_in_range
  entry-ranged k b i l =
      let link = link_at c.links i in
      let w = leaves_by c s asked k b i l in
      ap entry_in_range (entry-there c s asked k b i l)
      ∙ and_both (end-ports (near_end link s) (near-ranged c.links.form link s ((ok c s asked).joins i w.there).ranged)) (station-ranged b l.node)

  none-stray : any_below (stray_entry (table_for c s)) (table_for c s).count ≡ false
  unfolding stray_entry
  none-stray =
      any-nowhere (stray_entry (table_for c s)) (table_for c s).count
      (λ k h. let w = entry-whose c s asked k h in not_yes (entry-ranged k w.0 w.1 w.2))

  own-ranged : station_in_range s ≡ true
  own-ranged =
      ap station_in_range (sym (standing c s asked)) ∙ station-ranged (station_place c.nodes s) (place-written c.nodes s asked.node)

  pub table-ranged : table_in_range (table_for c s) ≡ true
  unfolding table_in_range table_for table_with
  table-ranged =
      let n = c.nodes.count in
      let few : length (entries_by (λ b. first_link_to c s (node_at c.nodes b).station) c s n) ≤ 32 =
      (let p = entries-few (λ b. first_link_to c s (node_at c.nodes b).station) c s n in let q = (ok c s asked).few_nodes in omega arith)
      in
      and_both (and_both (le-leb _ 32 few) own-ranged) (not-no none-stray)

  -- ---- where a message goes

  -- the own node has no entry
  pub not_own : (k b : ℕ) → EntryFor c s k b → (d : Address) → station_of d ≡ (node_at c.nodes b).station → is_own (table_for c s) d ≡ false
  unfolding is_own table_for table_with
  not_own k b e d q =
      let w = entry-for c s asked k b e in
      no_true (λ h. (reached c s asked k b w.0 w.1).other (ap (station_place c.nodes) (station-eq s (station_of d) h ∙ q) ∙ own c s asked b e.node))

  -- the node of an entry that takes the destination in
  covered : (j a i : ℕ) (d : Address) → EntryOf c s j a i → covers (entry_at (table_for c s) j).target d ≡ true → (node_at c.nodes a).station ≡ station_of d
  unfolding covers entry_over
  covered j a i d l h =
      station-eq (node_at c.nodes a).station (station_of d) (sym (ap (λ (e : Entry). covers e.target d) (entry-there c s asked j a i l)) ∙ h)

  module _ (d : Address) (arrival : Port) (call : call_in_range d arrival ≡ true) where
    taken : Taken (table_for c s) d arrival
    taken = record { table = table-ranged; call = call }

    -- whose entry qualifies
    qualified : (j : ℕ) → Qualifies (table_for c s) d arrival j → (a : ℕ) × (i : ℕ) × EntryOf c s j a i × ((node_at c.nodes a).station ≡ station_of d)
    qualified j q =
        let w = entry-whose c s asked j q.counts in
        (w.0, w.1, w.2, covered j w.0 w.1 d w.2 q.matches)

    goes-local : station_of d ≡ s → choose_of (table_for c s) d arrival ≡ Local d.port
    unfolding is_own table_for table_with
    goes-local e = chosen-here (table_for c s) d arrival table-ranged call (ap (same_station s) e ∙ station-refl s)

    -- the entry for the destination's node, and no other, takes it in
    module _ (k b : ℕ) (e : EntryFor c s k b) (q : station_of d ≡ (node_at c.nodes b).station) where
      the_one : (j : ℕ) → Qualifies (table_for c s) d arrival j → j ≡ k
      unfolding EntryOf
      the_one j u =
          let w = qualified j u in
          let m = entry-for c s asked k b e in
          let z : w.0 ≡ b = one-node c s asked w.0 b w.2.node e.node (w.3 ∙ q) in
          w.2.place ∙ ap (λ (x : ℕ). length (entries_by (first c s) c s x)) z ∙ sym m.1.place

      qualifying : ((entry_at (table_for c s) k).port ≡ arrival → ⊥) → Qualifies (table_for c s) d arrival k
      unfolding covers entry_over
      qualifying ne =
          let m = entry-for c s asked k b e in
          let l = entry-there c s asked k b m.0 m.1 in
          let to = (node_at c.nodes b).station in
          record {
            counts = e.counts;
            on = ap (λ (x : Entry). x.on) l;
            matches = ap (λ (x : Entry). covers x.target d) l ∙ ap (same_station to) q ∙ station-refl to;
            other_port = λ z. ne (λ i. record { 0 = z i });
          }

      goes-out : ((entry_at (table_for c s) k).port ≡ arrival → ⊥) → choose_of (table_for c s) d arrival ≡ Out (entry_at (table_for c s) k).port
      goes-out ne =
          let f : First (table_for c s) d arrival k = record { qualifies = qualifying ne; none_before = λ j h u. let z = the_one j u in omega arith } in
          ((next_route (table_for c s) d arrival taken (not_own k b e d q)).leaves (entry_at (table_for c s) k).port).1 (k, f, refl)

      goes_back : (entry_at (table_for c s) k).port ≡ arrival → choose_of (table_for c s) d arrival ≡ Refused 52
      goes_back z =
          (next_route (table_for c s) d arrival taken (not_own k b e d q)).refused.1
          (λ j u. u.other_port (ap (λ (x : ℕ). (entry_at (table_for c s) x).port.0) (the_one j u) ∙ ap (λ (p : Port). p.0) z))

    goes-nowhere : (station_of d ≡ s → ⊥) → ((k b : ℕ) → EntryFor c s k b → station_of d ≡ (node_at c.nodes b).station → ⊥)
        → choose_of (table_for c s) d arrival ≡ Refused 52
    unfolding is_own table_for table_with
    goes-nowhere ne h =
        (next_route (table_for c s) d arrival taken (no_true (λ e. ne (sym (station-eq s (station_of d) e))))).refused.1
        (λ j u. let w = qualified j u in h j w.0 (listed-for c s asked j w.0 w.1 w.2) (sym w.3))

    pub choices : Choices c s d arrival
    choices = record { local = goes-local; out = goes-out; back = goes_back; none = goes-nowhere }
