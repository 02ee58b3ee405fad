-- A table over what is kept of a chart: of an accepted chart it is the one written from the chart.
use Prim.Native.Nat.{ℕ, ◌<◌, ◌≤◌, min}
use mathlib.Core.Path.{◌≡◌, refl, sym, ap, ◌∙◌}
use mathlib.Core.Bool.{Bool, true, false, not, cond, ◌||◌}
use mathlib.Core.Option.{Option, none, some, none-ne-some}
use mathlib.Core.List.{List}
use native.Mathlib.Omega.{arith}
use borrow.Author.Tests.{lt-ltb, ltb-true, ltb-false, lt-leb, le-leb, not-false}
use lib.Dec.{ltb, leb}
use lib.ListN.{length}
use Rattle.lists.specs.Places.{element_at}
use Rattle.lists.specs.Refusals.{refuse, unless_refused}
use Rattle.lists.proofs.Bools.{both_ways, or_right}
use Rattle.lists.proofs.Refusals.{or-refused, refused}
use Rattle.lists.proofs.Places.{row_at, length-row, first-none}
use Rattle.address.specs.declared.Station.{Station}
use Rattle.table.specs.declared.Table.{Table}
use Rattle.chart.specs.declared.Nodes.{Nodes}
use Rattle.chart.specs.declared.Links.{Links}
use Rattle.chart.specs.declared.Chart.{Chart}
use Rattle.chart.specs.Values.{node_at, stands_at, has_node}
use Rattle.chart_refuse.specs.Refusal.{chart_refusal}
use Rattle.chart_refuse.specs.Promises.{Accepted}
use Rattle.chart_refuse.proofs.Accepted.{accepted}
use Rattle.chart_net.specs.Net.{station_place}
use Rattle.chart_net.specs.Private.{station_place_for, passage_at, ends_for, passages_for}
use Rattle.chart_net.proofs.Places.{place-few, place-many, place-written, own-place}
use Rattle.chart_net.proofs.Promises.{routes-between}
use Rattle.route_links.specs.Arrays.{net}
use Rattle.route_links.proofs.Arrays.{far-place, sound}
use Rattle.route_search.specs.Private.{routes_over}
use Rattle.route_fewest.specs.Fewest.{fewest_of, head_of, fewest_from, first_link}
use Rattle.route_fewest.specs.Private.{link_place, first_link_over, first_links_over}
use Rattle.route_fewest.proofs.Hops.{first-nearer}
use Rattle.table_write.specs.Writing.{TableWritten, first_link_to, entries_by, table_with, table_for, table_refusal, no_table, write_table_of}
use Rattle.table_write.specs.Private.{link_of, link_in, table_over, first_link_kept, known_refusal, write_known_of}
use Rattle.table_write.proofs.Entries.{entries-same}

-- ---- the array of first links says what is kept

ways-long : (ls : Links) → length (passages_for ls) ≡ 48
unfolding passages_for
ways-long ls = go (ltb 48 ls.count) refl
  where
    go : (b : Bool) → ltb 48 ls.count ≡ b → length (passages_for ls) ≡ 48
    go true e = rw e refl
    go false e = rw e (length-row 48 0 (passage_at ls) ls.count (ltb-false 48 ls.count e))

-- no first link is past the 48 places
module _ (c : Chart) (s : Station) where
  kept-place : (b i : ℕ) → first_link_kept c s b ≡ some i → i < 48
  unfolding first_link_kept first_link_over
  kept-place b i = go (ltb from 16)
    where
      ends : List (List ℕ)
      ends = ends_for c.nodes c.links

      ways : List ℕ
      ways = passages_for c.links

      from : ℕ
      from = station_place_for c.nodes s

      go : (x : Bool) → cond x (first_link (net ends ways c.links.count b) from) none ≡ some i → i < 48
      go true e =
          let n = first-nearer (net ends ways c.links.count b) (sound ends ways c.links.count b) from i e in
          let h = far-place ends ways c.links.count i from n.1 n.3.far in
          omega (arith, ways-long c.links)
      go false e = absurd (none-ne-some i e)

place-link : (o : Option ℕ) → ((i : ℕ) → o ≡ some i → i < 48) → link_of (link_place o) ≡ o
unfolding link_of link_place
place-link none h = refl
place-link (some i) h = rw (lt-ltb i 48 (h i refl))

module _ (c : Chart) (s : Station) (few : c.nodes.count ≤ 16) where
  abbrev firsts : List ℕ
  firsts = first_links_over (ends_for c.nodes c.links) (passages_for c.links) c.links.count c.nodes.count (station_place_for c.nodes s)

  link-kept : (b : ℕ) → b < c.nodes.count → link_in firsts b ≡ first_link_kept c s b
  unfolding link_in first_links_over first_link_kept element_at
  link-kept b h =
      let d : ℕ → ℕ = λ to. link_place (first_link_kept c s to) in
      ap link_of (sym (row_at 16 48 d (min c.nodes.count 16) b (omega arith))) ∙ place-link (first_link_kept c s b) (kept-place c s b)

  kept_table : table_over c s firsts ≡ table_with s (entries_by (first_link_kept c s) c s c.nodes.count)
  unfolding table_over
  kept_table = ap (table_with s) (entries-same (link_in firsts) (first_link_kept c s) c c (λ i. refl) refl s c.nodes.count link-kept)

-- ---- what the tests tell

-- the place found is no node's
abbrev missing : Nodes → ℕ → Bool
missing ns a = leb ns.count a || leb 16 a

module _ (c : Chart) (s : Station) {a : ℕ} (e : a ≡ station_place_for c.nodes s) where
  pub answer-none : missing c.nodes a ≡ true → ◌≡◌ {A = TableWritten} (record { refusal = 44; table = no_table }) (write_known_of c s)
  unfolding write_known_of known_refusal unless_refused
  answer-none h = rw (← e, h)

  pub known-none : missing c.nodes a ≡ true → 44 ≡ (write_known_of c s).refusal
  known-none h = ap (λ (w : TableWritten). w.refusal) (answer-none h)

  -- where it is one's, the nodes are not too many
  pub known-few : missing c.nodes a ≡ false → c.nodes.count ≤ 16
  known-few h = go (ltb 16 c.nodes.count) refl
    where
      go : (b : Bool) → ltb 16 c.nodes.count ≡ b → c.nodes.count ≤ 16
      go true k =
          let q : 16 ≡ a = place-many c.nodes s (ltb-true 16 c.nodes.count k) ∙ sym e in
          absurd (both_ways (ap (λ (x : Bool). leb c.nodes.count a || x) (le-leb 16 a (omega arith)) ∙ or_right (leb c.nodes.count a)) h)
      go false k = ltb-false 16 c.nodes.count k

  pub answer-table : missing c.nodes a ≡ false → {ends : List (List ℕ)} {ways first : List ℕ} {t : Table}
      → ends ≡ ends_for c.nodes c.links → ways ≡ passages_for c.links
      → first ≡ first_links_over ends ways c.links.count c.nodes.count a → t ≡ table_over c s first
      → ◌≡◌ {A = TableWritten} (record { refusal = 0; table = t }) (write_known_of c s)
  unfolding write_known_of known_refusal unless_refused
  answer-table h p w f q =
      rw (← e, h)
      (ap (λ (x : Table). record { refusal = 0; table = x })
      (q ∙ ap (table_over c s) (f ∙ (λ i. first_links_over (p i) (w i) c.links.count c.nodes.count (e i))) ∙ kept_table c s (known-few h)))

  pub known-table : missing c.nodes a ≡ false → {ends : List (List ℕ)} {ways first : List ℕ} {t : Table}
      → ends ≡ ends_for c.nodes c.links → ways ≡ passages_for c.links
      → first ≡ first_links_over ends ways c.links.count c.nodes.count a → t ≡ table_over c s first
      → ((write_known_of c s).refusal ≡ 0) × (t ≡ (write_known_of c s).table)
  known-table h p w f q =
      let e = answer-table h p w f q in
      (sym (ap (λ (w : TableWritten). w.refusal) e), ap (λ (w : TableWritten). w.table) e)

-- ---- an accepted chart

module _ (c : Chart) (ok : Accepted c) (s : Station) where
  -- the place found is no node's exactly if the chart has no such node
  found_none : missing c.nodes (station_place_for c.nodes s) ≡ not (has_node c.nodes s)
  unfolding has_node station_place
  found_none = ap (missing c.nodes) (place-few c.nodes s ok.few_nodes) ∙ go (has_node c.nodes s) refl
    where
      n : ℕ
      n = c.nodes.count

      go : (b : Bool) → has_node c.nodes s ≡ b → missing c.nodes (station_place c.nodes s) ≡ not b
      go true e =
          let h : station_place c.nodes s < n = place-written c.nodes s e in
          let k = ok.few_nodes in
          rw (lt-leb n (station_place c.nodes s) h, lt-leb 16 (station_place c.nodes s) (omega arith))
      go false e = rw (first-none (stands_at c.nodes s) n e, le-leb n n (omega arith))

  module _ (w : has_node c.nodes s ≡ true) where
    -- the first link to a node is the same over what is kept
    kept-first : (b : ℕ) → b < c.nodes.count → first_link_kept c s b ≡ first_link_to c s (node_at c.nodes b).station
    unfolding first_link_kept first_link_over first_link_to first_link fewest_from routes_over
    kept-first b h =
        let ends = ends_for c.nodes c.links in
        let ways = passages_for c.links in
        let from = station_place_for c.nodes s in
        let to = (node_at c.nodes b).station in
        let below : from < 16 = omega (arith, place-written c.nodes s w, place-few c.nodes s ok.few_nodes, ok.few_nodes) in
        let own : station_place_for c.nodes to ≡ b = place-few c.nodes to ok.few_nodes ∙ own-place c.nodes ok.once b h in
        rw (lt-ltb from 16 below)
        (ap (λ (l : List (List ℕ)). head_of (fewest_of l)) (ap (routes_over ends ways c.links.count from) (sym own) ∙ routes-between c ok s to w))

    table-known : table_with s (entries_by (first_link_kept c s) c s c.nodes.count) ≡ table_for c s
    unfolding table_for
    table-known =
        ap (table_with s)
        (entries-same (first_link_kept c s) (λ b. first_link_to c s (node_at c.nodes b).station) c c (λ i. refl) refl s c.nodes.count kept-first)

-- ---- what is answered

abbrev answer : Bool → Table → TableWritten
answer b t = unless_refused (refuse 44 b 0) (record { refusal = 0; table = t }) (record { refusal = refuse 44 b 0; table = no_table })

same_answer : {b b' : Bool} {t t' : Table} → b ≡ b' → (b' ≡ false → t ≡ t') → answer b t ≡ answer b' t'
unfolding unless_refused
same_answer {b' = b'} {t = t} {t' = t'} e h = rw e (go b' h)
  where
    go : (x : Bool) → (x ≡ false → t ≡ t') → answer x t ≡ answer x t'
    go true h = refl
    go false h = ap (answer false) (h refl)

module _ (c : Chart) (s : Station) where
  pub answer-refused : {k : ℕ} → k ≡ chart_refusal c → (k ≡ 0 → ⊥) → ◌≡◌ {A = TableWritten} (record { refusal = k; table = no_table }) (write_table_of c s)
  unfolding write_table_of table_refusal
  answer-refused {k} e h =
      let q : table_refusal c s ≡ k = or-refused (chart_refusal c) (refuse 44 (not (has_node c.nodes s)) 0) (λ z. h (e ∙ z)) ∙ sym e in
      sym (refused (record { refusal = 0; table = table_for c s }) (record { refusal = table_refusal c s; table = no_table }) _ (λ z. h (sym q ∙ z))
      ∙ ap (λ (n : ℕ). record { refusal = n; table = no_table }) q)

  pub written-refused : {k : ℕ} → k ≡ chart_refusal c → (k ≡ 0 → ⊥) → k ≡ (write_table_of c s).refusal
  written-refused e h = ap (λ (w : TableWritten). w.refusal) (answer-refused e h)

  pub written_known : chart_refusal c ≡ 0 → write_known_of c s ≡ write_table_of c s
  unfolding write_table_of table_refusal write_known_of known_refusal
  written_known e =
      let ok = accepted c e in
      rw e (same_answer (found_none c ok s) (λ h. table-known c ok s (not-false (has_node c.nodes s) h)))
