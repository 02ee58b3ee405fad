-- The array that a table's entries are filled into, and what the code makes of it.
use Prim.Native.Nat.{ℕ, suc, ◌+◌, ◌-◌, ◌<◌, ◌≤◌}
use mathlib.Core.Path.{◌≡◌, refl, sym, ap, ◌∙◌}
use mathlib.Core.Bool.{true, false}
use mathlib.Core.Option.{none, some}
use mathlib.Core.List.{List, [], ◌∷◌, ◌++◌, append_assoc}
use native.Mathlib.Omega.{arith}
use borrow.Author.Tests.{lt-ltb, le-ltb}
use lib.ListN.{length, get_or, set, replicate, length-append}
use lib.Seq.{set_at}
use Rattle.lists.specs.Places.{element_at}
use Rattle.lists.proofs.Places.{element-own}
use Rattle.address.specs.declared.Station.{Station}
use Rattle.address.specs.Address.{station_of, same_station}
use Rattle.table.specs.declared.Entry.{Entry}
use Rattle.table.specs.declared.Table.{Table}
use Rattle.table.specs.Table.{most_entries, no_entry}
use Rattle.chart.specs.declared.Link.{Link}
use Rattle.chart.specs.declared.Nodes.{Nodes}
use Rattle.chart.specs.declared.Links.{Links}
use Rattle.chart.specs.declared.Chart.{Chart}
use Rattle.chart.specs.Values.{no_station, node_at, link_at}
use Rattle.table_write.specs.Writing.{near_end, entry_over, entries_by, table_with}
use Rattle.table_write.specs.Private.{link_of, link_in, table_over}
use Rattle.table_write.proofs.Entries.{entries-more, entries-skip, entries-few, entries-same}

-- ---- the end by which one leaves

pub near_first : (l : Link) (s : Station) → same_station (station_of l.a) s ≡ true → l.a ≡ near_end l s
unfolding near_end
near_first l s h = rw h

pub near-second : (l : Link) (s : Station) → same_station (station_of l.a) s ≡ false → l.b ≡ near_end l s
unfolding near_end
near-second l s h = rw h

-- ---- the links of the array

-- what the code reads at a place
pub first_read : (first : List ℕ) (b : ℕ) → b < length first → get_or first b 48 ≡ get_or first b 0
unfolding element_at
first_read first b h = sym (element-own 48 0 first b h)

pub link-some : (first : List ℕ) (b i : ℕ) → get_or first b 48 ≡ i → i < 48 → link_in first b ≡ some i
unfolding link_in link_of
link-some first b i e h = rw (e, lt-ltb i 48 h)

pub link-none : (first : List ℕ) (b i : ℕ) → get_or first b 48 ≡ i → 48 ≤ i → link_in first b ≡ none
unfolding link_in link_of
link-none first b i e h = rw (e, le-ltb i 48 h)

-- ---- an array with some entries, and no entry at the other places

abbrev pub filling : List Entry → List Entry
filling es = es ++ replicate (most_entries - length es) no_entry

fill_more : (es : List Entry) (e : Entry) → length es < most_entries → set (filling es) (length es) e ≡ filling (es ++ (e ∷ []))
fill_more es e h =
    let rest = replicate (most_entries - (length es + 1)) no_entry in
    let n : length (es ++ (e ∷ [])) ≡ length es + 1 = length-append es (e ∷ []) in
    let k : most_entries - length es ≡ suc (most_entries - (length es + 1)) = omega arith in
    rw (n, k) (set_at es no_entry rest e (length es) refl ∙ sym (append_assoc es (e ∷ []) rest))

-- the chart with these nodes and links
abbrev pub chart_of : Nodes → Links → Chart
chart_of ns ls = record { nodes = ns; links = ls; from = no_station; to = no_station }

module _ (first : List ℕ) (ns : Nodes) (ls : Links) (s : Station) where
  -- the entries for the first b nodes stand in the array, and count
  pub record Filled (b : ℕ) (entries : List Entry) (count : ℕ) : Type 0 where
    pub array : entries ≡ filling (entries_by (link_in first) (chart_of ns ls) s b)
    pub counts : count ≡ length (entries_by (link_in first) (chart_of ns ls) s b)

  pub filled-few : (b : ℕ) {entries : List Entry} {count : ℕ} → Filled b entries count → count ≤ b
  filled-few b f = omega (arith, f.counts, entries-few (link_in first) (chart_of ns ls) s b)

  -- before the first node, after one to which no link leads, and after one to which one does
  pub filled_none : {none : Entry} → none ≡ no_entry → Filled 0 (replicate most_entries none) 0
  unfolding entries_by
  filled_none e = record { array = ap (replicate most_entries) e; counts = refl }

  module _ (b : ℕ) {entries : List Entry} {count : ℕ} (f : Filled b entries count) where
    pub filled-skip : link_in first b ≡ none → Filled (b + 1) entries count
    filled-skip e =
        let q = sym (entries-skip (link_in first) (chart_of ns ls) s b e) in
        record { array = f.array ∙ ap filling q; counts = f.counts ∙ ap length q }

    pub filled_more : (i : ℕ) {e : Entry} → b < most_entries → link_in first b ≡ some i → e ≡ entry_over (link_at ls i) s (node_at ns b).station
        → Filled (b + 1) (set entries count e) (count + 1)
    filled_more i h q w =
        let es = entries_by (link_in first) (chart_of ns ls) s b in
        let x = entry_over (link_at ls i) s (node_at ns b).station in
        let n : length (es ++ (x ∷ [])) ≡ length es + 1 = length-append es (x ∷ []) in
        let m = sym (entries-more (link_in first) (chart_of ns ls) s b i q) in
        record {
          array = (λ j. set (f.array j) (f.counts j) (w j)) ∙ fill_more es x (omega (arith, entries-few (link_in first) (chart_of ns ls) s b)) ∙ ap filling m;
          counts = ap (λ (k : ℕ). k + 1) f.counts ∙ sym n ∙ ap length m;
        }

-- the table that is made of it
pub table-made : (first : List ℕ) (c : Chart) (s : Station) (b : ℕ) {entries : List Entry} {count : ℕ} → b ≡ c.nodes.count
    → Filled first c.nodes c.links s b entries count
    → ◌≡◌ {A = Table} (record { brigade = s.brigade; count = count; node = s.node; entries = entries }) (table_over c s first)
unfolding table_over table_with
table-made first c s b e f =
    let same : entries_by (link_in first) (chart_of c.nodes c.links) s b ≡ entries_by (link_in first) c s c.nodes.count =
    entries-same (link_in first) (link_in first) (chart_of c.nodes c.links) c (λ i. refl) refl s b (λ i h. refl) ∙ ap (entries_by (link_in first) c s) e
    in
    let counts = f.counts ∙ ap length same in
    let array = f.array ∙ ap filling same in
    λ j. record { brigade = s.brigade; count = counts j; node = s.node; entries = array j }
