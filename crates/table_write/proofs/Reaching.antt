-- The table of a station of an accepted chart: which nodes have an entry, and over which link each leaves.
use Prim.Native.Nat.{ℕ, ◌-◌, ◌<◌}
use mathlib.Core.Path.{◌≡◌, refl, sym, ap, subst, ◌∙◌}
use mathlib.Core.Bool.{Bool, true, false, cond, ◌&&◌}
use mathlib.Core.Option.{Option, none, some, none-ne-some, some-injective}
use mathlib.Core.List.{List, [], ◌∷◌}
use native.Mathlib.Decide.{dec_lt}
use native.Mathlib.Omega.{arith}
use lib.ListN.{length, replicate, get_or-append}
use Rattle.lists.specs.Places.{element_at}
use Rattle.address.specs.declared.Station.{Station}
use Rattle.address.specs.Address.{station_of, same_station}
use Rattle.table.specs.declared.Entry.{Entry}
use Rattle.table.specs.declared.Target.TheVariants.{One}
use Rattle.table.specs.Table.{most_entries, no_entry, entry_at}
use Rattle.chart.specs.declared.Link.{Link}
use Rattle.chart.specs.declared.Nodes.{Nodes}
use Rattle.chart.specs.declared.Chart.{Chart}
use Rattle.chart.specs.Values.{node_at, link_at}
use Rattle.chart_refuse.specs.Promises.{Accepted}
use Rattle.chart_refuse.proofs.Accepted.{accepted}
use Rattle.chart_net.specs.Net.{station_place, goes_out, goes_back, across, placed, net_to, routes_between}
use Rattle.chart_net.proofs.Places.{crossed, station-eq, place-written, own-place, stands-there}
use Rattle.chart_net.proofs.Kept.{far-there, net-sound}
use Rattle.route.specs.Route.{Net, Sound}
use Rattle.route_fewest.specs.Fewest.{head_of, fewest_from, first_link}
use Rattle.route_fewest.specs.Promises.{Fewest}
use Rattle.route_fewest.proofs.Promises.{fewest-is}
use Rattle.route_fewest.proofs.Hops.{first-nearer, no-first, first-here}
use Rattle.table_write.specs.Writing.{first_link_to, near_end, entry_over, entries_by, table_with, table_for}
use Rattle.table_write.specs.Promises.{HasTable, EntryFor, Reached, EntriesSay, LeavesBy}
use Rattle.table_write.proofs.Listing.{Listed, listed, whose, fewer}

-- the route that a first link begins
first-route : (G : Net) → Sound G → (a i : ℕ) → first_link G a ≡ some i → (r : List ℕ) × Fewest G a (i ∷ r)
unfolding first_link head_of
first-route G sound a i e = go (fewest_from G a) refl e
  where
    go : (o : Option (List ℕ)) → fewest_from G a ≡ o → head_of o ≡ some i → (r : List ℕ) × Fewest G a (i ∷ r)
    go none q h = absurd (none-ne-some i h)
    go (some []) q h = absurd (none-ne-some i h)
    go (some (j ∷ r)) q h = (r, (fewest-is G sound a (i ∷ r)).0 (q ∙ ap (λ (x : ℕ). some (x ∷ r)) (some-injective j i h)))

-- a link that can be passed from a station is on, and the end by which one leaves stands there
across-says : (ns : Nodes) (l : Link) (s : Station) (f : ℕ) → placed ns (across l s) ≡ some f → (l.on ≡ true) × (station_of (near_end l s) ≡ s)
unfolding near_end
across-says ns l s f = go l.on (goes_out l) (goes_back l) (same_station (station_of l.a) s) (same_station (station_of l.b) s) refl refl
  where
    go : (on out back p q : Bool) → same_station (station_of l.a) s ≡ p → same_station (station_of l.b) s ≡ q
        → placed ns (crossed on (out && p) (back && q) l) ≡ some f
        → (on ≡ true) × (station_of (cond p l.a l.b) ≡ s)
    go false out back p q u v e = absurd (none-ne-some f e)
    go true out back true q u v e = (refl, station-eq (station_of l.a) s u)
    go true out back false true u v e = (refl, station-eq (station_of l.b) s v)
    go true true true false false u v e = absurd (none-ne-some f e)
    go true true false false false u v e = absurd (none-ne-some f e)
    go true false true false false u v e = absurd (none-ne-some f e)
    go true false false false false u v e = absurd (none-ne-some f e)

module _ (c : Chart) (s : Station) where
  -- the link towards the node at a place
  unfoldable pub first : ℕ → Option ℕ
  first b = first_link_to c s (node_at c.nodes b).station

  -- the net for one who wants to come to that node, and where he begins
  abbrev to : ℕ → Net
  to b = net_to c (node_at c.nodes b).station

  abbrev here : ℕ
  here = station_place c.nodes s

  -- the entry at place k of the table is for the node at place b, over link i
  unfoldable pub EntryOf : ℕ → ℕ → ℕ → Type 0
  EntryOf k b i = Listed first c s c.nodes.count k b i

  module _ (asked : HasTable c s) where
    pub ok : Accepted c
    ok = accepted c asked.chart

    -- the node at a place, and the own one
    pub own : (b : ℕ) → b < c.nodes.count → station_place c.nodes (node_at c.nodes b).station ≡ b
    own b h = own-place c.nodes ok.once b h

    pub standing : (node_at c.nodes (station_place c.nodes s)).station ≡ s
    standing = station-eq (node_at c.nodes here).station s (stands-there c.nodes ok.once s here refl (place-written c.nodes s asked.node))

    -- two nodes with one station are one
    pub one-node : (a b : ℕ) → a < c.nodes.count → b < c.nodes.count → (node_at c.nodes a).station ≡ (node_at c.nodes b).station → a ≡ b
    one-node a b h l e = sym (own a h) ∙ ap (station_place c.nodes) e ∙ own b l

    -- ---- the entries

    pub entry-there : (k b i : ℕ) → EntryOf k b i → entry_at (table_for c s) k ≡ entry_over (link_at c.links i) s (node_at c.nodes b).station
    unfolding EntryOf first entry_at element_at table_for table_with
    entry-there k b i l =
        let es = entries_by first c s c.nodes.count in
        get_or-append es (replicate (most_entries - length es) no_entry) no_entry k l.counts ∙ l.entry

    pub listed-for : (k b i : ℕ) → EntryOf k b i → EntryFor c s k b
    unfolding EntryOf first table_for table_with entry_over
    listed-for k b i l = record { counts = l.counts; node = l.node; names = ap (λ (e : Entry). e.target) (entry-there k b i l) }

    pub entry-whose : (k : ℕ) → k < (table_for c s).count → (b : ℕ) × (i : ℕ) × EntryOf k b i
    unfolding EntryOf first table_for table_with
    entry-whose k h = whose first c s c.nodes.count k h

    -- what an entry names says whose it is
    named-one : (a b : ℕ)
        → One (node_at c.nodes a).station.brigade (node_at c.nodes a).station.node ≡ One (node_at c.nodes b).station.brigade (node_at c.nodes b).station.node
        → (node_at c.nodes a).station ≡ (node_at c.nodes b).station
    named-one a b e =
        let x : (node_at c.nodes a).station.brigade ≡ (node_at c.nodes b).station.brigade = cc in
        let y : (node_at c.nodes a).station.node ≡ (node_at c.nodes b).station.node = cc in
        λ i. record { brigade = x i; node = y i }

    pub entry-for : (k b : ℕ) → EntryFor c s k b → (i : ℕ) × EntryOf k b i
    unfolding EntryOf entry_over
    entry-for k b e = go (entry-whose k e.counts)
      where
        go : (a : ℕ) × (i : ℕ) × EntryOf k a i → (i : ℕ) × EntryOf k b i
        go (a, i, l) =
            let q : a ≡ b = one-node a b l.node e.node (named-one a b (sym (ap (λ (x : Entry). x.target) (entry-there k a i l)) ∙ e.names)) in
            (i, subst (λ (x : ℕ). EntryOf k x i) q l)

    -- ---- which nodes have one

    first_some : (k b i : ℕ) → EntryOf k b i → first_link (net_to c (node_at c.nodes b).station) (station_place c.nodes s) ≡ some i
    unfolding EntryOf first first_link_to routes_between first_link fewest_from
    first_some k b i l = l.link

    pub reached : (k b i : ℕ) → EntryOf k b i → Reached c s b
    unfolding EntryOf
    reached k b i l =
        let w = first-route (to b) (net-sound c ok (node_at c.nodes b).station) here i (first_some k b i l) in
        record {
          other = λ q. none-ne-some i (sym (first-here (to b) here (q ∙ sym (own b l.node))) ∙ first_some k b i l);
          route = (i ∷ w.0, w.1.route);
        }

    reaches : (b : ℕ) → b < c.nodes.count → Reached c s b → (k : ℕ) × EntryFor c s k b
    unfolding EntryOf first first_link_to routes_between first_link fewest_from
    reaches b h r = go (first b) refl
      where
        go : (o : Option ℕ) → first b ≡ o → (k : ℕ) × EntryFor c s k b
        go none e = absurd (no-first (to b) (net-sound c ok (node_at c.nodes b).station) here e (λ q. r.other (q ∙ own b h)) r.route.0 r.route.1)
        go (some i) e =
            let k = length (entries_by first c s b) in
            (k, listed-for k b i (listed first c s c.nodes.count b i h e))

    -- they stand in the order of the nodes
    in_order : (j k a b i i' : ℕ) → j < k → EntryOf j a i → EntryOf k b i' → a < b
    unfolding EntryOf
    in_order j k a b i i' h l m = go (dec_lt a b)
      where
        go : Dec (a < b) → a < b
        go (yes q) = q
        go (no q) = absurd (omega (arith, l.place, m.place, fewer first c s b a (omega arith)))

    pub entries-say : EntriesSay c s
    entries-say =
        record {
          named = λ k h. let w = entry-whose k h in (w.0, listed-for k w.0 w.1 w.2);
          each = λ b h. (λ w. let e = entry-for w.0 b w.1 in reached w.0 b e.0 e.1, reaches b h);
          ordered = λ j k a b h e e'. let l = entry-for j a e in let m = entry-for k b e' in in_order j k a b l.0 m.0 h l.1 m.1;
        }

    -- ---- where it leaves

    pub leaves_by : (k b i : ℕ) → EntryOf k b i → LeavesBy c s k b i
    unfolding EntryOf entry_over
    leaves_by k b i l =
        let sound = net-sound c ok (node_at c.nodes b).station in
        let n = first-nearer (to b) sound here i (first_some k b i l) in
        let link = link_at c.links i in
        let far : placed c.nodes (across link s) ≡ some n.1 =
        sym (far-there c.nodes c.links i here n.3.there ∙ ap (λ (x : Station). placed c.nodes (across link x)) standing) ∙ n.3.far
        in
        let said = across-says c.nodes link s n.1 far in
        record {
          there = n.3.there;
          lit = said.0;
          near = said.1;
          port = ap (λ (e : Entry). e.port) (entry-there k b i l);
          passed = (n.1, n.3.far);
          first = first-route (to b) sound here i (first_some k b i l);
        }
