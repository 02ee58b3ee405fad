-- Numbers go by stations, ends and ranges alone: two charts that agree on these have the same numbers. A label's own bytes count only for its range.
use Prim.Native.Nat.{ℕ, ◌<◌}
use mathlib.Core.Path.{◌≡◌, refl, sym, ap, ◌∙◌}
use mathlib.Core.Bool.{Bool, not, ◌&&◌, ◌||◌}
use lib.Dec.{ltb}
use Rattle.lists.specs.Places.{any_below, element_at, row}
use Rattle.lists.proofs.Places.{any-agree, row_at}
use Rattle.address.specs.declared.Station.{Station}
use Rattle.address.specs.declared.Address.{Address}
use Rattle.address.specs.Address.{station_in_range, same_station, same_address}
use Rattle.chart.specs.declared.ChartNode.{ChartNode}
use Rattle.chart.specs.declared.Link.{Link}
use Rattle.chart.specs.declared.Nodes.{Nodes}
use Rattle.chart.specs.declared.Links.{Links}
use Rattle.chart.specs.Values.{node_at, link_at, stray_byte, node_in_range, stands_at, has_node, ends_at, has_end}
use Rattle.chart.specs.Refusals.{node_refusal_by, link_refusal_by, question_refusal_by, node_refusal, link_refusal, question_refusal}
use Rattle.chart_write.specs.Writing.{tidy_node}

-- the same stations at the places below the same count
pub record SameNodes (ns ms : Nodes) : Type 0 where
  pub count : ns.count ≡ ms.count
  pub stations : (i : ℕ) → i < ns.count → (node_at ns i).station ≡ (node_at ms i).station

pub record SameLinks (ls ks : Links) : Type 0 where
  pub count : ls.count ≡ ks.count
  pub links : (i : ℕ) → i < ls.count → link_at ls i ≡ link_at ks i

module _ (ns ms : Nodes) (e : SameNodes ns ms) where
  pub written-agree : (s : Station) → has_node ns s ≡ has_node ms s
  unfolding has_node stands_at
  written-agree s =
      any-agree (stands_at ns s) (stands_at ms s) ns.count (λ i h. ap (λ (t : Station). same_station t s) (e.stations i h))
      ∙ ap (any_below (stands_at ms s)) e.count

  pub node-agree : (late : Bool) (n : ChartNode) → node_refusal late ns n ≡ node_refusal late ms n
  unfolding node_refusal
  node-agree late n = λ i. node_refusal_by late (e.count i) (λ (s : Station). written-agree s i) n

  pub question-agree : (late : Bool) (from to : Station) → question_refusal late ns from to ≡ question_refusal late ms from to
  unfolding question_refusal
  question-agree late from to = λ i. question_refusal_by late (e.count i) (λ (s : Station). written-agree s i) from to

  module _ (ls ks : Links) (f : SameLinks ls ks) where
    used-agree : (a : Address) → has_end ls a ≡ has_end ks a
    unfolding has_end ends_at
    used-agree a =
        any-agree (ends_at ls a) (ends_at ks a) ls.count (λ i h. ap (λ (l : Link). same_address l.a a || same_address l.b a) (f.links i h))
        ∙ ap (any_below (ends_at ks a)) f.count

    pub link-agree : (late : Bool) (form : ℕ) (l : Link) → link_refusal late form ns ls l ≡ link_refusal late form ms ks l
    unfolding link_refusal
    link-agree late form l = λ i. link_refusal_by late form (e.count i) (f.count i) (λ (s : Station). written-agree s i) (λ (a : Address). used-agree a i) l

-- a node's own number goes by its station, its label's length and whether the label is in range
pub node-like : (late : Bool) (ns : Nodes) (n m : ChartNode) → n.station ≡ m.station → ltb 24 n.length ≡ ltb 24 m.length
    → node_in_range n ≡ node_in_range m → node_refusal late ns n ≡ node_refusal late ns m
unfolding node_refusal node_refusal_by
node-like late ns n m p q r = rw (q, r, p)

-- what stands past a label's length does not count
tidy-stray : (n : ChartNode) (i : ℕ) → i < n.length → stray_byte (row 24 0 (element_at 0 n.label) n.length) i ≡ stray_byte n.label i
unfolding stray_byte element_at
tidy-stray n i h = ap (λ (x : ℕ). ltb x 32 || ltb 126 x) (sym (row_at 24 0 (element_at 0 n.label) n.length i h))

pub tidy-in-range : (n : ChartNode) → node_in_range (tidy_node n) ≡ node_in_range n
unfolding node_in_range tidy_node
tidy-in-range n =
    ap (λ (b : Bool). station_in_range n.station && not b)
    (any-agree (stray_byte (row 24 0 (element_at 0 n.label) n.length)) (stray_byte n.label) n.length (tidy-stray n))

pub tidy-refusal : (late : Bool) (ns : Nodes) (n : ChartNode) → node_refusal late ns (tidy_node n) ≡ node_refusal late ns n
unfolding tidy_node
tidy-refusal late ns n = node-like late ns (tidy_node n) n refl refl (tidy-in-range n)
