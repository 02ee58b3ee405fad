-- Labels are ink: without them each node, link and question has the same number.
use Prim.Native.Nat.{ℕ, ◌<◌}
use mathlib.Core.Path.{◌≡◌, refl, sym, ap, ◌∙◌}
use mathlib.Core.Bool.{Bool, false, not, ◌&&◌}
use native.Mathlib.Omega.{arith}
use lib.Dec.{ltb}
use borrow.Author.Tests.{le-ltb}
use Rattle.lists.specs.Places.{row}
use Rattle.lists.specs.Refusals.{refuse, or_else}
use Rattle.lists.proofs.Places.{any_none, row_at}
use Rattle.lists.proofs.Chains.{refusal-agree}
use Rattle.address.specs.Address.{station_in_range}
use Rattle.chart.specs.declared.ChartNode.{ChartNode}
use Rattle.chart.specs.declared.Nodes.{Nodes}
use Rattle.chart.specs.declared.Links.{Links}
use Rattle.chart.specs.Values.{no_node, node_at, link_at, node_in_range}
use Rattle.chart.specs.Refusals.{node_refusal}
use Rattle.chart_refuse.specs.Refusal.{nodes_before, links_before, node_refusal_at, link_refusal_at, chart_values_refusal, chart_refusal}
use Rattle.chart_write.specs.Promises.{unlabelled_at, unlabelled, LabelsInRange, LabelsAreInk}
use Rattle.chart_write.proofs.Agree.{SameNodes, node-agree, link-agree, question-agree, node-like}

-- the nodes without their labels
unfoldable bare : Nodes → Nodes
bare ns = record { count = ns.count; items = row 16 no_node (unlabelled_at ns) ns.count }

module _ (ns : Nodes) where
  bare-at : (i : ℕ) → i < ns.count → unlabelled_at ns i ≡ node_at (bare ns) i
  unfolding node_at bare
  bare-at i h = row_at 16 no_node (unlabelled_at ns) ns.count i h

  bare-station : (i : ℕ) → i < ns.count → (node_at ns i).station ≡ (node_at (bare ns) i).station
  unfolding unlabelled_at
  bare-station i h = ap (λ (n : ChartNode). n.station) (bare-at i h)

  bare-same : SameNodes ns (bare ns)
  unfolding bare
  bare-same = record { count = refl; stations = bare-station }

  bare-before : (i : ℕ) → i < ns.count → SameNodes (nodes_before ns i) (nodes_before (bare ns) i)
  unfolding node_at
  bare-before i h = record { count = refl; stations = λ j l. bare-station j (omega arith) }

  bare-ranged : LabelsInRange ns → (i : ℕ) → i < ns.count → node_in_range (node_at ns i) ≡ node_in_range (unlabelled_at ns i)
  unfolding node_in_range unlabelled_at
  bare-ranged r i h =
      ap (λ (b : Bool). station_in_range (node_at ns i).station && not b) (r.bytes i h ∙ sym (any_none _))

  bare-refusal : LabelsInRange ns → (i : ℕ) → i < ns.count → node_refusal_at ns i ≡ node_refusal_at (bare ns) i
  unfolding node_refusal_at
  bare-refusal r i h =
      node-agree (nodes_before ns i) (nodes_before (bare ns) i) (bare-before i h) false (node_at ns i)
      ∙ node-like false (nodes_before (bare ns) i) (node_at ns i) (unlabelled_at ns i) own (le-ltb 24 (node_at ns i).length (r.short i h) ∙ none) (bare-ranged r i h)
      ∙ ap (node_refusal false (nodes_before (bare ns) i)) (bare-at i h)
    where
      own : (node_at ns i).station ≡ (unlabelled_at ns i).station
      own = unfold unlabelled_at in refl

      none : false ≡ ltb 24 (unlabelled_at ns i).length
      none = unfold unlabelled_at in refl

  bare-link : (ls : Links) (i : ℕ) → link_refusal_at ns ls i ≡ link_refusal_at (bare ns) ls i
  unfolding link_refusal_at
  bare-link ls i = link-agree ns (bare ns) bare-same (links_before ls i) (links_before ls i) (record { count = refl; links = λ j h. refl }) false ls.form (link_at ls i)

pub labels-are-ink : LabelsAreInk
unfolding chart_refusal chart_values_refusal unlabelled bare
labels-are-ink c r =
    let ns = c.nodes in
    let n = refusal-agree (node_refusal_at ns) (node_refusal_at (bare ns)) ns.count (bare-refusal ns r) in
    let l = refusal-agree (link_refusal_at ns c.links) (link_refusal_at (bare ns) c.links) c.links.count (λ i h. bare-link ns c.links i) in
    let q = question-agree ns (bare ns) (bare-same ns) false c.from c.to in
    λ j. refuse 26 (ltb 16 ns.count) (refuse 26 (ltb 48 c.links.count) (or_else (n j) (or_else (l j) (q j))))
