-- Laws of a chart's number: a value's number by keys, and what a chart with no number is known to be.
use Prim.Native.Nat.{ℕ, ◌<◌, ◌≤◌}
use mathlib.Core.Path.{◌≡◌, ap, ◌∙◌}
use mathlib.Core.List.{List}
use mathlib.Core.Bool.{false, ◌||◌}
use native.Mathlib.Omega.{arith}
use lib.ListN.{length, get_or, take}
use Rattle.std.proofs.lemmas.List.{length-take, length-take-le, get_or-take}
use lib.Dec.{ltb}
use borrow.Author.Tests.{ltb-false}
use Rattle.lists.specs.Places.{any_below}
use Rattle.lists.specs.Chains.{first_refusal_below}
use Rattle.lists.proofs.Places.{any-agree}
use Rattle.lists.proofs.Refusals.{pass, or-pass}
use Rattle.lists.proofs.Chains.{refusal-zero}
use Rattle.chart.specs.declared.ChartNode.{ChartNode}
use Rattle.chart.specs.declared.Link.{Link}
use Rattle.chart.specs.declared.Nodes.{Nodes}
use Rattle.chart.specs.declared.Links.{Links}
use Rattle.chart.specs.declared.Chart.{Chart}
use Rattle.chart.specs.Values.{node_at, link_at, stray_byte}
use Rattle.chart.specs.Refusals.{question_refusal}
use Rattle.chart_refuse.specs.Private.{KeyedNodes, KeyedLinks, node_refusal_by_keys, link_refusal_by_keys}
use Rattle.chart_refuse.proofs.ByKeys.{node-keyed, link-keyed}
use Rattle.chart.proofs.Laws.{node-taken, link-taken, NodePassed, node-passed, LinkPassed, link-passed}
use Rattle.chart_refuse.specs.Refusal.{nodes_before, links_before, node_refusal_at, link_refusal_at, chart_values_refusal, chart_refusal}

-- the first n bytes of a label are looked at alone
pub stray-first : (label : List ℕ) (n : ℕ) → n ≤ length label → any_below (stray_byte (take n label)) (length (take n label)) ≡ any_below (stray_byte label) n
unfolding stray_byte
stray-first label n h =
    rw (length-take-le n label h) (any-agree _ _ n (λ i l. ap (λ (x : ℕ). ltb x 32 || ltb 126 x) (get_or-take n label i 0 l)))

-- a value's number by the keys before it
pub node-refusal-read : (ns : Nodes) (keys : List ℕ) → KeyedNodes ns keys → (d : ChartNode) (i : ℕ) → i < length (take ns.count ns.items)
    → node_refusal_by_keys false keys i (get_or (take ns.count ns.items) i d) ≡ node_refusal_at ns i
unfolding node_refusal_at node_at
node-refusal-read ns keys h d i m =
    let l : i < ns.count = omega (arith, length-take ns.count ns.items) in
    ap (node_refusal_by_keys false keys i) (node-taken ns d ns.count i m)
    ∙ node-keyed (nodes_before ns i) keys (λ j k. h j (omega arith)) false (node_at ns i) (h i l).node

pub link-refusal-read : (ns : Nodes) (keys : List ℕ) → KeyedNodes ns keys → (ls : Links) (akeys bkeys : List ℕ) → KeyedLinks ls akeys bkeys → (d : Link) (i : ℕ) → i < length (take ls.count ls.items)
    → link_refusal_by_keys false ls.form keys ns.count akeys bkeys i (get_or (take ls.count ls.items) i d) ≡ link_refusal_at ns ls i
unfolding link_refusal_at link_at
link-refusal-read ns keys h ls akeys bkeys g d i m =
    let l : i < ls.count = omega (arith, length-take ls.count ls.items) in
    ap (link_refusal_by_keys false ls.form keys ns.count akeys bkeys i) (link-taken ls d ls.count i m)
    ∙ link-keyed ns keys h (links_before ls i) akeys bkeys (record { a = λ j k. g.a j (omega arith); b = λ j k. g.b j (omega arith) }) false ls.form (link_at ls i) _ _ (g.a i l) (g.b i l)

-- ---- a chart whose number is 0

pub record Passed (c : Chart) : Type 0 where
  pub few_nodes : c.nodes.count ≤ 16
  pub few_links : c.links.count ≤ 48
  pub nodes : first_refusal_below (node_refusal_at c.nodes) c.nodes.count ≡ 0
  pub links : first_refusal_below (link_refusal_at c.nodes c.links) c.links.count ≡ 0
  pub question : question_refusal false c.nodes c.from c.to ≡ 0

pub passed : (c : Chart) → chart_refusal c ≡ 0 → Passed c
unfolding chart_refusal chart_values_refusal
passed c h =
    let p = pass 25 (ltb 16 c.nodes.count) _ h in
    let q = pass 25 (ltb 48 c.links.count) _ p.1 in
    let r = or-pass (first_refusal_below (node_refusal_at c.nodes) c.nodes.count) _ q.1 in
    let t = or-pass (first_refusal_below (link_refusal_at c.nodes c.links) c.links.count) _ r.1 in
    record {
      few_nodes = ltb-false 16 c.nodes.count p.0;
      few_links = ltb-false 48 c.links.count q.0;
      nodes = r.0;
      links = t.0;
      question = t.1;
    }

-- the node and the link at a place of it
pub node_of : (c : Chart) → Passed c → (i : ℕ) → i < c.nodes.count → NodePassed false (nodes_before c.nodes i) (node_at c.nodes i)
unfolding node_refusal_at
node_of c p i h = node-passed false _ _ (refusal-zero (node_refusal_at c.nodes) c.nodes.count i p.nodes h)

pub link-of : (c : Chart) → Passed c → (i : ℕ) → i < c.links.count → LinkPassed false c.links.form c.nodes (links_before c.links i) (link_at c.links i)
unfolding link_refusal_at
link-of c p i h = link-passed false _ _ _ _ (refusal-zero (link_refusal_at c.nodes c.links) c.links.count i p.links h)
