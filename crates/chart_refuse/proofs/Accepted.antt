-- A chart is accepted exactly if each of its values passes its own tests.
use Prim.Native.Nat.{ℕ, ◌<◌}
use mathlib.Core.Path.{◌≡◌}
use mathlib.Core.Bool.{false}
use native.Mathlib.Omega.{arith}
use borrow.Author.Tests.{le-ltb, lt-leb}
use Rattle.lists.proofs.Bools.{and_left, and_right, or-no-left, or-no-right}
use Rattle.lists.proofs.Chains.{refusals-none}
use Rattle.address.specs.Address.{station_of, station_in_range}
use Rattle.chart.specs.declared.Chart.{Chart}
use Rattle.chart.specs.Values.{link_at, has_node, has_end}
use Rattle.chart.specs.Refusals.{node_refusal_by, link_refusal_by, question_refusal_by, node_refusal, link_refusal, question_refusal}
use Rattle.chart.proofs.Laws.{question-passed}
use Rattle.chart_refuse.specs.Refusal.{links_before, node_refusal_at, link_refusal_at, chart_values_refusal, chart_refusal}
use Rattle.chart_refuse.specs.Promises.{Accepted, AcceptedExactly}
use Rattle.chart_refuse.proofs.Laws.{passed, node_of, link-of}

pub accepted : (c : Chart) → chart_refusal c ≡ 0 → Accepted c
accepted c h =
    let p = passed c h in
    let q = question-passed false c.nodes c.from c.to p.question in
    record {
      few_nodes = p.few_nodes;
      few_links = p.few_links;
      short = λ i l. (node_of c p i l).short;
      ranged = λ i l. (node_of c p i l).ranged;
      once = λ i l. (node_of c p i l).fresh;
      joins = λ i l.
          let k = link-of c p i l in
          let g = link_at c.links i in
          record {
            ranged = k.ranged;
            a = and_left (has_node c.nodes (station_of g.a)) _ k.ends;
            b = and_right (has_node c.nodes (station_of g.a)) _ k.ends;
            apart = k.apart;
            a_once = or-no-left (has_end (links_before c.links i) g.a) _ k.fresh;
            b_once = or-no-right (has_end (links_before c.links i) g.a) _ k.fresh;
          };
      from_ranged = and_left (station_in_range c.from) _ q.ranged;
      to_ranged = and_right (station_in_range c.from) _ q.ranged;
      from = and_left (has_node c.nodes c.from) _ q.ends;
      to = and_right (has_node c.nodes c.from) _ q.ends;
    }

module _ (c : Chart) (a : Accepted c) where
  node-taken : (i : ℕ) → i < c.nodes.count → node_refusal_at c.nodes i ≡ 0
  unfolding node_refusal_at node_refusal node_refusal_by
  node-taken i l = rw (le-ltb 24 _ (a.short i l), a.ranged i l, lt-leb 16 i (omega (arith, a.few_nodes)), a.once i l)

  link-taken : (i : ℕ) → i < c.links.count → link_refusal_at c.nodes c.links i ≡ 0
  unfolding link_refusal_at link_refusal link_refusal_by
  link-taken i l =
      let j = a.joins i l in
      rw (j.ranged, le-ltb 16 _ a.few_nodes, lt-leb 48 i (omega (arith, a.few_links)), j.a, j.b, j.apart, j.a_once, j.b_once)

  question-taken : question_refusal false c.nodes c.from c.to ≡ 0
  unfolding question_refusal question_refusal_by
  question-taken = rw (a.from_ranged, a.to_ranged, le-ltb 16 _ a.few_nodes, a.from, a.to)

  taken : chart_refusal c ≡ 0
  unfolding chart_refusal chart_values_refusal
  taken =
      rw (
        le-ltb 16 _ a.few_nodes,
        le-ltb 48 _ a.few_links,
        refusals-none (node_refusal_at c.nodes) c.nodes.count node-taken,
        refusals-none (link_refusal_at c.nodes c.links) c.links.count link-taken,
      )
      question-taken

pub accepted-exactly : AcceptedExactly
accepted-exactly c = (accepted c, taken c)
