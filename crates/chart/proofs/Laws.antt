-- Laws of the chart's values: what a loop reads at a place, and what a number of 0 says of the value that it lets pass.
use Prim.Native.Nat.{ℕ, ◌<◌, ◌≤◌}
use mathlib.Core.Path.{◌≡◌}
use mathlib.Core.Bool.{Bool, true, false, not, ◌&&◌, ◌||◌}
use lib.ListN.{length, get_or, take}
use lib.Dec.{ltb, leb}
use borrow.Author.Tests.{ltb-false, leb-false, not-false}
use Rattle.lists.proofs.Places.{element-own, element-taken}
use Rattle.lists.proofs.Refusals.{pass}
use Rattle.address.specs.declared.Station.{Station}
use Rattle.address.specs.Address.{station_of, station_in_range, same_station}
use Rattle.chart.specs.declared.ChartNode.{ChartNode}
use Rattle.chart.specs.declared.Link.{Link}
use Rattle.chart.specs.declared.Nodes.{Nodes}
use Rattle.chart.specs.declared.Links.{Links}
use Rattle.chart.specs.Values.{no_node, no_link, node_at, link_at, node_in_range, link_in_range, has_node, has_end}
use Rattle.chart.specs.Refusals.{node_refusal_by, link_refusal_by, question_refusal_by, node_refusal, link_refusal, question_refusal}

-- ---- what a loop reads at a place

pub node-read : (ns : Nodes) (d : ChartNode) (i : ℕ) → i < length ns.items → get_or ns.items i d ≡ node_at ns i
unfolding node_at
node-read ns d i h = element-own no_node d ns.items i h

pub link-read : (ls : Links) (d : Link) (i : ℕ) → i < length ls.items → get_or ls.items i d ≡ link_at ls i
unfolding link_at
link-read ls d i h = element-own no_link d ls.items i h

-- the same of a loop over the first n of them
pub node-taken : (ns : Nodes) (d : ChartNode) (n i : ℕ) → i < length (take n ns.items) → get_or (take n ns.items) i d ≡ node_at ns i
unfolding node_at
node-taken ns d n i h = element-taken no_node d ns.items n i h

pub link-taken : (ls : Links) (d : Link) (n i : ℕ) → i < length (take n ls.items) → get_or (take n ls.items) i d ≡ link_at ls i
unfolding link_at
link-taken ls d n i h = element-taken no_link d ls.items n i h

-- ---- what 0 says

-- a node that is let pass
pub record NodePassed (late : Bool) (ns : Nodes) (n : ChartNode) : Type 0 where
  pub short : n.length ≤ 24
  pub ranged : node_in_range n ≡ true
  pub timely : late ≡ false
  pub room : ns.count < 16
  pub fresh : has_node ns n.station ≡ false

pub node-passed : (late : Bool) (ns : Nodes) (n : ChartNode) → node_refusal late ns n ≡ 0 → NodePassed late ns n
unfolding node_refusal node_refusal_by
node-passed late ns n e =
    let p = pass 22 (ltb 24 n.length) _ e in
    let q = pass 23 (not (node_in_range n)) _ p.1 in
    let r = pass 24 late _ q.1 in
    let t = pass 25 (leb 16 ns.count) _ r.1 in
    record {
      short = ltb-false 24 n.length p.0;
      ranged = not-false (node_in_range n) q.0;
      timely = r.0;
      room = leb-false 16 ns.count t.0;
      fresh = (pass 26 (has_node ns n.station) _ t.1).0;
    }

-- a link that is let pass
pub record LinkPassed (late : Bool) (form : ℕ) (ns : Nodes) (ls : Links) (l : Link) : Type 0 where
  pub ranged : link_in_range form l ≡ true
  pub timely : late ≡ false
  pub few : ns.count ≤ 16
  pub room : ls.count < 48
  pub ends : (has_node ns (station_of l.a) && has_node ns (station_of l.b)) ≡ true
  pub apart : same_station (station_of l.a) (station_of l.b) ≡ false
  pub fresh : (has_end ls l.a || has_end ls l.b) ≡ false

pub link-passed : (late : Bool) (form : ℕ) (ns : Nodes) (ls : Links) (l : Link) → link_refusal late form ns ls l ≡ 0 → LinkPassed late form ns ls l
unfolding link_refusal link_refusal_by
link-passed late form ns ls l e =
    let p = pass 23 (not (link_in_range form l)) _ e in
    let q = pass 24 late _ p.1 in
    let r = pass 25 (ltb 16 ns.count) _ q.1 in
    let t = pass 25 (leb 48 ls.count) _ r.1 in
    let u = pass 27 (not (has_node ns (station_of l.a) && has_node ns (station_of l.b))) _ t.1 in
    let v = pass 28 (same_station (station_of l.a) (station_of l.b)) _ u.1 in
    record {
      ranged = not-false (link_in_range form l) p.0;
      timely = q.0;
      few = ltb-false 16 ns.count r.0;
      room = leb-false 48 ls.count t.0;
      ends = not-false (has_node ns (station_of l.a) && has_node ns (station_of l.b)) u.0;
      apart = v.0;
      fresh = (pass 29 (has_end ls l.a || has_end ls l.b) _ v.1).0;
    }

-- a question that is let pass
pub record QuestionPassed (late : Bool) (ns : Nodes) (from to : Station) : Type 0 where
  pub ranged : (station_in_range from && station_in_range to) ≡ true
  pub timely : late ≡ false
  pub few : ns.count ≤ 16
  pub ends : (has_node ns from && has_node ns to) ≡ true

pub question-passed : (late : Bool) (ns : Nodes) (from to : Station) → question_refusal late ns from to ≡ 0 → QuestionPassed late ns from to
unfolding question_refusal question_refusal_by
question-passed late ns from to e =
    let p = pass 23 (not (station_in_range from && station_in_range to)) _ e in
    let q = pass 24 late _ p.1 in
    let r = pass 25 (ltb 16 ns.count) _ q.1 in
    let t = pass 27 (not (has_node ns from && has_node ns to)) _ r.1 in
    record {
      ranged = not-false (station_in_range from && station_in_range to) p.0;
      timely = q.0;
      few = ltb-false 16 ns.count r.0;
      ends = not-false (has_node ns from && has_node ns to) t.0;
    }
