-- No sheet is longer than 47,369 bytes: every value of an accepted chart is in range, and a route has at most 15 links.
use Prim.Native.Nat.{ℕ, suc, zero, ◌<◌, ◌≤◌}
use mathlib.Core.Path.{◌≡◌, refl}
use mathlib.Core.Bool.{Bool, true, false, cond, not, ◌&&◌}
use mathlib.Core.List.{List, Memᴰ}
use native.Mathlib.Omega.{arith}
use lib.ListN.{length, length-append}
use lib.Dec.{ltb, leb}
use Rattle.lists.specs.Places.{any_below, joined}
use Rattle.lists.specs.Refusals.{unless_refused}
use Rattle.lists.proofs.Bools.{and_left, and_right}
use Rattle.lists.proofs.Runs.{joined-most}
use Rattle.address.specs.declared.Address.{Address}
use Rattle.address.specs.Address.{station_in_range, in_range}
use Rattle.chart.specs.declared.ChartNode.{ChartNode}
use Rattle.chart.specs.declared.Link.{Link}
use Rattle.chart.specs.declared.Chart.{Chart}
use Rattle.chart.specs.Values.{node_at, link_at, stray_byte, node_in_range, end_in_range, direction_in_range, link_in_range}
use Rattle.chart.proofs.Laws.{question-passed}
use Rattle.chart_read.specs.Reading.{ChartRead, read_chart_of}
use Rattle.chart_refuse.specs.Refusal.{chart_refusal}
use Rattle.chart_refuse.proofs.Laws.{Passed, passed, node_of, link-of}
use Rattle.chart_refuse.proofs.Accepted.{accepted}
use Rattle.route.specs.Route.{only}
use Rattle.route.specs.All.{all_routes}
use Rattle.route.proofs.Laws.{all_sound}
use Rattle.route.proofs.Promises.{short-routes}
use Rattle.chart_net.specs.Net.{chart_net, start, routes_of, routes_between}
use Rattle.chart_net.proofs.Promises.{accepted-ends}
use Rattle.sheet_lines.specs.Lines.{counts_line, refused_line}
use Rattle.sheet_lines.proofs.NumberLengths.{counts-long, refused-long}
use Rattle.sheet_lines.specs.Lines.{node_line, link_line}
use Rattle.sheet_lines.proofs.Lengths.{node_long, link_long, question-long}
use Rattle.sheet_routes.specs.RouteLines.{route_line, list_text}
use Rattle.sheet_routes.proofs.Lengths.{route-long, list-long}
use Rattle.sheet.specs.Sheet.{long_line, place, line_at, chart_text, read_text, sheet_text}
use Rattle.sheet.specs.Promises.{SheetShort, WrittenShort}
use Rattle.sheet.proofs.Laws.{read-accepted}

node-station : (n : ChartNode) → node_in_range n ≡ true → station_in_range n.station ≡ true
unfolding node_in_range
node-station n h = and_left (station_in_range n.station) (not (any_below (stray_byte n.label) n.length)) h

end-in : (e : Address) → end_in_range e ≡ true → in_range e ≡ true
unfolding end_in_range
end-in e h = and_right (leb 1 e.port.0) (in_range e) h

link-ends : (form : ℕ) (l : Link) → link_in_range form l ≡ true → (in_range l.a ≡ true) × (in_range l.b ≡ true)
unfolding link_in_range
link-ends form l h =
    let ends = and_left (end_in_range l.a && end_in_range l.b) (direction_in_range form l.direction) h in
    (end-in l.a (and_left (end_in_range l.a) (end_in_range l.b) ends), end-in l.b (and_right (end_in_range l.a) (end_in_range l.b) ends))

module _ (c : Chart) (ok : chart_refusal c ≡ 0) where
  p : Passed c
  p = passed c ok

  nodes-long : length (joined (line_at node_line (node_at c.nodes)) place c.nodes.count) ≤ 592
  unfolding line_at
  nodes-long =
      let few = p.few_nodes in
      let h = joined-most (line_at node_line (node_at c.nodes)) place 37 c.nodes.count
      (λ i l. let n = node_of c p i l in node_long i (node_at c.nodes i) (omega arith) (node-station (node_at c.nodes i) n.ranged) n.short) in
      omega arith

  links-long : length (joined (line_at link_line (link_at c.links)) place c.links.count) ≤ 1728
  unfolding line_at
  links-long =
      let few = p.few_links in
      let h = joined-most (line_at link_line (link_at c.links)) place 36 c.links.count
      (λ i l. let e = link-ends c.links.form (link_at c.links i) (link-of c p i l).ranged in link_long i (link_at c.links i) (omega arith) e.0 e.1) in
      omega arith

  one-long : (r : List ℕ) → Memᴰ r (routes_of c) → length (route_line r) ≤ 45
  unfolding routes_of routes_between all_routes chart_net start
  one-long r m =
      let w = accepted-ends c (accepted c ok) in
      let q = all_sound (chart_net c) (start c) (only (start c)) r m in
      let s : length r < c.nodes.count = short-routes (chart_net c) w.sound (start c) w.begins r q in
      let few = p.few_nodes in
      let links = p.few_links in
      route-long (chart_net c) (omega arith) q (omega arith)

  chart-long : length (chart_text c) ≤ 47369
  unfolding chart_text
  chart-long =
      let few_nodes = p.few_nodes in
      let few_links = p.few_links in
      let asked = (question-passed false c.nodes c.from c.to p.question).ranged in
      let a : length (counts_line c.nodes.count c.links.count) ≤ 18 = counts-long c.nodes.count c.links.count (omega arith) (omega arith) in
      let n = nodes-long in
      let l = links-long in
      let q = question-long c.from c.to (and_left (station_in_range c.from) (station_in_range c.to) asked)
      (and_right (station_in_range c.from) (station_in_range c.to) asked) in
      let r : length (list_text 1000 (routes_of c)) ≤ 45005 = list-long 45 1000 (routes_of c) one-long in
      rw (length-append, length-append, length-append, length-append) (omega arith)

either-long : (k : ℕ) (a b : List ℕ) → (k ≡ 0 → length a ≤ 47369) → length b ≤ 47369 → length (unless_refused k a b) ≤ 47369
unfolding unless_refused
either-long zero a b h l = h refl
either-long (suc k) a b h l = l

read-long : (r : ChartRead) → (r.refusal ≡ 0 → chart_refusal r.chart ≡ 0) → length (read_text r) ≤ 47369
unfolding read_text
read-long r ok =
    let l = refused-long r.refusal r.place in
    either-long r.refusal (chart_text r.chart) (refused_line r.refusal r.place) (λ z. chart-long r.chart (ok z)) (omega arith)

pub sheet-short : SheetShort
unfolding sheet_text
sheet-short bytes s = go (ltb 4096 (length bytes))
  where
    go : (b : Bool) → length (cond b long_line (read_text (read_chart_of bytes))) ≤ 47369
    go true = omega arith
    go false = read-long (read_chart_of bytes) (read-accepted bytes s (read_chart_of bytes) refl)

-- so is what a writing gives
pub wrote-short : WrittenShort
wrote-short bytes s room n e =
    let h : length (sheet_text bytes) ≤ 47369 = sheet-short bytes s in
    let k : n ≡ length (sheet_text bytes) = e.1 in
    omega arith
