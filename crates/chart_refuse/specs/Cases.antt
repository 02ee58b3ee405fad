-- Charts given as values: S is accepted; the counts come first, then the first bad value.
use Rattle.std.specs.Prelude.{◌≡◌, refl, true, set}
use Rattle.lists.specs.Chains.{first_refusal_below}
use Rattle.lists.specs.Places.{any_below, element_at}
use Rattle.address.specs.Address.{station_in_range, in_range, same_station, same_address}
use Rattle.chart.specs.declared.Nodes.{Nodes}
use Rattle.chart.specs.declared.Links.{Links}
use Rattle.chart.specs.declared.Chart.{Chart}
use Rattle.chart.specs.Values.{no_chart, node_at, link_at, stray_byte, node_in_range, end_in_range, direction_in_range, link_in_range, stands_at, has_node, ends_at, has_end}
use Rattle.chart.specs.Refusals.{node_refusal_by, link_refusal_by, question_refusal_by, node_refusal, link_refusal, question_refusal}
use Rattle.chart.specs.Sample.{node_s, way_s, link_s, hill, S, S'}
use Rattle.chart_refuse.specs.Refusal.{node_refusal_at, link_refusal_at, chart_values_refusal, chart_refusal}

-- S with other nodes or other links
abbrev pub with_nodes : Nodes → Chart
with_nodes ns = record { nodes = ns; links = S.links; from = S.from; to = S.to }

abbrev pub with_links : Links → Chart
with_links ls = record { nodes = S.nodes; links = ls; from = S.from; to = S.to }

pub record Cases : Type 0 where
  pub right : chart_refusal S ≡ 0
  pub nodes : chart_refusal (with_nodes (record { count = 17; items = S.nodes.items })) ≡ 26
  pub links : chart_refusal (with_links (record { count = 49; form = 2; items = S.links.items })) ≡ 26
  -- a chart of nothing asks about nodes that are not there
  pub none : chart_refusal no_chart ≡ 28
  -- the third node twice, then the first link off its nodes: the node comes first
  pub first : chart_refusal (with_nodes (record { count = 4; items = set S.nodes.items 2 (node_s 20 hill) })) ≡ 27
  -- without its last node, link 2 has an end at none
  pub fewer : chart_refusal (with_nodes (record { count = 3; items = S.nodes.items })) ≡ 28
  -- the second link with an end of the first
  pub used : chart_refusal (with_links (record { count = 6; form = 2; items = set S.links.items 1 (link_s 1 2 21 1 true) })) ≡ 30
  -- the directed form, with every link both ways, and with the second back; a direction beside the plain form; another form, and one without links
  pub directed : chart_refusal S' ≡ 0
  pub back : chart_refusal (with_links (record { count = 6; form = 4; items = set S.links.items 1 (way_s 1 3 21 1 true 2) })) ≡ 0
  pub plain_out : chart_refusal (with_links (record { count = 6; form = 2; items = set S.links.items 1 (way_s 1 3 21 1 true 1) })) ≡ 24
  pub form_3 : chart_refusal (with_links (record { count = 6; form = 3; items = S.links.items })) ≡ 24
  pub form_of_none : chart_refusal (with_links (record { count = 0; form = 3; items = S.links.items })) ≡ 0
  -- a place past the count is not looked at
  pub past : chart_refusal (with_links (record { count = 6; form = 2; items = set S.links.items 6 (link_s 1 0 1 0 true) })) ≡ 0

pub cases : Cases
unfolding S S' no_chart first_refusal_below any_below element_at station_in_range in_range same_station same_address node_at link_at stray_byte node_in_range end_in_range direction_in_range link_in_range stands_at has_node ends_at has_end node_refusal_by link_refusal_by question_refusal_by node_refusal link_refusal question_refusal node_refusal_at link_refusal_at chart_values_refusal chart_refusal
cases = record { right = refl; nodes = refl; links = refl; none = refl; first = refl; fewer = refl; used = refl; directed = refl; back = refl; plain_out = refl; form_3 = refl; form_of_none = refl; past = refl }
