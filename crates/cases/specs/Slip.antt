-- The slip that document 01 warns of: nodes found by their labels. P1 would not hold with it.
use Rattle.std.specs.Prelude.{ℕ, ◌≡◌, List, [], ◌∷◌}
use Rattle.std.proofs.Math.Option.{Option, none, some}
use Rattle.lists.specs.Places.{first_below}
use Rattle.chart.specs.declared.Nodes.{Nodes}
use Rattle.chart.specs.declared.Chart.{Chart}
use Rattle.chart.specs.Values.{node_at}
use Rattle.chart.specs.Sample.{bytes_s}
use Rattle.route.specs.All.{all_routes, same_links}
use Rattle.chart_net.specs.Net.{station_place, far_end, start, routes_of}
use Rattle.cases.specs.Questions.{chart_from}

-- the first node with the label of the node at a place
abbrev pub label_place : Nodes → ℕ → ℕ
label_place ns a = first_below (λ i. same_links (node_at ns i).label (node_at ns a).label) ns.count

-- a far end, taken for the first node with its label
abbrev pub relabelled : Nodes → Option ℕ → Option ℕ
relabelled ns none = none
relabelled ns (some f) = some (label_place ns f)

-- the routes if each link led to the first node with its far end's label
abbrev pub routes_by_label : Chart → List (List ℕ)
routes_by_label c =
    all_routes (record { nodes = c.nodes.count; links = c.links.count; far = λ i a. relabelled c.nodes (far_end c.nodes c.links i a); goal = station_place c.nodes c.to })
    (start c)

-- on S the two nodes labelled Hill would be one: two routes in place of four
pub record Slipped : Type 0 where
  pub right : routes_of (chart_from bytes_s) ≡ (0 ∷ 2 ∷ []) ∷ (0 ∷ 4 ∷ 3 ∷ []) ∷ (1 ∷ 3 ∷ []) ∷ (1 ∷ 4 ∷ 2 ∷ []) ∷ []
  pub wrong : routes_by_label (chart_from bytes_s) ≡ (0 ∷ 2 ∷ []) ∷ (1 ∷ 2 ∷ []) ∷ []
