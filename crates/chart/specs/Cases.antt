-- Each number of a node, a link and a question after those of S, by example (document 01, "The chart"; document 02, Five).
use Rattle.std.specs.Prelude.{ℕ, ◌≡◌, refl, Bool, true, false, List, [], ◌∷◌, replicate}
use Rattle.lists.specs.Places.{any_below, element_at}
use Rattle.address.specs.Address.{station_in_range, in_range, same_station, same_address}
use Rattle.chart.specs.declared.Nodes.{Nodes}
use Rattle.chart.specs.declared.Links.{Links}
use Rattle.chart.specs.Values.{node_at, link_at, stray_byte, node_in_range, end_in_range, direction_in_range, link_in_range, stands_at, has_node, ends_at, has_end}
use Rattle.chart.specs.Refusals.{node_refusal_by, link_refusal_by, question_refusal_by, node_refusal, link_refusal, question_refusal}
use Rattle.chart.specs.Sample.{station_s, node_s, way_s, link_s, hill, S}

-- after the nodes and links of S
abbrev pub node_after_s : Bool → ℕ → List ℕ → ℕ
node_after_s late n label = node_refusal late S.nodes (node_s n label)

abbrev pub link_after_s : Bool → ℕ → ℕ → ℕ → ℕ → ℕ
link_after_s late a p b q = link_refusal late 2 S.nodes S.links (link_s a p b q true)

-- a link that could come next, of a form and with a direction
abbrev pub way_after_s : Bool → ℕ → ℕ → ℕ
way_after_s late form direction = link_refusal late form S.nodes S.links (way_s 1 5 20 4 true direction)

-- so many nodes at one station, so many links with the same ends
abbrev pub crowd : ℕ → Nodes
crowd n = record { count = n; items = replicate 16 (node_s 1 []) }

abbrev pub bundle : ℕ → Links
bundle n = record { count = n; form = 2; items = replicate 48 (link_s 1 2 20 1 true) }

pub record Cases : Type 0 where
  -- a node: 23 to 27
  pub node : node_after_s false 40 hill ≡ 0
  pub long : node_after_s true 1024 (replicate 25 31) ≡ 23
  pub longest : node_after_s false 40 (replicate 24 126) ≡ 0
  pub control_byte : node_after_s true 40 (31 ∷ []) ≡ 24
  pub rubout : node_after_s true 40 (127 ∷ []) ≡ 24
  pub blank : node_after_s false 40 (32 ∷ []) ≡ 0
  pub number : node_after_s true 1024 hill ≡ 24
  pub late : node_after_s true 20 hill ≡ 25
  pub seventeenth : node_refusal false (crowd 16) (node_s 1 hill) ≡ 26
  pub sixteenth : node_refusal false (crowd 15) (node_s 2 hill) ≡ 0
  pub twice : node_after_s false 20 [] ≡ 27
  -- a link: 24 to 30
  pub link : link_after_s false 1 5 20 4 ≡ 0
  pub port_0 : link_after_s true 1 0 20 4 ≡ 24
  pub port_64 : link_after_s true 1 5 20 64 ≡ 24
  pub port_63 : link_after_s false 1 63 20 63 ≡ 0
  -- a direction: 0 beside the plain form, 0 to 2 beside the directed one, none beside another
  pub plain_both : way_after_s false 2 0 ≡ 0
  pub plain_out : way_after_s true 2 1 ≡ 24
  pub directed_both : way_after_s false 4 0 ≡ 0
  pub directed_out : way_after_s false 4 1 ≡ 0
  pub directed_back : way_after_s false 4 2 ≡ 0
  pub direction_3 : way_after_s true 4 3 ≡ 24
  pub form_3 : way_after_s true 3 0 ≡ 24
  pub link_late : link_after_s true 1 5 99 4 ≡ 25
  pub forty_ninth : link_refusal false 2 S.nodes (bundle 48) (link_s 99 5 99 4 true) ≡ 26
  pub forty_eighth : link_refusal false 2 S.nodes (bundle 47) (link_s 1 5 20 4 true) ≡ 0
  pub nowhere : link_after_s false 99 5 99 4 ≡ 28
  pub from_nowhere : link_after_s false 99 5 20 4 ≡ 28
  pub itself : link_after_s false 1 2 1 3 ≡ 29
  pub used : link_after_s false 1 2 20 4 ≡ 30
  pub used_far : link_after_s false 1 5 20 1 ≡ 30
  pub used_crosswise : link_after_s false 20 1 1 5 ≡ 30
  -- the question: 24, 25, 28
  pub question : question_refusal false S.nodes (station_s 1) (station_s 1) ≡ 0
  pub stray : question_refusal true S.nodes (station_s 1) (station_s 1024) ≡ 24
  pub again : question_refusal true S.nodes (station_s 1) (station_s 99) ≡ 25
  pub to_nowhere : question_refusal false S.nodes (station_s 1) (station_s 99) ≡ 28
  pub asked_from_nowhere : question_refusal false S.nodes (station_s 99) (station_s 1) ≡ 28

pub cases : Cases
unfolding S any_below element_at station_in_range in_range same_station same_address node_at link_at stray_byte node_in_range end_in_range direction_in_range link_in_range stands_at has_node ends_at has_end node_refusal_by link_refusal_by question_refusal_by node_refusal link_refusal question_refusal
cases =
    record {
      node = refl;
      long = refl;
      longest = refl;
      control_byte = refl;
      rubout = refl;
      blank = refl;
      number = refl;
      late = refl;
      seventeenth = refl;
      sixteenth = refl;
      twice = refl;
      link = refl;
      port_0 = refl;
      port_64 = refl;
      port_63 = refl;
      plain_both = refl;
      plain_out = refl;
      directed_both = refl;
      directed_out = refl;
      directed_back = refl;
      direction_3 = refl;
      form_3 = refl;
      link_late = refl;
      forty_ninth = refl;
      forty_eighth = refl;
      nowhere = refl;
      from_nowhere = refl;
      itself = refl;
      used = refl;
      used_far = refl;
      used_crosswise = refl;
      question = refl;
      stray = refl;
      again = refl;
      to_nowhere = refl;
      asked_from_nowhere = refl;
    }
