-- Where links lead, and the links of a node as a set, by example.
use Rattle.std.specs.Prelude.{ℕ, ◌≡◌, refl, true, false, [], ◌∷◌}
use Rattle.std.proofs.Math.Option.{Option, none, some}
use Rattle.lists.specs.Places.{any_below}
use Rattle.route.specs.Route.{Net}
use Rattle.route_links.specs.Arrays.{node_place, is_out, is_back, other_end, far_node, net}
use Rattle.route_links.specs.Sets.{has, where_from, places_in}
use Rattle.route_links.specs.ByNode.{leads_out, leads_into, links_out, links_into, joins, nodes_into}

-- the other end of the link from node 3 to node 5, passed in a way
abbrev pub between : ℕ → ℕ → Option ℕ
between way n = other_end (3 ∷ 5 ∷ []) way n

-- five links: 0 to 1 both ways, 1 to 0 out, 1 to 2 off, 2 to 0 back, 1 to itself
abbrev pub five : Net
five = net ((0 ∷ 1 ∷ []) ∷ (1 ∷ 0 ∷ []) ∷ (1 ∷ 2 ∷ []) ∷ (2 ∷ 0 ∷ []) ∷ (1 ∷ 1 ∷ []) ∷ []) (1 ∷ 2 ∷ 0 ∷ 3 ∷ 1 ∷ []) 5 2

pub record Cases : Type 0 where
  -- a link of each way, from both of its ends; 0 and what is no way are not passed
  pub off : (between 0 3 ≡ none) × (between 0 5 ≡ none)
  pub both : (between 1 3 ≡ some 5) × (between 1 5 ≡ some 3)
  pub out : (between 2 3 ≡ some 5) × (between 2 5 ≡ none)
  pub back : (between 3 3 ≡ none) × (between 3 5 ≡ some 3)
  pub no_way : (between 4 3 ≡ none) × (between 4 5 ≡ none)
  -- it has no end at another node, and one at place 16 is at none
  pub elsewhere : between 1 4 ≡ none
  pub nowhere : other_end (3 ∷ 16 ∷ []) 1 3 ≡ none
  -- 37 is 1 and 4 and 32: the places 0, 2 and 5
  pub places : places_in 37 ≡ 0 ∷ 2 ∷ 5 ∷ []
  pub digits : (has 37 2 ≡ true) × (has 37 3 ≡ false)
  -- the link to itself leads neither out nor in
  pub from_0 : links_out five 0 ≡ 0 ∷ 3 ∷ []
  pub from_1 : links_out five 1 ≡ 0 ∷ 1 ∷ []
  pub from_2 : links_out five 2 ≡ []
  pub to_0 : links_into five 0 ≡ 0 ∷ 1 ∷ []
  pub to_1 : links_into five 1 ≡ 0 ∷ []
  pub to_2 : links_into five 2 ≡ 3 ∷ []
  -- a node counts once, however many links lead from it
  pub nodes : (nodes_into five 0 ≡ 1 ∷ []) × (nodes_into five 1 ≡ 0 ∷ []) × (nodes_into five 2 ≡ 0 ∷ [])

pub cases : Cases
unfolding any_below node_place is_out is_back other_end far_node has where_from places_in leads_out leads_into links_out links_into joins nodes_into
cases =
    record {
      off = (refl, refl);
      both = (refl, refl);
      out = (refl, refl);
      back = (refl, refl);
      no_way = (refl, refl);
      elsewhere = refl;
      nowhere = refl;
      places = refl;
      digits = (refl, refl);
      from_0 = refl;
      from_1 = refl;
      from_2 = refl;
      to_0 = refl;
      to_1 = refl;
      to_2 = refl;
      nodes = (refl, refl, refl);
    }
