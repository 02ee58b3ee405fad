-- Route lines by example.
use Rattle.std.specs.Prelude.{◌≡◌, refl, [], ◌∷◌}
use Rattle.text.specs.Marks.{ascii}
use Rattle.text.specs.Decimal.{digits}
use Rattle.sheet_routes.specs.RouteLines.{places_text, route_line, list_text}

-- a route, the empty one; and two routes, of which one, two and three lines are allowed
pub record Cases : Type 0 where
  pub three : route_line (0 ∷ 4 ∷ 3 ∷ []) ≡ ascii "0 4 3\n"
  pub none : route_line [] ≡ ascii "-\n"
  pub goes_on : list_text 1 ((0 ∷ []) ∷ (47 ∷ []) ∷ []) ≡ ascii "0\nmore\n"
  pub just : list_text 2 ((0 ∷ []) ∷ (47 ∷ []) ∷ []) ≡ ascii "0\n47\nend\n"
  pub ends : list_text 3 ((0 ∷ []) ∷ (47 ∷ []) ∷ []) ≡ ascii "0\n47\nend\n"

pub cases : Cases
unfolding digits places_text route_line list_text
cases = record { three = refl; none = refl; goes_on = refl; just = refl; ends = refl }
