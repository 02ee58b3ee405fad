-- The route lines of the printed sheet (document 01, "The printed sheet"), as ASCII codes.
use Rattle.std.specs.Prelude.{ℕ, zero, suc, List, [], ◌∷◌, ◌++◌}
use Rattle.text.specs.Marks.{ascii, blank, lf}
use Rattle.text.specs.Decimal.{decimal}

-- no more routes than these are listed
abbrev pub most_routes : ℕ
most_routes = 1000

-- link places, each after a blank
unfoldable pub places_text : List ℕ → List ℕ
places_text [] = []
places_text (i ∷ r) = blank ++ decimal i ++ places_text r

-- a route: its link places with a blank between two; `-` for the empty one
unfoldable pub route_line : List ℕ → List ℕ
route_line [] = ascii "-" ++ lf
route_line (i ∷ r) = decimal i ++ places_text r ++ lf

-- the last line of a whole list, and of one that goes on
abbrev pub end_line : List ℕ
end_line = ascii "end\n"

abbrev pub more_line : List ℕ
more_line = ascii "more\n"

-- a line for each of these routes and `end`; after `most` lines, if another route follows, `more` in place of `end`
unfoldable pub list_text : ℕ → List (List ℕ) → List ℕ
list_text most [] = end_line
list_text zero (r ∷ rs) = more_line
list_text (suc most) (r ∷ rs) = route_line r ++ list_text most rs
