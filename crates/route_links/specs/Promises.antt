-- What the table of a net is (document 02, Ten). proofs/Promises.antt has the theorem.
use Rattle.std.specs.Prelude.{◌≡◌, List, ℕ}
use Rattle.route.specs.Route.{Net}
use Rattle.route_links.specs.ByNode.{ByNode}

-- a net has one table
abbrev pub OneTable : Type 0
OneTable = (G : Net) (t u : List ℕ) → ByNode G t → ByNode G u → t ≡ u
