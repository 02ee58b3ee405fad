-- `address::same_address` meets its contract: equality of each field, the port before the node.
use mathlib.Core.Path.{◌≡◌, refl, ◌∙◌}
use mathlib.Core.Bool.{Bool, true, false, ◌&&◌}
use lib.Dec.{eqb}
use Rattle.address.specs.Address.{same_station, same_address}
use Rattle.address.proofs.same_address.Goals as goal

exchange : (b p n : Bool) → (b && (p && n)) ≡ ((b && n) && p)
exchange false p n = refl
exchange true true true = refl
exchange true true false = refl
exchange true false true = refl
exchange true false false = refl

pub returns : goal.returns
unfolding same_address same_station
returns c =
    let a = c.args.a in
    let b = c.args.b in
    c.eq.ensures ∙ exchange (eqb a.brigade b.brigade) (eqb a.port.0 b.port.0) (eqb a.node.0 b.node.0)
