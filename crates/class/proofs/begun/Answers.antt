-- `class::begun` meets its contract: the digit of the node is the only one.
use Prim.Native.Nat.{ℕ}
use mathlib.Core.Path.{ap}
use Rattle.class.specs.Class.{begun_at}
use Rattle.class.proofs.Meeting.{shifted}
use Rattle.class.proofs.begun.Goals as goal

pub returns : goal.returns
unfolding begun_at
returns c = ap (λ (w : ℕ). record { at = c.args.at; arrival = record { 0 = 0 }; met = w; ending = 0 }) (shifted c.args.at c.requires)
