-- `chart_read::bodies::field_end` meets its contract: a field that begins past the input's end is cut short too.
use Prim.Native.Nat.{ℕ, min}
use mathlib.Core.Path.{ap, ◌∙◌}
use native.Mathlib.Omega.{arith}
use lib.ListN.{length}
use Rattle.chart_read.proofs.Laws.{end-cut, end-least}
use Rattle.chart_read.proofs.bodies.field_end.Goals as goal

pub returns-then-bytes-at : goal.returns-then-bytes-at
returns-then-bytes-at c = end-cut _ _ (omega (arith, c.if-bytes-at.true))

pub returns : goal.returns
returns c = c.min.ensures ∙ ap (λ (k : ℕ). min k (length c.args.bytes.now)) c.past_field.ensures ∙ end-least _ _
