-- `chart_read::bodies::label_in` meets its contract: the row begins with the bytes that are copied.
use mathlib.Core.Path.{◌≡◌}
use Prim.Native.Nat.{◌+◌, ◌-◌}
use native.Mathlib.Omega.{arith}
use Rattle.chart_read.proofs.Laws.{label-row}
use Rattle.chart_read.proofs.bodies.label_in.Goals as goal

pub returns : goal.returns
returns c =
    let e : 3 + c.args.n - 3 ≡ c.args.n = omega arith in
    rw (c.copy_from_slice.ensures.after, e) (label-row c.args.b.now 3 c.args.n (omega arith))
