-- `chart_write::storing::chart_size` meets its contract: the nodes' fields, a field for each link and the question's.
use Prim.Native.Nat.{ℕ, ◌*◌}
use mathlib.Core.Path.{ap}
use Rattle.chart_write.proofs.Laws.{length-chart, short}
use native.Mathlib.Omega.{arith}
use Rattle.chart_write.proofs.storing.chart_size.Goals as goal

pub nodes_size-requires : goal.nodes_size-requires
nodes_size-requires c = short c.args.c c.requires

pub returns : goal.returns
returns c =
    omega (
      arith,
      c.nodes_size.ensures.0,
      ap (λ (w : ℕ). w * c.args.c.links.count) c.link_field_size.ensures.0,
      length-chart c.args.c,
    )
