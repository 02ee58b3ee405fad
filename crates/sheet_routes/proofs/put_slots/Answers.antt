-- `sheet_routes::put_slots` meets its contract: the line of a slot more is laid in each turn.
use native.Mathlib.Omega.{arith}
use Rattle.text.proofs.Joining.{done, said}
use Rattle.sheet_routes.proofs.Routes.{lines_none, line_on, route-line}
use Rattle.sheet_routes.proofs.put_slots.Goals as goal

pub loop-k-preserved : goal.loop-k-preserved
loop-k-preserved c =
    let a = c.args in
    let l = c.loop-k in
    let put = c.put_route-next in (
      omega (arith, put.auto.out),
      omega (arith, put.ensures.place),
      line_on a.slots.now l.k a.n (omega arith) l.invariant.2 (said (route-line a.slots.now l.k) put.ensures),
    )

pub returns : goal.returns
returns c =
    let a = c.args in
    let l = c.loop-k in
    done _ _ (lines_none a.slots.now l.k a.n (omega arith)) l.invariant.1 (omega arith) l.invariant.2
