-- `sheet_routes::put_places` meets its contract: a place more is laid in each turn.
use native.Mathlib.Omega.{arith}
use Rattle.text.proofs.Joining.{done, ◌▸◌}
use Rattle.sheet_routes.proofs.Routes.{places-none, place-on}
use Rattle.sheet_routes.proofs.put_places.Goals as goal

pub loop-i-preserved : goal.loop-i-preserved
loop-i-preserved c =
    let at = c.loop-i in
    let refusal = c.put_number-next in
    let put = c.put_byte-next in (
      omega (arith, refusal.auto.out, put.auto.out),
      omega (arith, refusal.ensures.place),
      place-on c.args.r.now at.i (omega arith) at.invariant.2 (put.ensures ▸ refusal.ensures),
    )

pub returns : goal.returns
returns c =
    let at = c.loop-i in
    done _ _ (places-none c.args.r.now at.i (omega arith)) at.invariant.1 (omega arith) at.invariant.2
