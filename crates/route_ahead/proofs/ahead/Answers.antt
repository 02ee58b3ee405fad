-- `route_ahead::ahead` meets its contract: a goal that is no node's place is not reached; else the flood tells.
use mathlib.Core.Bool.{true, not, ◌&&◌}
use mathlib.Core.Path.{◌≡◌, subst}
use mathlib.Core.List.{List}
use Prim.Native.Nat.{ℕ, suc, ◌-◌, ◌^◌, ◌<◌}
use native.Mathlib.Omega.{arith}
use lib.Count.{count_trailing_zeros}
use lib.Dec.{eqb, ltb}
use Rattle.route_ahead.proofs.Looking.{Flood, Next, next-node, goes_on, ended, starts, turns, turn_small, all-worth, end-worth, no-goal}
use Rattle.route_ahead.proofs.ahead.Goals as goal

-- a turn has a node to go on from, and is one of those left
record Turn (t : List ℕ) (gone front seen live left : ℕ) : Type 0 where
  pub node : Next front (count_trailing_zeros 16 front)
  pub flood : Flood t gone front seen live (suc (left - 1))

turn : (t : List ℕ) (gone front seen live left : ℕ) → (front < 2 ^ 16) × Flood t gone front seen live left → (not (eqb front 0) && ltb 0 left) ≡ true
    → Turn t gone front seen live left
turn t gone front seen live left w e =
    let more = goes_on front left e in
    let one : left ≡ suc (left - 1) = omega (arith, more) in
    record { node = next-node front w.0 more.0; flood = subst (λ (n : ℕ). Flood t gone front seen live n) one w.1 }

pub returns-then-t : goal.returns-then-t
returns-then-t c = λ at A. no-goal _ _ _ at A c.if-t.true

pub loop-front-init : goal.loop-front-init
loop-front-init c = (omega arith, starts _ _ (omega (arith, c.if-t.false)))

pub returns-then-links-live : goal.returns-then-links-live
returns-then-links-live c =
    let a = c.args in
    let l = c.loop-front in
    let u = turn a.t.now a.gone l.front l.seen l.live l.left l.invariant c.loop-front-test.true in
    λ at A. all-worth _ _ _ at A _ _ _ _ (turns a.t.now a.gone l.front l.seen l.live (l.left - 1) _ l.invariant.0 u.node u.flood) c.if-links-live.true

pub loop-front-preserved : goal.loop-front-preserved
loop-front-preserved c =
    let a = c.args in
    let l = c.loop-front in
    let u = turn a.t.now a.gone l.front l.seen l.live l.left l.invariant c.loop-front-test.true in
    (turn_small a.t.now a.gone l.front l.seen l.live (l.left - 1) _ l.invariant.0 u.node, turns a.t.now a.gone l.front l.seen l.live (l.left - 1) _ l.invariant.0 u.node u.flood)

pub returns : goal.returns
returns c =
    let l = c.loop-front in
    λ at A. end-worth _ _ _ at A l.front l.seen l.live l.left l.invariant.1 l.invariant.0 (ended l.front l.left c.loop-front-test.false)
