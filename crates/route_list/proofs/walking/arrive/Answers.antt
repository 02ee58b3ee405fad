-- `route_list::walking::arrive` meets its contract: where there is no room the route is counted alone; else the path with its length before it is the slot.
use Prim.Native.Nat.{ℕ, ◌+◌, ◌*◌}
use mathlib.Core.Path.{◌≡◌, sym, ap, ◌∙◌}
use mathlib.Core.List.{List}
use native.Mathlib.Omega.{arith}
use borrow.Author.Rules.{rules}
use lib.ListN.{length}
use lib.Seq.{sets}
use Rattle.route_list.specs.Private.{links_in}
use Rattle.route_list.proofs.Stowing.{stow-room, stow-over, path-slot}
use Rattle.route_list.proofs.walking.arrive.Goals as goal

pub returns-then-out-n : goal.returns-then-out-n
returns-then-out-n c =
    let a = c.args in
    let p = c.requires in
    sym (stow-over a.out.now a.n (links_in a.path a.d) (omega arith))

pub returns : goal.returns
returns c =
    let a = c.args in
    let p = c.requires in
    let whole : length a.path ≡ 16 = search rules in
    let w = path-slot a.path a.d whole p.depth p.cleared in
    (λ i. record { bytes = (c.put.ensures ∙ ap (λ (q : List ℕ). sets a.out.now (16 * a.n) q) w) i; count = a.n + 1 })
    ∙ sym (stow-room a.out.now a.n (links_in a.path a.d) (omega arith))
