-- `buffer::put_zeros` meets its contract: the stores that are left out lie past the end, and would change nothing.
use Prim.Native.Nat.{ℕ, ◌+◌, ◌-◌, ◌≤◌}
use mathlib.Core.Path.{◌≡◌, sym, ap, ◌∙◌}
use mathlib.Core.List.{List}
use lib.ListN.{length, take, drop, replicate, length-replicate}
use Rattle.std.proofs.lemmas.List.{length-take-le, length-drop}
use Rattle.lists.proofs.Stores.{sets-past, same-cut, sets-part}
use native.Mathlib.Omega.{arith}
use Rattle.buffer.proofs.put_zeros.Goals as goal

-- zeros in a part of k places, filled whole
zeros : (l new : List ℕ) (at k : ℕ) → at + k ≤ length l → new ≡ replicate (length (take k (drop at l))) 0 → new ≡ replicate k 0
zeros l new at k h e = e ∙ ap (λ (n : ℕ). replicate n 0) (length-take-le k (drop at l) (rw length-drop (omega arith)))

pub returns-then-out-at : goal.returns-then-out-at
returns-then-out-at c = sym (sets-past (replicate c.args.n 0) c.args.out.now c.args.at c.if-out-at.true)

pub returns-then-room-n : goal.returns-then-room-n
returns-then-room-n c =
    let out = c.args.out.now in
    let at = c.args.at in
    let room = length out - at in
    sets-part out (replicate room 0) _ at room (zeros out _ at room (omega arith) (c.fill.ensures.after (λ y e. e))) (length-replicate room 0) (omega arith)
    ∙ same-cut 0 out at room c.args.n (omega arith) (omega arith)

pub returns : goal.returns
returns c =
    let out = c.args.out.now in
    let at = c.args.at in
    let n = c.args.n in
    let k = at + n - at in
    sets-part out (replicate n 0) _ at k (zeros out _ at k (omega arith) (c.fill-2.ensures.after (λ y e. e)) ∙ ap (λ (m : ℕ). replicate m 0) (omega arith)) (length-replicate n 0 ∙ omega arith) (omega arith)
