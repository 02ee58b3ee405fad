-- The lines of the slots from k on, laid from here, give the whole.
use Prim.Native.Nat.{◌≤◌, ◌-◌, ◌+◌, min}
use mathlib.Core.Path.{◌≡◌}
use lib.ListN.{length}
use lib.Seq.{sets}
use Rattle.text.specs.Private.{Laid, last}
use Rattle.sheet_routes.specs.Private.{routes_from, lines_text}
use Rattle.sheet_routes.proofs.put_slots.Given as goal

abbrev pub invariant-loop-k : goal.invariant-loop-k
invariant-loop-k l =
    let text = lines_text (routes_from l.slots 0 l.n) in
    (length l.out ≡ length l.initial.out) × (l.next ≤ last) × Laid l.out l.next (lines_text (routes_from l.slots l.k (l.n - l.k))) (sets l.initial.out l.at text) (min (l.at + length text) last)
