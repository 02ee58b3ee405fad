-- The places from i on, laid from here, give the whole.
use Prim.Native.Nat.{◌≤◌, ◌+◌, min}
use mathlib.Core.Path.{◌≡◌}
use lib.ListN.{length, drop}
use lib.Seq.{sets}
use Rattle.text.specs.Private.{Laid, last}
use Rattle.sheet_routes.specs.RouteLines.{places_text}
use Rattle.sheet_routes.proofs.put_places.Given as goal

abbrev pub invariant-loop-i : goal.invariant-loop-i
invariant-loop-i l =
    let text = places_text (drop 1 l.r) in
    (length l.out ≡ length l.initial.out) × (l.next ≤ last) × Laid l.out l.next (places_text (drop l.i l.r)) (sets l.initial.out l.at text) (min (l.at + length text) last)
