-- The theorem of the parts: the contents are exactly the frame's part.
use Prim.Native.Nat.{ℕ, ◌+◌, ◌-◌}
use mathlib.Core.Path.{◌≡◌, sym}
use mathlib.Core.List.{List, [], ◌∷◌, ◌++◌, append_assoc}
use native.Mathlib.Omega.{arith}
use lib.ListN.{length, take, take-append-drop}
use lib.Seq.{take-add}
use Rattle.envelope.specs.Frame.{length_of, count_of, contents_offset, fields_of, check_of}
use Rattle.envelope.specs.Refusal.{frame_refusal}
use Rattle.envelope_read.specs.Parts.{contents_of}
use Rattle.envelope_read.specs.Promises.{ContentsStand}
use Rattle.envelope.proofs.Laws.{accepted, last_byte}
use Rattle.envelope_read.proofs.Laws.{read-envelope}
use Rattle.envelope_read.proofs.PartsLaws.{contents-taken, contents-at-taken, contents-long}

part-stands : (f : List ℕ) → frame_refusal f ≡ 0
    → f ≡ take (contents_offset (count_of f)) f ++ (contents_of f ++ (check_of (take (contents_offset (count_of f) + length_of f) f) ∷ []))
part-stands f z =
    let n : length f - 1 ≡ contents_offset (count_of f) + length_of f = omega (arith, (accepted f z).frame.sized) in
    sym (rw (contents-taken f z, ← append_assoc, ← take-add (contents_offset (count_of f)) (length_of f) f, ← n, ← last_byte f z) (take-append-drop (length f - 1) f))

-- the contents of an accepted frame
pub contents-stand : ContentsStand
unfolding fields_of
contents-stand f e h =
    let o = read-envelope f e (sym h) in
    rw o.same (record { long = contents-long f o.none; begins = contents-at-taken f o.none; stands = part-stands f o.none })
