-- The theorem of the reader: reader-numbers.
use Prim.Native.Nat.{◌-◌}
use mathlib.Core.Path.{◌≡◌, refl}
use mathlib.Core.Bool.{Bool, true, false, not}
use lib.Dec.{eqb, ltb}
use lib.ListN.{length, get_or, take, drop}
use borrow.Author.Tests.{le-ltb}
use Rattle.lists.specs.Refusals.{refuse, or_else, among}
use Rattle.lists.specs.Places.{repeats}
use Rattle.address.specs.Address.{same_address}
use Rattle.envelope.specs.Frame.{destinations_offset, length_of, size_of, fields_of, destination_at, check_of}
use Rattle.envelope.specs.Refusal.{most_destinations, lowest_priority, outside, wrong_version, whole_refusal, values_refusal_by, frame_refusal}
use Rattle.envelope_read.specs.Promises.{reader_refusals, ReaderNumbers}
use Rattle.envelope.proofs.Laws.{length-le, never-out}

-- the tests of 5 and 6 fail, so whatever the others say the number is one of the rest
by_tests : (b c d p q r s : Bool)
    → among (or_else (refuse 1 b (refuse 2 c (refuse 3 d 0))) (refuse 4 p (refuse 5 false (refuse 6 false (refuse 7 q (refuse 8 r (refuse 9 s 0))))))) reader_refusals ≡ true
by_tests true c d p q r s = refl
by_tests false true d p q r s = refl
by_tests false false true p q r s = refl
by_tests false false false true q r s = refl
by_tests false false false false true r s = refl
by_tests false false false false false true s = refl
by_tests false false false false false false true = refl
by_tests false false false false false false false = refl

-- the numbers that a reader of bytes gives
pub reader-numbers : ReaderNumbers
unfolding frame_refusal whole_refusal values_refusal_by
reader-numbers f b =
    rw (le-ltb 1023 (length_of f) (length-le f b), never-out f b)
    (by_tests
    (ltb (length f) (size_of f))
    (ltb (size_of f) (length f))
    (not (eqb (check_of (take (length f - 1) f)) (get_or f (length f - 1) 0)))
    (outside most_destinations (fields_of f).count)
    (outside lowest_priority (fields_of f).priority)
    (repeats same_address (destination_at (drop destinations_offset f)) (fields_of f).count)
    (wrong_version (fields_of f).version (fields_of f).kind))
