-- The theorems of demand 2 on envelopes: read-undoes-write, write-undoes-read; and the numbers that the writer gives, writer-numbers.
use Prim.Native.Nat.{ℕ}
use mathlib.Core.Path.{◌≡◌, refl, sym, ap, ◌∙◌}
use mathlib.Core.List.{List, ◌++◌}
use mathlib.Core.Bool.{Bool, true, false}
use lib.Dec.{ltb}
use lib.ListN.{length, take, drop}
use lib.Seq.{take_at}
use Rattle.lists.specs.Places.{element_at, repeats}
use Rattle.lists.specs.Refusals.{refuse, or_else, among}
use Rattle.buffer.proofs.Writing.{wrote-taken}
use Rattle.lists.proofs.Refusals.{taken}
use Rattle.address.specs.Address.{zero_address, same_address}
use Rattle.envelope.specs.Frame.{fields_of}
use Rattle.envelope.specs.Refusal.{most_destinations, longest_contents, lowest_priority, outside, out_of_range, wrong_version, values_refusal_by}
use Rattle.envelope_read.specs.Read.{read_frame_of}
use Rattle.envelope_read.specs.Parts.{contents_of, destinations_of}
use Rattle.envelope_read.proofs.Laws.{read-envelope}
use Rattle.buffer.specs.Writing.{Wrote}
use Rattle.envelope_write.specs.Refusal.{size_for, frame_write_refusal}
use Rattle.envelope_write.specs.Write.{frame_bytes, write_frame_of, after_of}
use Rattle.envelope_write.specs.Promises.{ReadUndoesWrite, WriteUndoesRead, writer_refusals, WriterNumbers}
use Rattle.envelope_write.proofs.RefuseLaws.{write-taken}
use Rattle.envelope_write.proofs.Laws.{length-bytes, wrote}
use Rattle.envelope_write.proofs.ReadBack.{fields_read, contents-read, destinations-read}
use Rattle.envelope_write.proofs.WriteBack.{taken-again, bytes-again}

-- reading undoes writing, of whatever the writer takes
pub read_undoes_write : ReadUndoesWrite
unfolding write_frame_of after_of
read_undoes_write e d l out n h =
    let w = wrote e d (length l) (length out) h in
    let z = write-taken e d (length l) (length out) w.0 in
    let b : take n (after_of e d l out) ≡ frame_bytes e d l =
    ap (take n) (taken _ _ w.0) ∙ take_at (frame_bytes e d l) (drop (length (frame_bytes e d l)) out) n (length-bytes e d l ∙ sym w.1) in
    record {
      fields = ap read_frame_of b ∙ fields_read e d l z;
      contents = ap contents_of b ∙ contents-read e d l z;
      destinations = ap destinations_of b ∙ destinations-read e d l z;
    }

-- writing undoes reading, of any frame of bytes that the reader takes
pub write_undoes_read : WriteUndoesRead
unfolding write_frame_of after_of
write_undoes_read f b e h out room =
    let o = read-envelope f e (sym h) in
    let d = element_at zero_address (destinations_of f).addresses in
    let z = taken-again f b o.none (length out) room in
    let s : frame_bytes (fields_of f) d (contents_of f) ≡ f = bytes-again f b o.none in
    rw o.same
    (record {
      answer = sym (wrote-taken _ z) ∙ ap Wrote (sym (length-bytes (fields_of f) d (contents_of f)) ∙ ap length s);
      bytes = taken _ _ z ∙ ap (λ (x : List ℕ). x ++ drop (length x) out) s;
    })

-- the tests come after one another, and each has its number
by_tests : (a b c d e f g : Bool)
    → among (or_else (refuse 4 a (refuse 5 b (refuse 6 c (refuse 7 d (refuse 8 e (refuse 9 f 0)))))) (refuse 10 g 0)) writer_refusals ≡ true
by_tests true b c d e f g = refl
by_tests false true c d e f g = refl
by_tests false false true d e f g = refl
by_tests false false false true e f g = refl
by_tests false false false false true f g = refl
by_tests false false false false false true g = refl
by_tests false false false false false false true = refl
by_tests false false false false false false false = refl

-- the numbers that the writer gives
pub writer-numbers : WriterNumbers
unfolding frame_write_refusal values_refusal_by
writer-numbers e d n room =
    by_tests
    (outside most_destinations e.count)
    (ltb longest_contents n)
    (out_of_range e d)
    (outside lowest_priority e.priority)
    (repeats same_address d e.count)
    (wrong_version e.version e.kind)
    (ltb room (size_for e n))
