-- `envelope_write::out_of_range` meets its contract: the source, the sequence number and the destinations.
use mathlib.Core.Bool.{not}
use lib.Dec.{ltb}
use Rattle.lists.proofs.Bools.{or_assoc}
use Rattle.address.specs.Address.{in_range, largest_seq}
use Rattle.envelope.specs.Refusal.{out_of_range}
use Rattle.envelope_write.proofs.refusing.out_of_range.Goals as goal

pub returns : goal.returns
unfolding out_of_range
returns c =
    let a = c.args in
    rw (c.in_range.ensures, c.any_stray.ensures) (or_assoc (not (in_range a.e.source)) (ltb largest_seq a.e.seq.0) _)
