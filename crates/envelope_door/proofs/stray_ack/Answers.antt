-- `envelope_door::stray_ack` meets its contract: the tests on the way say which number.
use borrow.Author.Tests.{lt-ltb, le-ltb}
use Rattle.envelope.specs.Refusal.{outside}
use Rattle.envelope_door.specs.Calls.{stray_ack}
use Rattle.envelope_door.proofs.stray_ack.Goals as goal

pub returns-then-count : goal.returns-then-count
unfolding stray_ack outside
returns-then-count c = rw c.if-count.true

pub returns-then-n-gt-LONGEST_CONTENTS : goal.returns-then-n-gt-LONGEST_CONTENTS
unfolding stray_ack outside
returns-then-n-gt-LONGEST_CONTENTS c = rw (c.if-count.false, lt-ltb _ _ c.if-n-gt-LONGEST_CONTENTS.true)

pub returns : goal.returns
unfolding stray_ack outside
returns c = rw (c.if-count.false, le-ltb _ _ c.if-n-gt-LONGEST_CONTENTS.false)
