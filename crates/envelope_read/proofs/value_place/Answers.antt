-- `envelope_read::value_place` meets its contract: by cases on the refusal.
use borrow.Author.Tests.{ne_eqb}
use Rattle.refusal.specs.declared.Refusal.TheVariants.{FrameCount, FrameRepeated}
use Rattle.refusal.proofs.Laws.{names}
use Rattle.envelope_read.specs.Private.{value_place}
use Rattle.envelope_read.proofs.value_place.Goals as goal

pub returns-in-FrameCount : goal.returns-in-FrameCount
unfolding value_place
returns-in-FrameCount c = rw c.in-FrameCount.is

pub returns-in-FrameRepeated : goal.returns-in-FrameRepeated
unfolding value_place
returns-in-FrameRepeated c = rw c.in-FrameRepeated.is c.destination_place.ensures

pub returns-in_default : goal.returns-in_default
unfolding value_place
returns-in_default c =
    let d = c.in_default in
    rw (ne_eqb _ _ (λ h. d.not-FrameCount (names.one _ FrameCount h)), ne_eqb _ _ (λ h. d.not-FrameRepeated (names.one _ FrameRepeated h)))
    c.destination_place-in_default.ensures
