-- `envelope::refusing::wrong_version` meets its contract: the type decides which version is tested.
use Rattle.envelope.specs.Refusal.{wrong_version}
use borrow.Author.Tests.{eq-eqb, ne_eqb}
use Rattle.envelope.proofs.refusing.wrong_version.Goals as goal

pub returns-then-kind-eq-PAGE_OFFICER : goal.returns-then-kind-eq-PAGE_OFFICER
unfolding wrong_version
returns-then-kind-eq-PAGE_OFFICER c = simp (eq-eqb _ _ c.if-kind-eq-PAGE_OFFICER.true)

pub returns-else-kind-eq-PAGE_OFFICER : goal.returns-else-kind-eq-PAGE_OFFICER
unfolding wrong_version
returns-else-kind-eq-PAGE_OFFICER c = simp (ne_eqb _ _ c.if-kind-eq-PAGE_OFFICER.false)
