-- `ledger_image::put_back` meets its contract: a refusal leaves the image, else at most 128 legs are written.
use mathlib.Core.Path.{refl, sym, ◌∙◌}
use Rattle.lists.specs.Refusals.{unless_refused}
use Rattle.lists.proofs.Refusals.{refused}
use Rattle.refusal.specs.Numbers.{number}
use Rattle.refusal.proofs.Laws.{names}
use Rattle.ledger_image.specs.Ledger.{ledger_after}
use Rattle.ledger_image.proofs.back.put_back.Goals as goal

pub returns-in-Err : goal.returns-in-Err
unfolding ledger_after
returns-in-Err c = rw c.in-Err.is (c.number.ensures, sym (refused _ _ (number c.in-Err.refusal) (names.none_zero c.in-Err.refusal)))

pub returns : goal.returns
unfolding ledger_after unless_refused
returns c = rw c.in_default.is (refl, rw c.min.ensures at c.put_legs.ensures)
