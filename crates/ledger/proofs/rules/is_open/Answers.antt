-- `ledger::rules::is_open` meets its contract: by cases on the standing.
use mathlib.Core.Path.{◌≡◌, refl}
use mathlib.Core.Bool.{false}
use Rattle.ledger.specs.declared.Standing.{Standing}
use Rattle.ledger.specs.declared.Standing.TheVariants.{Open, Acknowledged, Refused, Undeliverable, TimedOut, Waiting}
use Rattle.ledger.specs.Rules.{is_open}
use Rattle.std.proofs.lemmas.Grind.{common_steps}
use native.Mathlib.Omega.{arith}
use borrow.Author.Rules.{rules}
use Rattle.ledger.proofs.rules.is_open.Goals as goal

-- the other standings are settled
settled : (s : Standing) → (s ≡ Open → false ≡ is_open s) → (s ≡ Waiting → false ≡ is_open s) → false ≡ is_open s
unfolding is_open
settled Open h k = h refl
settled Acknowledged h k = refl
settled (Refused set code) h k = refl
settled Undeliverable h k = refl
settled TimedOut h k = refl
settled Waiting h k = k refl

pub returns-in-Open : goal.returns-in-Open
unfolding is_open
returns-in-Open c = search rules

pub returns-in_default : goal.returns-in_default
unfolding is_open
returns-in_default c = settled c.args.s (λ e. grind (arith, common_steps)) (λ e. grind (arith, common_steps))
