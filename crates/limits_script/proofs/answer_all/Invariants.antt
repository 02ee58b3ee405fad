-- `limits_script::answer_all`: each line that begins before the place is answered. It ends: a line ends within the text, so each turn leaves less of it.
use Rattle.std.proofs.Common.{◌≡◌, List, ℕ, Ok, Bor, length, ◌-◌}
use Rattle.limits_script.proofs.Lines.{AnsweredBefore}
use Rattle.limits_script.proofs.answer_all.Given as goal

abbrev pub invariant-loop-at : goal.invariant-loop-at
invariant-loop-at g l = AnsweredBefore (λ letter v. (r : Bor (List ℕ)) × (r.now ≡ v) × goal.F-post g l.fn.answer letter r (Ok tt)) l.fn.text l.at

abbrev pub decreases-loop-at : goal.decreases-loop-at
decreases-loop-at g l = length l.text - l.at
