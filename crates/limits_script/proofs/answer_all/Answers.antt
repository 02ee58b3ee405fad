-- `limits_script::answer_all` meets its contract: a turn answers the line at its place, and none begins before the next.
use Rattle.std.proofs.Common.{◌≡◌, ◌+◌, ◌-◌, ℕ, List, [], ◌∷◌, Ok, Bor, take, drop, get_or}
use mathlib.Core.Path.{refl, sym, ap, subst, ◌∙◌}
use Rattle.std.specs.declared.option.Option.{Option}
use Rattle.std.specs.Option.{unwrap_or}
use Rattle.std.specs.List.{slice_get}
use Rattle.limits_script.specs.Private.{line_end, line_at, numbers_of}
use Rattle.limits_script.proofs.Lines.{Answered, AnsweredBefore, one_more}
use Rattle.limits_script.proofs.answer_all.Goals as goal

-- the first byte of a line, or 0
first_or : (line : List ℕ) {n : ℕ} {p q : Option ℕ} → n ≡ unwrap_or p 0 → p ≡ q → q ≡ slice_get line 0 → n ≡ get_or line 0 0
first_or line {n} u e f = u ∙ ap (λ (o : Option ℕ). unwrap_or o 0) (e ∙ f) ∙ go line
  where
    go : (line : List ℕ) → unwrap_or (slice_get line 0) 0 ≡ get_or line 0 0
    go [] = refl
    go (x ∷ l) = refl

pub loop-at-preserved : goal.loop-at-preserved
unfolding line_at
loop-at-preserved g c =
    let text = c.args.text.now in
    let at = c.loop-at.at in
    let P : ℕ → List ℕ → Type 0 = λ letter v. (r : Bor (List ℕ)) × (r.now ≡ v) × g.F.Fn.post c.args.answer (letter, (r, tt)) (Ok tt) in
    let e : c.line_end-end.result ≡ line_end text at = c.line_end-end.ensures.value in
    let whole : (n : ℕ) → List ℕ = λ n. take (n - at) (drop at text) in
    let letter = first_or (whole c.line_end-end.result) c.unwrap_or.ensures c.copied.ensures c.first.ensures.value in
    let numbers : Bor (List ℕ) = record { ref_ptr = (c.answer-arg-1.given, 0); now = c.numbers.result } in
    let found : P (get_or (whole c.line_end-end.result) 0 0) (numbers_of (whole c.line_end-end.result)) =
    (numbers, c.numbers.ensures, subst (λ n. g.F.Fn.post c.args.answer (n, (numbers, tt)) (Ok tt)) letter c.in_ok-answer.ensures) in
    let here : Answered P text at = subst (λ n. P (get_or (whole n) 0 0) (numbers_of (whole n))) e found in
    subst (λ n. AnsweredBefore P text (n + 1)) (sym e) (one_more P text at c.loop-at.invariant here)
