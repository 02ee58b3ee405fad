-- `chart_mend::mend` meets its contract: what the first pass counts decides, and both results are copied from where they were laid aside, or sorted once more.
use Prim.Native.Nat.{ℕ, ◌≤◌}
use mathlib.Core.Path.{◌≡◌, sym, ap, ◌∙◌}
use mathlib.Core.Bool.{true}
use mathlib.Core.List.{List}
use native.Mathlib.Omega.{arith}
use lib.ListN.{length, take}
use lib.Seq.{sets}
use borrow.Author.Tests.{not-true, not-false}
use Rattle.std.specs.Prelude.{Ok, Err}
use Rattle.refusal.specs.declared.Refusal.TheVariants.{NoRoom, ChartUnasked, ChartLong}
use Rattle.chart_mend.specs.Mending.{held_of, kept_bytes, list_bytes}
use Rattle.chart_mend.proofs.Mending.{too_long, no_question, no_room, no-list-room, laid-aside, both-short, Comes, comes-refused, comes-taken, mend-answer}
use Rattle.chart_mend.proofs.mend.Goals as goal

pub returns-then-input-gt-LONGEST_INPUT : goal.returns-then-input-gt-LONGEST_INPUT
returns-then-input-gt-LONGEST_INPUT c =
    let a = c.args in
    let w = comes-refused a.input.now a.out.now a.list.now ChartLong (too_long a.input.now (length a.out.now) (length a.list.now) c.if-input-gt-LONGEST_INPUT.true) in
    record { value = w.0; chart = w.1.0; list = w.1.1; answer = mend-answer a.input.now (length a.out.now) (length a.list.now) (Err ChartLong) w.0 }

pub returns-then-not-s : goal.returns-then-not-s
returns-then-not-s c =
    let input : List ℕ = c.args.input.now in
    let out : List ℕ = c.args.out.now in
    let list : List ℕ = c.args.list.now in
    let short : length input ≤ 65535 = c.if-input-gt-LONGEST_INPUT.false in
    let w = comes-refused input out list ChartUnasked
    (no_question input (length out) (length list) short (sym c.sort-s.ensures.asked ∙ not-true _ c.if-not-s.true)) in
    record { value = w.0; chart = w.1.0; list = w.1.1; answer = mend-answer input (length out) (length list) (Err ChartUnasked) w.0 }

pub returns-then-out-s : goal.returns-then-out-s
returns-then-out-s c =
    let input : List ℕ = c.args.input.now in
    let out : List ℕ = c.args.out.now in
    let list : List ℕ = c.args.list.now in
    let short : length input ≤ 65535 = c.if-input-gt-LONGEST_INPUT.false in
    let w = comes-refused input out list NoRoom
    (no_room input (length out) (length list) short (sym c.sort-s.ensures.asked ∙ not-false _ c.if-not-s.false)
    (omega (arith, c.if-out-s.true, c.sort-s.ensures.kept))) in
    record { value = w.0; chart = w.1.0; list = w.1.1; answer = mend-answer input (length out) (length list) (Err NoRoom) w.0 }

pub returns-then-list-s : goal.returns-then-list-s
returns-then-list-s c =
    let input : List ℕ = c.args.input.now in
    let out : List ℕ = c.args.out.now in
    let list : List ℕ = c.args.list.now in
    let short : length input ≤ 65535 = c.if-input-gt-LONGEST_INPUT.false in
    let w = comes-refused input out list NoRoom
    (no-list-room input (length out) (length list) short
    (sym c.sort-s.ensures.asked ∙ not-false _ c.if-not-s.false)
    (omega (arith, c.if-out-s.false, c.sort-s.ensures.kept))
    (omega (arith, c.if-list-s.true, c.sort-s.ensures.listed))) in
    record { value = w.0; chart = w.1.0; list = w.1.1; answer = mend-answer input (length out) (length list) (Err NoRoom) w.0 }

pub returns-then-s : goal.returns-then-s
returns-then-s c =
    let input : List ℕ = c.args.input.now in
    let out : List ℕ = c.args.out.now in
    let list : List ℕ = c.args.list.now in
    let short : length input ≤ 65535 = c.if-input-gt-LONGEST_INPUT.false in
    let asked : (held_of input).asked ≡ true = sym c.sort-s.ensures.asked ∙ not-false _ c.if-not-s.false in
    let comes : (out' list' : List ℕ) → out' ≡ sets out 0 (kept_bytes input) → list' ≡ sets list 0 (list_bytes input) → Comes input out list (Ok (record { kept = c.sort-s.result.kept; listed = c.sort-s.result.listed })) out' list' = λ out' list' p q. comes-taken input out list short asked _ _ c.sort-s.ensures.kept c.sort-s.ensures.listed
    c.if-out-s.false c.if-list-s.false out' list' p q in
    let aside : List ℕ = c.sort-s.new.out in
    let list-aside : List ℕ = c.sort-s.new.list in
    let lengths : (c.sort-s.result.kept ≤ 1113) × (c.sort-s.result.listed ≤ 1536) = both-short c.sort-s.result.kept c.sort-s.result.listed 1113 1536 c.if-s.true in
    let kept_again : take c.sort-s.result.kept aside ≡ kept_bytes input = let e = c.sort-s.ensures in
    laid-aside 1113 (kept_bytes input) aside e.out_after _ e.kept lengths.0 in
    let listed-again : take c.sort-s.result.listed list-aside ≡ list_bytes input = let e = c.sort-s.ensures in
    laid-aside 1536 (list_bytes input) list-aside e.list_after _ e.listed lengths.1 in
    let w = comes _ _
    (c.put_all.ensures ∙ ap (sets out 0) kept_again)
    (c.put_all-then-s.ensures ∙ ap (sets list 0) listed-again) in
    record { value = w.0; chart = w.1.0; list = w.1.1; answer = mend-answer input (length out) (length list) (Ok (record { kept = c.sort-s.result.kept; listed = c.sort-s.result.listed })) w.0 }

pub returns-else-s : goal.returns-else-s
returns-else-s c =
    let input : List ℕ = c.args.input.now in
    let out : List ℕ = c.args.out.now in
    let list : List ℕ = c.args.list.now in
    let short : length input ≤ 65535 = c.if-input-gt-LONGEST_INPUT.false in
    let asked : (held_of input).asked ≡ true = sym c.sort-s.ensures.asked ∙ not-false _ c.if-not-s.false in
    let comes : (out' list' : List ℕ) → out' ≡ sets out 0 (kept_bytes input) → list' ≡ sets list 0 (list_bytes input) → Comes input out list (Ok (record { kept = c.sort-s.result.kept; listed = c.sort-s.result.listed })) out' list' = λ out' list' p q. comes-taken input out list short asked _ _ c.sort-s.ensures.kept c.sort-s.ensures.listed
    c.if-out-s.false c.if-list-s.false out' list' p q in
    let w = comes _ _ c.sort.ensures.out_after c.sort.ensures.list_after in
    record { value = w.0; chart = w.1.0; list = w.1.1; answer = mend-answer input (length out) (length list) (Ok (record { kept = c.sort-s.result.kept; listed = c.sort-s.result.listed })) w.0 }
