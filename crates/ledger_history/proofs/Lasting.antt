-- A line keeps its place from call to call: what stands there later has grown from what stood there before.
use Prim.Native.Nat.{ℕ, ◌+◌, ◌-◌, ◌≤◌, ◌<◌}
use mathlib.Core.Path.{◌≡◌, refl, sym, ap, subst, ◌∙◌}
use mathlib.Core.Bool.{Bool, true, false, cond}
use mathlib.Core.List.{List, [], ◌∷◌, ◌++◌, map}
use native.Mathlib.Omega.{arith}
use lib.Dec.{eqb}
use lib.ListN.{length, take, drop, length-append, length-map, get_or-append}
use lib.Seq.{take-add}
use Rattle.lists.specs.Places.{firsts}
use Rattle.envelope.specs.Frame.{destinations_offset, fields_of, destination_at}
use Rattle.ledger.specs.Rules.{no_leg}
use Rattle.ledger_accept.specs.Accept.{leg_for_at}
use Rattle.ledger_laws.specs.Calls.{Call, accepting, answering, ticking, clearing}
use Rattle.ledger_history.specs.Log.{Made}
use Rattle.ledger_history.specs.Account.{ticked, Line, new_line, noted, noted_if_for, strike, written, account_from, account}
use Rattle.ledger_history.proofs.Growing.{Grown, same_line, grown-on, line_at, noted-grown, answer-grown, map-grown}
use Rattle.ledger_history.proofs.Striking.{strike-grown, strike-length}

-- ---- one call later

written-grown : (c : Call) (refusal count : ℕ) (s : List Line) (n : ℕ) → n < length s → Grown (line_at s n) (line_at (written c refusal count s) n)
unfolding written
written-grown (accepting f arrival t ticks) refusal count s n h =
    subst (λ (y : Line). Grown (line_at s n) y)
    (sym (get_or-append s (map new_line (firsts (leg_for_at (fields_of f) (destination_at (drop destinations_offset f)) arrival t ticks) count)) (new_line no_leg) n h))
    (same_line (line_at s n))
written-grown (answering by to seq reply) refusal count s n h = map-grown (noted_if_for by to seq reply) (answer-grown by to seq reply) s n h
written-grown ticking refusal count s n h = map-grown (noted ticked) (noted-grown ticked) s n h
written-grown (clearing place) refusal count s n h = go (eqb refusal 0)
  where
    go : (b : Bool) → Grown (line_at s n) (line_at (cond b (strike place s) s) n)
    go true = strike-grown place s n h
    go false = same_line (line_at s n)

written-longer : (c : Call) (refusal count : ℕ) (s : List Line) → length s ≤ length (written c refusal count s)
unfolding written
written-longer (accepting f arrival t ticks) refusal count s =
    omega (arith, length-append s (map new_line (firsts (leg_for_at (fields_of f) (destination_at (drop destinations_offset f)) arrival t ticks) count)))
written-longer (answering by to seq reply) refusal count s = omega (arith, length-map s (noted_if_for by to seq reply))
written-longer ticking refusal count s = omega (arith, length-map s (noted ticked))
written-longer (clearing place) refusal count s = go (eqb refusal 0)
  where
    go : (b : Bool) → length s ≤ length (cond b (strike place s) s)
    go true = omega (arith, strike-length place s)
    go false = omega arith

-- ---- many calls later

pub record Later (s t : List Line) (n : ℕ) : Type 0 where
  pub there : n < length t
  pub grown : Grown (line_at s n) (line_at t n)

later : (ms : List Made) (s : List Line) (n : ℕ) → n < length s → Later s (account_from s ms) n
unfolding account_from
later [] s n h = record { there = h; grown = same_line (line_at s n) }
later (m ∷ ms) s n h =
    let t = written m.call m.refusal m.count s in
    let longer = written-longer m.call m.refusal m.count s in
    let rest = later ms t n (omega arith) in
    record {
      there = rest.there;
      grown = grown-on (line_at s n) (line_at t n) (line_at (account_from t ms) n) (written-grown m.call m.refusal m.count s n h) rest.grown;
    }

account-append : (s : List Line) (ms ns : List Made) → account_from s (ms ++ ns) ≡ account_from (account_from s ms) ns
unfolding account_from
account-append s [] ns = refl
account-append s (m ∷ ms) ns = account-append (written m.call m.refusal m.count s) ms ns

-- the account after more calls of a log
module _ (ms : List Made) (n : ℕ) where
  then-later : (i k : ℕ) → n < length (account (take i ms)) → Later (account (take i ms)) (account (take (i + k) ms)) n
  unfolding account
  then-later i k h =
      subst (λ (t : List Line). Later (account_from [] (take i ms)) t n)
      (sym (ap (account_from []) (take-add i k ms) ∙ account-append [] (take i ms) (take k (drop i ms))))
      (later (take k (drop i ms)) (account_from [] (take i ms)) n h)

  pub at-later : (i j : ℕ) → i ≤ j → n < length (account (take i ms)) → Later (account (take i ms)) (account (take j ms)) n
  at-later i j le h =
      let e : i + (j - i) ≡ j = omega arith in
      subst (λ (x : ℕ). Later (account (take i ms)) (account (take x ms)) n) e (then-later i (j - i) h)
