-- What each call keeps is kept by all of them, whatever their order.
use Prim.Native.Nat.{◌+◌}
use mathlib.Core.Path.{◌≡◌, refl}
use mathlib.Core.List.{List, [], ◌∷◌}
use native.Mathlib.Omega.{arith}
use lib.ListN.{length}
use Rattle.ledger.specs.declared.Ledger.{Ledger}
use Rattle.ledger.proofs.Alike.{obeys-from}
use Rattle.ledger_laws.specs.Calls.{Call, refusal_of, returned_count, after, after_all}
use Rattle.ledger_history.specs.Log.{log, accepted_by, accepted, cleared_by, cleared}
use Rattle.ledger_history.specs.Account.{Line, written, account_from, unstruck}
use Rattle.ledger_history.specs.Promises.{listed_legs, Empty}
use Rattle.ledger_history.proofs.Struck.{NoneOpen}
use Rattle.ledger_history.proofs.Legs.{Good, good-after}
use Rattle.ledger_history.proofs.Steps.{Shows, step}

pub good-all : (l : Ledger) (cs : List Call) → Good l → Good (after_all l cs)
unfolding after_all
good-all l [] k = k
good-all l (c ∷ cs) k = good-all (after l c) cs (good-after l c k)

-- the account after one call more
abbrev next : Ledger → Call → List Line → List Line
next l c s = written c (refusal_of l c) (returned_count l c) s

pub shows-all : (l : Ledger) (cs : List Call) (s : List Line) → Good l → Shows l s → Shows (after_all l cs) (account_from s (log l cs))
unfolding after_all log account_from
shows-all l [] s k h = h
shows-all l (c ∷ cs) s k h = shows-all (after l c) cs (next l c s) (good-after l c k) ((step l c k).shows s h)

pub none-open-all : (l : Ledger) (cs : List Call) (s : List Line) → Good l → Shows l s → NoneOpen s → NoneOpen (account_from s (log l cs))
unfolding log account_from
none-open-all l [] s k h d = d
none-open-all l (c ∷ cs) s k h d = none-open-all (after l c) cs (next l c s) (good-after l c k) ((step l c k).shows s h) ((step l c k).none_open s h d)

pub tally-all : (l : Ledger) (cs : List Call) → Good l → (after_all l cs).count + cleared (log l cs) ≡ l.count + accepted (log l cs)
unfolding after_all log cleared accepted
tally-all l [] k = refl
tally-all l (c ∷ cs) k =
    let a : (after_all (after l c) cs).count + cleared (log (after l c) cs) ≡ (after l c).count + accepted (log (after l c) cs) = tally-all (after l c) cs (good-after l c k) in
    let b : (after l c).count + cleared_by c (refusal_of l c) ≡ l.count + accepted_by c (returned_count l c) = (step l c k).tally in
    omega arith

pub lines-all : (l : Ledger) (cs : List Call) (s : List Line) → Good l → length (account_from s (log l cs)) ≡ length s + accepted (log l cs)
unfolding log account_from accepted
lines-all l [] s k = omega arith
lines-all l (c ∷ cs) s k =
    let a : length (account_from (next l c s) (log (after l c) cs)) ≡ length (next l c s) + accepted (log (after l c) cs) = lines-all (after l c) cs (next l c s) (good-after l c k) in
    let b : length (next l c s) ≡ length s + accepted_by c (returned_count l c) = (step l c k).lines s in
    omega arith

-- ---- an empty ledger, and the empty account

pub empty-good : (l : Ledger) → Empty l → Good l
empty-good l e =
    let none : l.count ≡ 0 = e.none in
    record { whole = e.whole; rules = obeys-from l (omega arith) (λ i h. absurd (omega arith)) (λ i j h m. absurd (omega arith)) }

pub empty-shows : (l : Ledger) → Empty l → Shows l []
unfolding listed_legs unstruck
empty-shows l e = rw e.none
