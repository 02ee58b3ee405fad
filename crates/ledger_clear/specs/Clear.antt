-- Clear (document 01, "The ledger of legs").
use Rattle.std.specs.Prelude.{ℕ, ◌-◌, Bool, not, ◌&&◌, ◌∷◌, ◌++◌, ltb, take, drop}
use Rattle.lists.specs.Lists.{without}
use Rattle.lists.specs.Refusals.{refuse, unless_refused}
use Rattle.ledger.specs.declared.Ledger.{Ledger}
use Rattle.ledger.specs.Rules.{no_leg, leg_at, is_open, obeys}
use Rattle.ledger.specs.Outcome.{Outcome}

-- the legs after the place move down one, and the old last place holds no leg
unfoldable pub close_up : Ledger → ℕ → Ledger
close_up l place = record { count = l.count - 1; legs = without place (take l.count l.legs) ++ no_leg ∷ drop l.count l.legs }

-- a settled leg stands at the place
unfoldable pub settled_at : Ledger → ℕ → Bool
settled_at l place = ltb place l.count && not (is_open (leg_at l place).standing)

-- 60 the rules, then 65 no settled leg there
unfoldable pub clear_refusal : Ledger → ℕ → ℕ
clear_refusal l place = refuse 60 (not (obeys l)) (refuse 65 (not (settled_at l place)) 0)

-- that leg is removed; beside a refusal the ledger is as it was
unfoldable pub clear_of : Ledger → ℕ → Outcome
clear_of l place = record { refusal = clear_refusal l place; ledger = unless_refused (clear_refusal l place) (close_up l place) l }
