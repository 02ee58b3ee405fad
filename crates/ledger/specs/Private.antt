-- The keys of legs, one number for each, by which the code sees whether two open legs are alike.
use Rattle.std.specs.Prelude.{ℕ, ◌+◌, ◌*◌, Bool, ◌&&◌, not, cond, eqb}
use Rattle.address_bytes.specs.Packed.{address_key}
use Rattle.ledger.specs.declared.Leg.{Leg}
use Rattle.ledger.specs.declared.Ledger.{Ledger}
use Rattle.ledger.specs.Rules.{is_open, leg_at}

-- of an open leg one more than the 63 bits of source (24), destination (24) and sequence number (15); of a settled one 0
abbrev pub leg_key : Leg → ℕ
leg_key g = cond (is_open g.standing) ((address_key g.source * 16777216 + address_key g.destination) * 32768 + g.seq.0 + 1) 0

unfoldable pub leg_key_at : Ledger → ℕ → ℕ
leg_key_at l i = leg_key (leg_at l i)

-- two keys are the same, and not those of settled legs
unfoldable pub same_key : ℕ → ℕ → Bool
same_key k m = not (eqb k 0) && eqb k m
