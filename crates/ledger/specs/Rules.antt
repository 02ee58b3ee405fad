-- Legs, and the rules of a ledger (document 01, "The ledger of legs", refusal 60).
use Rattle.std.specs.Prelude.{ℕ, Bool, true, false, ◌&&◌, not, cond, leb, ltb, eqb}
use Rattle.lists.specs.Places.{any_below, repeats, element_at}
use Rattle.address.specs.declared.Seq.{Seq}
use Rattle.address.specs.declared.Address.{Address}
use Rattle.address.specs.Address.{largest_seq, zero_address, in_range, same_address}
use Rattle.ledger.specs.declared.Standing.{Standing}
use Rattle.ledger.specs.declared.Standing.TheVariants.{Open, Acknowledged, Refused, Undeliverable, TimedOut, Waiting}
use Rattle.ledger.specs.declared.Leg.{Leg}
use Rattle.ledger.specs.declared.Ledger.{Ledger}

-- a ledger holds 0 to 128 legs
abbrev pub most_legs : ℕ
most_legs = 128

-- what stands at a place with no leg: an open leg with every number 0
abbrev pub no_leg : Leg
no_leg = record { source = zero_address; destination = zero_address; seq = record { 0 = 0 }; ticks = 0; standing = Open }

-- the leg with other ticks and another standing: what any call changes of a leg that stands
abbrev pub with_standing : Leg → ℕ → Standing → Leg
with_standing g ticks s = record { source = g.source; destination = g.destination; seq = g.seq; ticks = ticks; standing = s }

-- the leg at a place
unfoldable pub leg_at : Ledger → ℕ → Leg
leg_at l i = element_at no_leg l.legs i

-- whether a standing is open: every rule asks it here. A leg that waits is open
unfoldable pub is_open : Standing → Bool
is_open Open = true
is_open Acknowledged = false
is_open (Refused set code) = false
is_open Undeliverable = false
is_open TimedOut = false
is_open Waiting = true

-- an open leg with this source, this destination and this sequence number
unfoldable pub is_open_leg : Address → Address → Seq → Leg → Bool
is_open_leg source destination seq g =
    is_open g.standing && same_address g.source source && same_address g.destination destination && eqb g.seq.0 seq.0

-- two open legs alike in source, destination and sequence number
unfoldable pub alike : Leg → Leg → Bool
alike g h = is_open g.standing && is_open_leg g.source g.destination g.seq h

-- an open leg has ticks left, and a settled one none
unfoldable pub ticks_obey : Leg → Bool
ticks_obey g = cond (is_open g.standing) (ltb 0 g.ticks) (eqb g.ticks 0)

-- and its addresses and sequence number are in range
unfoldable pub leg_obeys : Leg → Bool
leg_obeys g = ticks_obey g && in_range g.source && in_range g.destination && leb g.seq.0 largest_seq

-- the leg at a place is not right
unfoldable pub broken_at : Ledger → ℕ → Bool
broken_at l i = not (leg_obeys (leg_at l i))

-- the ledger obeys its rules: not too many legs, none of them wrong, no two alike. Places past the count are not looked at
unfoldable pub obeys : Ledger → Bool
obeys l = leb l.count most_legs && not (any_below (broken_at l) l.count) && not (repeats alike (leg_at l) l.count)
