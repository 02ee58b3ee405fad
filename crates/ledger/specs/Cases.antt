-- Legs and ledgers that keep the rules and that break them (document 01, "The ledger of legs", refusal 60).
use Rattle.std.specs.Prelude.{ℕ, ◌-◌, ◌≡◌, refl, true, false, List, [], ◌∷◌, ◌++◌, length, replicate}
use Rattle.lists.specs.Places.{any_below, same_at, repeat_at, repeats, element_at}
use Rattle.address.specs.declared.Address.{Address}
use Rattle.address.specs.Address.{address_of, station_in_range, in_range, same_station, same_address}
use Rattle.ledger.specs.declared.Standing.{Standing}
use Rattle.ledger.specs.declared.Standing.TheVariants.{Open, Acknowledged, Refused, Undeliverable, TimedOut, Waiting}
use Rattle.ledger.specs.declared.Leg.{Leg}
use Rattle.ledger.specs.declared.Ledger.{Ledger}
use Rattle.ledger.specs.Rules.{no_leg, leg_at, is_open, is_open_leg, alike, ticks_obey, leg_obeys, broken_at, obeys}

-- a leg
abbrev pub leg : Address → Address → ℕ → ℕ → Standing → Leg
leg source destination seq ticks s = record { source = source; destination = destination; seq = record { 0 = seq }; ticks = ticks; standing = s }

-- a ledger of these legs
abbrev pub ledger : List Leg → Ledger
ledger gs = record { count = length gs; legs = gs ++ replicate (128 - length gs) no_leg }

-- from 9/1/5 to 9/20/1
abbrev pub hill : ℕ → ℕ → Standing → Leg
hill = leg (address_of 9 1 5) (address_of 9 20 1)

-- P11: open legs of 9/1/5 and of 9/2/5, the second with these ticks and this standing, both to 9/20/1, both with the number 7
unfoldable pub two : ℕ → Standing → Ledger
two ticks s = ledger (hill 7 3 Open ∷ leg (address_of 9 2 5) (address_of 9 20 1) 7 ticks s ∷ [])

-- P12: one leg
unfoldable pub one : ℕ → Standing → Ledger
one ticks s = ledger (hill 7 ticks s ∷ [])

pub record Cases : Type 0 where
  -- two standings are open
  pub sent : is_open Open ≡ true
  pub waits : is_open Waiting ≡ true
  pub acknowledged : is_open Acknowledged ≡ false
  pub refused : is_open (Refused 2 9) ≡ false
  pub undeliverable : is_open Undeliverable ≡ false
  pub timed_out : is_open TimedOut ≡ false
  -- ticks by the standing
  pub open_1 : obeys (one 1 Open) ≡ true
  pub open_0 : obeys (one 0 Open) ≡ false
  pub waiting_1 : obeys (one 1 Waiting) ≡ true
  pub waiting_0 : obeys (one 0 Waiting) ≡ false
  pub settled_0 : obeys (one 0 (Refused 2 9)) ≡ true
  pub settled_1 : obeys (one 1 TimedOut) ≡ false
  -- ranges
  pub seq : obeys (ledger (hill 32767 1 Open ∷ [])) ≡ true
  pub seq_past : obeys (ledger (hill 32768 1 Open ∷ [])) ≡ false
  pub source : obeys (ledger (leg (address_of 9 1 64) (address_of 9 20 1) 7 1 Open ∷ [])) ≡ false
  pub destination : obeys (ledger (leg (address_of 9 1 5) (address_of 9 1024 1) 7 1 Open ∷ [])) ≡ false
  -- two open legs alike; with another source, destination or number, or one of them settled, they are not
  pub alike_legs : obeys (ledger (hill 7 1 Open ∷ hill 7 2 Open ∷ [])) ≡ false
  pub alike_waiting : obeys (ledger (hill 7 1 Waiting ∷ hill 7 2 Open ∷ [])) ≡ false
  pub two_sources : obeys (two 3 Open) ≡ true
  pub two_destinations : obeys (ledger (hill 7 1 Open ∷ leg (address_of 9 1 5) (address_of 9 21 1) 7 1 Open ∷ [])) ≡ true
  pub two_numbers : obeys (ledger (hill 7 1 Open ∷ hill 8 1 Open ∷ [])) ≡ true
  pub one_settled : obeys (ledger (hill 7 0 Acknowledged ∷ hill 7 1 Open ∷ [])) ≡ true
  pub both_settled : obeys (ledger (hill 7 0 Acknowledged ∷ hill 7 0 Acknowledged ∷ [])) ≡ true
  pub apart : obeys (ledger (hill 7 1 Open ∷ hill 8 1 Open ∷ hill 7 1 Open ∷ [])) ≡ false
  -- the count
  pub many : obeys (record { count = 129; legs = replicate 128 (hill 7 0 Acknowledged) }) ≡ false
  pub full : obeys (record { count = 128; legs = replicate 128 (hill 7 0 Acknowledged) }) ≡ true
  pub past : obeys (record { count = 0; legs = replicate 128 (hill 7 0 Open) }) ≡ true

pub cases : Cases
unfolding two one any_below same_at repeat_at repeats element_at station_in_range in_range same_station same_address leg_at is_open is_open_leg alike ticks_obey leg_obeys broken_at obeys
cases =
    record {
      sent = refl;
      waits = refl;
      acknowledged = refl;
      refused = refl;
      undeliverable = refl;
      timed_out = refl;
      open_1 = refl;
      open_0 = refl;
      waiting_1 = refl;
      waiting_0 = refl;
      settled_0 = refl;
      settled_1 = refl;
      seq = refl;
      seq_past = refl;
      source = refl;
      destination = refl;
      alike_legs = refl;
      alike_waiting = refl;
      two_sources = refl;
      two_destinations = refl;
      two_numbers = refl;
      one_settled = refl;
      both_settled = refl;
      apart = refl;
      many = refl;
      full = refl;
      past = refl;
    }
