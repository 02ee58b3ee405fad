-- Clears by example: a settled leg goes and those after it move down; an open one stays.
use Rattle.std.specs.Prelude.{◌≡◌, refl, [], ◌∷◌}
use Rattle.lists.specs.Lists.{without}
use Rattle.lists.specs.Places.{any_below, same_at, repeat_at, repeats, element_at}
use Rattle.lists.specs.Refusals.{unless_refused}
use Rattle.address.specs.Address.{station_in_range, in_range, same_station, same_address}
use Rattle.ledger.specs.declared.Standing.TheVariants.{Open, Acknowledged, TimedOut, Waiting}
use Rattle.ledger.specs.Rules.{leg_at, is_open, is_open_leg, alike, ticks_obey, leg_obeys, broken_at, obeys}
use Rattle.ledger.specs.Cases.{hill, ledger}
use Rattle.ledger_clear.specs.Clear.{close_up, settled_at, clear_refusal, clear_of}

pub record Cases : Type 0 where
  pub settled : clear_of (ledger (hill 1 1 Open ∷ hill 2 0 Acknowledged ∷ hill 3 1 Open ∷ [])) 1 ≡ record { refusal = 0; ledger = ledger (hill 1 1 Open ∷ hill 3 1 Open ∷ []) }
  pub open_leg : clear_of (ledger (hill 1 1 Open ∷ [])) 0 ≡ record { refusal = 65; ledger = ledger (hill 1 1 Open ∷ []) }
  pub waiting_leg : clear_of (ledger (hill 1 1 Waiting ∷ [])) 0 ≡ record { refusal = 65; ledger = ledger (hill 1 1 Waiting ∷ []) }
  pub past : clear_of (ledger (hill 1 0 TimedOut ∷ [])) 1 ≡ record { refusal = 65; ledger = ledger (hill 1 0 TimedOut ∷ []) }
  pub broken : clear_of (ledger (hill 1 1 TimedOut ∷ [])) 0 ≡ record { refusal = 60; ledger = ledger (hill 1 1 TimedOut ∷ []) }

pub cases : Cases
unfolding without any_below same_at repeat_at repeats element_at unless_refused station_in_range in_range same_station same_address leg_at is_open is_open_leg alike ticks_obey leg_obeys broken_at obeys close_up settled_at clear_refusal clear_of
cases = record { settled = refl; open_leg = refl; waiting_leg = refl; past = refl; broken = refl }
