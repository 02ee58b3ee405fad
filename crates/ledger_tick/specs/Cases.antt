-- Ticks by example: P12 of document 01.
use Rattle.std.specs.Prelude.{◌≡◌, refl, [], ◌∷◌}
use Rattle.lists.specs.Lists.{how_many}
use Rattle.lists.specs.Places.{any_below, same_at, repeat_at, repeats, element_at}
use Rattle.lists.specs.Refusals.{unless_refused}
use Rattle.address.specs.Address.{station_in_range, in_range, same_station, same_address}
use Rattle.ledger.specs.declared.Standing.TheVariants.{Open, Acknowledged, TimedOut, Waiting}
use Rattle.ledger.specs.Rules.{leg_at, is_open, is_open_leg, alike, ticks_obey, leg_obeys, broken_at, obeys}
use Rattle.ledger.specs.Cases.{hill, ledger, one}
use Rattle.ledger_tick.specs.Tick.{times_out, ticked_leg, ticked_ledger, tick_refusal, tick_of}

pub record Cases : Type 0 where
  -- P12: two ticks, of which the second ends the leg
  pub first : tick_of (one 2 Open) ≡ record { refusal = 0; ended = 0; ledger = one 1 Open }
  pub second : tick_of (one 1 Open) ≡ record { refusal = 0; ended = 1; ledger = one 0 TimedOut }
  -- a settled leg is left alone, and only those that end now are counted
  pub third : tick_of (one 0 TimedOut) ≡ record { refusal = 0; ended = 0; ledger = one 0 TimedOut }
  pub some_end : tick_of (ledger (hill 1 1 Open ∷ hill 2 2 Open ∷ hill 3 0 Acknowledged ∷ hill 4 1 Open ∷ []))
      ≡ record { refusal = 0; ended = 2; ledger = ledger (hill 1 0 TimedOut ∷ hill 2 1 Open ∷ hill 3 0 Acknowledged ∷ hill 4 0 TimedOut ∷ []) }
  -- a leg that waits is ticked as any open one, and stays marked
  pub waiting : tick_of (one 2 Waiting) ≡ record { refusal = 0; ended = 0; ledger = one 1 Waiting }
  pub waited : tick_of (one 1 Waiting) ≡ record { refusal = 0; ended = 1; ledger = one 0 TimedOut }
  pub broken : tick_of (one 0 Open) ≡ record { refusal = 60; ended = 0; ledger = one 0 Open }

pub cases : Cases
unfolding one how_many any_below same_at repeat_at repeats element_at unless_refused station_in_range in_range same_station same_address leg_at is_open is_open_leg alike ticks_obey leg_obeys broken_at obeys times_out ticked_leg ticked_ledger tick_refusal tick_of
cases = record { first = refl; second = refl; third = refl; some_end = refl; waiting = refl; waited = refl; broken = refl }
