-- Answers by example: P11 of document 01, and what each reply leaves.
use Rattle.std.specs.Prelude.{◌≡◌, refl}
use Rattle.lists.specs.Places.{any_below, first_from, first_below, same_at, repeat_at, repeats, element_at}
use Rattle.lists.specs.Refusals.{unless_refused}
use Rattle.address.specs.Address.{address_of, station_in_range, in_range, same_station, same_address}
use Rattle.ledger.specs.declared.Standing.TheVariants.{Open, Acknowledged, Refused, TimedOut, Waiting}
use Rattle.ledger.specs.Rules.{leg_at, is_open, is_open_leg, alike, ticks_obey, leg_obeys, broken_at, obeys}
use Rattle.ledger.specs.Cases.{two, one}
use Rattle.ledger_answer.specs.declared.Reply.TheVariants.{Ack, Nak}
use Rattle.ledger_answer.specs.Answer.{standing_for, settled, waits, answered, with_leg, answered_at, answered_place, answer_refusal, answer_of}

pub record Cases : Type 0 where
  -- P11: the second leg only
  pub p11 : answer_of (two 3 Open) (address_of 9 20 1) (address_of 9 2 5) (record { 0 = 7 }) Ack ≡ record { refusal = 0; ledger = two 0 Acknowledged }
  -- a NAK's reason: its set, then its code
  pub nak : answer_of (two 3 Open) (address_of 9 20 1) (address_of 9 2 5) (record { 0 = 7 }) (Nak 2 9) ≡ record { refusal = 0; ledger = two 0 (Refused 2 9) }
  -- wait: the leg is marked, its ticks stay; again: nothing changes; then an ACK, or another NAK
  pub wait : answer_of (two 3 Open) (address_of 9 20 1) (address_of 9 2 5) (record { 0 = 7 }) (Nak 2 13) ≡ record { refusal = 0; ledger = two 3 Waiting }
  pub again : answer_of (two 3 Waiting) (address_of 9 20 1) (address_of 9 2 5) (record { 0 = 7 }) (Nak 2 13) ≡ record { refusal = 0; ledger = two 3 Waiting }
  pub then_ack : answer_of (two 3 Waiting) (address_of 9 20 1) (address_of 9 2 5) (record { 0 = 7 }) Ack ≡ record { refusal = 0; ledger = two 0 Acknowledged }
  pub then_nak : answer_of (two 3 Waiting) (address_of 9 20 1) (address_of 9 2 5) (record { 0 = 7 }) (Nak 2 9) ≡ record { refusal = 0; ledger = two 0 (Refused 2 9) }
  -- the wait_ack of reason set 1 (D.2) settles as any other NAK
  pub other_set : answer_of (two 3 Open) (address_of 9 20 1) (address_of 9 2 5) (record { 0 = 7 }) (Nak 1 9) ≡ record { refusal = 0; ledger = two 0 (Refused 1 9) }
  pub other_code : answer_of (two 3 Open) (address_of 9 20 1) (address_of 9 2 5) (record { 0 = 7 }) (Nak 1 13) ≡ record { refusal = 0; ledger = two 0 (Refused 1 13) }
  -- another number, another who answers, another to whom, a settled leg: 64
  pub number : answer_of (one 3 Open) (address_of 9 20 1) (address_of 9 1 5) (record { 0 = 8 }) Ack ≡ record { refusal = 64; ledger = one 3 Open }
  pub by : answer_of (one 3 Open) (address_of 9 21 1) (address_of 9 1 5) (record { 0 = 7 }) Ack ≡ record { refusal = 64; ledger = one 3 Open }
  pub to : answer_of (one 3 Open) (address_of 9 20 1) (address_of 9 1 6) (record { 0 = 7 }) Ack ≡ record { refusal = 64; ledger = one 3 Open }
  pub late : answer_of (one 0 TimedOut) (address_of 9 20 1) (address_of 9 1 5) (record { 0 = 7 }) Ack ≡ record { refusal = 64; ledger = one 0 TimedOut }
  -- a ledger that breaks its rules: 60
  pub broken : answer_of (one 0 Open) (address_of 9 20 1) (address_of 9 1 5) (record { 0 = 7 }) Ack ≡ record { refusal = 60; ledger = one 0 Open }

pub cases : Cases
unfolding two one any_below first_from first_below same_at repeat_at repeats element_at unless_refused station_in_range in_range same_station same_address leg_at is_open is_open_leg alike ticks_obey leg_obeys broken_at obeys standing_for settled waits answered with_leg answered_at answered_place answer_refusal answer_of
cases = record { p11 = refl; nak = refl; wait = refl; again = refl; then_ack = refl; then_nak = refl; other_set = refl; other_code = refl; number = refl; by = refl; to = refl; late = refl; broken = refl }
