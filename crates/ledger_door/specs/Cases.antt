-- What C gets of a ledger's image, by example: an answer, a tick and a clear on two legs.
use Rattle.std.specs.Prelude.{◌≡◌, refl, ◌∷◌, replicate, set}
use Rattle.lists.specs.Lists.{how_many, without}
use Rattle.lists.specs.Places.{any_below, first_from, first_below, same_at, repeat_at, repeats, element_at, firsts, row, joined}
use Rattle.lists.specs.Refusals.{unless_refused}
use Rattle.address.specs.Address.{address_of, station_in_range, in_range, same_station, same_address}
use Rattle.ledger.specs.Rules.{leg_at, is_open, is_open_leg, alike, ticks_obey, leg_obeys, broken_at, obeys}
use Rattle.ledger_answer.specs.declared.Reply.TheVariants.{Ack, Nak}
use Rattle.ledger_answer.specs.Answer.{standing_for, settled, waits, answered, with_leg, answered_at, answered_place, answer_refusal, answer_of}
use Rattle.ledger_tick.specs.Tick.{times_out, ticked_leg, ticked_ledger, tick_refusal, tick_of}
use Rattle.ledger_clear.specs.Clear.{close_up, settled_at, clear_refusal, clear_of}
use Rattle.ledger_image.specs.Leg.{standing_bytes, standing_of, stray_standing, leg_bytes, leg_in, stray_leg_in}
use Rattle.ledger_image.specs.Ledger.{leg_held, stray_leg_held, readable_ledger, ledger_in, ledger_of, with_ledger, ledger_after}
use Rattle.ledger_image.specs.Cases.{two_image}
use Rattle.ledger_door.specs.Calls.{reply_of, pz_answer, pz_answer_image, pz_tick, pz_tick_image, pz_clear, pz_clear_image}

pub record Cases : Type 0 where
  -- nak 0 is an ACK, any other a NAK with its set and its code
  pub ack : reply_of 0 2 9 ≡ Ack
  pub nak : reply_of 7 2 9 ≡ Nak 2 9
  -- the open leg is refused with set 2 and code 9: ticks 0, standing 2
  pub answered : pz_answer_image two_image (address_of 9 20 1) (address_of 9 1 5) (record { 0 = 300 }) (Nak 2 9) ≡ set (set (set (set (set two_image 11 0) 12 0) 13 2) 14 2) 15 9
  -- a NAK that says wait: standing 5, the ticks stay
  pub marked : pz_answer_image two_image (address_of 9 20 1) (address_of 9 1 5) (record { 0 = 300 }) (Nak 2 13) ≡ set two_image 13 5
  pub unnamed : (pz_answer two_image (address_of 9 20 1) (address_of 9 1 5) (record { 0 = 301 }) Ack).refusal ≡ 64
  -- a tick takes one: 512
  pub ticked : pz_tick_image two_image ≡ set two_image 12 0
  pub none_ended : (pz_tick two_image).ended ≡ 0
  -- a clear of the settled leg leaves zeros in its place
  pub cleared : pz_clear_image two_image 1 ≡ 1 ∷ 9 ∷ 0 ∷ 1 ∷ 5 ∷ 9 ∷ 0 ∷ 20 ∷ 1 ∷ 1 ∷ 44 ∷ 2 ∷ 1 ∷ replicate 1908 0
  pub open_leg : (pz_clear two_image 0).refusal ≡ 65

pub cases : Cases
unfolding two_image how_many without any_below first_from first_below same_at repeat_at repeats element_at firsts row joined unless_refused station_in_range in_range same_station same_address leg_at is_open is_open_leg alike ticks_obey leg_obeys broken_at obeys standing_for settled waits answered with_leg answered_at answered_place answer_refusal answer_of times_out ticked_leg ticked_ledger tick_refusal tick_of close_up settled_at clear_refusal clear_of standing_bytes standing_of stray_standing leg_bytes leg_in stray_leg_in leg_held stray_leg_held readable_ledger ledger_in ledger_of with_ledger ledger_after reply_of pz_answer pz_answer_image pz_tick pz_tick_image pz_clear pz_clear_image
cases = record { ack = refl; nak = refl; answered = refl; marked = refl; unnamed = refl; ticked = refl; none_ended = refl; cleared = refl; open_leg = refl }
