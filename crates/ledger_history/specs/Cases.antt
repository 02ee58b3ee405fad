-- A worked afternoon: twelve calls on an empty ledger, five of them refused; a wait, a timeout and two clears.
use Rattle.std.specs.Prelude.{ℕ, ◌≡◌, refl, true, false, List, [], ◌∷◌, map, replicate}
use Rattle.lists.specs.Places.{any_below, first_from, first_below, same_at, repeat_at, repeats, element_at, firsts}
use Rattle.lists.specs.Lists.{how_many, without}
use Rattle.lists.specs.Refusals.{unless_refused}
use Rattle.address.specs.declared.Address.{Address}
use Rattle.address.specs.Address.{address_of, station_in_range, in_range, same_station, same_address}
use Rattle.envelope.specs.Frame.{length_of, count_of, fields_of, destination_at, xor_from}
use Rattle.envelope.specs.Refusal.{outside, stray_at, out_of_range, wrong_version, whole_refusal, values_refusal_by, frame_refusal}
use Rattle.table.specs.declared.Target.TheVariants.{Brigade}
use Rattle.table.specs.declared.Table.{Table}
use Rattle.table.specs.Table.{no_entry, entry_at, is_own, covers, qualifies, qualifies_at, has_route, out_choice, target_in_range, entry_in_range, stray_entry, table_in_range, call_in_range, choose_of}
use Rattle.ledger.specs.declared.Standing.{Standing}
use Rattle.ledger.specs.declared.Standing.TheVariants.{Open, Acknowledged, Undeliverable, TimedOut}
use Rattle.ledger.specs.declared.Leg.{Leg}
use Rattle.ledger.specs.declared.Ledger.{Ledger}
use Rattle.ledger.specs.Rules.{no_leg, leg_at, is_open, is_open_leg, alike, ticks_obey, leg_obeys, broken_at, obeys}
use Rattle.ledger_answer.specs.declared.Reply.{Reply}
use Rattle.ledger_answer.specs.declared.Reply.TheVariants.{Ack, Nak}
use Rattle.ledger_answer.specs.Answer.{standing_for, settled, waits, answered, with_leg, answered_at, answered_place, answer_refusal, answer_of}
use Rattle.ledger_tick.specs.Tick.{times_out, ticked_leg, ticked_ledger, tick_refusal, tick_of}
use Rattle.ledger_clear.specs.Clear.{close_up, settled_at, clear_refusal, clear_of}
use Rattle.ledger_accept.specs.Accept.{is_open_from, is_open_from_at, legs_refusal, call_refusal, accept_refusal, leg_for, leg_for_at, with_legs, accept_of}
use Rattle.ledger_laws.specs.Calls.{Call, accepting, answering, ticking, clearing, refusal_of, after, returned_count, after_all}
use Rattle.ledger_history.specs.Log.{log, accepted_by, accepted, cleared_by, cleared}
use Rattle.ledger_history.specs.Account.{replied, ticked, new_line, noted, is_for, noted_if_for, struck_out, strike, written, account_from, account, open_after, leg_after, as_read, standing_then, open_then, leaves_then}
use Rattle.ledger_history.specs.Promises.{listed_legs}

unfoldable pub empty : Ledger
empty = record { count = 0; legs = replicate 128 no_leg }

-- the table of 9/1: brigade 9 by port 3, and nothing else
unfoldable pub table : Table
table = record { brigade = 9; node = record { 0 = 1 }; count = 1; entries = record { target = Brigade 9; port = record { 0 = 3 }; on = true } ∷ replicate 31 no_entry }

-- from 9/1/5 with number 7, to 9/20/1, 9/21/1 and 12/7/1; an acknowledgement is asked for. The last byte is the check character
unfoldable pub frame_with : ℕ → List ℕ
frame_with check = 9 ∷ 0 ∷ 69 ∷ 0 ∷ 3 ∷ 9 ∷ 5 ∷ 1 ∷ 9 ∷ 5 ∷ 65 ∷ 12 ∷ 1 ∷ 193 ∷ 33 ∷ 0 ∷ 15 ∷ 2 ∷ check ∷ []

-- it comes in by port 4, and each leg has 2 ticks; 238 is a wrong check character
abbrev comes : ℕ → Call
comes check = accepting (frame_with check) (record { 0 = 4 }) table 2

abbrev answers : Address → Reply → Call
answers by r = answering by (address_of 9 1 5) (record { 0 = 7 }) r

unfoldable pub afternoon : List Call
afternoon =
    comes 239
    ∷ comes 239
    ∷ comes 238
    ∷ answers (address_of 9 20 1) (Nak 2 13)
    ∷ ticking
    ∷ answers (address_of 12 7 1) Ack
    ∷ clearing 0
    ∷ clearing 2
    ∷ answers (address_of 9 20 1) Ack
    ∷ ticking
    ∷ answers (address_of 9 21 1) Ack
    ∷ clearing 0
    ∷ []

abbrev leg : Address → ℕ → Standing → Leg
leg to ticks s = record { source = address_of 9 1 5; destination = to; seq = record { 0 = 7 }; ticks = ticks; standing = s }

pub record Cases : Type 0 where
  -- what the tutor saw
  pub numbers : map (λ m. m.refusal) (log empty afternoon) ≡ 0 ∷ 62 ∷ 3 ∷ 0 ∷ 0 ∷ 64 ∷ 65 ∷ 0 ∷ 0 ∷ 0 ∷ 64 ∷ 0 ∷ []
  pub counts : map (λ m. m.count) (log empty afternoon) ≡ 3 ∷ 0 ∷ 0 ∷ 0 ∷ 0 ∷ 0 ∷ 0 ∷ 0 ∷ 0 ∷ 1 ∷ 0 ∷ 0 ∷ []
  pub three_accepted : accepted (log empty afternoon) ≡ 3
  pub two_cleared : cleared (log empty afternoon) ≡ 2
  -- the account, and how it reads
  pub lines : account (log empty afternoon)
      ≡ record { leg = leg (address_of 9 20 1) 2 Open; events = replied (Nak 2 13) ∷ ticked ∷ replied Ack ∷ ticked ∷ []; struck = true }
      ∷ record { leg = leg (address_of 9 21 1) 2 Open; events = ticked ∷ ticked ∷ replied Ack ∷ []; struck = false }
      ∷ record { leg = leg (address_of 12 7 1) 0 Undeliverable; events = ticked ∷ replied Ack ∷ []; struck = true }
      ∷ []
  pub reads : map (λ x. (as_read x).standing) (account (log empty afternoon)) ≡ Acknowledged ∷ TimedOut ∷ Undeliverable ∷ []
  -- what the ledger lists
  pub listed : listed_legs (after_all empty afternoon) ≡ leg (address_of 9 21 1) 0 TimedOut ∷ []
  -- the first leg leaves the open standing with the ninth call, not before; the second with the tenth
  pub first_left : (leaves_then (log empty afternoon) 0 7 ≡ false) × (leaves_then (log empty afternoon) 0 8 ≡ true)
  pub second_left : leaves_then (log empty afternoon) 1 9 ≡ true

pub cases : Cases
unfolding any_below first_from first_below same_at repeat_at repeats element_at firsts how_many without unless_refused station_in_range in_range same_station same_address length_of count_of fields_of destination_at xor_from outside stray_at out_of_range wrong_version whole_refusal values_refusal_by frame_refusal entry_at is_own covers qualifies qualifies_at has_route out_choice target_in_range entry_in_range stray_entry table_in_range call_in_range choose_of leg_at is_open is_open_leg alike ticks_obey leg_obeys broken_at obeys standing_for settled waits answered with_leg answered_at answered_place answer_refusal answer_of times_out ticked_leg ticked_ledger tick_refusal tick_of close_up settled_at clear_refusal clear_of is_open_from is_open_from_at legs_refusal call_refusal accept_refusal leg_for leg_for_at with_legs accept_of refusal_of after returned_count after_all log accepted_by accepted cleared_by cleared new_line noted is_for noted_if_for struck_out strike written account_from account open_after leg_after as_read standing_then open_then leaves_then listed_legs empty table frame_with afternoon
cases =
    record {
      numbers = refl;
      counts = refl;
      three_accepted = refl;
      two_cleared = refl;
      lines = refl;
      reads = refl;
      listed = refl;
      first_left = (refl, refl);
      second_left = refl;
    }
