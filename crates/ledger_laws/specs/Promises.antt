-- What the calls say taken together (document 01, "The ledger of legs"). proofs/Promises.antt has the theorems.
use Rattle.std.specs.Prelude.{ℕ, suc, ◌+◌, ◌<◌, ◌≤◌, ◌≡◌, true, false, not, ◌&&◌, ◌||◌, List, [], ◌∷◌, ◌↔◌, ltb, length, take, drop}
use Rattle.lists.specs.Places.{any_below}
use Rattle.lists.specs.Lists.{how_many}
use Rattle.lists.specs.Refusals.{refuse, or_else, among}
use Rattle.buffer.specs.Bytes.{Bytes}
use Rattle.address.specs.declared.Port.{Port}
use Rattle.address.specs.declared.Seq.{Seq}
use Rattle.address.specs.declared.Address.{Address}
use Rattle.address.specs.Address.{largest_port, in_range}
use Rattle.envelope.specs.Frame.{destinations_offset, fields_of, destination_at}
use Rattle.envelope.specs.Refusal.{stray_at, frame_refusal}
use Rattle.table.specs.Choice.{Refused as Unrouted}
use Rattle.table.specs.declared.Table.{Table}
use Rattle.table.specs.Table.{table_in_range, choose_of, choice_refusal}
use Rattle.ledger.specs.declared.Standing.TheVariants.{Open, Acknowledged, Refused, Undeliverable, Waiting}
use Rattle.ledger.specs.declared.Ledger.{Ledger}
use Rattle.ledger.specs.Rules.{no_leg, with_standing, leg_at, is_open, obeys}
use Rattle.ledger_answer.specs.declared.Reply.{Reply}
use Rattle.ledger_answer.specs.declared.Reply.TheVariants.{Ack, Nak}
use Rattle.ledger_answer.specs.Answer.{answer_of}
use Rattle.ledger_tick.specs.Tick.{times_out, ticked_leg, tick_of}
use Rattle.ledger_clear.specs.Clear.{clear_of}
use Rattle.ledger_accept.specs.Accept.{accept_of}
use Rattle.ledger_laws.specs.Calls.{Call, accepting, answering, ticking, clearing, refusal_of, after}

-- a ledger as code has it: 128 places
abbrev pub Whole : Ledger → Type 0
Whole l = length l.legs ≡ 128

-- it has them after every call
abbrev pub PlacesKept : Type 0
PlacesKept = (l : Ledger) (c : Call) → Whole l → Whole (after l c)

-- a refused call returns its ledger as it was
abbrev pub AsWas : Type 0
AsWas = (l : Ledger) (c : Call) → (refusal_of l c ≡ 0 → ⊥) → after l c ≡ l

-- ---- the rules

-- two open legs alike in source, destination and sequence number
pub record TwoAlike (l : Ledger) (i j : ℕ) : Type 0 where
  pub first : is_open (leg_at l i).standing ≡ true
  pub second : is_open (leg_at l j).standing ≡ true
  pub source : (leg_at l i).source ≡ (leg_at l j).source
  pub destination : (leg_at l i).destination ≡ (leg_at l j).destination
  pub number : (leg_at l i).seq.0 ≡ (leg_at l j).seq.0

-- the rules in document 01's words: not above 128, no open leg with 0 ticks, no settled one with ticks left, nothing out of range, no two open legs alike
pub record KeepsRules (l : Ledger) : Type 0 where
  pub few : l.count ≤ 128
  pub lasting : (i : ℕ) → i < l.count → is_open (leg_at l i).standing ≡ true → 0 < (leg_at l i).ticks
  pub ended : (i : ℕ) → i < l.count → is_open (leg_at l i).standing ≡ false → (leg_at l i).ticks ≡ 0
  pub source : (i : ℕ) → i < l.count → in_range (leg_at l i).source ≡ true
  pub destination : (i : ℕ) → i < l.count → in_range (leg_at l i).destination ≡ true
  pub number : (i : ℕ) → i < l.count → (leg_at l i).seq.0 ≤ 32767
  pub apart : (i j : ℕ) → i < l.count → j < l.count → (i ≡ j → ⊥) → TwoAlike l i j → ⊥

-- a ledger obeys exactly if it keeps them
abbrev pub RulesAre : Type 0
RulesAre = (l : Ledger) → (obeys l ≡ true) ↔ KeepsRules l

-- a ledger that keeps its rules keeps them after every call
abbrev pub RulesKept : Type 0
RulesKept = (l : Ledger) (c : Call) → Whole l → obeys l ≡ true → obeys (after l c) ≡ true

-- a ledger that breaks its rules is 60 for every call, after what accept tries before it: 1 to 9, 50 and 51
unfoldable pub broken_refusal : Call → ℕ
broken_refusal (accepting f arrival t ticks) =
    or_else (frame_refusal f)
    (refuse 50 (not (table_in_range t))
    (refuse 51 (ltb largest_port arrival.0 || any_below (stray_at (destination_at (drop destinations_offset f))) (fields_of f).count)
    60))
broken_refusal (answering by to seq reply) = 60
broken_refusal ticking = 60
broken_refusal (clearing place) = 60

abbrev pub RulesBroken : Type 0
RulesBroken = (l : Ledger) (c : Call) → obeys l ≡ false → refusal_of l c ≡ broken_refusal c

-- the numbers that each call gives, an accept of a frame of bytes
abbrev pub call_refusals : Call → List ℕ
call_refusals (accepting f arrival t ticks) = 0 ∷ 1 ∷ 2 ∷ 3 ∷ 4 ∷ 7 ∷ 8 ∷ 9 ∷ 50 ∷ 51 ∷ 60 ∷ 61 ∷ 62 ∷ 63 ∷ []
call_refusals (answering by to seq reply) = 0 ∷ 60 ∷ 64 ∷ []
call_refusals ticking = 0 ∷ 60 ∷ []
call_refusals (clearing place) = 0 ∷ 60 ∷ 65 ∷ []

abbrev pub OfBytes : Call → Type 0
OfBytes (accepting f arrival t ticks) = Bytes f
OfBytes (answering by to seq reply) = Unit {0}
OfBytes ticking = Unit {0}
OfBytes (clearing place) = Unit {0}

abbrev pub CallNumbers : Type 0
CallNumbers = (l : Ledger) (c : Call) → OfBytes c → among (refusal_of l c) (call_refusals c) ≡ true

-- ---- answer

-- demand 2: an acknowledgement or a settling NAK closes the one open leg with the same source, destination and sequence number, and no other; a NAK that says
-- wait (reason set 2, "alerter", with code 13, "wait_ack") closes none, and changes that leg's standing alone
module _ (l : Ledger) (by to : Address) (seq : Seq) (reply : Reply) where
  -- the leg at a place is the open one that the answer names: `by` answers what `to` sent
  pub record Named (k : ℕ) : Type 0 where
    pub counts : k < l.count
    pub stands_open : is_open (leg_at l k).standing ≡ true
    pub source : (leg_at l k).source ≡ to
    pub destination : (leg_at l k).destination ≡ by
    pub number : (leg_at l k).seq.0 ≡ seq.0

  pub record Answers : Type 0 where
    pub only_one : (i j : ℕ) → Named i → Named j → i ≡ j
    pub taken : (k : ℕ) → Named k → (answer_of l by to seq reply).refusal ≡ 0
    pub acknowledged : (k : ℕ) → Named k → reply ≡ Ack → leg_at (answer_of l by to seq reply).ledger k ≡ with_standing (leg_at l k) 0 Acknowledged
    pub refused : (k set code : ℕ) → Named k → reply ≡ Nak set code → ((set ≡ 2) × (code ≡ 13) → ⊥) → leg_at (answer_of l by to seq reply).ledger k ≡ with_standing (leg_at l k) 0 (Refused set code)
    pub waiting : (k : ℕ) → Named k → reply ≡ Nak 2 13 → leg_at (answer_of l by to seq reply).ledger k ≡ with_standing (leg_at l k) (leg_at l k).ticks Waiting
    pub closes_none : reply ≡ Nak 2 13 → (i : ℕ) → is_open (leg_at (answer_of l by to seq reply).ledger i).standing ≡ is_open (leg_at l i).standing
    pub others : (k j : ℕ) → Named k → (j ≡ k → ⊥) → leg_at (answer_of l by to seq reply).ledger j ≡ leg_at l j
    pub count : (answer_of l by to seq reply).ledger.count ≡ l.count
    pub none : ((answer_of l by to seq reply).refusal ≡ 64) ↔ ((k : ℕ) → Named k → ⊥)

abbrev pub AnswerCloses : Type 0
AnswerCloses = (l : Ledger) (by to : Address) (seq : Seq) (reply : Reply) → Whole l → obeys l ≡ true → Answers l by to seq reply

-- twice is once: a second NAK that says wait changes nothing
abbrev pub TwiceIsOnce : Type 0
TwiceIsOnce = (l : Ledger) (by to : Address) (seq : Seq) → Whole l
    → after (after l (answering by to seq (Nak 2 13))) (answering by to seq (Nak 2 13)) ≡ after l (answering by to seq (Nak 2 13))

-- ---- tick

-- each leg that counts is ticked where it stands, no other place changes, and the number is that of the legs that were open and are no more
pub record Ticks (l : Ledger) : Type 0 where
  pub each : (i : ℕ) → i < l.count → leg_at (tick_of l).ledger i ≡ ticked_leg (leg_at l i)
  pub others : (i : ℕ) → l.count ≤ i → leg_at (tick_of l).ledger i ≡ leg_at l i
  pub count : (tick_of l).ledger.count ≡ l.count
  pub ended : (tick_of l).ended ≡ how_many times_out (take l.count l.legs)
  pub closed : (i : ℕ) → i < l.count → times_out (leg_at l i) ≡ (is_open (leg_at l i).standing && not (is_open (leg_at (tick_of l).ledger i).standing))

abbrev pub TickCounts : Type 0
TickCounts = (l : Ledger) → Whole l → obeys l ≡ true → Ticks l

-- ---- clear

-- the legs after the place move down one, the old last place holds no leg, and nothing else changes
pub record Clears (l : Ledger) (place : ℕ) : Type 0 where
  pub before : (i : ℕ) → i < place → leg_at (clear_of l place).ledger i ≡ leg_at l i
  pub moved : (i : ℕ) → place ≤ i → suc i < l.count → leg_at (clear_of l place).ledger i ≡ leg_at l (suc i)
  pub last : (i : ℕ) → suc i ≡ l.count → leg_at (clear_of l place).ledger i ≡ no_leg
  pub others : (i : ℕ) → l.count ≤ i → leg_at (clear_of l place).ledger i ≡ leg_at l i
  pub count : suc (clear_of l place).ledger.count ≡ l.count

abbrev pub ClearRemoves : Type 0
ClearRemoves = (l : Ledger) (place : ℕ) → Whole l → (clear_of l place).refusal ≡ 0 → Clears l place

-- it is 65 exactly if no settled leg stands there
pub record Settled (l : Ledger) (place : ℕ) : Type 0 where
  pub counts : place < l.count
  pub settled : is_open (leg_at l place).standing ≡ false

abbrev pub ClearRefuses : Type 0
ClearRefuses = (l : Ledger) (place : ℕ) → obeys l ≡ true → ((clear_of l place).refusal ≡ 65) ↔ (Settled l place → ⊥)

-- ---- accept

module _ (l : Ledger) (f : List ℕ) (arrival : Port) (t : Table) (ticks : ℕ) where
  -- a message that asks for an acknowledgement: a leg for each destination, in order, after those that counted; undeliverable with no ticks where the choice is
  -- 52, else open with those ticks
  pub record Adds : Type 0 where
    pub before : (i : ℕ) → i < l.count → leg_at (accept_of l f arrival t ticks).ledger i ≡ leg_at l i
    pub undeliverable : (i : ℕ) → i < (fields_of f).count → choose_of t (destination_at (drop destinations_offset f) i) arrival ≡ Unrouted 52
        → leg_at (accept_of l f arrival t ticks).ledger (l.count + i)
        ≡ record { source = (fields_of f).source; destination = destination_at (drop destinations_offset f) i; seq = (fields_of f).seq; ticks = 0; standing = Undeliverable }
    pub opened : (i : ℕ) → i < (fields_of f).count → (choose_of t (destination_at (drop destinations_offset f) i) arrival ≡ Unrouted 52 → ⊥)
        → leg_at (accept_of l f arrival t ticks).ledger (l.count + i)
        ≡ record { source = (fields_of f).source; destination = destination_at (drop destinations_offset f) i; seq = (fields_of f).seq; ticks = ticks; standing = Open }
    pub others : (i : ℕ) → l.count + (fields_of f).count ≤ i → leg_at (accept_of l f arrival t ticks).ledger i ≡ leg_at l i
    pub count : (accept_of l f arrival t ticks).ledger.count ≡ l.count + (fields_of f).count
    pub added : (accept_of l f arrival t ticks).added ≡ (fields_of f).count
    -- each destination is local or has a route, or the choice is 52: 50 and 51 were tried before
    pub routed : (i : ℕ) → i < (fields_of f).count → among (choice_refusal (choose_of t (destination_at (drop destinations_offset f) i) arrival)) (0 ∷ 52 ∷ []) ≡ true

  -- an open leg at a place has the message's source and number, whatever its destination
  pub record Busy (k : ℕ) : Type 0 where
    pub counts : k < l.count
    pub stands_open : is_open (leg_at l k).standing ≡ true
    pub source : (leg_at l k).source ≡ (fields_of f).source
    pub number : (leg_at l k).seq.0 ≡ (fields_of f).seq.0

  -- 61, 62 and 63, each exactly where it is due, in this order; else the message is taken
  pub record AddsUnless : Type 0 where
    pub no_ticks : ((accept_of l f arrival t ticks).refusal ≡ 61) ↔ (ticks ≡ 0)
    pub busy : ((accept_of l f arrival t ticks).refusal ≡ 62) ↔ ((0 < ticks) × ((k : ℕ) × Busy k))
    pub full : ((accept_of l f arrival t ticks).refusal ≡ 63) ↔ ((0 < ticks) × ((k : ℕ) → Busy k → ⊥) × (128 < l.count + (fields_of f).count))
    pub taken : ((accept_of l f arrival t ticks).refusal ≡ 0) ↔ ((0 < ticks) × ((k : ℕ) → Busy k → ⊥) × (l.count + (fields_of f).count ≤ 128))

  -- the frame, the table, the arrival port and the ledger are right: what is tried before 61
  pub record InOrder : Type 0 where
    pub bytes : Bytes f
    pub frame : frame_refusal f ≡ 0
    pub table : table_in_range t ≡ true
    pub port : arrival.0 ≤ 63
    pub rules : obeys l ≡ true

  -- a message that asks for none: the ledger is as it was, and 61 to 63 are not tried
  pub record Passes : Type 0 where
    pub refusal : (accept_of l f arrival t ticks).refusal ≡ 0
    pub added : (accept_of l f arrival t ticks).added ≡ 0
    pub ledger : (accept_of l f arrival t ticks).ledger ≡ l

abbrev pub AcceptAdds : Type 0
AcceptAdds = (l : Ledger) (f : List ℕ) (arrival : Port) (t : Table) (ticks : ℕ) → Whole l → (accept_of l f arrival t ticks).refusal ≡ 0 → (fields_of f).ack ≡ true → Adds l f arrival t ticks

abbrev pub AcceptRefuses : Type 0
AcceptRefuses = (l : Ledger) (f : List ℕ) (arrival : Port) (t : Table) (ticks : ℕ) → InOrder l f arrival t ticks → (fields_of f).ack ≡ true → AddsUnless l f arrival t ticks

abbrev pub AcceptPasses : Type 0
AcceptPasses = (l : Ledger) (f : List ℕ) (arrival : Port) (t : Table) (ticks : ℕ) → InOrder l f arrival t ticks → (fields_of f).ack ≡ false → Passes l f arrival t ticks
