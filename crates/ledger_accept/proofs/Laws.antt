-- Laws of accept's definitions: the numbers from the tests on the way, and what stands beside them.
use Prim.Native.Nat.{ℕ, ◌-◌, ◌<◌, ◌≤◌}
use mathlib.Core.Path.{◌≡◌, sym, ap, ◌∙◌}
use mathlib.Core.Bool.{Bool, true, false, not, ◌||◌, cond}
use mathlib.Core.List.{List}
use lib.Dec.{eqb, ltb}
use lib.ListN.{length, take, drop}
use borrow.Author.Tests.{le-leb, lt-ltb, le-ltb, eq-eqb, ne_eqb, ltb-false, eqb-false, not-false}
use Rattle.buffer.specs.Bytes.{Bytes}
use Rattle.lists.specs.Places.{any_below}
use Rattle.lists.specs.Refusals.{unless_refused}
use Rattle.lists.proofs.Bools.{or-no-left, and_both}
use Rattle.lists.proofs.Refusals.{pass, or-pass, or-refused, taken, refused}
use Rattle.address.specs.declared.Port.{Port}
use Rattle.address.specs.declared.Address.{Address}
use Rattle.address.specs.Address.{in_range}
use Rattle.envelope.specs.declared.Fixed.{Fixed}
use Rattle.envelope.specs.Frame.{destinations_offset, fields_of, destination_at}
use Rattle.envelope.specs.Refusal.{frame_refusal}
use Rattle.envelope.specs.Place.{frame_place}
use Rattle.envelope.proofs.Laws.{no_place, part_bytes, part-from, destination-ranged, never-stray}
use Rattle.table.specs.declared.Table.{Table}
use Rattle.table.specs.Table.{table_in_range, call_in_range}
use Rattle.ledger.specs.declared.Ledger.{Ledger}
use Rattle.ledger.specs.Rules.{obeys}
use Rattle.std.specs.Prelude.{Result, Ok, Err}
use Rattle.refusal.specs.declared.Fault.{Fault}
use Rattle.refusal.specs.Numbers.{AnswersAt}
use Rattle.ledger_accept.specs.declared.Added as code
use Rattle.ledger_accept.specs.Accept.{Added, accept_answer, is_open_from_at, legs_refusal, call_refusal, accept_refusal, with_legs, accept_of}

-- ---- 61 to 63

module _ (l : Ledger) (e : Fixed) (ticks : ℕ) where
  pub legs-61 : ticks ≡ 0 → 61 ≡ legs_refusal l e ticks
  unfolding legs_refusal
  legs-61 h = rw (eq-eqb ticks 0 h)

  pub legs-62 : (ticks ≡ 0 → ⊥) → any_below (is_open_from_at l e.source e.seq) l.count ≡ true → 62 ≡ legs_refusal l e ticks
  unfolding legs_refusal
  legs-62 h a = rw (ne_eqb ticks 0 h, a)

  module _ (lasting : ticks ≡ 0 → ⊥) (fresh : any_below (is_open_from_at l e.source e.seq) l.count ≡ false) where
    pub legs-63 : 128 - l.count < e.count → 63 ≡ legs_refusal l e ticks
    unfolding legs_refusal
    legs-63 h = rw (ne_eqb ticks 0 lasting, fresh, lt-ltb (128 - l.count) e.count h)

    pub legs-fit : e.count ≤ 128 - l.count → 0 ≡ legs_refusal l e ticks
    unfolding legs_refusal
    legs-fit h = rw (ne_eqb ticks 0 lasting, fresh, le-ltb (128 - l.count) e.count h)

-- ---- 50, 51, 60

module _ (l : Ledger) (e : Fixed) (arrival : Port) (t : Table) (ticks : ℕ) where
  pub call-50 : table_in_range t ≡ false → 50 ≡ call_refusal l e false arrival t ticks
  unfolding call_refusal
  call-50 a = rw a

  module _ (ranged : table_in_range t ≡ true) where
    pub call-51 : 63 < arrival.0 → 51 ≡ call_refusal l e false arrival t ticks
    unfolding call_refusal
    call-51 h = rw (ranged, lt-ltb 63 arrival.0 h)

    module _ (port : arrival.0 ≤ 63) where
      pub call-60 : obeys l ≡ false → 60 ≡ call_refusal l e false arrival t ticks
      unfolding call_refusal
      call-60 a = rw (ranged, le-ltb 63 arrival.0 port, a)

      module _ (rules : obeys l ≡ true) where
        pub call-quiet : e.ack ≡ false → 0 ≡ call_refusal l e false arrival t ticks
        unfolding call_refusal
        call-quiet a = rw (ranged, le-ltb 63 arrival.0 port, rules) (ap (λ (b : Bool). cond b (legs_refusal l e ticks) 0) (sym a))

        pub call-legs : e.ack ≡ true → legs_refusal l e ticks ≡ call_refusal l e false arrival t ticks
        unfolding call_refusal
        call-legs a = rw (ranged, le-ltb 63 arrival.0 port, rules) (ap (λ (b : Bool). cond b (legs_refusal l e ticks) 0) (sym a))

-- a destination that is read and a port in range are a call in range
pub call-ranged : (part : List ℕ) → Bytes part → (i : ℕ) → {d : Address} → d ≡ destination_at part i → {arrival : Port} → arrival.0 ≤ 63 → call_in_range d arrival ≡ true
unfolding call_in_range
call-ranged part b i e h = and_both (ap in_range e ∙ destination-ranged part b i) (le-leb _ _ h)

-- what a call that is not refused says
pub record Called (l : Ledger) (e : Fixed) (arrival : Port) (t : Table) : Type 0 where
  pub table : table_in_range t ≡ true
  pub port : arrival.0 ≤ 63
  pub rules : obeys l ≡ true

-- and of one that adds legs
pub record Roomy (l : Ledger) (e : Fixed) (ticks : ℕ) : Type 0 where
  pub lasting : ticks ≡ 0 → ⊥
  pub fresh : any_below (is_open_from_at l e.source e.seq) l.count ≡ false
  pub room : e.count ≤ 128 - l.count

module _ (l : Ledger) (e : Fixed) (stray : Bool) (arrival : Port) (t : Table) (ticks : ℕ) (h : call_refusal l e stray arrival t ticks ≡ 0) where
  pub called : Called l e arrival t
  unfolding call_refusal
  called =
      let p = pass 49 (not (table_in_range t)) _ h in
      let q = pass 50 (ltb 63 arrival.0 || stray) _ p.1 in
      let r = pass 59 (not (obeys l)) _ q.1 in
      record { table = not-false _ p.0; port = ltb-false _ _ (or-no-left (ltb 63 arrival.0) stray q.0); rules = not-false _ r.0 }

  pub roomy : e.ack ≡ true → Roomy l e ticks
  unfolding call_refusal legs_refusal
  roomy a =
      let p = pass 49 (not (table_in_range t)) _ h in
      let q = pass 50 (ltb 63 arrival.0 || stray) _ p.1 in
      let r = pass 59 (not (obeys l)) _ q.1 in
      let z : legs_refusal l e ticks ≡ 0 = sym (ap (λ (b : Bool). cond b (legs_refusal l e ticks) 0) a) ∙ r.1 in
      let x = pass 60 (eqb ticks 0) _ z in
      let y = pass 61 (any_below (is_open_from_at l e.source e.seq) l.count) _ x.1 in
      let w = pass 62 (ltb (128 - l.count) e.count) 0 y.1 in
      record { lasting = eqb-false ticks 0 x.0; fresh = y.0; room = ltb-false _ _ w.0 }

-- ---- the whole call

-- what accept comes to says its result's number, place, ledger and count
pub accept-answers : (l : Ledger) (x : Result code.Added Fault) (a : Added) → accept_answer l x ≡ a → AnswersAt x a.refusal a.place (record { ledger = a.ledger; added = a.added })
accept-answers l (Ok m) a e = (
  sym (ap (λ (y : Added). y.refusal) e),
  (sym (ap (λ (y : Added). y.place) e), λ i. record { ledger = (ap (λ (y : Added). y.ledger) e) i; added = (ap (λ (y : Added). y.added) e) i }),
)
accept-answers l (Err f) a e = (ap (λ (y : Added). y.refusal) e, ap (λ (y : Added). y.place) e)

module _ (l : Ledger) (f : List ℕ) (arrival : Port) (t : Table) (ticks : ℕ) where
  -- beside a refusal no leg is added
  pub accept-refused : {k place : ℕ} → k ≡ accept_refusal l f arrival t ticks → (k ≡ 0 → ⊥) → place ≡ frame_place f
      → ◌≡◌ {A = Added} (record { refusal = k; added = 0; place = place; ledger = l }) (accept_of l f arrival t ticks)
  unfolding accept_of
  accept-refused {k} p h at = λ i. record { refusal = p i; added = none i; place = at i; ledger = same i }
    where
      none : 0 ≡ unless_refused (accept_refusal l f arrival t ticks) (cond (fields_of f).ack (fields_of f).count 0) 0
      none = rw (← p) (sym (refused _ 0 k h))

      same : l ≡ unless_refused (accept_refusal l f arrival t ticks) (cond (fields_of f).ack (with_legs l (fields_of f) (destination_at (drop destinations_offset f)) arrival t ticks) l) l
      same = rw (← p) (sym (refused _ l k h))

  -- the number of a refused frame, and of an accepted one: its destinations are in range
  pub read-refusal : (frame_refusal f ≡ 0 → ⊥) → frame_refusal f ≡ accept_refusal l f arrival t ticks
  unfolding accept_refusal
  read-refusal h = sym (or-refused (frame_refusal f) _ h)

  pub call-refusal : Bytes f → frame_refusal f ≡ 0 → {e : Fixed} → e ≡ fields_of f → call_refusal l e false arrival t ticks ≡ accept_refusal l f arrival t ticks
  unfolding accept_refusal
  call-refusal b z p = rw (z, p, never-stray (drop destinations_offset f) (part_bytes destinations_offset f b) (fields_of f).count)

  -- a refused frame has its number and its place
  pub frame-refused : {n place : ℕ} → (n ≡ 0 → ⊥) → (n ≡ frame_refusal f) × (place ≡ frame_place f)
      → (n ≡ (accept_of l f arrival t ticks).refusal) × (place ≡ (accept_of l f arrival t ticks).place)
  unfolding accept_of
  frame-refused some r = (r.0 ∙ read-refusal (λ z. some (r.0 ∙ z)), r.1)

  -- a call that is refused after it has its number, and no place
  pub call-refused : {n : ℕ} → n ≡ accept_refusal l f arrival t ticks → frame_place f ≡ 0
      → (n ≡ (accept_of l f arrival t ticks).refusal) × (0 ≡ (accept_of l f arrival t ticks).place)
  unfolding accept_of
  call-refused p at = (p, sym at)

  module _ (z : accept_refusal l f arrival t ticks ≡ 0) (e : Fixed) (p : e ≡ fields_of f) where
    nowhere : 0 ≡ frame_place f
    unfolding accept_refusal
    nowhere = no_place f (or-pass (frame_refusal f) _ z).0

    whole : Ledger
    whole = with_legs l (fields_of f) (destination_at (drop destinations_offset f)) arrival t ticks

    -- what stands beside no refusal, by whether an acknowledgement is asked for
    asked : {b : Bool} → e.ack ≡ b → (fields_of f).ack ≡ b
    asked a = ap (λ (x : Fixed). x.ack) (sym p) ∙ a

    refusal-added : {b : Bool} → e.ack ≡ b → unless_refused (accept_refusal l f arrival t ticks) (cond (fields_of f).ack (fields_of f).count 0) 0 ≡ cond b (fields_of f).count 0
    refusal-added a = taken _ _ z ∙ ap (λ (x : Bool). cond x (fields_of f).count 0) (asked a)

    ledger-after : {b : Bool} → e.ack ≡ b → unless_refused (accept_refusal l f arrival t ticks) (cond (fields_of f).ack whole l) l ≡ cond b whole l
    ledger-after a = taken _ _ z ∙ ap (λ (x : Bool). cond x whole l) (asked a)

    pub accept-quiet : e.ack ≡ false → ◌≡◌ {A = Added} (record { refusal = 0; added = 0; place = 0; ledger = l }) (accept_of l f arrival t ticks)
    unfolding accept_of whole
    accept-quiet a = λ i. record { refusal = sym z i; added = sym (refusal-added a) i; place = nowhere i; ledger = sym (ledger-after a) i }

    pub accept-added : e.ack ≡ true → {m : Ledger} → m ≡ with_legs l e (destination_at (take (length f - 5) (drop 5 f))) arrival t ticks
        → ◌≡◌ {A = Added} (record { refusal = 0; added = e.count; place = 0; ledger = m }) (accept_of l f arrival t ticks)
    unfolding accept_of whole
    accept-added a {m} h =
        let c : e.count ≡ (fields_of f).count = ap (λ (x : Fixed). x.count) p in
        let w : m ≡ whole = h ∙ rw (p, part-from 5 f) in
        λ i. record { refusal = sym z i; added = (c ∙ sym (refusal-added a)) i; place = nowhere i; ledger = (w ∙ sym (ledger-after a)) i }
