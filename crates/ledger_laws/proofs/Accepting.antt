-- When accept gives 61, 62, 63 or takes the message, each exactly; and that a message without <ack_req> passes.
use Prim.Native.Nat.{ℕ, ◌-◌, ◌<◌, ◌≤◌}
use mathlib.Core.Path.{◌≡◌, refl, sym, ap, ◌∙◌}
use mathlib.Core.Bool.{Bool, true, false, cond, ◌&&◌}
use mathlib.Core.List.{List}
use mathlib.Core.Logic.{◌↔◌}
use native.Mathlib.Omega.{arith}
use lib.Dec.{eqb, ltb}
use lib.ListN.{drop}
use borrow.Author.Tests.{eqb-true, eqb-false, eq-eqb, ne_eqb, lt-ltb, le-ltb, ltb-true, ltb-false}
use Rattle.lists.specs.Places.{any_below}
use Rattle.lists.specs.Refusals.{refuse}
use Rattle.lists.proofs.Bools.{and_left, and_right, and_both}
use Rattle.lists.proofs.Places.{any_found, any_false, first_found}
use Rattle.lists.proofs.Refusals.{taken}
use Rattle.address.specs.declared.Port.{Port}
use Rattle.address.specs.Address.{same_address}
use Rattle.address.proofs.Laws.{same-eq, same_refl}
use Rattle.envelope.specs.Frame.{destinations_offset, fields_of, destination_at}
use Rattle.table.specs.declared.Table.{Table}
use Rattle.ledger.specs.declared.Ledger.{Ledger}
use Rattle.ledger.specs.Rules.{leg_at, is_open}
use Rattle.ledger.proofs.Laws.{obedient}
use Rattle.ledger_accept.specs.Accept.{is_open_from, is_open_from_at, legs_refusal, accept_refusal, with_legs, accept_of}
use Rattle.ledger_accept.proofs.Laws.{call-refusal, call-quiet, call-legs}
use Rattle.ledger_laws.specs.Promises.{Busy, AddsUnless, InOrder, Passes, AcceptRefuses, AcceptPasses}

-- ---- three tests in a row, each with its number

abbrev chain : Bool → Bool → Bool → ℕ
chain a b c = refuse 61 a (refuse 62 b (refuse 63 c 0))

record Chain (a b c : Bool) : Type 0 where
  is-61 : (chain a b c ≡ 61) ↔ (a ≡ true)
  is-62 : (chain a b c ≡ 62) ↔ ((a ≡ false) × (b ≡ true))
  is-63 : (chain a b c ≡ 63) ↔ ((a ≡ false) × (b ≡ false) × (c ≡ true))
  is-0 : (chain a b c ≡ 0) ↔ ((a ≡ false) × (b ≡ false) × (c ≡ false))

wrong : {A : Type 0} → true ≡ false → A
wrong h = let z : ◌≡◌ {A = ℕ} 0 1 = cc in absurd (omega arith)

chained : (a b c : Bool) → Chain a b c
chained true b c =
    record {
      is-61 = (λ h. refl, λ h. refl);
      is-62 = (λ h. absurd (omega arith), λ h. wrong h.0);
      is-63 = (λ h. absurd (omega arith), λ h. wrong h.0);
      is-0 = (λ h. absurd (omega arith), λ h. wrong h.0);
    }
chained false true c =
    record {
      is-61 = (λ h. absurd (omega arith), λ h. wrong (sym h));
      is-62 = (λ h. (refl, refl), λ h. refl);
      is-63 = (λ h. absurd (omega arith), λ h. wrong h.1);
      is-0 = (λ h. absurd (omega arith), λ h. wrong h.1);
    }
chained false false true =
    record {
      is-61 = (λ h. absurd (omega arith), λ h. wrong (sym h));
      is-62 = (λ h. absurd (omega arith), λ h. wrong (sym h.1));
      is-63 = (λ h. (refl, refl, refl), λ h. refl);
      is-0 = (λ h. absurd (omega arith), λ h. wrong h.2);
    }
chained false false false =
    record {
      is-61 = (λ h. absurd (omega arith), λ h. wrong (sym h));
      is-62 = (λ h. absurd (omega arith), λ h. wrong (sym h.1));
      is-63 = (λ h. absurd (omega arith), λ h. wrong (sym h.2));
      is-0 = (λ h. (refl, refl, refl), λ h. refl);
    }

-- ---- what each test says

module _ (l : Ledger) (f : List ℕ) (arrival : Port) (t : Table) (ticks : ℕ) where
  abbrev busy_at : ℕ → Bool
  busy_at = is_open_from_at l (fields_of f).source (fields_of f).seq

  busy-is : (k : ℕ) → k < l.count → busy_at k ≡ true → Busy l f arrival t ticks k
  unfolding is_open_from_at is_open_from
  busy-is k h e =
      let g = leg_at l k in
      let p = and_left (is_open g.standing && same_address g.source (fields_of f).source) _ e in
      record {
        counts = h;
        stands_open = and_left (is_open g.standing) _ p;
        source = same-eq _ _ (and_right (is_open g.standing) _ p);
        number = eqb-true _ _ (and_right (is_open g.standing && same_address g.source (fields_of f).source) _ e);
      }

  is-busy : (k : ℕ) → Busy l f arrival t ticks k → busy_at k ≡ true
  unfolding is_open_from_at is_open_from
  is-busy k b =
      and_both (and_both b.stands_open (ap (same_address (leg_at l k).source) (sym b.source) ∙ same_refl (leg_at l k).source))
      (eq-eqb _ _ b.number)

  none-busy : any_below busy_at l.count ≡ false → (k : ℕ) → Busy l f arrival t ticks k → ⊥
  none-busy e k b = wrong (sym (is-busy k b) ∙ any_false busy_at l.count k e b.counts)

  not-busy : ((k : ℕ) → Busy l f arrival t ticks k → ⊥) → any_below busy_at l.count ≡ false
  not-busy none = go (any_below busy_at l.count) refl
    where
      go : (b : Bool) → any_below busy_at l.count ≡ b → b ≡ false
      go true e = let o = first_found busy_at l.count e in absurd (none _ (busy-is _ o.below o.passes))
      go false e = refl

  module _ (o : InOrder l f arrival t ticks) where
    -- the number of a message that asks for an acknowledgement is that of the three tests
    asked-refusal : (fields_of f).ack ≡ true
        → (accept_of l f arrival t ticks).refusal ≡ chain (eqb ticks 0) (any_below busy_at l.count) (ltb (128 - l.count) (fields_of f).count)
    unfolding accept_of legs_refusal
    asked-refusal a =
        sym (call-refusal l f arrival t ticks o.bytes o.frame refl)
        ∙ sym (call-legs l (fields_of f) arrival t ticks o.table o.port o.rules a)

    adds-unless : (fields_of f).ack ≡ true → AddsUnless l f arrival t ticks
    adds-unless a =
        let e = asked-refusal a in
        let c = chained (eqb ticks 0) (any_below busy_at l.count) (ltb (128 - l.count) (fields_of f).count) in
        let few : l.count ≤ 128 = (obedient l o.rules).few in
        let lasting : eqb ticks 0 ≡ false → 0 < ticks = λ h. let n = eqb-false ticks 0 h in omega arith in
        let ended : 0 < ticks → eqb ticks 0 ≡ false = λ h. ne_eqb ticks 0 (λ z. omega arith) in
        record {
          no_ticks = (λ h. eqb-true ticks 0 (c.is-61.0 (sym e ∙ h)), λ h. e ∙ c.is-61.1 (eq-eqb ticks 0 h));
          busy = (
            λ h.
                let w = c.is-62.0 (sym e ∙ h) in
                let p = first_found busy_at l.count w.1 in
                (lasting w.0, (_, busy-is _ p.below p.passes)),
            λ w. e ∙ c.is-62.1 (ended w.0, any_found busy_at l.count w.1.0 w.1.1.counts (is-busy w.1.0 w.1.1)),
          );
          full = (
            λ h.
                let w = c.is-63.0 (sym e ∙ h) in
                let m = ltb-true (128 - l.count) (fields_of f).count w.2 in
                (lasting w.0, none-busy w.1, omega arith),
            λ w. e ∙ c.is-63.1 (ended w.0, not-busy w.1, lt-ltb (128 - l.count) (fields_of f).count (omega (arith, w.2))),
          );
          taken = (
            λ h.
                let w = c.is-0.0 (sym e ∙ h) in
                let m = ltb-false (128 - l.count) (fields_of f).count w.2 in
                (lasting w.0, none-busy w.1, omega arith),
            λ w. e ∙ c.is-0.1 (ended w.0, not-busy w.1, le-ltb (128 - l.count) (fields_of f).count (omega (arith, w.2))),
          );
        }

    passes : (fields_of f).ack ≡ false → Passes l f arrival t ticks
    unfolding accept_of
    passes a =
        let z : accept_refusal l f arrival t ticks ≡ 0 =
        sym (call-refusal l f arrival t ticks o.bytes o.frame refl) ∙ sym (call-quiet l (fields_of f) arrival t ticks o.table o.port o.rules a) in
        record {
          refusal = z;
          added = taken _ _ z ∙ ap (λ (b : Bool). cond b (fields_of f).count 0) a;
          ledger = taken _ _ z ∙ ap (λ (b : Bool). cond b (with_legs l (fields_of f) (destination_at (drop destinations_offset f)) arrival t ticks) l) a;
        }

pub accept_refuses : AcceptRefuses
accept_refuses = adds-unless

pub accept_passes : AcceptPasses
accept_passes = passes
