-- The look ahead over a table: the flood in words, and what its answers say.
use mathlib.Core.Path.{◌≡◌, refl, sym, ◌∙◌, ap, subst, fun_ext}
use mathlib.Core.Logic.{◌⊎◌, inl, inr}
use mathlib.Core.Bool.{Bool, true, false, not, ◌||◌, ◌&&◌}
use mathlib.Core.List.{List}
use Prim.Native.Nat.{ℕ, zero, suc, ◌+◌, ◌-◌, ◌*◌, ◌/◌, ◌%◌, ◌^◌, ◌<◌, ◌≤◌}
use native.Mathlib.Omega.{arith}
use native.Mathlib.Nat.{mod-eq_of_lt}
use borrow.Author.Tests.{eqb-true, eqb-false, ltb-true, ltb-false}
use lib.Bits.{bit_and, bit_or, bit_xor}
use lib.Count.{count_trailing_zeros}
use lib.Dec.{eqb, ltb}
use lib.ListN.{get_or}
use Rattle.lists.proofs.Bools.{and_left, and_right, both_ways, no-not, no_true}
use Rattle.route.specs.Route.{IsRoute, arrived, passed}
use Rattle.route_links.specs.Sets.{has}
use Rattle.route_links.specs.Private.{alone, net_of, Walkable, met_of}
use Rattle.route_links.proofs.Digits.{has-or, has-and, has-less, has-without, has-alone, has-none, has-shifted, alone-is, alone-small, less-small, or-small, without-small, lowest-is, digit-below, one-digit}
use Rattle.route_ahead.specs.Ahead.{Begins, Worth, Asked}
use Rattle.route_ahead.proofs.Flood.{Flooding, flood-starts, flood-over, live-begins, begins-live}
use Rattle.route_ahead.proofs.Spreading.{Beside, flood-turns}

-- the node k alone, as a word of 16 digits
abbrev pub node : ℕ → ℕ
node k = 1 * 2 ^ k % 65536

pub node-is : (k : ℕ) → k < 16 → node k ≡ alone k
node-is k h =
    let e : alone k ≡ 2 ^ k = alone-is k (omega arith) in
    let l : alone k < 2 ^ 16 = alone-small k 16 h (omega arith) in
    let m : 1 * 2 ^ k < 65536 = omega arith in
    let q : node k ≡ 1 * 2 ^ k = mod-eq_of_lt m in
    omega arith

pub positive : (w : ℕ) → (w ≡ 0 → ⊥) → 0 < w
positive zero h = absurd (h refl)
positive (suc w) h = omega arith

-- the node that a turn goes on from
pub record Next (front b : ℕ) : Type 0 where
  pub below : b < 16
  pub is : has front b ≡ true

pub next-node : (front : ℕ) → front < 2 ^ 16 → (front ≡ 0 → ⊥) → Next front (count_trailing_zeros 16 front)
next-node front h ne =
    let e = lowest-is 16 front (positive front ne) h in
    record { below = digit-below 16 front (count_trailing_zeros 16 front) h e; is = e }

-- the loop's test
pub goes_on : (front left : ℕ) → (not (eqb front 0) && ltb 0 left) ≡ true → (front ≡ 0 → ⊥) × (0 < left)
goes_on front left e = (eqb-false front 0 (no-not (eqb front 0) (and_left (not (eqb front 0)) (ltb 0 left) e)), ltb-true 0 left (and_right (not (eqb front 0)) (ltb 0 left) e))

pub ended : (front left : ℕ) → (not (eqb front 0) && ltb 0 left) ≡ false → (front ≡ 0) ⊎ (left ≡ 0)
ended front left e = go (eqb front 0) refl (ltb 0 left) refl e
  where
    go : (x : Bool) → eqb front 0 ≡ x → (y : Bool) → ltb 0 left ≡ y → (not x && y) ≡ false → (front ≡ 0) ⊎ (left ≡ 0)
    go true p y q k = inl (eqb-true front 0 p)
    go false p true q k = absurd (both_ways refl k)
    go false p false q k = inr (let l = ltb-false 0 left q in omega arith)

-- the flood in words, over a table that can be walked, where the goal is not met
abbrev pub Flood : List ℕ → ℕ → ℕ → ℕ → ℕ → ℕ → Type 0
Flood t gone front seen live left =
    Walkable t → met_of gone (net_of t).goal ≡ false → Flooding (net_of t) (met_of gone) (has front) (has seen) (has live) left

module _ (t : List ℕ) (gone : ℕ) where
  abbrev goal : ℕ
  goal = get_or t 80 0

  pub starts : get_or t 80 0 < 16 → Flood t gone (node (get_or t 80 0)) (bit_or (node (get_or t 80 0)) (gone / 281474976710656)) 0 16
  unfolding net_of met_of
  starts h T fresh =
      subst (λ front. Flooding (net_of t) (met_of gone) front (has (bit_or (node goal) (gone / 281474976710656))) (has 0) 16) (fun_ext front-is)
      (subst (λ seen. Flooding (net_of t) (met_of gone) (λ n. eqb n goal) seen (has 0) 16) (fun_ext seen-is)
      (subst (λ live. Flooding (net_of t) (met_of gone) (λ n. eqb n goal) (λ n. eqb n goal || met_of gone n) live 16) (fun_ext (λ i. sym (has-none i)))
      (flood-starts (net_of t) (met_of gone) fresh)))
    where
      front-is : (n : ℕ) → eqb n goal ≡ has (node goal) n
      front-is n = sym (ap (λ (w : ℕ). has w n) (node-is goal h) ∙ has-alone goal n (omega arith))

      seen-is : (n : ℕ) → (eqb n goal || met_of gone n) ≡ has (bit_or (node goal) (gone / 281474976710656)) n
      seen-is n =
          ap (λ b. b || met_of gone n) (front-is n)
          ∙ ap (λ b. has (node goal) n || b) (sym (has-shifted 48 gone n))
          ∙ sym (has-or (node goal) (gone / 281474976710656) n)

  module _ (front seen live left b : ℕ) (h : front < 2 ^ 16) (N : Next front b) where
    abbrev from : ℕ
    from = get_or t (81 + b) 0 % 65536

    abbrev new : ℕ
    new = bit_xor from (bit_and from seen)

    pub turn_small : bit_or (bit_xor front (node b)) (bit_xor (get_or t (81 + b) 0 % 65536) (bit_and (get_or t (81 + b) 0 % 65536) seen)) < 2 ^ 16
    turn_small =
        or-small 16 (bit_xor front (node b)) new
        (subst (λ (o : ℕ). bit_xor front o < 2 ^ 16) (sym (node-is b N.below)) (less-small 16 front b N.below (omega arith) h))
        (without-small 16 from seen (omega arith))

    pub turns : Flood t gone front seen live (suc left)
        → Flood t gone (bit_or (bit_xor front (node b)) (bit_xor (get_or t (81 + b) 0 % 65536) (bit_and (get_or t (81 + b) 0 % 65536) seen)))
        (bit_or seen (bit_xor (get_or t (81 + b) 0 % 65536) (bit_and (get_or t (81 + b) 0 % 65536) seen))) (bit_or live (get_or t b 0)) left
    unfolding net_of
    turns F T fresh =
        subst (λ f. Flooding (net_of t) (met_of gone) f (has (bit_or seen new)) (has (bit_or live (get_or t b 0))) left) (fun_ext front-is)
        (subst (λ s. Flooding (net_of t) (met_of gone) (λ n. (has front n && not (eqb n b)) || (has from n && not (has seen n))) s (has (bit_or live (get_or t b 0))) left) (fun_ext seen-is)
        (subst (λ l. Flooding (net_of t) (met_of gone) (λ n. (has front n && not (eqb n b)) || (has from n && not (has seen n))) (λ n. has seen n || (has from n && not (has seen n))) l left)
        (fun_ext (λ i. sym (has-or live (get_or t b 0) i)))
        (flood-turns (net_of t) (met_of gone) (has front) (has seen) (has live) left b (has from) (has (get_or t b 0)) beside (F T fresh) N.below N.is)))
      where
        few : get_or t (81 + b) 0 ≡ from
        few = let l = T.few b N.below in sym (mod-eq_of_lt l)

        beside : Beside (net_of t) (met_of gone) b (has from) (has (get_or t b 0))
        beside =
            record {
              comes = λ i a q. ap (λ (w : ℕ). has w a) (sym few) ∙ (T.leads i a b q).kept.beside;
              leads = λ i a q. (T.leads i a b q).kept.to;
              joined = λ a e. (let w = T.froms a b N.below (ap (λ (w : ℕ). has w a) few ∙ e) in (w.0, ((T.leads w.0 a b w.1).kept.place, w.1)));
              linked = λ i e. T.ins i b N.below e;
            }

        front-is : (n : ℕ) → ((has front n && not (eqb n b)) || (has from n && not (has seen n))) ≡ has (bit_or (bit_xor front (node b)) new) n
        front-is n =
            sym (has-or (bit_xor front (node b)) new n
            ∙ ap (λ x. x || has new n) (ap (λ (o : ℕ). has (bit_xor front o) n) (node-is b N.below) ∙ has-less front b n (let l = N.below in omega arith) N.is)
            ∙ ap (λ x. (has front n && not (eqb n b)) || x) (has-without from seen n))

        seen-is : (n : ℕ) → (has seen n || (has from n && not (has seen n))) ≡ has (bit_or seen new) n
        seen-is n = sym (has-or seen new n ∙ ap (λ x. has seen n || x) (has-without from seen n))

  -- ---- what the answers say

  module _ (links at : ℕ) (A : Asked t at gone links) where
    -- live links begin routes
    live-worth : (front seen live left i : ℕ) → Flood t gone front seen live left → has links i ≡ true → has live i ≡ true → Begins (net_of t) at (met_of gone) i
    unfolding net_of
    live-worth front seen live left i F e l =
        let w = A.opens i e in
        let k = (A.table.leads i at w.0 w.1.0).kept in
        live-begins (net_of t) (met_of gone) (has front) (has seen) (has live) left (F A.table A.goal) i at w.0 (λ a f b g. A.table.ends i a f b g) k.place
        A.other A.met w.1.0 w.1.1 l

    -- all of them do
    pub all-worth : (front seen live left : ℕ) → Flood t gone front seen live left → bit_and links live ≡ links → Worth (net_of t) at (met_of gone) links links
    all-worth front seen live left F q =
        record {
          among = λ i e. e;
          begins = λ i e. live-worth front seen live left i F e (and_right (has links i) (has live i) (sym (has-and links live i) ∙ ap (λ (w : ℕ). has w i) q ∙ e));
          all = λ i e b. e;
        }

    -- the flood has ended
    pub end-worth : (front seen live left : ℕ) → Flood t gone front seen live left → front < 2 ^ 16 → (front ≡ 0) ⊎ (left ≡ 0)
        → Worth (net_of t) at (met_of gone) links (bit_and links live)
    unfolding net_of
    end-worth front seen live left F h z =
        record {
          among = λ i e. and_left (has links i) (has live i) (sym (has-and links live i) ∙ e);
          begins = λ i e. (let b = sym (has-and links live i) ∙ e in
              live-worth front seen live left i F (and_left (has links i) (has live i) b) (and_right (has links i) (has live i) b));
          all = λ i e b. has-and links live i ∙ rw (e, begins-live (net_of t) (met_of gone) (has front) (has seen) (has live) left (F A.table A.goal) (over z) at i b.0 b.1) refl;
        }
      where
        over : (front ≡ 0) ⊎ (left ≡ 0) → (n : ℕ) → has front n ≡ false
        over (inl e) n = ap (λ (w : ℕ). has w n) e ∙ has-none n
        over (inr e) n = no_true (λ q. both_ways q (flood-over (net_of t) (met_of gone) (has front) (has seen) (has live) left (F A.table A.goal) n (digit-below 16 front n h q) e))

    -- a goal that is no node's place is not reached
    goal-low : {a : ℕ} {met : ℕ → Bool} {r : List ℕ} → a < 16 → IsRoute (net_of t) a met r → get_or t 80 0 < 16
    unfolding net_of
    goal-low h (arrived e) = omega arith
    goal-low {a = a} h (passed {i = i} {f = f} ne l q m p) = goal-low (A.table.leads i a f q).kept.far p

    pub no-goal : 16 ≤ get_or t 80 0 → Worth (net_of t) at (met_of gone) links 0
    no-goal h =
        record {
          among = λ i e. absurd (both_ways e (has-none i));
          begins = λ i e. absurd (both_ways e (has-none i));
          all = λ i e b. absurd (let l = goal-low A.node b.1 in omega arith);
        }

    -- where one is known there are some; one alone is it
    pub no-links : (i : ℕ) → has links i ≡ true → links ≡ 0 → Worth (net_of t) at (met_of gone) links 0
    no-links i e z = absurd (both_ways e (ap (λ (w : ℕ). has w i) z ∙ has-none i))

    pub one-worth : (i : ℕ) → has links i ≡ true → Begins (net_of t) at (met_of gone) i → bit_and links (links - 1) ≡ 0 → Worth (net_of t) at (met_of gone) links links
    one-worth i e b z =
        record {
          among = λ j h. h;
          begins = λ j h. subst (λ (k : ℕ). Begins (net_of t) at (met_of gone) k) (one-digit links i j z e h) b;
          all = λ j h c. h;
        }
