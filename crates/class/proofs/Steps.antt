-- What a step does, and that a message ends: each step that does not end it comes to a node not met before.
use Prim.Native.Nat.{ℕ, zero, suc, ◌^◌, ◌<◌, ◌≤◌}
use mathlib.Core.Path.{◌≡◌, refl, sym, ap, ◌∙◌, fun_ext}
use mathlib.Core.Logic.{◌⊎◌, inl, inr}
use mathlib.Core.Bool.{Bool, true, false, cond, ◌||◌}
use mathlib.Core.Option.{Option, none, some}
use mathlib.Core.List.{[], ◌∷◌, ◌++◌}
use native.Mathlib.Decide.{ℕ_discrete}
use native.Mathlib.Omega.{arith}
use lib.Bits.{bit_or}
use lib.Dec.{eqb}
use lib.ListN.{length, length-append}
use borrow.Author.Tests.{eq-eqb, ne_eqb}
use Rattle.lists.proofs.Bools.{or-none}
use Rattle.address.specs.declared.Port.{Port}
use Rattle.address.specs.declared.Address.{Address}
use Rattle.table.specs.declared.Table.{Table}
use Rattle.table.specs.Choice.{Choice, Local, Out, Refused}
use Rattle.table.specs.Table.{choose_of}
use Rattle.chart.specs.declared.Chart.{Chart}
use Rattle.chart_refuse.specs.Promises.{Accepted}
use Rattle.route.specs.Route.{also, only}
use Rattle.route.specs.All.{unmet}
use Rattle.route.proofs.Laws.{unmet-also}
use Rattle.route_links.specs.Sets.{has}
use Rattle.route_links.proofs.Digits.{has-or, alone-is, has-alone}
use Rattle.class.specs.declared.Message.{Message}
use Rattle.class.specs.Class.{under_way, met_before, Arrival, out_by, ended_with, came_to, went_out, after_choice, step_on, steps_on, new_place, places_on}
use Rattle.class.specs.Promises.{GoesOver}
use Rattle.class.proofs.Ends.{station_at, over}
use Rattle.class.proofs.Ports.{leaves_of, comes-in}

-- ---- the nodes met, as a word

pub digit : (f n : ℕ) → f < 64 → has (2 ^ f) n ≡ eqb n f
digit f n h = ap (λ (w : ℕ). has w n) (sym (alone-is f h)) ∙ has-alone f n h

pub met-only : (a : ℕ) → a < 64 → has (2 ^ a) ≡ only a
unfolding only also
met-only a h = fun_ext (λ n. digit a n h ∙ sym (or-none (eqb n a)))

met-also : (w f : ℕ) → f < 64 → has (bit_or w (2 ^ f)) ≡ also f (has w)
unfolding also
met-also w f h = fun_ext (λ n. has-or w (2 ^ f) n ∙ ap (λ (b : Bool). has w n || b) (digit f n h) ∙ turn (has w n) (eqb n f))
  where
    turn : (x y : Bool) → (x || y) ≡ (y || x)
    turn true true = refl
    turn true false = refl
    turn false true = refl
    turn false false = refl

-- ---- one step

-- a message has ended
abbrev pub Ended : Message → Type 0
Ended m = m.ending ≡ under_way → ⊥

-- the message after a link: at a node that it has met, and at another
abbrev pub met_again : Message → Arrival → Message
met_again m x = record { at = x.node; arrival = x.port; met = (came_to m x).met; ending = met_before }

abbrev pub met_new : Message → Arrival → Message
met_new m x = record { at = x.node; arrival = x.port; met = (came_to m x).met; ending = under_way }

came-again : (m : Message) (x : Arrival) → has m.met x.node ≡ true → came_to m x ≡ met_again m x
unfolding came_to
came-again m x h = rw h

pub came-new : (m : Message) (x : Arrival) → has m.met x.node ≡ false → came_to m x ≡ met_new m x
unfolding came_to
came-new m x h = rw h

-- then that node is met, and so are all that were
pub met-new : (m : Message) (x : Arrival) → x.node < 64 → has m.met x.node ≡ false → has (came_to m x).met ≡ also x.node (has m.met)
unfolding came_to
met-new m x l h = rw h (met-also m.met x.node l)

module _ (c : Chart) (ts : ℕ → Table) (d : Address) where
  -- the node where the message is chose a port, and by it one comes in at x
  pub record Came (m : Message) (x : Arrival) : Type 0 where
    pub by : Port
    pub chosen : choose_of (ts m.at) d m.arrival ≡ Out by
    pub out : out_by c m.at by ≡ some x

  -- a step of a message under way ends it where it is, or goes over a link
  pub data Stepped (m : Message) : Type 0 where
    halted : (k : ℕ) → 0 < k → k < met_before → step_on c ts d m ≡ ended_with k m → Stepped m
    again : (x : Arrival) → Came m x → has m.met x.node ≡ true → step_on c ts d m ≡ met_again m x → Stepped m
    further : (x : Arrival) → Came m x → has m.met x.node ≡ false → step_on c ts d m ≡ met_new m x → Stepped m

  pub step-moving : (m : Message) → m.ending ≡ under_way → step_on c ts d m ≡ after_choice c m (choose_of (ts m.at) d m.arrival)
  unfolding step_on
  step-moving m e = rw (eq-eqb m.ending 0 e)

  pub stepped : (m : Message) → m.ending ≡ under_way → Stepped m
  unfolding after_choice went_out
  stepped m e = chose (choose_of (ts m.at) d m.arrival) refl
    where
      came : (x : Arrival) → Came m x → step_on c ts d m ≡ came_to m x → (b : Bool) → has m.met x.node ≡ b → Stepped m
      came x w q true h = again x w h (q ∙ came-again m x h)
      came x w q false h = further x w h (q ∙ came-new m x h)

      went : (p : Port) → choose_of (ts m.at) d m.arrival ≡ Out p → (o : Option Arrival) → out_by c m.at p ≡ o → step_on c ts d m ≡ went_out m o
          → Stepped m
      went p h none z q = halted 3 (omega arith) (omega arith) q
      went p h (some x) z q = came x (record { by = p; chosen = h; out = z }) q (has m.met x.node) refl

      chose : (o : Choice) → choose_of (ts m.at) d m.arrival ≡ o → Stepped m
      chose (Local p) h = halted 1 (omega arith) (omega arith) (step-moving m e ∙ ap (after_choice c m) h)
      chose (Out p) h = went p h (out_by c m.at p) refl (step-moving m e ∙ ap (after_choice c m) h)
      chose (Refused k) h = halted 2 (omega arith) (omega arith) (step-moving m e ∙ ap (after_choice c m) h)

  -- ---- what has ended

  pub step-ended : (m : Message) → Ended m → step_on c ts d m ≡ m
  unfolding step_on
  step-ended m h = rw (ne_eqb m.ending 0 h)

  pub steps-ended : (n : ℕ) (m : Message) → Ended m → steps_on c ts d n m ≡ m
  unfolding steps_on
  steps-ended zero m h = refl
  steps-ended (suc n) m h = ap (steps_on c ts d n) (step-ended m h) ∙ steps-ended n m h

  pub places-ended : (n : ℕ) (m : Message) → Ended m → places_on c ts d n m ≡ []
  unfolding places_on
  places-ended zero m h = refl
  places-ended (suc n) m h = rw (ne_eqb m.ending 0 h)

  -- a step and n more
  pub steps-more : (n : ℕ) (m m' : Message) → step_on c ts d m ≡ m' → steps_on c ts d (suc n) m ≡ steps_on c ts d n m'
  unfolding steps_on
  steps-more n m m' e = ap (steps_on c ts d n) e

  pub places-more : (n : ℕ) (m m' : Message) → m.ending ≡ under_way → step_on c ts d m ≡ m'
      → places_on c ts d (suc n) m ≡ new_place c ts d m' ++ places_on c ts d n m'
  unfolding places_on
  places-more n m m' u e = rw (eq-eqb m.ending 0 u) (ap (λ (x : Message). new_place c ts d x ++ places_on c ts d n x) e)

  -- a step comes to one node at most
  one_place : (m : Message) → length (new_place c ts d m) ≤ 1
  unfolding new_place
  one_place m = go (eqb m.ending under_way || eqb m.ending met_before)
    where
      go : (b : Bool) → length (cond b (m.at ∷ []) []) ≤ 1
      go true = omega arith
      go false = omega arith

  pub few-places : (n : ℕ) (m : Message) → length (places_on c ts d n m) ≤ n
  unfolding places_on
  few-places zero m = omega arith
  few-places (suc n) m = go (eqb m.ending under_way) (one_place (step_on c ts d m)) (few-places n (step_on c ts d m))
    where
      go : (b : Bool) → length (new_place c ts d (step_on c ts d m)) ≤ 1 → length (places_on c ts d n (step_on c ts d m)) ≤ n
          → length (cond b (new_place c ts d (step_on c ts d m) ++ places_on c ts d n (step_on c ts d m)) []) ≤ suc n
      go true h k = omega (arith, length-append (new_place c ts d (step_on c ts d m)) (places_on c ts d n (step_on c ts d m)), h, k)
      go false h k = omega arith

-- ---- in time

module _ (c : Chart) (ts : ℕ → Table) (d : Address) where
  -- what has ended has ended after n steps, and what has after a step and n more
  stays : (n : ℕ) (m : Message) → Ended m → Ended (steps_on c ts d n m)
  stays n m h q = h (sym (ap (λ (x : Message). x.ending) (steps-ended c ts d n m h)) ∙ q)

  after : (n : ℕ) (m m' : Message) → step_on c ts d m ≡ m' → Ended (steps_on c ts d n m') → Ended (steps_on c ts d (suc n) m)
  after n m m' e h q = h (sym (ap (λ (x : Message). x.ending) (steps-more c ts d n m m' e)) ∙ q)

  module _ (ok : Accepted c) where
    -- fewer than k nodes are not met, so that k steps are enough
    pub in-time : (k : ℕ) (m : Message) → unmet c.nodes.count (has m.met) < k → Ended (steps_on c ts d k m)
    unfolding ended_with
    in-time zero m h = absurd (omega arith)
    in-time (suc k) m h = go (λ x l. in-time k x l) (ℕ_discrete m.ending 0)
      where
        Below : Type 0
        Below = (x : Message) → unmet c.nodes.count (has x.met) < k → Ended (steps_on c ts d k x)

        by : Below → Stepped c ts d m → Ended (steps_on c ts d (suc k) m)
        by below (halted j l u e) = after k m (ended_with j m) e (stays k (ended_with j m) (λ q. omega arith))
        by below (again x w z e) = after k m (met_again m x) e (stays k (met_again m x) (λ q. omega arith))
        by below (further x w z e) =
            let n = c.nodes.count in
            let f = x.node in
            let here : f < n = (comes-in c ok m.at w.by x w.out).0 in
            let fewer : unmet n (has m.met) ≡ suc (unmet n (also f (has m.met))) = unmet-also n (has m.met) f here z in
            let same : unmet n (has (came_to m x).met) ≡ unmet n (also f (has m.met)) = ap (unmet n) (met-new m x (omega (arith, ok.few_nodes)) z) in
            after k m (met_new m x) e (below (met_new m x) (omega arith))

        go : Below → Dec (m.ending ≡ 0) → Ended (steps_on c ts d (suc k) m)
        go below (yes e) = by below (stepped c ts d m e)
        go below (no e) = stays (suc k) m e

-- ---- over a link

module _ (c : Chart) (ok : Accepted c) (ts : ℕ → Table) (d : Address) (m : Message) where
  went-over : (x : Arrival) → Came c ts d m x → (step_on c ts d m).at ≡ x.node → (step_on c ts d m).arrival ≡ x.port → (i : ℕ) × GoesOver c ts d m i
  went-over x w e q =
      let l = leaves_of c ok m.at w.by x w.out in
      let i = l.0 in
      let o = over c ok i m.at x.node l.1.far in (
        i,
        record {
          there = o.there;
          lit = o.lit;
          chosen = w.chosen ∙ ap Out l.1.near;
          near = o.near;
          far = l.1.far ∙ ap some (sym e);
          away = o.away ∙ ap (λ (f : ℕ). station_at c f) (sym e);
          port = q ∙ l.1.away;
        },
      )

  -- a step that does not end the message where it is
  pub goes_over : m.ending ≡ under_way → ((step_on c ts d m).ending ≡ under_way) ⊎ ((step_on c ts d m).ending ≡ met_before) → (i : ℕ) × GoesOver c ts d m i
  unfolding ended_with
  goes_over u = go (stepped c ts d m u)
    where
      not-halted : (n k : ℕ) → 0 < k → k < met_before → n ≡ k → (n ≡ under_way) ⊎ (n ≡ met_before) → ⊥
      not-halted n k l h e (inl q) = omega arith
      not-halted n k l h e (inr q) = omega arith

      go : Stepped c ts d m → ((step_on c ts d m).ending ≡ under_way) ⊎ ((step_on c ts d m).ending ≡ met_before) → (i : ℕ) × GoesOver c ts d m i
      go (halted k l h e) q = absurd (not-halted (step_on c ts d m).ending k l h (ap (λ (y : Message). y.ending) e) q)
      go (again x w h e) q = went-over x w (ap (λ (y : Message). y.at) e) (ap (λ (y : Message). y.arrival) e)
      go (further x w h e) q = went-over x w (ap (λ (y : Message). y.at) e) (ap (λ (y : Message). y.arrival) e)
