-- One turn of the flood: it goes on from one node for good, so that there are no more turns than nodes. The new nodes go by their link to that one, and older
-- routes stay.
use mathlib.Core.Path.{◌≡◌, refl, sym, ◌∙◌, ap, fun_ext}
use mathlib.Core.Logic.{◌⊎◌, inl, inr}
use mathlib.Core.Bool.{Bool, true, false, not, ◌||◌, ◌&&◌}
use mathlib.Core.Option.{some}
use mathlib.Core.List.{List, ◌∷◌}
use Prim.Native.Nat.{ℕ, suc, ◌<◌, ◌≤◌}
use native.Mathlib.Omega.{arith}
use borrow.Author.Tests.{eqb-true, ne_eqb}
use lib.Dec.{eqb}
use Rattle.lists.proofs.Bools.{and_left, and_right, or_right, or-neither, or-no-left, or-no-right, no-not, no_true, not-no, both_ways}
use Rattle.route.specs.Route.{Net, also, IsRoute, passed}
use Rattle.route.specs.All.{unmet}
use Rattle.route.proofs.Tests.{either}
use Rattle.route.proofs.Laws.{unmet-also}
use Rattle.route_ahead.proofs.Flood.{or_cases, route-stays, Come, beyond, come-inside, inside-come, Spread, Flooding}

module _ (G : Net) (met : ℕ → Bool) where
  -- where the links to the node b come from, and these links
  pub record Beside (b : ℕ) (from into : ℕ → Bool) : Type 0 where
    pub comes : (i a : ℕ) → G.far i a ≡ some b → from a ≡ true
    pub leads : (i a : ℕ) → G.far i a ≡ some b → into i ≡ true
    pub joined : (a : ℕ) → from a ≡ true → (i : ℕ) × ((i < G.links) × (G.far i a ≡ some b))
    pub linked : (i : ℕ) → into i ≡ true → (a : ℕ) × (G.far i a ≡ some b)

  -- one turn: on from the node b
  module _ (front seen live : ℕ → Bool) (left b : ℕ) (from into : ℕ → Bool) where
    abbrev pub new_nodes : ℕ → Bool
    new_nodes n = from n && not (seen n)

    abbrev pub next_front : ℕ → Bool
    next_front n = (front n && not (eqb n b)) || new_nodes n

    abbrev pub next_seen : ℕ → Bool
    next_seen n = seen n || new_nodes n

    abbrev pub next_live : ℕ → Bool
    next_live i = live i || into i

    module _ (B : Beside b from into) (F : Flooding G met front seen live (suc left)) (node : b < G.nodes) (is : front b ≡ true) where
      -- seen before, or new
      data Seen (n : ℕ) : Type 0 where
        old : seen n ≡ true → Seen n
        new : seen n ≡ false → from n ≡ true → Seen n

      was : (n : ℕ) → next_seen n ≡ true → Seen n
      was n e = go (seen n) refl (from n) refl e
        where
          go : (x : Bool) → seen n ≡ x → (y : Bool) → from n ≡ y → (x || (y && not x)) ≡ true → Seen n
          go true p y q k = old p
          go false p true q k = new p q
          go false p false q k = absurd (both_ways k refl)

      stays : (n : ℕ) → seen n ≡ true → next_seen n ≡ true
      stays n e = rw e refl

      comes : (n : ℕ) → from n ≡ true → next_seen n ≡ true
      comes n e = rw e (go (seen n))
        where
          go : (x : Bool) → (x || not x) ≡ true
          go true = refl
          go false = refl

      still : {n : ℕ} → Come G met seen n → Come G met next_seen n
      still {n} c = record { seen = stays n c.seen; unmet = c.unmet }

      fresh : (n : ℕ) → seen n ≡ false → met n ≡ false
      fresh n e = no_true (λ m. both_ways (F.shut n m) e)

      inside : (n : ℕ) → next_front n ≡ true → Come G met next_seen n
      inside n e = go (or_cases (front n && not (eqb n b)) (new_nodes n) e)
        where
          go : ((front n && not (eqb n b)) ≡ true) ⊎ (new_nodes n ≡ true) → Come G met next_seen n
          go (inl k) = still (F.inside n (and_left (front n) (not (eqb n b)) k))
          go (inr k) = record { seen = comes n (and_left (from n) (not (seen n)) k); unmet = fresh n (no-not (seen n) (and_right (from n) (not (seen n)) k)) }

      done : (n : ℕ) → Come G met next_seen n → next_front n ≡ false → Spread G met next_seen next_live n
      done n c h = go (was n c.seen) (either (eqb n b))
        where
          go : Seen n → (eqb n b ≡ true) ⊎ (eqb n b ≡ false) → Spread G met next_seen next_live n
          go (new s k) e = absurd (both_ways (rw (k, s) refl) (or-no-right (front n && not (eqb n b)) (new_nodes n) h))
          go (old s) (inl e) =
              let z : n ≡ b = eqb-true n b e in
              record {
                lit = λ i a q. rw (B.leads i a (q ∙ ap some z)) (or_right (live i));
                beside = λ i a q. comes a (B.comes i a (q ∙ ap some z));
              }
          go (old s) (inr e) =
              let S = F.done n (record { seen = s; unmet = c.unmet }) (shut-off (front n) (or-no-left (front n && not (eqb n b)) (new_nodes n) h)) in
              record { lit = λ i a q. rw (S.lit i a q) refl; beside = λ i a q. stays a (S.beside i a q) }
            where
              shut-off : (x : Bool) → (x && not (eqb n b)) ≡ false → x ≡ false
              shut-off true k = absurd (both_ways (not-no e) k)
              shut-off false k = refl

      -- older routes stay, as fewer nodes count as met; a new node goes by its link to b
      reach : (n : ℕ) → Come G met next_seen n → (r : List ℕ) × IsRoute G n (also n (beyond G met next_seen)) r
      unfolding also
      reach n c = go (was n c.seen)
        where
          wider : (x : ℕ) → beyond G met seen x ≡ false → beyond G met next_seen x ≡ false
          wider x e = come-inside G met next_seen x (still (inside-come G met seen x e))

          go : Seen n → (r : List ℕ) × IsRoute G n (also n (beyond G met next_seen)) r
          go (old s) =
              let w = F.reach n (record { seen = s; unmet = c.unmet }) in
              (w.0, route-stays G (λ x e. also-less n x e) w.1)
            where
              also-less : (y x : ℕ) → also y (beyond G met seen) x ≡ false → also y (beyond G met next_seen) x ≡ false
              also-less y x e = or-neither (or-no-left (eqb x y) (beyond G met seen x) e) (wider x (or-no-right (eqb x y) (beyond G met seen x) e))
          go (new s k) =
              let w = F.reach b (F.inside b is) in
              let j = B.joined n k in
              (j.0 ∷ w.0, passed away j.1.0 j.1.1 (or-neither (ne_eqb b n other) (wider b (come-inside G met seen b (F.inside b is)))) (route-stays G less w.1))
            where
              other : b ≡ n → ⊥
              other e = both_ways (F.inside b is).seen (ap seen e ∙ s)

              away : n ≡ G.goal → ⊥
              away e = both_ways F.start (ap seen (sym e) ∙ s)

              less : (x : ℕ) → also b (beyond G met seen) x ≡ false → also b (also n (beyond G met next_seen)) x ≡ false
              less x e =
                  let i = or-no-right (eqb x b) (beyond G met seen x) e in
                  or-neither (or-no-left (eqb x b) (beyond G met seen x) e)
                  (or-neither (ne_eqb x n (λ z. both_ways (inside-come G met seen x i).seen (ap seen z ∙ s))) (wider x i))

      lit : (i : ℕ) → next_live i ≡ true → (n : ℕ) × (Come G met next_seen n × ((a : ℕ) × (G.far i a ≡ some n)))
      lit i e = go (or_cases (live i) (into i) e)
        where
          go : (live i ≡ true) ⊎ (into i ≡ true) → (n : ℕ) × (Come G met next_seen n × ((a : ℕ) × (G.far i a ≡ some n)))
          go (inl k) = let w = F.lit i k in (w.0, (still w.1.0, w.1.1))
          go (inr k) = (b, (still (F.inside b is), B.linked i k))

      -- b is gone on from for good, and no other node
      one_more : (n : ℕ) → (next_seen n && not (next_front n)) ≡ also b (λ n. seen n && not (front n)) n
      unfolding also
      one_more n = go (either (eqb n b)) (seen n) refl (front n) refl (from n)
        where
          go : (eqb n b ≡ true) ⊎ (eqb n b ≡ false) → (x : Bool) → seen n ≡ x → (y : Bool) → front n ≡ y → (z : Bool)
              → ((x || (z && not x)) && not ((y && not (eqb n b)) || (z && not x))) ≡ (eqb n b || (x && not y))
          go (inl e) true p y q z = rw e (two y z)
            where
              two : (y z : Bool) → not ((y && false) || (z && false)) ≡ true
              two true true = refl
              two true false = refl
              two false true = refl
              two false false = refl
          go (inl e) false p y q z = absurd (both_ways (ap seen (eqb-true n b e) ∙ (F.inside b is).seen) p)
          go (inr e) x p true q z = rw e (in-front x z (sym p ∙ (F.inside n q).seen))
            where
              in-front : (x z : Bool) → x ≡ true → ((x || (z && not x)) && false) ≡ (x && false)
              in-front true z h = refl
              in-front false z h = absurd (both_ways h refl)
          go (inr e) x p false q z = rw e (apart x z)
            where
              apart : (x z : Bool) → ((x || (z && not x)) && not (z && not x)) ≡ (x && true)
              apart true true = refl
              apart true false = refl
              apart false true = refl
              apart false false = refl

      pub flood-turns : Flooding G met next_front next_seen next_live left
      flood-turns =
          record {
            start = stays G.goal F.start;
            shut = λ n e. stays n (F.shut n e);
            inside = inside;
            done = done;
            reach = reach;
            lit = lit;
            turns = count;
          }
        where
          count : unmet G.nodes (λ n. next_seen n && not (next_front n)) ≤ left
          count =
              let e = unmet-also G.nodes (λ n. seen n && not (front n)) b node (rw is (off (seen b))) in
              let z : unmet G.nodes (λ n. next_seen n && not (next_front n)) ≡ unmet G.nodes (also b (λ n. seen n && not (front n))) = ap (unmet G.nodes) (fun_ext one_more) in
              let l = F.turns in
              omega arith
            where
              off : (x : Bool) → (x && false) ≡ false
              off true = refl
              off false = refl
