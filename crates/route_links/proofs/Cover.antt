-- The links that are worth trying: the routes on from a node are those by the links of any set that has the first link of each.
use mathlib.Core.Path.{◌≡◌, refl, sym, ◌∙◌, ap}
use mathlib.Core.Logic.{◌⊎◌, inl, inr}
use mathlib.Core.Bool.{Bool, true, false, not, ◌&&◌, cond}
use mathlib.Core.Option.{Option, none, some}
use mathlib.Core.List.{List, [], ◌∷◌, ◌++◌, map, Memᴰ}
use Prim.Native.Nat.{ℕ, zero, suc, ◌+◌, ◌-◌, ◌^◌, ◌<◌, ◌≤◌}
use native.Mathlib.Omega.{arith}
use borrow.Author.Tests.{ltb-true, ltb-false}
use lib.Bits.{bit_and, bit_xor}
use lib.Dec.{ltb}
use Rattle.lists.proofs.Bools.{and_left, and_right, no_true, both_ways}
use Rattle.route.specs.Route.{Net, Sound, also, passed}
use Rattle.route.specs.All.{up_from, links_from, tries, over, all_from}
use Rattle.route.proofs.Tests.{either}
use Rattle.route.proofs.Laws.{all_are, tries-cut, tries-met, tries-over}
use Rattle.route_links.specs.Sets.{has, where_from}
use Rattle.route_links.specs.Private.{Covers}
use Rattle.route_links.proofs.Digits.{has-without, low-has, low-not}
use Rattle.route_links.proofs.Places.{where-skip}

pub none_in : (l : List (List ℕ)) → ((r : List ℕ) → Memᴰ r l → ⊥) → l ≡ []
none_in [] h = refl
none_in (r ∷ l) h = absurd (h r (Memᴰ.head refl))

module _ (G : Net) (sound : Sound G) (links at : ℕ) (met : ℕ → Bool) (j : ℕ) (ne : ¬ (at ≡ G.goal)) (C : Covers G links at met j) where
  abbrev next : ℕ → List (List ℕ)
  next f = all_from G f (also f met)

  -- a link that is left out begins no route
  dropped : (i : ℕ) (ls : List ℕ) → j ≤ i → i < G.links → has links i ≡ false → tries G next at met (i ∷ ls) ≡ tries G next at met ls
  dropped i ls h l e = go (G.far i at) refl
    where
      go : (o : Option ℕ) → G.far i at ≡ o → tries G next at met (i ∷ ls) ≡ tries G next at met ls
      go none q = tries-cut G next at met i ls q
      go (some f) q = split (either (met f))
        where
          split : (met f ≡ true) ⊎ (met f ≡ false) → tries G next at met (i ∷ ls) ≡ tries G next at met ls
          split (inl m) = tries-met G next at met i ls f q m
          split (inr m) =
              let z : next f ≡ [] = none_in _ (λ r z. both_ways (C.keeps i r h (passed ne l q m ((all_are G sound f (also f met) r).0 z))) e) in
              tries-over G next at met i ls f q m ∙ ap (λ k. map (λ r. i ∷ r) k ++ tries G next at met ls) z

  tries-where : (i n : ℕ) → j ≤ i → i + n ≤ G.links → tries G next at met (where_from (has links) i n) ≡ tries G next at met (up_from i n)
  unfolding where_from up_from tries
  tries-where i zero l h = refl
  tries-where i (suc n) l h = go (tries-where (suc i) n (omega arith) (omega arith)) (either (has links i))
    where
      go : tries G next at met (where_from (has links) (suc i) n) ≡ tries G next at met (up_from (suc i) n) → (has links i ≡ true) ⊎ (has links i ≡ false)
          → tries G next at met (cond (has links i) (i ∷ where_from (has links) (suc i) n) (where_from (has links) (suc i) n)) ≡ tries G next at met (i ∷ up_from (suc i) n)
      go ih (inl e) = rw e (ap (λ l. over next met i (G.far i at) ++ l) ih)
      go ih (inr e) = rw e (ih ∙ sym (dropped i (up_from (suc i) n) l (omega arith) e))

  -- the routes by a link at place j or later
  pub covered : j ≤ G.links → tries G (λ f. all_from G f (also f met)) at met (links_from G j) ≡ tries G (λ f. all_from G f (also f met)) at met (where_from (has links) 0 G.links)
  unfolding links_from
  covered h =
      let e : j + (G.links - j) ≡ G.links = omega arith in
      let z : 0 + j ≡ j = omega arith in
      sym (tries-where j (G.links - j) (omega arith) (omega arith))
      ∙ ap (λ ls. tries G next at met ls)
      (sym (where-skip (has links) 0 j (G.links - j) (λ i l. no_true (λ b. let m = C.above i b in omega arith)) ∙ ap (λ (n : ℕ). where_from (has links) n (G.links - j)) z)
      ∙ ap (λ (n : ℕ). where_from (has links) 0 n) e)

-- of these links those at place k or later
pub later-cover : (G : Net) (links at : ℕ) (met : ℕ → Bool) (k : ℕ) → Covers G links at met 0 → Covers G (bit_xor links (bit_and links (2 ^ k - 1))) at met k
later-cover G links at met k C =
    record {
      above = λ i e. high i (split i e);
      opens = λ i e. C.opens i (and_left (has links i) (not (has (2 ^ k - 1) i)) (split i e));
      keeps = λ i r l p. has-without links (2 ^ k - 1) i ∙ rw (C.keeps i r (omega arith) p, low-not k i l) refl;
    }
  where
    split : (i : ℕ) → has (bit_xor links (bit_and links (2 ^ k - 1))) i ≡ true → (has links i && not (has (2 ^ k - 1) i)) ≡ true
    split i e = sym (has-without links (2 ^ k - 1) i) ∙ e

    high : (i : ℕ) → (has links i && not (has (2 ^ k - 1) i)) ≡ true → k ≤ i
    high i e = go (either (ltb i k))
      where
        off : (y : Bool) → not y ≡ true → y ≡ true → ⊥
        off true e q = both_ways e refl
        off false e q = both_ways q refl

        go : (ltb i k ≡ true) ⊎ (ltb i k ≡ false) → k ≤ i
        go (inr q) = ltb-false i k q
        go (inl q) = absurd (off (has (2 ^ k - 1) i) (and_right (has links i) (not (has (2 ^ k - 1) i)) e) (low-has k i (ltb-true i k q)))
