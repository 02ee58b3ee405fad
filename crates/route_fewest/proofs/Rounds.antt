-- The search backwards from the goal, over tests of nodes and of links: after k rounds the nodes seen are those within k links, and `front` has those from
-- which it has not gone on. A link from the node asked about, which is not seen, into what is seen leads into `front`.
use mathlib.Core.Path.{◌≡◌, refl, sym, ◌∙◌, ap}
use mathlib.Core.Logic.{◌⊎◌, inl, inr}
use mathlib.Core.Bool.{Bool, true, false, not, ◌||◌, ◌&&◌}
use mathlib.Core.Option.{none, some}
use Prim.Native.Nat.{ℕ, zero, suc, ◌<◌}
use native.Mathlib.Omega.{arith}
use borrow.Author.Tests.{ne_eqb}
use lib.Dec.{eqb}
use Rattle.lists.specs.Places.{first_below}
use Rattle.lists.proofs.Bools.{and_left, and_right, and_both, or_right, or-neither, no_true, both_ways, both-same}
use Rattle.route.specs.Route.{Net, Sound}
use Rattle.route.proofs.Tests.{either}
use Rattle.route_fewest.specs.Fewest.{leads_to, some_leads, near}
use Rattle.route_fewest.specs.Private.{hop_from, hop}
use Rattle.route_fewest.proofs.Near.{leads-by, led, near_by, near_le, into-near, next_of}
use Rattle.route_fewest.proofs.Hops.{hop-none}

module _ (G : Net) (from : ℕ) where
  -- what is known after k rounds, with so many left
  pub record Round (k left : ℕ) (front seen : ℕ → Bool) : Type 0 where
    pub says : hop G from ≡ hop_from G from k left
    pub within : (n : ℕ) → n < G.nodes → seen n ≡ near G k n
    pub inside : (n : ℕ) → n < G.nodes → front n ≡ true → near G k n ≡ true
    pub done : (i a n : ℕ) → i < G.links → G.far i a ≡ some n → near G k n ≡ true → front n ≡ false → near G k a ≡ true
    pub away : near G k from ≡ false

  pub round-starts : ¬ (from ≡ G.goal) → Round 0 G.nodes (λ n. eqb n G.goal) (λ n. eqb n G.goal)
  unfolding hop near
  round-starts ne =
      record {
        says = refl;
        within = λ n l. refl;
        inside = λ n l e. e;
        done = λ i a n l q e f. absurd (both_ways e f);
        away = ne_eqb from G.goal ne;
      }

  module _ (k left : ℕ) (front seen : ℕ → Bool) where
    -- a link leads from the node into what is seen
    pub round-found : Round k (suc left) front seen → some_leads G (near G k) from ≡ true → hop G from ≡ some (first_below (leads_to G (near G k) from) G.links)
    unfolding hop_from
    round-found R e = R.says ∙ rw e refl

    -- no node is left to go on from, or no round
    pub round-ends : Round k left front seen → ((n : ℕ) → front n ≡ false) ⊎ (left ≡ 0) → hop G from ≡ none
    unfolding hop_from
    round-ends R (inr z) = R.says ∙ rw z refl
    round-ends R (inl over) = R.says ∙ hop-none G from left k (λ j. no_true (λ e. both_ways (shut j from e) R.away))
      where
        shut : (j a : ℕ) → near G j a ≡ true → near G k a ≡ true
        shut zero a e = near_le G k 0 a (omega arith) e
        shut (suc j) a e = go (either (near G j a)) (λ n. shut j n)
          where
            go : (near G j a ≡ true) ⊎ (near G j a ≡ false) → ((n : ℕ) → near G j n ≡ true → near G k n ≡ true) → near G k a ≡ true
            go (inl h) ih = ih a h
            go (inr h) ih =
                let x = next_of G j a (into-near G j a h e) in
                R.done x.link a x.to x.there x.far (ih x.to x.near-to) (over x.to)

-- link i leads from a into `front`
pub record Enters (G : Net) (front : ℕ → Bool) (i a : ℕ) : Type 0 where
  pub to : ℕ
  pub there : i < G.links
  pub far : G.far i a ≡ some to
  pub node : to < G.nodes
  pub is : front to ≡ true

-- these are the links into `front`, and the nodes from which they lead
pub record Into (G : Net) (front links nodes : ℕ → Bool) : Type 0 where
  pub linked : (i : ℕ) → links i ≡ true → (a : ℕ) × Enters G front i a
  pub links-all : (i a : ℕ) → Enters G front i a → links i ≡ true
  pub joined : (a : ℕ) → a < G.nodes → nodes a ≡ true → (i : ℕ) × Enters G front i a
  pub nodes-all : (i a : ℕ) → a < G.nodes → Enters G front i a → nodes a ≡ true

-- the links of a node
pub record OutOf (G : Net) (a : ℕ) (out : ℕ → Bool) : Type 0 where
  pub outs : (i : ℕ) → out i ≡ true → (f : ℕ) × (G.far i a ≡ some f)
  pub outs-all : (i f : ℕ) → G.far i a ≡ some f → out i ≡ true

module _ (G : Net) (sound : Sound G) (from k left : ℕ) (front seen links nodes : ℕ → Bool) (I : Into G front links nodes)
    (R : Round G from k (suc left) front seen) where
  -- a link out of the node into what is seen leads into `front`: it has but two ends, of which the one that is seen is not the node
  pub nearer-is : (out : ℕ → Bool) → OutOf G from out → ((i a f : ℕ) → G.far i a ≡ some f → i < G.links)
      → ((i a f b g : ℕ) → G.far i a ≡ some f → G.far i b ≡ some g → (g ≡ a) ⊎ (g ≡ f)) → (i : ℕ) → (out i && links i) ≡ leads_to G (near G k) from i
  nearer-is out O below ends i = both-same (out i && links i) (leads_to G (near G k) from i) there back
    where
      there : (out i && links i) ≡ true → leads_to G (near G k) from i ≡ true
      there e =
          let w = O.outs i (and_left (out i) (links i) e) in
          let v = I.linked i (and_right (out i) (links i) e) in
          let s = v.1 in
          go w.0 s.to w.1 (R.inside s.to s.node s.is) (ends i from w.0 v.0 s.to w.1 s.far)
        where
          go : (f n : ℕ) → G.far i from ≡ some f → near G k n ≡ true → (n ≡ from) ⊎ (n ≡ f) → leads_to G (near G k) from i ≡ true
          go f n q h (inl z) = absurd (both_ways h (ap (near G k) z ∙ R.away))
          go f n q h (inr z) = leads-by G (near G k) from i f q (ap (near G k) (sym z) ∙ h)

      back : leads_to G (near G k) from i ≡ true → (out i && links i) ≡ true
      back e =
          let d = led G (near G k) from i e in
          and_both (O.outs-all i d.to d.far) (go d.to d.far d.ok (either (front d.to)))
        where
          go : (n : ℕ) → G.far i from ≡ some n → near G k n ≡ true → (front n ≡ true) ⊎ (front n ≡ false) → links i ≡ true
          go n q h (inl f) = I.links-all i from (record { to = n; there = below i from n q; far = q; node = sound i from n q; is = f })
          go n q h (inr f) = absurd (both_ways (R.done i from n (below i from n q) q h f) R.away)

  abbrev new : ℕ → Bool
  new n = nodes n && not (seen n)

  -- what is seen then is within one link more
  within_more : (n : ℕ) → n < G.nodes → (seen n || new n) ≡ near G (suc k) n
  within_more n l = both-same (seen n || new n) (near G (suc k) n) (there (either (seen n))) (back (either (seen n)))
    where
      there : (seen n ≡ true) ⊎ (seen n ≡ false) → (seen n || new n) ≡ true → near G (suc k) n ≡ true
      there (inl s) h = near_le G (suc k) k n (omega arith) (sym (R.within n l) ∙ s)
      there (inr s) h =
          let w = I.joined n l (and_left (nodes n) (not false) (rw s at h)) in
          let x = w.1 in
          near_by G k n w.0 x.to x.there x.far (R.inside x.to x.node x.is)

      back : (seen n ≡ true) ⊎ (seen n ≡ false) → near G (suc k) n ≡ true → (seen n || new n) ≡ true
      back (inl s) h = rw s refl
      back (inr s) h =
          let x = next_of G k n (into-near G k n (sym (R.within n l) ∙ s) h) in
          go x.link x.to x.there x.far x.near-to (either (front x.to))
        where
          go : (i f : ℕ) → i < G.links → G.far i n ≡ some f → near G k f ≡ true → (front f ≡ true) ⊎ (front f ≡ false) → (seen n || new n) ≡ true
          go i f b q h (inl p) = rw (s, I.nodes-all i n l (record { to = f; there = b; far = q; node = sound i n f q; is = p })) refl
          go i f b q h (inr p) = absurd (both_ways (R.within n l ∙ R.done i n f b q h p) s)

  -- one round more, where no link leads from the node into what was seen
  pub round-on : some_leads G (near G k) from ≡ false → Round G from (suc k) left (λ n. nodes n && not (seen n)) (λ n. seen n || (nodes n && not (seen n)))
  unfolding hop_from near
  round-on e =
      record {
        says = R.says ∙ rw e refl;
        within = within_more;
        inside = λ n l h. sym (within_more n l) ∙ rw h (or_right (seen n));
        done = λ i a n l q h f. near_by G k a i n l q (old n (sound i a n q) h f);
        away = or-neither R.away e;
      }
    where
      -- what is not in front was seen before
      old : (n : ℕ) → n < G.nodes → near G (suc k) n ≡ true → new n ≡ false → near G k n ≡ true
      old n l h f = sym (R.within n l) ∙ go (seen n) (new n) f (within_more n l ∙ h)
        where
          go : (x y : Bool) → y ≡ false → (x || y) ≡ true → x ≡ true
          go true y f h = refl
          go false y f h = absurd (both_ways h f)
