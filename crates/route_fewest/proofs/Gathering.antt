-- How some nodes are come to, gathered node by node: what is gathered, and what the nodes that are left bring, is the whole.
use mathlib.Core.Path.{◌≡◌, refl, sym, ◌∙◌, ap}
use mathlib.Core.Logic.{◌⊎◌, inl, inr}
use mathlib.Core.Bool.{Bool, true, false, not, ◌||◌, ◌&&◌}
use mathlib.Core.List.{List}
use Prim.Native.Nat.{ℕ, ◌+◌, ◌-◌, ◌%◌, ◌^◌, ◌<◌}
use native.Mathlib.Omega.{arith}
use borrow.Author.Tests.{eqb-true}
use lib.Bits.{bit_or, bit_xor, and_mask}
use lib.Count.{count_trailing_zeros}
use lib.Dec.{eqb}
use lib.ListN.{length, get_or}
use Rattle.lists.specs.Places.{any_below}
use Rattle.lists.proofs.Bools.{and_left, and_right, and_both, or_right, or-none, or_assoc, not-no, both-same}
use Rattle.lists.proofs.Places.{any_found, any-never, any-agree, first_found}
use Rattle.route.proofs.Tests.{either}
use Rattle.route_links.specs.Sets.{has, places_in}
use Rattle.route_links.proofs.Digits.{has-or, has-and, has-less, has-none, less-small, low-has, lowest-under}
use Rattle.route_links.proofs.Places.{places-next}
use Rattle.route_ahead.proofs.Flood.{or_cases}
use Rattle.route_ahead.proofs.Looking.{node, node-is, Next, next-node}
use Rattle.route_fewest.specs.Private.{SpreadOf}

-- the digits below k stay
has-cut : (k w i : ℕ) → i < k → has (w % 2 ^ k) i ≡ has w i
has-cut k w i h = ap (λ (v : ℕ). has v i) (sym (and_mask w k)) ∙ has-and w (2 ^ k - 1) i ∙ rw (low-has k i h) (right (has w i))
  where
    right : (b : Bool) → (b && true) ≡ b
    right true = refl
    right false = refl

-- one of the places of p, and the others
any-but : (p q : ℕ → Bool) (n b : ℕ) → b < n → p b ≡ true → any_below (λ m. p m && q m) n ≡ (q b || any_below (λ m. (p m && not (eqb m b)) && q m) n)
any-but p q n b l e = both-same (any_below (λ m. p m && q m) n) (q b || any_below (λ m. (p m && not (eqb m b)) && q m) n) there back
  where
    there : any_below (λ m. p m && q m) n ≡ true → (q b || any_below (λ m. (p m && not (eqb m b)) && q m) n) ≡ true
    there h = let w = first_found (λ m. p m && q m) n h in go _ w.below w.passes (either (eqb _ b))
      where
        go : (m : ℕ) → m < n → (p m && q m) ≡ true → (eqb m b ≡ true) ⊎ (eqb m b ≡ false) → (q b || any_below (λ m. (p m && not (eqb m b)) && q m) n) ≡ true
        go m s k (inl z) = rw (ap q (sym (eqb-true m b z)) ∙ and_right (p m) (q m) k) refl
        go m s k (inr z) =
            let x = and_both (and_both (and_left (p m) (q m) k) (not-no z)) (and_right (p m) (q m) k) in
            rw (any_found (λ m. (p m && not (eqb m b)) && q m) n m s x) (or_right (q b))

    back : (q b || any_below (λ m. (p m && not (eqb m b)) && q m) n) ≡ true → any_below (λ m. p m && q m) n ≡ true
    back h = go (or_cases (q b) (any_below (λ m. (p m && not (eqb m b)) && q m) n) h)
      where
        go : (q b ≡ true) ⊎ (any_below (λ m. (p m && not (eqb m b)) && q m) n ≡ true) → any_below (λ m. p m && q m) n ≡ true
        go (inl k) = any_found (λ m. p m && q m) n b l (and_both e k)
        go (inr k) = let w = first_found (λ m. (p m && not (eqb m b)) && q m) n k in found _ w.below w.passes
          where
            found : (m : ℕ) → m < n → ((p m && not (eqb m b)) && q m) ≡ true → any_below (λ m. p m && q m) n ≡ true
            found m s z =
                any_found (λ m. p m && q m) n m s
                (and_both (and_left (p m) (not (eqb m b)) (and_left (p m && not (eqb m b)) (q m) z)) (and_right (p m && not (eqb m b)) (q m) z))

-- place i is in one of the words that a row has for the nodes of a set
unfoldable pub brings : (ℕ → ℕ) → ℕ → ℕ → Bool
brings row nodes i = any_below (λ n. has nodes n && has (row n) i) 16

brings-none : (row : ℕ → ℕ) (i : ℕ) → brings row 0 i ≡ false
unfolding brings
brings-none row i = any-never (λ n. has 0 n && has (row n) i) (λ n. rw (has-none n) refl) 16

module _ (rest b : ℕ) (N : Next rest b) where
  brings-but : (row : ℕ → ℕ) (i : ℕ) → brings row rest i ≡ (has (row b) i || brings row (bit_xor rest (node b)) i)
  unfolding brings
  brings-but row i =
      any-but (has rest) (λ n. has (row n) i) 16 b N.below N.is
      ∙ ap (λ x. has (row b) i || x)
      (any-agree (λ n. (has rest n && not (eqb n b)) && has (row n) i) (λ n. has (bit_xor rest (node b)) n && has (row n) i) 16
      (λ n l. ap (λ x. x && has (row n) i) (sym (less n))))
    where
      less : (n : ℕ) → has (bit_xor rest (node b)) n ≡ (has rest n && not (eqb n b))
      less n = ap (λ (o : ℕ). has (bit_xor rest o) n) (node-is b N.below) ∙ has-less rest b n (let h = N.below in omega arith) N.is

-- the loop's state
pub record Gathered (t : List ℕ) (nodes links from rest : ℕ) : Type 0 where
  pub small : rest < 2 ^ 16
  pub into : (i : ℕ) → (has links i || brings (λ n. get_or t n 0) rest i) ≡ brings (λ n. get_or t n 0) nodes i
  pub beside : (a : ℕ) → a < 16 → (has from a || brings (λ n. get_or t (81 + n) 0) rest a) ≡ brings (λ n. get_or t (81 + n) 0) nodes a

module _ (t : List ℕ) (nodes : ℕ) where
  pub gather-starts : nodes < 2 ^ 16 → Gathered t nodes 0 0 nodes
  gather-starts h = record { small = h; into = λ i. rw (has-none i) refl; beside = λ a l. rw (has-none a) refl }

  module _ (links from rest : ℕ) (G : Gathered t nodes links from rest) where
    pub gather-turns : (b : ℕ) → Next rest b → Gathered t nodes (bit_or links (get_or t b 0)) (bit_or from (get_or t (81 + b) 0 % 65536)) (bit_xor rest (node b))
    gather-turns b N =
        record {
          small = rw (node-is b N.below) (less-small 16 rest b N.below (omega arith) G.small);
          into = λ i. one (λ n. get_or t n 0) links (get_or t b 0) i refl ∙ G.into i;
          beside = λ a l. one (λ n. get_or t (81 + n) 0) from (get_or t (81 + b) 0 % 65536) a (has-cut 16 (get_or t (81 + b) 0) a l) ∙ G.beside a l;
        }
      where
        one : (row : ℕ → ℕ) (w v i : ℕ) → has v i ≡ has (row b) i → (has (bit_or w v) i || brings row (bit_xor rest (node b)) i) ≡ (has w i || brings row rest i)
        one row w v i e =
            ap (λ x. x || brings row (bit_xor rest (node b)) i) (has-or w v i ∙ ap (λ x. has w i || x) e)
            ∙ or_assoc (has w i) (has (row b) i) (brings row (bit_xor rest (node b)) i)
            ∙ ap (λ x. has w i || x) (sym (brings-but rest b N row i))

    -- a turn leaves fewer nodes
    pub gather-less : (ne : rest ≡ 0 → ⊥) → length (places_in (bit_xor rest (node (count_trailing_zeros 16 rest)))) < length (places_in rest)
    gather-less ne =
        let N = next-node rest G.small ne in
        let l = N.below in
        let e = ap length (places-next rest (count_trailing_zeros 16 rest) (omega arith) (lowest-under 16 rest) N.is) in
        rw (node-is (count_trailing_zeros 16 rest) l) (omega arith)

    pub gather-ends : rest ≡ 0 → SpreadOf t nodes (record { links = links; nodes = from })
    unfolding brings
    gather-ends z =
        record {
          links = λ i. all (λ n. get_or t n 0) links i ∙ G.into i;
          nodes = λ a l. all (λ n. get_or t (81 + n) 0) from a ∙ G.beside a l;
        }
      where
        all : (row : ℕ → ℕ) (w i : ℕ) → has w i ≡ (has w i || brings row rest i)
        all row w i = sym (rw (z, brings-none row i) (or-none (has w i)))
