-- The places where a test holds, in order, and those in a set.
use mathlib.Core.Path.{◌≡◌, refl, sym, ◌∙◌, ap, subst}
use mathlib.Core.Logic.{◌⊎◌, inl, inr}
use mathlib.Core.Bool.{Bool, true, false, ◌&&◌, cond}
use mathlib.Core.List.{[], ◌∷◌, Memᴰ}
use Prim.Native.Nat.{ℕ, zero, suc, ◌+◌, ◌-◌, ◌^◌, ◌<◌, ◌≤◌}
use native.Mathlib.Omega.{arith}
use borrow.Author.Tests.{eqb-true, eqb-false, eq-eqb, ne_eqb, leb-true, leb-false}
use lib.Bits.{bit_xor}
use lib.Dec.{eqb, leb}
use lib.Pow.{pow_mono}
use Rattle.lists.proofs.Bools.{both_ways, both-same, no_true}
use Rattle.route.proofs.Tests.{either}
use Rattle.route_links.specs.Sets.{has, where_from, places_in, SetOf}
use Rattle.route_links.specs.Private.{alone}
use Rattle.route_links.proofs.Digits.{has-less, has-none, has-past, digit-below, past-small}

module _ (p : ℕ → Bool) where
  pub where-same : (q : ℕ → Bool) (i n : ℕ) → ((j : ℕ) → i ≤ j → p j ≡ q j) → where_from p i n ≡ where_from q i n
  unfolding where_from
  where-same q i zero h = refl
  where-same q i (suc n) h =
      ap (λ b. cond b (i ∷ where_from p (suc i) n) (where_from p (suc i) n)) (h i (omega arith))
      ∙ ap (λ l. cond (q i) (i ∷ l) l) (where-same q (suc i) n (λ j l. h j (omega arith)))

  pub where-alike : (q : ℕ → Bool) (i n : ℕ) → ((j : ℕ) → j < i + n → p j ≡ q j) → where_from p i n ≡ where_from q i n
  unfolding where_from
  where-alike q i zero h = refl
  where-alike q i (suc n) h =
      ap (λ b. cond b (i ∷ where_from p (suc i) n) (where_from p (suc i) n)) (h i (omega arith))
      ∙ ap (λ l. cond (q i) (i ∷ l) l) (where-alike q (suc i) n (λ j l. h j (omega arith)))

  -- none where the test never holds
  pub where-none : (i n : ℕ) → ((j : ℕ) → i ≤ j → p j ≡ false) → where_from p i n ≡ []
  unfolding where_from
  where-none i zero h = refl
  where-none i (suc n) h = rw (h i (omega arith)) (where-none (suc i) n (λ j l. h j (omega arith)))

  -- none before place i + j
  pub where-skip : (i j n : ℕ) → ((k : ℕ) → k < i + j → p k ≡ false) → where_from p i (j + n) ≡ where_from p (i + j) n
  unfolding where_from
  where-skip i zero n low =
      let e : zero + n ≡ n = omega arith in
      let m : i ≡ i + zero = omega arith in
      ap (λ (k : ℕ). where_from p i k) e ∙ ap (λ (k : ℕ). where_from p k n) m
  where-skip i (suc j) n low =
      let e : i + suc j ≡ suc i + j = omega arith in
      let m : suc j + n ≡ suc (j + n) = omega arith in
      ap (λ (k : ℕ). where_from p i k) m ∙ rw (low i (omega arith)) (where-skip (suc i) j n (λ k l. low k (omega arith)) ∙ ap (λ (k : ℕ). where_from p k n) (sym e))

  -- none from place i + n on
  pub where-past : (i n m : ℕ) → ((k : ℕ) → i + n ≤ k → p k ≡ false) → where_from p i (n + m) ≡ where_from p i n
  unfolding where_from
  where-past i zero m high =
      let e : zero + m ≡ m = omega arith in
      ap (λ (k : ℕ). where_from p i k) e ∙ where-none i m (λ k l. high k (omega arith))
  where-past i (suc n) m high =
      let e : suc n + m ≡ suc (n + m) = omega arith in
      ap (λ (k : ℕ). where_from p i k) e ∙ ap (λ l. cond (p i) (i ∷ l) l) (where-past (suc i) n m (λ k l. high k (omega arith)))

  pub where-has : (i n j : ℕ) → i ≤ j → j < i + n → p j ≡ true → Memᴰ j (where_from p i n)
  unfolding where_from
  where-has i zero j l h e = absurd (omega arith)
  where-has i (suc n) j l h e = go (p i) refl (either (eqb i j)) (λ ne. where-has (suc i) n j (omega arith) (omega arith) e)
    where
      go : (b : Bool) → p i ≡ b → (eqb i j ≡ true) ⊎ (eqb i j ≡ false) → ((i ≡ j → ⊥) → Memᴰ j (where_from p (suc i) n))
          → Memᴰ j (cond b (i ∷ where_from p (suc i) n) (where_from p (suc i) n))
      go true q (inl k) ih = mathlib.Core.List.Memᴰ.head (sym (eqb-true i j k))
      go true q (inr k) ih = mathlib.Core.List.Memᴰ.tail (ih (eqb-false i j k))
      go false q (inl k) ih = absurd (both_ways (subst (λ (z : ℕ). p z ≡ true) (sym (eqb-true i j k)) e) q)
      go false q (inr k) ih = ih (eqb-false i j k)

  pub has-where : (i n j : ℕ) → Memᴰ j (where_from p i n) → p j ≡ true
  unfolding where_from
  has-where i zero j m = elim m [ ]
  has-where i (suc n) j m = go (p i) refl m (λ k. has-where (suc i) n j k)
    where
      go : (b : Bool) → p i ≡ b → Memᴰ j (cond b (i ∷ where_from p (suc i) n) (where_from p (suc i) n)) → (Memᴰ j (where_from p (suc i) n) → p j ≡ true)
          → p j ≡ true
      go true q (mathlib.Core.List.Memᴰ.head e) ih = subst (λ (z : ℕ). p z ≡ true) (sym e) q
      go true q (mathlib.Core.List.Memᴰ.tail k) ih = ih k
      go false q k ih = ih k

  pub where_below : (i n j : ℕ) → Memᴰ j (where_from p i n) → j < i + n
  unfolding where_from
  where_below i zero j m = elim m [ ]
  where_below i (suc n) j m = go (p i) m (λ k. where_below (suc i) n j k)
    where
      go : (b : Bool) → Memᴰ j (cond b (i ∷ where_from p (suc i) n) (where_from p (suc i) n)) → (Memᴰ j (where_from p (suc i) n) → j < suc i + n) → j < i + suc n
      go true (mathlib.Core.List.Memᴰ.head e) ih = omega arith
      go true (mathlib.Core.List.Memᴰ.tail k) ih = let z = ih k in omega arith
      go false k ih = let z = ih k in omega arith

-- ---- sets

-- the same places by two tests, each of which holds nowhere past its own end
pub where-equal : (p q : ℕ → Bool) (n m : ℕ) → ((i : ℕ) → p i ≡ q i) → ((i : ℕ) → n ≤ i → p i ≡ false) → ((i : ℕ) → m ≤ i → q i ≡ false)
    → where_from p 0 n ≡ where_from q 0 m
where-equal p q n m e h k =
    let z : n + m ≡ m + n = omega arith in
    sym (where-past p 0 n m (λ i l. h i (omega arith)))
    ∙ where-same p q 0 (n + m) (λ i l. e i)
    ∙ ap (λ (c : ℕ). where_from q 0 c) z
    ∙ where-past q 0 m n (λ i l. k i (omega arith))

-- the word of a set has the digits that the list has
pub set_is : (p : ℕ → Bool) (n w : ℕ) → SetOf (where_from p 0 n) w → ((i : ℕ) → n ≤ i → p i ≡ false) → (i : ℕ) → has w i ≡ p i
unfolding places_in
set_is p n w S past i = both-same (has w i) (p i) there back
  where
    there : has w i ≡ true → p i ≡ true
    there e = go (either (leb 48 i))
      where
        go : (leb 48 i ≡ true) ⊎ (leb 48 i ≡ false) → p i ≡ true
        go (inl k) = absurd (both_ways e (has-past 48 w i S.small (leb-true 48 i k)))
        go (inr k) = has-where p 0 n i (subst (λ l. Memᴰ i l) S.places (where-has (has w) 0 48 i (omega arith) (let z = leb-false 48 i k in omega arith) e))

    back : p i ≡ true → has w i ≡ true
    back e = go (either (leb n i))
      where
        go : (leb n i ≡ true) ⊎ (leb n i ≡ false) → has w i ≡ true
        go (inl k) = absurd (both_ways e (past i (leb-true n i k)))
        go (inr k) = has-where (has w) 0 48 i (subst (λ l. Memᴰ i l) (sym S.places) (where-has p 0 n i (omega arith) (let z = leb-false n i k in omega arith) e))

pub is_set : (p : ℕ → Bool) (n w : ℕ) → w < 2 ^ 48 → ((i : ℕ) → n ≤ i → p i ≡ false) → ((i : ℕ) → has w i ≡ p i) → SetOf (where_from p 0 n) w
unfolding places_in
is_set p n w small past e = record { small = small; places = where-equal (has w) p 48 n e (λ i l. has-past 48 w i small l) past }

-- the same for a test that counts only below n
module _ (p : ℕ → Bool) (m n w : ℕ) (same : m ≡ n) where
  pub set-below-is : n ≤ 48 → SetOf (where_from p 0 m) w → (i : ℕ) → i < n → has w i ≡ p i
  unfolding places_in
  set-below-is h S i l =
      both-same (has w i) (p i)
      (λ e. has-where p 0 m i (subst (λ l. Memᴰ i l) S.places (where-has (has w) 0 48 i (omega arith) (omega arith) e)))
      (λ e. has-where (has w) 0 48 i (subst (λ l. Memᴰ i l) (sym S.places) (where-has p 0 m i (omega arith) (omega arith) e)))

  pub is-set-below : n ≤ 48 → w < 2 ^ n → ((i : ℕ) → i < n → has w i ≡ p i) → SetOf (where_from p 0 m) w
  unfolding places_in
  is-set-below h small e =
      let k : 2 ^ n ≤ 2 ^ 48 = pow_mono h in
      let z : n + (48 - n) ≡ 48 = omega arith in
      record {
        small = omega arith;
        places = ap (λ (k : ℕ). where_from (has w) 0 k) (sym z)
            ∙ where-past (has w) 0 n (48 - n) (λ i l. has-past n w i small (omega arith))
            ∙ where-alike (has w) p 0 n (λ i l. e i (omega arith))
            ∙ ap (λ (k : ℕ). where_from p 0 k) (sym same);
      }

  pub set-few : SetOf (where_from p 0 m) w → w < 2 ^ n
  unfolding places_in
  set-few S = past-small n w (λ i l. no_true (λ e. past i l e))
    where
      past : (i : ℕ) → n ≤ i → has w i ≡ true → ⊥
      past i l e =
          let b = digit-below 48 w i S.small e in
          let z = where_below p 0 m i (subst (λ l. Memᴰ i l) S.places (where-has (has w) 0 48 i (omega arith) (omega arith) e)) in
          absurd (omega arith)

pub places-none : places_in 0 ≡ []
unfolding places_in
places-none = where-none (has 0) 0 48 (λ i l. has-none i)

-- the least place of a set first, then the others
module _ (w t : ℕ) (s : t < 64) (low : (j : ℕ) → j < t → has w j ≡ false) (e : has w t ≡ true) where
  abbrev v : ℕ
  v = bit_xor w (alone t)

  later : (j : ℕ) → suc t ≤ j → has w j ≡ has v j
  later j l = sym (has-less w t j s e ∙ rw (ne_eqb j t (λ z. absurd (omega arith))) (right (has w j)))
    where
      right : (b : Bool) → (b && true) ≡ b
      right true = refl
      right false = refl

  where_next : (i n : ℕ) → i ≤ t → t < i + n → where_from (has w) i n ≡ t ∷ where_from (has v) i n
  unfolding where_from
  where_next i zero h l = absurd (omega arith)
  where_next i (suc n) h l = go (λ h'. where_next (suc i) n h' (omega arith)) (either (eqb i t))
    where
      go : (suc i ≤ t → where_from (has w) (suc i) n ≡ t ∷ where_from (has v) (suc i) n) → (eqb i t ≡ true) ⊎ (eqb i t ≡ false)
          → cond (has w i) (i ∷ where_from (has w) (suc i) n) (where_from (has w) (suc i) n)
          ≡ t ∷ cond (has v i) (i ∷ where_from (has v) (suc i) n) (where_from (has v) (suc i) n)
      go ih (inl q) = rw (eqb-true i t q, e, has-less w t t s e, e, eq-eqb t t refl) (ap (λ l. t ∷ l) (where-same (has w) (has v) (suc t) n later))
      go ih (inr q) =
          let ne = eqb-false i t q in
          let lt : i < t = omega arith in
          rw (low i lt, has-less w t i s e, low i lt) (ih lt)

pub places-next : (w t : ℕ) → t < 48 → ((j : ℕ) → j < t → has w j ≡ false) → has w t ≡ true → places_in w ≡ t ∷ places_in (bit_xor w (alone t))
unfolding places_in
places-next w t l low e = where_next w t (omega arith) low e 0 48 (omega arith) (omega arith)
