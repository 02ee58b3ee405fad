-- The table link by link: each call of lead adds the link it is given, and no other.
use mathlib.Core.Path.{◌≡◌, refl, sym, ◌∙◌, ap, subst}
use mathlib.Core.Logic.{◌⊎◌, inl, inr}
use mathlib.Core.Bool.{Bool, true, false, not, cond, ◌&&◌}
use mathlib.Core.List.{List}
use Prim.Native.Nat.{ℕ, zero, suc, ◌+◌, ◌^◌, ◌<◌, ◌≤◌}
use native.Mathlib.Omega.{arith}
use borrow.Author.Tests.{eqb-true, eqb-false, ltb-true, lt-ltb, le-ltb, eq-eqb, ne_eqb}
use lib.Dec.{eqb, ltb}
use lib.ListN.{get_or, set, length, length-set, replicate}
use lib.Seq.{get_or-set_same, get_or-set_other}
use Rattle.lists.proofs.Bools.{and_left, and_right, no-not, both_ways}
use Rattle.route.proofs.Tests.{either}
use Rattle.route_links.specs.Sets.{has}
use Rattle.route_links.specs.Private.{put_in, linked, leads_on, lead, Kept, Built}
use Rattle.route_links.proofs.Digits.{has-none}
use Rattle.route_links.proofs.Putting.{put-length, put_other, put_small, put_keeps, put_has, put-was}

-- link j, from x to y, is the link i from a to b
pub record This (i a b j x y : ℕ) : Type 0 where
  pub link : j ≡ i
  pub near : x ≡ a
  pub far : y ≡ b

-- the tests of leads_on
pub record Fits (a b : ℕ) (passed : Bool) : Type 0 where
  pub so : passed ≡ true
  pub near : a < 16
  pub far : b < 16
  pub apart : a ≡ b → ⊥

leads-fits : (a b : ℕ) (passed : Bool) → leads_on a b passed ≡ true → Fits a b passed
unfolding leads_on
leads-fits a b passed e =
    let u = and_right passed (ltb a 16 && (ltb b 16 && not (eqb a b))) e in
    let v = and_right (ltb a 16) (ltb b 16 && not (eqb a b)) u in
    record {
      so = and_left passed (ltb a 16 && (ltb b 16 && not (eqb a b))) e;
      near = ltb-true a 16 (and_left (ltb a 16) (ltb b 16 && not (eqb a b)) u);
      far = ltb-true b 16 (and_left (ltb b 16) (not (eqb a b)) v);
      apart = eqb-false a b (no-not (eqb a b) (and_right (ltb b 16) (not (eqb a b)) v));
    }

fits-leads : (a b : ℕ) (passed : Bool) → Fits a b passed → leads_on a b passed ≡ true
unfolding leads_on
fits-leads a b passed f = rw (f.so, lt-ltb a 16 f.near, lt-ltb b 16 f.far, ne_eqb a b f.apart)

-- the same links, said otherwise
pub built-same : (R S : ℕ → ℕ → ℕ → Type 0) (t : List ℕ) → ((i a f : ℕ) → R i a f → S i a f) → ((i a f : ℕ) → S i a f → R i a f) → Built R t → Built S t
built-same R S t g h B =
    record {
      size = B.size;
      small = B.small;
      few = B.few;
      ins = λ i f l e. (let w = B.ins i f l e in (w.0, g i w.0 f w.1));
      outs = λ i a l e. (let w = B.outs i a l e in (w.0, g i a w.0 w.1));
      froms = λ a f l e. (let w = B.froms a f l e in (w.0, g w.0 a f w.1));
      leads = λ i a f s. B.leads i a f (h i a f s);
      unused = λ i l never. B.unused i l (λ a f r. never a f (g i a f r));
    }

-- ---- one link more

module _ (R : ℕ → ℕ → ℕ → Type 0) (t : List ℕ) (B : Built R t) (i a b : ℕ) (li : i < 48) (la : a < 16) (lb : b < 16)
    (sums : (x y : ℕ) → R i x y → x + y ≡ a + b) where
  abbrev t₁ : List ℕ
  t₁ = put_in t b i

  abbrev t₂ : List ℕ
  t₂ = put_in t₁ (16 + a) i

  abbrev t₃ : List ℕ
  t₃ = put_in t₂ (81 + b) a

  abbrev t₄ : List ℕ
  t₄ = set t₃ (32 + i) (a + b)

  s₁ : length t₁ ≡ 97
  s₁ = put-length t b i ∙ B.size

  s₂ : length t₂ ≡ 97
  s₂ = put-length t₁ (16 + a) i ∙ s₁

  s₃ : length t₃ ≡ 97
  s₃ = put-length t₂ (81 + b) a ∙ s₂

  h₁ : b < length t
  h₁ = let e = B.size in omega arith

  h₂ : 16 + a < length t₁
  h₂ = let e = s₁ in omega arith

  h₃ : 81 + b < length t₂
  h₃ = let e = s₂ in omega arith

  la' : a < 48
  la' = omega arith

  -- a word that is no sum, and a set of links
  past-sum : (q : ℕ) → (q < 32) ⊎ (80 ≤ q) → get_or t₄ q 0 ≡ get_or t₃ q 0
  past-sum q (inl h) = get_or-set_other t₃ (32 + i) q (a + b) 0 (λ e. absurd (omega arith))
  past-sum q (inr h) = get_or-set_other t₃ (32 + i) q (a + b) 0 (λ e. absurd (omega arith))

  past : (q : ℕ) → q < 32 → get_or t₄ q 0 ≡ get_or t₂ q 0
  past q h = past-sum q (inl h) ∙ put_other t₂ (81 + b) a q (λ e. absurd (omega arith))

  -- the nodes that links come from
  past-from : (f : ℕ) → get_or t₄ (81 + f) 0 ≡ get_or t₃ (81 + f) 0
  past-from f = past-sum (81 + f) (inr (omega arith))

  was-from : (f : ℕ) → get_or t₂ (81 + f) 0 ≡ get_or t (81 + f) 0
  was-from f = put_other t₁ (16 + a) i (81 + f) (λ e. absurd (omega arith)) ∙ put_other t b i (81 + f) (λ e. absurd (omega arith))

  keeps : (q j : ℕ) → q < 32 → has (get_or t q 0) j ≡ true → has (get_or t₄ q 0) j ≡ true
  keeps q j h e = ap (λ (w : ℕ). has w j) (past q h) ∙ put_keeps t₁ (16 + a) i h₂ li q j (put_keeps t b i h₁ li q j e)

  -- what a digit of a set was, or how it came
  data Came (q j : ℕ) : Type 0 where
    was : has (get_or t q 0) j ≡ true → Came q j
    into : q ≡ b → j ≡ i → Came q j
    out : q ≡ 16 + a → j ≡ i → Came q j

  came : (q j : ℕ) → q < 32 → has (get_or t₄ q 0) j ≡ true → Came q j
  came q j h e = second (put-was t₁ (16 + a) i h₂ li q j (ap (λ (w : ℕ). has w j) (sym (past q h)) ∙ e))
    where
      first : (has (get_or t q 0) j ≡ true) ⊎ ((q ≡ b) × (j ≡ i)) → Came q j
      first (inl z) = was z
      first (inr (x, y)) = into x y

      second : (has (get_or t₁ q 0) j ≡ true) ⊎ ((q ≡ 16 + a) × (j ≡ i)) → Came q j
      second (inl z) = first (put-was t b i h₁ li q j z)
      second (inr (x, y)) = out x y

  sum₄ : get_or t₄ (32 + i) 0 ≡ a + b
  sum₄ = let l : 32 + i < length t₃ = (let z = s₃ in omega arith) in get_or-set_same t₃ (32 + i) (a + b) 0 l

  other-sum : (j : ℕ) → j < 48 → (j ≡ i → ⊥) → get_or t₄ (32 + j) 0 ≡ get_or t (32 + j) 0
  other-sum j l h =
      get_or-set_other t₃ (32 + i) (32 + j) (a + b) 0 (λ e. h (omega arith))
      ∙ put_other t₂ (81 + b) a (32 + j) (λ e. absurd (omega arith))
      ∙ put_other t₁ (16 + a) i (32 + j) (λ e. absurd (omega arith))
      ∙ put_other t b i (32 + j) (λ e. absurd (omega arith))

  abbrev S : ℕ → ℕ → ℕ → Type 0
  S j x y = R j x y ⊎ This i a b j x y

  kept-old : (j x y : ℕ) → R j x y → Kept t₄ j x y
  kept-old j x y r =
      let k = B.leads j x y r in
      record {
        place = k.place;
        near = k.near;
        far = k.far;
        from = keeps (16 + x) j (let l = k.near in omega arith) k.from;
        to = keeps y j (let l = k.far in omega arith) k.to;
        beside = ap (λ (w : ℕ). has w x) (past-from y) ∙ put_keeps t₂ (81 + b) a h₃ la' (81 + y) x (ap (λ (w : ℕ). has w x) (was-from y) ∙ k.beside);
        sum = go (either (eqb j i));
      }
    where
      go : (eqb j i ≡ true) ⊎ (eqb j i ≡ false) → get_or t₄ (32 + j) 0 ≡ x + y
      go (inl e) =
          let q : j ≡ i = eqb-true j i e in
          subst (λ (z : ℕ). get_or t₄ (32 + z) 0 ≡ x + y) (sym q) (sum₄ ∙ sym (sums x y (subst (λ (z : ℕ). R z x y) q r)))
      go (inr e) = other-sum j (B.leads j x y r).place (eqb-false j i e) ∙ (B.leads j x y r).sum

  kept_new : Kept t₄ i a b
  kept_new =
      record {
        place = li;
        near = la;
        far = lb;
        from = ap (λ (w : ℕ). has w i) (past (16 + a) (omega arith)) ∙ put_has t₁ (16 + a) i h₂ li;
        to = ap (λ (w : ℕ). has w i) (past b (omega arith)) ∙ put_keeps t₁ (16 + a) i h₂ li b i (put_has t b i h₁ li);
        beside = ap (λ (w : ℕ). has w a) (past-from b) ∙ put_has t₂ (81 + b) a h₃ la';
        sum = sum₄;
      }

  small₄ : (n : ℕ) → n < 32 → get_or t₄ n 0 < 2 ^ 48
  small₄ n l = subst (λ (z : ℕ). z < 2 ^ 48) (sym (past n l)) (put_small t₁ (16 + a) i h₂ li 48 li (omega arith) n (put_small t b i h₁ li 48 li (omega arith) n (B.small n l)))

  few₄ : (f : ℕ) → f < 16 → get_or t₄ (81 + f) 0 < 2 ^ 16
  few₄ f l =
      subst (λ (z : ℕ). z < 2 ^ 16) (sym (past-from f))
      (put_small t₂ (81 + b) a h₃ la' 16 la (omega arith) (81 + f) (subst (λ (z : ℕ). z < 2 ^ 16) (sym (was-from f)) (B.few f l)))

  froms₄ : (x f : ℕ) → f < 16 → has (get_or t₄ (81 + f) 0) x ≡ true → (j : ℕ) × S j x f
  froms₄ x f l e = go (put-was t₂ (81 + b) a h₃ la' (81 + f) x (ap (λ (w : ℕ). has w x) (sym (past-from f)) ∙ e))
    where
      go : (has (get_or t₂ (81 + f) 0) x ≡ true) ⊎ ((81 + f ≡ 81 + b) × (x ≡ a)) → (j : ℕ) × S j x f
      go (inl z) = let w = B.froms x f l (ap (λ (w : ℕ). has w x) (sym (was-from f)) ∙ z) in (w.0, inl w.1)
      go (inr (y, z)) = (i, inr (record { link = refl; near = z; far = omega arith }))

  ins₄ : (j f : ℕ) → f < 16 → has (get_or t₄ f 0) j ≡ true → (x : ℕ) × S j x f
  ins₄ j f l e = go (came f j (omega arith) e)
    where
      go : Came f j → (x : ℕ) × S j x f
      go (was z) = let w = B.ins j f l z in (w.0, inl w.1)
      go (into x y) = (a, inr (record { link = y; near = refl; far = x }))
      go (out x y) = absurd (omega arith)

  outs₄ : (j x : ℕ) → x < 16 → has (get_or t₄ (16 + x) 0) j ≡ true → (f : ℕ) × S j x f
  outs₄ j x l e = go (came (16 + x) j (omega arith) e)
    where
      go : Came (16 + x) j → (f : ℕ) × S j x f
      go (was z) = let w = B.outs j x l z in (w.0, inl w.1)
      go (into p y) = absurd (omega arith)
      go (out p y) = (b, inr (record { link = y; near = omega arith; far = refl }))

  unused₄ : (j : ℕ) → j < 48 → ((x y : ℕ) → S j x y → ⊥) → get_or t₄ (32 + j) 0 ≡ 0
  unused₄ j l never = other-sum j l (λ e. never a b (inr (record { link = e; near = refl; far = refl }))) ∙ B.unused j l (λ x y r. never x y (inl r))

  linked-built : Built S (linked t i a b)
  unfolding linked
  linked-built =
      record {
        size = length-set t₃ (32 + i) (a + b) ∙ s₃;
        small = small₄;
        few = few₄;
        ins = ins₄;
        outs = outs₄;
        froms = froms₄;
        leads = λ j x y s. kept j x y s;
        unused = unused₄;
      }
    where
      kept : (j x y : ℕ) → S j x y → Kept t₄ j x y
      kept j x y (inl r) = kept-old j x y r
      kept j x y (inr h) =
          subst (λ (z : ℕ). Kept t₄ z x y) (sym h.link)
          (subst (λ (z : ℕ). Kept t₄ i z y) (sym h.near) (subst (λ (z : ℕ). Kept t₄ i a z) (sym h.far) kept_new))

-- ---- one call of lead

pub record Led (i a b : ℕ) (passed : Bool) (j x y : ℕ) : Type 0 where
  pub this : This i a b j x y
  pub fits : Fits a b passed

pub led-built : (R : ℕ → ℕ → ℕ → Type 0) (t : List ℕ) → Built R t → (i a b : ℕ) (passed : Bool) → i < 48 → ((x y : ℕ) → R i x y → x + y ≡ a + b)
    → Built (λ j x y. R j x y ⊎ Led i a b passed j x y) (lead t i a b passed)
unfolding lead
led-built R t B i a b passed li sums = go (leads_on a b passed) refl
  where
    go : (c : Bool) → leads_on a b passed ≡ c → Built (λ j x y. R j x y ⊎ Led i a b passed j x y) (cond c (linked t i a b) t)
    go true e =
        let f = leads-fits a b passed e in
        built-same (λ j x y. R j x y ⊎ This i a b j x y) (λ j x y. R j x y ⊎ Led i a b passed j x y) (linked t i a b)
        (λ j x y. there f j x y) (λ j x y. back j x y) (linked-built R t B i a b li f.near f.far sums)
      where
        there : Fits a b passed → (j x y : ℕ) → R j x y ⊎ This i a b j x y → R j x y ⊎ Led i a b passed j x y
        there f j x y (inl r) = inl r
        there f j x y (inr h) = inr (record { this = h; fits = f })

        back : (j x y : ℕ) → R j x y ⊎ Led i a b passed j x y → R j x y ⊎ This i a b j x y
        back j x y (inl r) = inl r
        back j x y (inr h) = inr h.this
    go false e = built-same R (λ j x y. R j x y ⊎ Led i a b passed j x y) t (λ j x y r. inl r) (λ j x y. back j x y) B
      where
        back : (j x y : ℕ) → R j x y ⊎ Led i a b passed j x y → R j x y
        back j x y (inl r) = r
        back j x y (inr h) = absurd (both_ways (fits-leads a b passed h.fits) e)

zero_word : (n m : ℕ) → ◌≡◌ {A = ℕ} (get_or (replicate n 0) m 0) 0
zero_word zero m = refl
zero_word (suc n) zero = refl
zero_word (suc n) (suc m) = zero_word n m

-- no links: all zeros
pub none-built : (R : ℕ → ℕ → ℕ → Type 0) → ((i a f : ℕ) → R i a f → ⊥) → Built R (replicate 97 0)
none-built R never =
    record {
      size = refl;
      small = λ n l. subst (λ (z : ℕ). z < 2 ^ 48) (sym (zero_word 97 n)) (omega arith);
      few = λ f l. subst (λ (z : ℕ). z < 2 ^ 16) (sym (zero_word 97 (81 + f))) (omega arith);
      ins = λ i f l e. absurd (dark f i e);
      outs = λ i a l e. absurd (dark (16 + a) i e);
      froms = λ a f l e. absurd (dark (81 + f) a e);
      leads = λ i a f r. absurd (never i a f r);
      unused = λ i l h. zero_word 97 (32 + i);
    }
  where
    dark : (q j : ℕ) → has (get_or (replicate 97 0) q 0) j ≡ true → ⊥
    dark q j e = both_ways e (ap (λ (w : ℕ). has w j) (zero_word 97 q) ∙ has-none j)

-- ---- lead, return by return

module _ (t : List ℕ) (i a b : ℕ) (passed : Bool) where
  pub lead-shut : passed ≡ false → t ≡ lead t i a b passed
  unfolding lead leads_on
  lead-shut e = rw e

  pub lead_near : passed ≡ true → 16 ≤ a → t ≡ lead t i a b passed
  unfolding lead leads_on
  lead_near e h = rw (e, le-ltb a 16 h)

  pub lead-far : passed ≡ true → a < 16 → 16 ≤ b → t ≡ lead t i a b passed
  unfolding lead leads_on
  lead-far e l h = rw (e, lt-ltb a 16 l, le-ltb b 16 h)

  pub lead-self : passed ≡ true → a < 16 → b < 16 → a ≡ b → t ≡ lead t i a b passed
  unfolding lead leads_on
  lead-self e l k h = rw (e, lt-ltb a 16 l, lt-ltb b 16 k, eq-eqb a b h)

  pub lead-on : passed ≡ true → a < 16 → b < 16 → (a ≡ b → ⊥) → linked t i a b ≡ lead t i a b passed
  unfolding lead
  lead-on e l k h = rw (fits-leads a b passed (record { so = e; near = l; far = k; apart = h }))
