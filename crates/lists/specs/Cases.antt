-- Places, lists and chains of refusals by example.
use Rattle.std.specs.Prelude.{ℕ, ◌≡◌, refl, true, false, [], ◌∷◌, eqb, ltb}
use Rattle.lists.specs.Places.{any_below, first_from, first_below, same_at, repeat_at, repeats, element_at, firsts, row, joined, up_to}
use Rattle.lists.specs.Lists.{how_many, without}
use Rattle.lists.specs.Refusals.{refuse, or_else, unless_refused, among}
use Rattle.lists.specs.Chains.{first_refusal_below}

-- 5, 7, 5, and 0 past them
abbrev pub d : ℕ → ℕ
d = element_at 0 (5 ∷ 7 ∷ 5 ∷ [])

pub record Cases : Type 0 where
  pub any : (any_below (λ i. eqb (d i) 7) 1 ≡ false) × (any_below (λ i. eqb (d i) 7) 2 ≡ true)
  pub first : (first_below (λ i. eqb (d i) 7) 3 ≡ 1) × (first_below (λ i. eqb (d i) 8) 3 ≡ 3)
  pub repeated : (repeats eqb d 2 ≡ false) × (repeats eqb d 3 ≡ true)
  pub in_row : (firsts d 2 ≡ 5 ∷ 7 ∷ []) × (row 4 9 d 2 ≡ 5 ∷ 7 ∷ 9 ∷ 9 ∷ [])
  pub all_joined : joined (λ x. x ∷ 1 ∷ []) d 2 ≡ 5 ∷ 1 ∷ 7 ∷ 1 ∷ []
  pub used : (up_to 2 9 d 1 ≡ 7) × (up_to 2 9 d 2 ≡ 9)
  pub many : how_many (ltb 5) (5 ∷ 7 ∷ 8 ∷ []) ≡ 2
  pub left : without {A = ℕ} 1 (5 ∷ 7 ∷ 8 ∷ []) ≡ 5 ∷ 8 ∷ []
  -- the first number that applies; 0 where none does
  pub lowest : (refuse 4 true (refuse 5 true 0) ≡ 4) × (refuse 4 false (refuse 5 true 0) ≡ 5) × (refuse 4 false (refuse 5 false 0) ≡ 0)
  pub either : (or_else 4 5 ≡ 4) × (or_else 0 5 ≡ 5)
  pub beside : (unless_refused {A = ℕ} 0 5 7 ≡ 5) × (unless_refused {A = ℕ} 4 5 7 ≡ 7)
  pub one_of : (among 5 (4 ∷ 5 ∷ []) ≡ true) × (among 6 (4 ∷ 5 ∷ []) ≡ false)
  pub chain : (first_refusal_below d 3 ≡ 5) × (first_refusal_below (λ i. 0) 3 ≡ 0)

pub cases : Cases
unfolding any_below first_from first_below same_at repeat_at repeats element_at firsts row joined up_to how_many without unless_refused first_refusal_below
cases =
    record {
      any = (refl, refl);
      first = (refl, refl);
      repeated = (refl, refl);
      in_row = (refl, refl);
      all_joined = refl;
      used = (refl, refl);
      many = refl;
      left = refl;
      lowest = (refl, refl, refl);
      either = (refl, refl);
      beside = (refl, refl);
      one_of = (refl, refl);
      chain = (refl, refl);
    }
