-- Conjunctions of tests, over plain Bools, and a Bool as a number.
use Prim.Native.Nat.{◌≤◌}
use mathlib.Core.Path.{◌≡◌, refl, sym, ◌∙◌}
use mathlib.Core.Bool.{Bool, true, false, not, cond, ◌&&◌, ◌||◌, true≢false}
use mir.Val.{bool_byte}
use native.Mathlib.Omega.{arith}

pub and_assoc : (x y z : Bool) → ((x && y) && z) ≡ (x && y && z)
and_assoc true y z = refl
and_assoc false y z = refl

pub or_assoc : (x y z : Bool) → ((x || y) || z) ≡ (x || (y || z))
or_assoc true y z = refl
or_assoc false y z = refl

-- `b as u8`
pub bool-byte : (b : Bool) → bool_byte b ≡ cond b 1 0
bool-byte true = refl
bool-byte false = refl

pub bool_small : (b : Bool) → bool_byte b ≤ 1
bool_small true = omega arith
bool_small false = omega arith

pub and_left : (x y : Bool) → (x && y) ≡ true → x ≡ true
and_left true y h = refl
and_left false y h = h

pub and_right : (x y : Bool) → (x && y) ≡ true → y ≡ true
and_right true y h = h
and_right false true h = refl
and_right false false h = h

pub and_both : {x y : Bool} → x ≡ true → y ≡ true → (x && y) ≡ true
and_both p q = rw (p, q)

-- What a test of a call's result tells of the call's definition: r is the result, s what the callee ensures of it.
pub told-true : {r s : Bool} → r ≡ s → r ≡ true → s ≡ true
told-true e h = sym e ∙ h

pub told-false : {r s : Bool} → r ≡ s → r ≡ false → s ≡ false
told-false e h = sym e ∙ h

pub ruleset told = (told-true, told-false)

pub and-no-left : {x : Bool} (y : Bool) → x ≡ false → (x && y) ≡ false
and-no-left y p = rw p

pub or-no-left : (x y : Bool) → (x || y) ≡ false → x ≡ false
or-no-left true y h = h
or-no-left false y h = refl

pub or-no-right : (x y : Bool) → (x || y) ≡ false → y ≡ false
or-no-right true true h = h
or-no-right true false h = refl
or-no-right false y h = h

pub or_right : (x : Bool) → (x || true) ≡ true
or_right true = refl
or_right false = refl

pub or-none : (x : Bool) → (x || false) ≡ x
or-none true = refl
or-none false = refl

pub or-neither-of : (x y : Bool) → (x || y) ≡ false → (x ≡ false) × (y ≡ false)
or-neither-of x y h = (or-no-left x y h, or-no-right x y h)

pub or-neither : {x y : Bool} → x ≡ false → y ≡ false → (x || y) ≡ false
or-neither p q = rw (p, q)

pub not-no : {x : Bool} → x ≡ false → not x ≡ true
not-no p = rw p

pub not_yes : {x : Bool} → x ≡ true → not x ≡ false
not_yes p = rw p

pub no-not : (x : Bool) → not x ≡ true → x ≡ false
no-not true h = sym h
no-not false h = refl

pub both_ways : {x : Bool} → x ≡ true → x ≡ false → ⊥
both_ways p q = true≢false (sym p ∙ q)

-- a test that cannot hold does not
pub no_true : {b : Bool} → (b ≡ true → ⊥) → b ≡ false
no_true {b} f = go b f
  where
    go : (b : Bool) → (b ≡ true → ⊥) → b ≡ false
    go true f = absurd (f refl)
    go false f = refl

-- what is not so when it would make something so that is not
pub not_so : (x y : Bool) → (x ≡ true → y ≡ true) → y ≡ false → x ≡ false
not_so x y f h = no_true (λ e. both_ways (f e) h)

-- two tests that hold together are the same
pub both-same : (x y : Bool) → (x ≡ true → y ≡ true) → (y ≡ true → x ≡ true) → x ≡ y
both-same true y f g = sym (f refl)
both-same false true f g = g refl
both-same false false f g = refl

-- three tests passed, the third of which says no
pub all_three : (p q stray : Bool) → (p && q && not stray) ≡ true → (p ≡ true) × ((q ≡ true) × (stray ≡ false))
all_three true true false h = (refl, (refl, refl))
all_three true true true h = absurd (true≢false (sym h))
all_three true false stray h = absurd (true≢false (sym h))
all_three false q stray h = absurd (true≢false (sym h))
