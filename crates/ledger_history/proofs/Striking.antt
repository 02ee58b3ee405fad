-- A line struck out keeps its place, the others stay as they were, and no leg that is open is struck out.
use Prim.Native.Nat.{ℕ, zero, suc, ◌<◌}
use mathlib.Core.Path.{◌≡◌, refl, sym, ap, ◌∙◌}
use mathlib.Core.Bool.{Bool, true, false, cond}
use mathlib.Core.List.Memᴰ
use mathlib.Core.List.{List, [], ◌∷◌, map, append-nil}
use native.Mathlib.Nat.{le_of_suc-le-suc, not-suc-le-zero}
use lib.ListN.{length, get_or}
use Rattle.lists.specs.Lists.{without}
use Rattle.ledger.specs.Rules.{no_leg, is_open}
use Rattle.ledger_history.specs.Account.{Line, struck_out, strike, unstruck, as_read}
use Rattle.ledger_history.proofs.Growing.{Grown, same_line, line_at}
use Rattle.ledger_history.proofs.Struck.{ClosedIfStruck, NoneOpen, none_tail, none-cons}

-- ---- each line at its place

struck-grown : (x : Line) → Grown x (struck_out x)
unfolding struck_out
struck-grown x = record { more = []; leg = refl; events = sym (append-nil x.events) }

pub strike-grown : (k : ℕ) (s : List Line) (n : ℕ) → n < length s → Grown (line_at s n) (line_at (strike k s) n)
unfolding strike
strike-grown k [] n h = absurd (not-suc-le-zero h)
strike-grown zero (x ∷ s) zero h = go x.struck
  where
    go : (b : Bool) → Grown x (line_at (cond b (x ∷ strike zero s) (struck_out x ∷ s)) zero)
    go true = same_line x
    go false = struck-grown x
strike-grown zero (x ∷ s) (suc n) h = go (strike-grown zero s n (le_of_suc-le-suc h)) x.struck
  where
    go : Grown (line_at s n) (line_at (strike zero s) n) → (b : Bool) → Grown (line_at s n) (line_at (cond b (x ∷ strike zero s) (struck_out x ∷ s)) (suc n))
    go ih true = ih
    go ih false = same_line (line_at s n)
strike-grown (suc k) (x ∷ s) zero h = go x.struck
  where
    go : (b : Bool) → Grown x (line_at (cond b (x ∷ strike (suc k) s) (x ∷ strike k s)) zero)
    go true = same_line x
    go false = same_line x
strike-grown (suc k) (x ∷ s) (suc n) h = go (strike-grown (suc k) s n (le_of_suc-le-suc h)) (strike-grown k s n (le_of_suc-le-suc h)) x.struck
  where
    go : Grown (line_at s n) (line_at (strike (suc k) s) n) → Grown (line_at s n) (line_at (strike k s) n) → (b : Bool)
        → Grown (line_at s n) (line_at (cond b (x ∷ strike (suc k) s) (x ∷ strike k s)) (suc n))
    go ih jh true = ih
    go ih jh false = jh

-- ---- as many lines, and the others as they were

pub strike-length : (k : ℕ) (s : List Line) → length (strike k s) ≡ length s
unfolding strike
strike-length k [] = refl
strike-length zero (x ∷ s) = go (strike-length zero s) x.struck
  where
    go : length (strike zero s) ≡ length s → (b : Bool) → length (cond b (x ∷ strike zero s) (struck_out x ∷ s)) ≡ suc (length s)
    go ih true = ap suc ih
    go ih false = refl
strike-length (suc k) (x ∷ s) = go (strike-length (suc k) s) (strike-length k s) x.struck
  where
    go : length (strike (suc k) s) ≡ length s → length (strike k s) ≡ length s → (b : Bool) → length (cond b (x ∷ strike (suc k) s) (x ∷ strike k s)) ≡ suc (length s)
    go ih jh true = ap suc ih
    go ih jh false = ap suc jh

unstruck-strike : (k : ℕ) (s : List Line) → unstruck (strike k s) ≡ without k (unstruck s)
unfolding unstruck strike struck_out without
unstruck-strike k [] = refl
unstruck-strike zero (x ∷ s) = go (unstruck-strike zero s) x.struck refl
  where
    go : unstruck (strike zero s) ≡ without zero (unstruck s) → (b : Bool) → x.struck ≡ b
        → unstruck (cond b (x ∷ strike zero s) (struck_out x ∷ s)) ≡ without zero (cond b (unstruck s) (x ∷ unstruck s))
    go ih true e = rw e ih
    go ih false e = refl
unstruck-strike (suc k) (x ∷ s) = go (unstruck-strike (suc k) s) (unstruck-strike k s) x.struck refl
  where
    go : unstruck (strike (suc k) s) ≡ without (suc k) (unstruck s) → unstruck (strike k s) ≡ without k (unstruck s) → (b : Bool) → x.struck ≡ b
        → unstruck (cond b (x ∷ strike (suc k) s) (x ∷ strike k s)) ≡ without (suc k) (cond b (unstruck s) (x ∷ unstruck s))
    go ih jh true e = rw e ih
    go ih jh false e = ap (λ (b : Bool). cond b (unstruck (strike k s)) (x ∷ unstruck (strike k s))) e ∙ ap (λ (t : List Line). x ∷ t) jh

map-without : {A B : Type 0} (p : A → B) (k : ℕ) (xs : List A) → map p (without k xs) ≡ without k (map p xs)
unfolding without
map-without p k [] = refl
map-without p zero (x ∷ xs) = refl
map-without p (suc k) (x ∷ xs) = λ i. p x ∷ map-without p k xs i

-- the leg at that place is listed no more
pub strike-reads : (k : ℕ) (s : List Line) → map as_read (unstruck (strike k s)) ≡ without k (map as_read (unstruck s))
strike-reads k s = ap (map as_read) (unstruck-strike k s) ∙ map-without as_read k (unstruck s)

-- ---- a leg that is not open

struck-closed : (x : Line) → is_open (as_read x).standing ≡ false → ClosedIfStruck (struck_out x)
unfolding struck_out as_read
struck-closed x h t = h

-- the leg that the place lists is not open
abbrev ClosedAt : ℕ → List Line → Type 0
ClosedAt k s = is_open (get_or (map as_read s) k no_leg).standing ≡ false

pub none-struck : (k : ℕ) (s : List Line) → k < length (unstruck s) → ClosedAt k (unstruck s) → NoneOpen s → NoneOpen (strike k s)
unfolding unstruck strike
none-struck k [] lt c h = absurd (not-suc-le-zero lt)
none-struck zero (x ∷ s) lt c h = go (λ a b. none-struck zero s a b (none_tail x s h)) x.struck lt c
  where
    go : (zero < length (unstruck s) → ClosedAt zero (unstruck s) → NoneOpen (strike zero s)) → (b : Bool)
        → zero < length (cond b (unstruck s) (x ∷ unstruck s)) → ClosedAt zero (cond b (unstruck s) (x ∷ unstruck s))
        → NoneOpen (cond b (x ∷ strike zero s) (struck_out x ∷ s))
    go ih true a c = none-cons x (strike zero s) (h x (Memᴰ.head refl)) (ih a c)
    go ih false a c = none-cons (struck_out x) s (struck-closed x c) (none_tail x s h)
none-struck (suc k) (x ∷ s) lt c h =
    go (λ a b. none-struck (suc k) s a b (none_tail x s h)) (λ a b. none-struck k s a b (none_tail x s h)) x.struck lt c
  where
    go : (suc k < length (unstruck s) → ClosedAt (suc k) (unstruck s) → NoneOpen (strike (suc k) s))
        → (k < length (unstruck s) → ClosedAt k (unstruck s) → NoneOpen (strike k s)) → (b : Bool)
        → suc k < length (cond b (unstruck s) (x ∷ unstruck s)) → ClosedAt (suc k) (cond b (unstruck s) (x ∷ unstruck s))
        → NoneOpen (cond b (x ∷ strike (suc k) s) (x ∷ strike k s))
    go ih jh true a c = none-cons x (strike (suc k) s) (h x (Memᴰ.head refl)) (ih a c)
    go ih jh false a c = none-cons x (strike k s) (h x (Memᴰ.head refl)) (jh (le_of_suc-le-suc a) c)
