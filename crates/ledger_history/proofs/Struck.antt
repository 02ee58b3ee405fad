-- No line that is struck out has an open leg, and what is written on the lines or added to them leaves it so.
use mathlib.Core.Path.{◌≡◌, sym, ap, ◌∙◌}
use mathlib.Core.Bool.{true, false}
use mathlib.Core.List.Memᴰ
use mathlib.Core.List.{List, ◌∷◌, ◌++◌, map, Memᴰ}
use mathlib.Core.Logic.{◌⊎◌, inl, inr}
use Rattle.lists.proofs.Bools.{both_ways}
use Rattle.ledger.specs.declared.Leg.{Leg}
use Rattle.ledger.specs.Rules.{is_open}
use Rattle.ledger_history.specs.Account.{Line, new_line, as_read}
use Rattle.ledger_history.proofs.Lines.{Writes}

-- struck out only if its leg is not open
abbrev pub ClosedIfStruck : Line → Type 0
ClosedIfStruck x = x.struck ≡ true → is_open (as_read x).standing ≡ false

-- and so it is with every line of an account
abbrev pub NoneOpen : List Line → Type 0
NoneOpen s = (x : Line) → Memᴰ x s → ClosedIfStruck x

pub none_tail : (x : Line) (s : List Line) → NoneOpen (x ∷ s) → NoneOpen s
none_tail x s k y m = k y (Memᴰ.tail m)

pub none-cons : (x : Line) (s : List Line) → ClosedIfStruck x → NoneOpen s → NoneOpen (x ∷ s)
none-cons x s h k y m = go (Memᴰ.cases_cons m)
  where
    go : (y ≡ x) ⊎ Memᴰ y s → ClosedIfStruck y
    go (inl e) t = ap (λ (z : Line). is_open (as_read z).standing) e ∙ h (ap (λ (z : Line). z.struck) (sym e) ∙ t)
    go (inr n) t = k y n t

-- ---- written on

-- what is struck out is left alone
pub none_written : (f : Line → Line) (g : Leg → Leg) → Writes f g → (s : List Line) → NoneOpen s → NoneOpen (map f s)
none_written f g w s k x m t =
    let o = Memᴰ.of_map f s m in
    let struck : o.0.struck ≡ true = sym (w.stroke o.0) ∙ ap (λ (z : Line). z.struck) o.2 ∙ t in
    ap (λ (z : Line). is_open (as_read z).standing) (sym (sym (w.left o.0 struck) ∙ o.2)) ∙ k o.0 o.1 struck

-- ---- added

new-unstruck : (gs : List Leg) → NoneOpen (map new_line gs)
unfolding new_line
new-unstruck gs x m t = absurd (both_ways t (ap (λ (z : Line). z.struck) (sym (Memᴰ.of_map new_line gs m).2)))

pub none-added : (s : List Line) (gs : List Leg) → NoneOpen s → NoneOpen (s ++ map new_line gs)
none-added s gs k x m = go (Memᴰ.append_cases s m)
  where
    go : Memᴰ x s ⊎ Memᴰ x (map new_line gs) → ClosedIfStruck x
    go (inl n) = k x n
    go (inr n) = new-unstruck gs x n
