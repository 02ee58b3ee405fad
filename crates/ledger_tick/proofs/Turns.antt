-- The loop that ticks the first legs: what holds at place i, one turn, and what it adds up. Over plain values.
use Prim.Native.Nat.{ℕ, ◌+◌, ◌≤◌, ◌<◌}
use mathlib.Core.Path.{◌≡◌, ap, ◌∙◌}
use mathlib.Core.List.{List, ◌++◌, append-nil, map}
use Rattle.std.proofs.lemmas.List.{take_all, drop_all}
use lib.ListN.{length, get_or, take, drop, set}
use mathlib.Core.Bool.{Bool, cond}
use mir.Val.{bool_byte}
use Rattle.lists.proofs.Bools.{bool-byte}
use Rattle.lists.proofs.Lists.{many-next, map_read, map-store}
use Rattle.ledger_tick.specs.Tick.{times_out, ticked_leg}
use Rattle.lists.specs.Lists.{how_many}
use Rattle.ledger.specs.declared.Leg.{Leg}
use Rattle.ledger.specs.Rules.{no_leg}

-- a list whose first n elements were changed by f
module _ {X : Type 0} (f : X → X) where
  abbrev pub turned : List X → ℕ → List X
  turned xs n = map f (take n xs) ++ drop n xs

  pub turned_all : (xs : List X) (n : ℕ) → length xs ≤ n → turned xs n ≡ map f xs
  turned_all xs n h = rw (take_all n xs h, drop_all n xs h) (append-nil (map f xs))

-- the turn at i: the leg there is as it was; what the code stores and adds is what the invariant says next
module _ (xs : List Leg) (i : ℕ) (within : i < length xs) where
  unchanged : get_or (turned ticked_leg xs i) i no_leg ≡ get_or xs i no_leg
  unchanged = map_read xs ticked_leg i no_leg within

  pub next-legs : (y : Leg) → y ≡ ticked_leg (get_or (turned ticked_leg xs i) i no_leg) → set (turned ticked_leg xs i) i y ≡ turned ticked_leg xs (i + 1)
  next-legs y e = ap (set (turned ticked_leg xs i) i) (e ∙ ap ticked_leg unchanged) ∙ map-store xs ticked_leg i no_leg within

  pub next-ended : (t : Bool) → t ≡ times_out (get_or (turned ticked_leg xs i) i no_leg) → how_many times_out (take i xs) + bool_byte t ≡ how_many times_out (take (i + 1) xs)
  next-ended t e =
      ap (λ (k : ℕ). how_many times_out (take i xs) + k) (bool-byte t ∙ ap (λ (b : Bool). cond b 1 0) (e ∙ ap times_out unchanged))
      ∙ many-next times_out xs i no_leg within
