-- The loop that closes a ledger up: what holds at place i, where it begins, one turn, and where it ends. Over plain values.
use Prim.Native.Nat.{ℕ, ◌+◌, ◌-◌, ◌≤◌, ◌<◌}
use mathlib.Core.Path.{◌≡◌, refl, sym, ap, ◌∙◌}
use mathlib.Core.List.{List, ◌∷◌, ◌++◌}
use native.Mathlib.Omega.{arith}
use lib.ListN.{length, get_or, take, drop, set}
use Rattle.lists.proofs.Lists.{close-start, close-read, close-last, close-store}
use Rattle.lists.specs.Lists.{without}
use Rattle.ledger.specs.declared.Leg.{Leg}
use Rattle.ledger.specs.declared.Ledger.{Ledger}
use Rattle.ledger.specs.Rules.{no_leg}
use Rattle.ledger_clear.specs.Clear.{close_up}

pub record CloseTurn (place last : ℕ) (l m : Ledger) (i : ℕ) : Type 0 where
  pub begun : place ≤ i
  pub within : i ≤ last
  pub keeps : m.count ≡ l.count
  pub stored : m.legs ≡ without place (take (i + 1) l.legs) ++ drop i l.legs

pub close-begin : (l : Ledger) (place : ℕ) → place < l.count → l.count ≤ length l.legs → CloseTurn place (l.count - 1) l l place
close-begin l place h long = record { begun = omega arith; within = omega arith; keeps = refl; stored = close-start l.legs place (omega arith) }

pub close-turn : {place last : ℕ} {l m : Ledger} {i : ℕ} → last < length l.legs → i < last → CloseTurn place last l m i
    → CloseTurn place last l (record { count = m.count; legs = set m.legs i (get_or m.legs (i + 1) no_leg) }) (i + 1)
close-turn {place} {last} {l} {m} {i} long lt t =
    let in_list : i < length l.legs = omega arith in
    let moved : get_or m.legs (i + 1) no_leg ≡ get_or l.legs (i + 1) no_leg = ap (λ (x : List Leg). get_or x (i + 1) no_leg) t.stored ∙ close-read l.legs place i t.begun in_list no_leg in
    record {
      begun = omega (arith, t.begun);
      within = omega arith;
      keeps = t.keeps;
      stored =
          ap (λ (x : List Leg). set x i (get_or m.legs (i + 1) no_leg)) t.stored
          ∙ ap (λ (g : Leg). set (without place (take (i + 1) l.legs) ++ drop i l.legs) i g) moved
          ∙ close-store l.legs place i t.begun in_list no_leg (omega arith);
    }

pub close-done : (l m : Ledger) (place i : ℕ) {z : Leg} → z ≡ no_leg → place < l.count → l.count ≤ length l.legs → l.count - 1 ≤ i → CloseTurn place (l.count - 1) l m i
    → ◌≡◌ {A = Ledger} (record { count = l.count - 1; legs = set m.legs (l.count - 1) z }) (close_up l place)
unfolding close_up
close-done l m place i {z} ez h long out t =
    let e : i ≡ l.count - 1 = omega (arith, t.within) in
    let e' : i + 1 ≡ l.count = omega arith in
    let a : set m.legs (l.count - 1) z ≡ without place (take l.count l.legs) ++ no_leg ∷ drop l.count l.legs =
    ap (λ (n : ℕ). set m.legs n z) (sym e)
    ∙ ap (λ (x : List Leg). set x i z) t.stored
    ∙ close-last l.legs place i t.begun (omega arith) z
    ∙ ap (λ (g : Leg). without place (take (i + 1) l.legs) ++ g ∷ drop (i + 1) l.legs) ez
    ∙ ap (λ (n : ℕ). without place (take n l.legs) ++ no_leg ∷ drop n l.legs) e' in
    λ j. record { count = l.count - 1; legs = a j }
