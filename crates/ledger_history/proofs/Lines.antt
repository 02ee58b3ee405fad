-- The lines of an account that are not struck out, and how they read when something is written on all, or lines are added.
use Prim.Native.Nat.{suc, ◌+◌}
use mathlib.Core.Path.{◌≡◌, refl, ap, ◌∙◌}
use mathlib.Core.Bool.{Bool, true, false, cond}
use mathlib.Core.List.{List, [], ◌∷◌, ◌++◌, map}
use native.Mathlib.Omega.{arith}
use lib.ListN.{length}
use Rattle.lists.specs.Lists.{how_many}
use Rattle.address.specs.declared.Seq.{Seq}
use Rattle.address.specs.declared.Address.{Address}
use Rattle.ledger.specs.declared.Leg.{Leg}
use Rattle.ledger_answer.specs.declared.Reply.{Reply}
use Rattle.ledger_tick.specs.Tick.{ticked_leg}
use Rattle.ledger_history.specs.Account.{replied, ticked, Line, new_line, noted, is_for, noted_if_for, unstruck, as_read}
use Rattle.ledger_history.proofs.Reading.{noted-left, noted-stroke, tick-reads, new-reads, answered_if, answer-reads}

-- what is done to every line: the strokes stay, a line struck out is left alone, and any other reads as g of what it read before
pub record Writes (f : Line → Line) (g : Leg → Leg) : Type 0 where
  pub stroke : (x : Line) → (f x).struck ≡ x.struck
  pub left : (x : Line) → x.struck ≡ true → f x ≡ x
  pub reads : (x : Line) → x.struck ≡ false → as_read (f x) ≡ g (as_read x)

-- ---- an answer, a tick

pub tick-writes : Writes (noted ticked) ticked_leg
tick-writes = record { stroke = noted-stroke ticked; left = noted-left ticked; reads = tick-reads }

pub answer-writes : (by to : Address) (seq : Seq) (reply : Reply) → Writes (noted_if_for by to seq reply) (answered_if by to seq reply)
unfolding noted_if_for
answer-writes by to seq reply = record { stroke = λ x. stroke x (is_for by to seq x.leg); left = λ x h. left x h (is_for by to seq x.leg); reads = answer-reads by to seq reply }
  where
    stroke : (x : Line) (b : Bool) → (cond b (noted (replied reply) x) x).struck ≡ x.struck
    stroke x true = noted-stroke (replied reply) x
    stroke x false = refl

    left : (x : Line) → x.struck ≡ true → (b : Bool) → cond b (noted (replied reply) x) x ≡ x
    left x h true = noted-left (replied reply) x h
    left x h false = refl

-- the same done to every leg listed
pub unstruck-map : (f : Line → Line) (g : Leg → Leg) → Writes f g → (s : List Line) → map as_read (unstruck (map f s)) ≡ map g (map as_read (unstruck s))
unfolding unstruck
unstruck-map f g w [] = refl
unstruck-map f g w (x ∷ s) =
    ap (λ (b : Bool). map as_read (cond b (unstruck (map f s)) (f x ∷ unstruck (map f s)))) (w.stroke x)
    ∙ go (unstruck-map f g w s) x.struck refl
  where
    go : map as_read (unstruck (map f s)) ≡ map g (map as_read (unstruck s)) → (b : Bool) → x.struck ≡ b
        → map as_read (cond b (unstruck (map f s)) (f x ∷ unstruck (map f s))) ≡ map g (map as_read (cond b (unstruck s) (x ∷ unstruck s)))
    go ih true e = ih
    go ih false e = λ i. w.reads x e i ∷ ih i

-- ---- lines added

pub unstruck-append : (s t : List Line) → unstruck (s ++ t) ≡ unstruck s ++ unstruck t
unfolding unstruck
unstruck-append [] t = refl
unstruck-append (x ∷ s) t = rw (unstruck-append s t) (go x.struck)
  where
    go : (b : Bool) → cond b (unstruck s ++ unstruck t) (x ∷ unstruck s ++ unstruck t) ≡ cond b (unstruck s) (x ∷ unstruck s) ++ unstruck t
    go true = refl
    go false = refl

-- they read as the legs were accepted
pub unstruck-new : (gs : List Leg) → map as_read (unstruck (map new_line gs)) ≡ gs
unfolding unstruck new_line
unstruck-new [] = refl
unstruck-new (g ∷ gs) = λ i. new-reads g i ∷ unstruck-new gs i

-- ---- struck out or not

pub struck-or-not : (s : List Line) → length s ≡ length (unstruck s) + how_many (λ x. x.struck) s
unfolding unstruck how_many
struck-or-not [] = omega arith
struck-or-not (x ∷ s) = go (struck-or-not s) x.struck
  where
    go : length s ≡ length (unstruck s) + how_many (λ x. x.struck) s → (b : Bool)
        → suc (length s) ≡ length (cond b (unstruck s) (x ∷ unstruck s)) + cond b (suc (how_many (λ x. x.struck) s)) (how_many (λ x. x.struck) s)
    go ih true = omega (arith, ih)
    go ih false = omega (arith, ih)
