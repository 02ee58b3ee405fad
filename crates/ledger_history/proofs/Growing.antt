-- A line keeps its leg and what stands on it, whatever is written: it only grows.
use Prim.Native.Nat.{ℕ, zero, suc, ◌<◌}
use mathlib.Core.Path.{◌≡◌, refl, sym, ap, ◌∙◌}
use mathlib.Core.Bool.{Bool, true, false, cond}
use mathlib.Core.List.{List, [], ◌∷◌, ◌++◌, map, append_assoc, append-nil}
use native.Mathlib.Nat.{le_of_suc-le-suc, not-suc-le-zero}
use lib.ListN.{length, get_or}
use Rattle.address.specs.declared.Seq.{Seq}
use Rattle.address.specs.declared.Address.{Address}
use Rattle.ledger.specs.Rules.{no_leg}
use Rattle.ledger_answer.specs.declared.Reply.{Reply}
use Rattle.ledger_history.specs.Account.{Event, replied, Line, new_line, noted, is_for, noted_if_for}

-- the line y has what stands on the line x, and more
pub record Grown (x y : Line) : Type 0 where
  pub more : List Event
  pub leg : y.leg ≡ x.leg
  pub events : y.events ≡ x.events ++ more

pub same_line : (x : Line) → Grown x x
same_line x = record { more = []; leg = refl; events = sym (append-nil x.events) }

pub grown-on : (x y z : Line) → Grown x y → Grown y z → Grown x z
grown-on x y z a b =
    record {
      more = a.more ++ b.more;
      leg = b.leg ∙ a.leg;
      events = b.events ∙ ap (λ (es : List Event). es ++ b.more) a.events ∙ append_assoc x.events a.more b.more;
    }

-- the line at a place
abbrev pub line_at : List Line → ℕ → Line
line_at s n = get_or s n (new_line no_leg)

-- ---- an event written

pub noted-grown : (e : Event) (x : Line) → Grown x (noted e x)
unfolding noted
noted-grown e x = go x.struck
  where
    go : (b : Bool) → Grown x (cond b x (record { leg = x.leg; events = x.events ++ (e ∷ []); struck = false }))
    go true = same_line x
    go false = record { more = e ∷ []; leg = refl; events = refl }

pub answer-grown : (by to : Address) (seq : Seq) (reply : Reply) (x : Line) → Grown x (noted_if_for by to seq reply x)
unfolding noted_if_for
answer-grown by to seq reply x = go (is_for by to seq x.leg)
  where
    go : (b : Bool) → Grown x (cond b (noted (replied reply) x) x)
    go true = noted-grown (replied reply) x
    go false = same_line x

pub map-grown : (f : Line → Line) → ((x : Line) → Grown x (f x)) → (s : List Line) (n : ℕ) → n < length s → Grown (line_at s n) (line_at (map f s) n)
map-grown f g [] n h = absurd (not-suc-le-zero h)
map-grown f g (x ∷ s) zero h = g x
map-grown f g (x ∷ s) (suc n) h = map-grown f g s n (le_of_suc-le-suc h)
