-- Two texts laid one after the other are one text laid.
use Prim.Native.Nat.{ℕ, ◌+◌, ◌<◌, ◌≤◌, min}
use mathlib.Core.Path.{◌≡◌, refl, sym, ◌∙◌}
use mathlib.Core.List.{List, [], ◌++◌}
use native.Mathlib.Decide.{dec_le}
use native.Mathlib.Omega.{arith}
use lib.ListN.{length, length-append}
use lib.Seq.{sets, length-sets}
use Rattle.lists.proofs.Stores.{sets-append, sets-past}
use Rattle.text.specs.Private.{Laid, last}

-- past the end nothing is stored, so a place past the largest usize may stay there
min-by : (t l : List ℕ) (i : ℕ) → length l < last → Dec (i ≤ last) → sets l (min i last) t ≡ sets l i t
min-by t l i h (yes p) = let e : min i last ≡ i = omega arith in rw e
min-by t l i h (no p) =
    let e : min i last ≡ last = omega arith in
    rw e (sets-past t l last (omega arith) ∙ sym (sets-past t l i (omega arith)))

sets-min : (t l : List ℕ) (i : ℕ) → length l < last → sets l (min i last) t ≡ sets l i t
sets-min t l i h = min-by t l i h (dec_le i last)

sets-joined : (s t l : List ℕ) (i : ℕ) → length l < last → sets (sets l i s) (min (i + length s) last) t ≡ sets l i (s ++ t)
sets-joined s t l i h =
    let k : length (sets l i s) < last = rw length-sets h in
    sets-min t (sets l i s) (i + length s) k ∙ sets-append s l i t (i + length s) refl

infixl 20 ◌▸◌
-- one text, and then another from where it ended
pub ◌▸◌ : {l m n : List ℕ} {a b c : ℕ} {s t : List ℕ} → Laid l a s m b → Laid m b t n c → Laid l a (s ++ t) n c
◌▸◌ {l = l} {a = a} {s = s} {t = t} p q =
    record {
      bytes = q.bytes ∙ rw (p.bytes, p.place) (sets-joined s t l a p.short);
      place = rw length-append (omega arith);
      short = p.short;
    }

module _ {l m n : List ℕ} {a b c : ℕ} {s t : List ℕ} where
  -- of two texts to be laid the first is: the second is left
  pub rest : Laid l a (s ++ t) n c → Laid l a s m b → Laid m b t n c
  rest p q =
      record {
        bytes = p.bytes ∙ sym (sets-joined s t l a p.short) ∙ rw (q.bytes, q.place);
        place = omega (arith, simp length-append at p.place);
        short = rw (q.bytes, length-sets) p.short;
      }

-- nothing is laid
pub nothing : {l : List ℕ} {a : ℕ} → length l < last → a ≤ last → Laid l a [] l a
nothing h k = record { bytes = refl; place = omega arith; short = h }

-- the same text said otherwise
pub said : {l m : List ℕ} {a b : ℕ} {s t : List ℕ} → s ≡ t → Laid l a s m b → Laid l a t m b
said e p = rw e at p

-- the whole of a text, where the loop over it begins
pub whole : (l : List ℕ) (a : ℕ) (s : List ℕ) → length l < last → Laid l a s (sets l a s) (min (a + length s) last)
whole l a s h = record { bytes = refl; place = refl; short = h }

-- what is left of it is laid after the loop
pub finish : {l m o t : List ℕ} {a c : ℕ} (b : ℕ) (s : List ℕ) → Laid l a t (sets o b s) (min (b + length s) last) → Laid l a t m c
    → length o < last → Laid o b s m c
finish b s p q h = record { bytes = q.bytes ∙ sym p.bytes; place = q.place ∙ sym p.place; short = h }

-- where nothing is left of it, it is laid
pub done : {l o t : List ℕ} {a : ℕ} (b : ℕ) (s : List ℕ) → t ≡ [] → a ≤ last → length o < last
    → Laid l a t (sets o b s) (min (b + length s) last) → Laid o b s l a
done {l} {o} {t} {a} b s e k h p =
    let q : Laid l a [] (sets o b s) (min (b + length s) last) = rw e at p in
    record { bytes = sym q.bytes; place = omega (arith, q.place); short = h }
