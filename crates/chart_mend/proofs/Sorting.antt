-- What a pass keeps: the fields behind it are stored, those before it are still to come, and the keys are those of what is held.
use Prim.Native.Nat.{ℕ, ◌+◌, ◌-◌, ◌<◌, ◌≤◌}
use mathlib.Core.Path.{◌≡◌, refl, sym, ap, subst, ◌∙◌}
use mathlib.Core.List.{List, [], ◌∷◌, ◌++◌, append_assoc, append-nil}
use native.Mathlib.Omega.{arith}
use lib.ListN.{length, get_or, length-append}
use lib.Seq.{sets}
use mir.Syntax.{w8}
use mir.Val.{Fits}
use Rattle.buffer.specs.Bytes.{Bytes, word_bytes}
use Rattle.lists.proofs.Stores.{sets-append}
use Rattle.chart_read.specs.declared.Counts.{Counts}
use Rattle.chart_read.specs.Reading.{SoFar, nothing}
use Rattle.chart_read.specs.declared.Keys.{Keys}
use Rattle.chart_read.specs.Private.{no_keys, TakesField, field_end}
use Rattle.chart_read.proofs.Taking.{HeldKeys, none-held, held-refusal, held-keys}
use Rattle.chart_mend.specs.Mending.{Seen, next_place, held_after, seen_at, fields_of, held_of, each, kept_of, entry_of, kept_bytes, list_bytes}
use Rattle.chart_mend.specs.Private.{PassedOver}
use Rattle.chart_mend.proofs.Fields.{between, long-between}
use Rattle.chart_mend.proofs.Walking.{refusal_at, Onward, onward, Goes, goes-all, turn_on, over, next-is-end, kept-bytes, kept_entry, dropped-bytes, dropped-entry}
use Rattle.chart_mend.proofs.Promises.{each_append}
use Rattle.chart_mend.proofs.Sizes.{all-sizes}

-- ---- a buffer that takes what the fields give

-- of these fields: so many bytes, stored from the front as far as they fit
pub record Stored (w : Seen → List ℕ) (done : List Seen) (l₀ l : List ℕ) (n : ℕ) : Type 0 where
  pub size : n ≡ length (each w done)
  pub text : l ≡ sets l₀ 0 (each w done)

module _ (w : Seen → List ℕ) where
  stored-none : (l₀ : List ℕ) → Stored w [] l₀ l₀ 0
  unfolding each
  stored-none l₀ = record { size = refl; text = refl }

  module _ {done : List Seen} {l₀ l : List ℕ} {n : ℕ} (p : Stored w done l₀ l n) (f : Seen) where
    more : each w (done ++ (f ∷ [])) ≡ each w done ++ w f
    unfolding each
    more = each_append w done (f ∷ []) ∙ ap (λ (x : List ℕ). each w done ++ x) (append-nil (w f))

    -- one field more, of which something is stored, or nothing
    stored_more : (v : List ℕ) → v ≡ w f → (l' : List ℕ) → l' ≡ sets l n v → (m : ℕ) → m ≡ n + length v → Stored w (done ++ (f ∷ [])) l₀ l' m
    stored_more v d l' e m g =
        record {
          size = omega (arith, g, p.size, ap (length {A = ℕ}) d, ap (length {A = ℕ}) more, length-append (each w done) (w f));
          text =
              e ∙ (λ i. sets (p.text i) n (d i))
              ∙ sets-append (each w done) l₀ 0 (w f) n (omega (arith, p.size))
              ∙ ap (sets l₀ 0) (sym more);
        }

    stored_same : w f ≡ [] → Stored w (done ++ (f ∷ [])) l₀ l n
    stored_same e =
        let z : each w done ≡ each w (done ++ (f ∷ [])) = sym (more ∙ ap (λ (x : List ℕ). each w done ++ x) e ∙ append-nil (each w done)) in
        record { size = p.size ∙ ap (length {A = ℕ}) z; text = p.text ∙ ap (sets l₀ 0) z }

-- ---- the loop

-- its variables
pub record Turn : Type 0 where
  pub out : List ℕ
  pub list : List ℕ
  pub keys : Keys
  pub kept : ℕ
  pub listed : ℕ
  pub at : ℕ

pub record Sorting (input out₀ list₀ : List ℕ) (t : Turn) : Type 0 where
  pub s : SoFar
  pub done : List Seen
  pub left : List Seen
  pub goes : Goes input s t.at left (held_of input)
  pub all : fields_of input ≡ done ++ left
  pub held : HeldKeys s t.keys
  pub kept : Stored kept_of done out₀ t.out t.kept
  pub listed : Stored entry_of done list₀ t.list t.listed

abbrev first_turn : (out list : List ℕ) → Keys → Turn
first_turn out list keys = record { out = out; list = list; keys = keys; kept = 0; listed = 0; at = 0 }

nothing_yet : (input out list : List ℕ) → Sorting input out list (first_turn out list no_keys)
nothing_yet input out list =
    record {
      s = nothing;
      done = [];
      left = fields_of input;
      goes = goes-all input;
      all = refl;
      held = none-held;
      kept = stored-none kept_of out;
      listed = stored-none entry_of list;
    }

pub sorting_start : (input out list : List ℕ) (keys : Keys) → keys ≡ no_keys → Sorting input out list (first_turn out list keys)
sorting_start input out list keys e = subst (λ (k : Keys). Sorting input out list (first_turn out list k)) (sym e) (nothing_yet input out list)

-- what is stored so far is no more than all
module _ {input out₀ list₀ : List ℕ} {t : Turn} (p : Sorting input out₀ list₀ t) where
  some_of : (w : Seen → List ℕ) → length (each w p.done) ≤ length (each w (fields_of input))
  some_of w =
      let e : each w (fields_of input) ≡ each w p.done ++ each w p.left = ap (each w) p.all ∙ each_append w p.done p.left in
      omega (arith, ap (length {A = ℕ}) e, length-append (each w p.done) (each w p.left))

  pub few-kept : t.kept ≤ length input + 2
  unfolding kept_bytes
  few-kept = omega (arith, p.kept.size, some_of kept_of, (all-sizes input).both)

  pub few-listed : t.listed ≤ length input + 2
  unfolding list_bytes
  few-listed = omega (arith, p.listed.size, some_of entry_of, (all-sizes input).both)

-- at a field of the input, taken or refused, and the place past it at hand
pub record Field (input out₀ list₀ : List ℕ) (t : Turn) (k next : ℕ) : Type 0 where
  pub sorting : Sorting input out₀ list₀ t
  pub all-bytes : Bytes input
  pub begins : t.at < length input
  pub keys : Keys
  pub takes : TakesField t.keys input t.at k keys
  pub next_is : next ≡ field_end input t.at

-- from what the loop knows once it has taken a field
abbrev pub field-taken : {input out₀ list₀ : List ℕ} {t : Turn} {k next : ℕ} {keys : Keys} → Sorting input out₀ list₀ t → ((i : ℕ) → Fits w8 (get_or input i 0)) → t.at < length input
    → TakesField t.keys input t.at k keys → next ≡ field_end input t.at → Field input out₀ list₀ t k next
field-taken {keys} s b l h e = record { sorting = s; all-bytes = λ i. omega (arith, b i); begins = l; keys = keys; takes = h; next_is = e }

module _ {input out₀ list₀ : List ℕ} {t : Turn} {k next : ℕ} (f : Field input out₀ list₀ t k next) where
  abbrev p : Sorting input out₀ list₀ t
  p = f.sorting

  refusal_is : refusal_at p.s input t.at ≡ k
  refusal_is = sym (held-refusal p.s t.keys p.held input f.all-bytes t.at) ∙ sym f.takes.refusal

  next-place_is : next ≡ next_place k input t.at
  next-place_is = f.next_is ∙ next-is-end p.s input t.at ∙ ap (λ (j : ℕ). next_place j input t.at) refusal_is

  pub goes_on : Onward input t.at next
  goes_on =
      subst (Onward input t.at) (sym (f.next_is ∙ next-is-end p.s input t.at))
      (onward p.s input t.at f.begins)

  -- the field is behind, whatever of it is stored
  sorted-on : (out list : List ℕ) (kept listed : ℕ)
      → Stored kept_of (p.done ++ (seen_at k input t.at ∷ [])) out₀ out kept → Stored entry_of (p.done ++ (seen_at k input t.at ∷ [])) list₀ list listed
      → Sorting input out₀ list₀ (record { out = out; list = list; keys = f.keys; kept = kept; listed = listed; at = next })
  unfolding held_after
  sorted-on out list kept listed q r =
      let x = seen_at k input t.at in
      let g = turn_on input p.goes f.begins k refusal_is in
      record {
        s = held_after k p.s input t.at;
        done = p.done ++ (x ∷ []);
        left = g.0;
        goes = subst (λ (j : ℕ). Goes input (held_after k p.s input t.at) j g.0 (held_of input)) (sym next-place_is) g.2;
        all = p.all ∙ ap (λ (l : List Seen). p.done ++ l) g.1 ∙ sym (append_assoc p.done (x ∷ []) g.0);
        held = held-keys p.s t.keys p.held input f.all-bytes t.at k f.keys f.takes;
        kept = q;
        listed = r;
      }

  -- one that is kept
  pub sorting-kept : k ≡ 0 → (out : List ℕ) → out ≡ sets t.out t.kept (between input t.at next)
      → Sorting input out₀ list₀ (record { out = out; list = t.list; keys = f.keys; kept = t.kept + (next - t.at); listed = t.listed; at = next })
  sorting-kept z out e =
      let at = t.at in
      let l = long-between input at next (omega (arith, goes_on.on)) goes_on.within in
      let x = seen_at k input at in
      let b : between input at next ≡ kept_of x = ap (between input at) next-place_is ∙ sym (kept-bytes input at k z) in
      sorted-on out t.list _ _
      (stored_more kept_of p.kept x (between input at next) b out e (t.kept + (next - at)) (omega (arith, l, goes_on.on)))
      (stored_same entry_of p.listed x (kept_entry input at k z))

  -- one that is dropped
  pub sorting-dropped : (k ≡ 0 → ⊥) → (e : List ℕ) → e ≡ word_bytes t.at ++ (k ∷ []) → (list : List ℕ) → list ≡ sets t.list t.listed e
      → Sorting input out₀ list₀ (record { out = t.out; list = list; keys = f.keys; kept = t.kept; listed = t.listed + 3; at = next })
  sorting-dropped z e q list o =
      let x = seen_at k input t.at in
      sorted-on t.out list _ _
      (stored_same kept_of p.kept x (dropped-bytes input t.at k z))
      (stored_more entry_of p.listed x e (q ∙ sym (dropped-entry input t.at k z)) list o (t.listed + 3) (omega (arith, ap (length {A = ℕ}) q)))

-- the end: everything is behind
pub sorting-end : (input out₀ list₀ : List ℕ) (t : Turn) → Sorting input out₀ list₀ t → length input ≤ t.at
    → PassedOver input out₀ list₀ (record { asked = t.keys.counts.asked; kept = t.kept; listed = t.listed }) t.out t.list
unfolding kept_bytes list_bytes
sorting-end input out₀ list₀ t p l =
    let o = over input p.goes l in
    let d : p.done ≡ fields_of input = sym (p.all ∙ ap (λ (r : List Seen). p.done ++ r) o.0 ∙ append-nil p.done) in
    record {
      asked = ap (λ (c : Counts). c.asked) p.held.counts ∙ ap (λ (s : SoFar). s.asked) o.1;
      kept = p.kept.size ∙ ap (λ (fs : List Seen). length (each kept_of fs)) d;
      listed = p.listed.size ∙ ap (λ (fs : List Seen). length (each entry_of fs)) d;
      out_after = p.kept.text ∙ ap (λ (fs : List Seen). sets out₀ 0 (each kept_of fs)) d;
      list_after = p.listed.text ∙ ap (λ (fs : List Seen). sets list₀ 0 (each entry_of fs)) d;
    }
