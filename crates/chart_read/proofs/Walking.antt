-- The walk over the fields: what a loop that takes one field a turn keeps.
use Prim.Native.Nat.{ℕ, suc, zero, ◌+◌, ◌<◌, ◌≤◌}
use mathlib.Core.Path.{◌≡◌, refl, sym, ap, ◌∙◌}
use mathlib.Core.List.{List}
use mathlib.Core.Bool.{Bool, true, false, cond}
use native.Mathlib.Omega.{arith}
use lib.Dec.{leb}
use lib.ListN.{length}
use borrow.Author.Tests.{lt-leb, le-leb}
use Rattle.chart.specs.declared.Chart.{Chart}
use Rattle.chart_read.specs.Fields.{tag_at, body_at, past_field}
use Rattle.chart_read.specs.Reading.{SoFar, nothing, with_body, refusing, field_refusal, ChartRead, refused_at, at_end, onward, walk, read_chart_of}

-- what is held after the field at a place
abbrev pub held_past : SoFar → List ℕ → ℕ → SoFar
held_past s bytes at = with_body s (tag_at bytes at) (body_at bytes at)

-- one turn of the walk, and its end
pub turn : (k : ℕ) (s : SoFar) (bytes : List ℕ) (at : ℕ) → at < length bytes
    → walk (suc k) s bytes at ≡ onward (field_refusal (refusing s) bytes at) at (walk k (held_past s bytes at) bytes (past_field bytes at))
unfolding walk
turn k s bytes at h = rw (lt-leb (length bytes) at h)

pub walk_end : (k : ℕ) (s : SoFar) (bytes : List ℕ) (at : ℕ) → length bytes ≤ at → walk k s bytes at ≡ at_end s (length bytes)
unfolding walk
walk_end zero s bytes at h = refl
walk_end (suc k) s bytes at h = rw (le-leb (length bytes) at h)

onward-refused : (k at : ℕ) (go : ChartRead) → (k ≡ 0 → ⊥) → onward k at go ≡ refused_at k at
onward-refused zero at go h = absurd (h refl)
onward-refused (suc k) at go h = refl

-- the walk from here, with as much fuel as there are bytes left at least, is the whole reading
abbrev pub Reaches : List ℕ → SoFar → ℕ → Type 0
Reaches bytes s at = (k : ℕ) × (length bytes ≤ at + k) × (walk k s bytes at ≡ read_chart_of bytes)

pub reach-start : (bytes : List ℕ) → Reaches bytes nothing 0
unfolding read_chart_of
reach-start bytes = (length bytes, omega arith, refl)

pub reach-end : (bytes : List ℕ) (s : SoFar) (at : ℕ) → length bytes ≤ at → Reaches bytes s at → at_end s (length bytes) ≡ read_chart_of bytes
reach-end bytes s at h r = sym (walk_end r.0 s bytes at h) ∙ r.2

module _ (bytes : List ℕ) (s : SoFar) (at : ℕ) (h : at < length bytes) where
  pub reach-next : Reaches bytes s at → field_refusal (refusing s) bytes at ≡ 0 → Reaches bytes (held_past s bytes at) (past_field bytes at)
  reach-next (zero, l, r) t = absurd (omega arith)
  reach-next (suc k, l, r) t = (
    k,
    omega arith,
    sym (turn k s bytes at h ∙ ap (λ (n : ℕ). onward n at (walk k (held_past s bytes at) bytes (past_field bytes at))) t) ∙ r,
  )

  pub reach-refused : Reaches bytes s at → (field_refusal (refusing s) bytes at ≡ 0 → ⊥) → refused_at (field_refusal (refusing s) bytes at) at ≡ read_chart_of bytes
  reach-refused (zero, l, r) t = absurd (omega arith)
  reach-refused (suc k, l, r) t = sym (turn k s bytes at h ∙ onward-refused (field_refusal (refusing s) bytes at) at _ t) ∙ r

-- the input's end, by its question
pub end-unasked : (s : SoFar) (long : ℕ) → s.asked ≡ false → refused_at 31 long ≡ at_end s long
end-unasked s long e = rw e

pub end-asked : (s : SoFar) (long : ℕ) → s.asked ≡ true → record { refusal = 0; place = 0; chart = s.chart } ≡ at_end s long
end-asked s long e = rw e

-- ---- a place is told beside a refusal only

end-place : (asked : Bool) (c : Chart) (long : ℕ) → (cond asked (record { refusal = 0; place = 0; chart = c }) (refused_at 31 long)).refusal ≡ 0
    → (cond asked (record { refusal = 0; place = 0; chart = c }) (refused_at 31 long)).place ≡ 0
end-place true c long h = refl
end-place false c long h = absurd (omega arith)

onward-place : (n at : ℕ) (later : ChartRead) → (later.refusal ≡ 0 → later.place ≡ 0) → (onward n at later).refusal ≡ 0 → (onward n at later).place ≡ 0
onward-place zero at later f h = f h
onward-place (suc n) at later f h = absurd (omega arith)

walk-place : (k : ℕ) (s : SoFar) (bytes : List ℕ) (at : ℕ) → (walk k s bytes at).refusal ≡ 0 → (walk k s bytes at).place ≡ 0
unfolding walk
walk-place zero s bytes at h = end-place s.asked s.chart (length bytes) h
walk-place (suc k) s bytes at h = go (leb (length bytes) at) (walk-place k (held_past s bytes at) bytes (past_field bytes at)) h
  where
    later : ChartRead
    later = walk k (held_past s bytes at) bytes (past_field bytes at)

    after : ChartRead
    after = onward (field_refusal (refusing s) bytes at) at (walk k (held_past s bytes at) bytes (past_field bytes at))

    go : (over : Bool) → (later.refusal ≡ 0 → later.place ≡ 0) → (cond over (at_end s (length bytes)) after).refusal ≡ 0
        → (cond over (at_end s (length bytes)) after).place ≡ 0
    go true f e = end-place s.asked s.chart (length bytes) e
    go false f e = onward-place (field_refusal (refusing s) bytes at) at later f e

pub read-place : (bytes : List ℕ) → (read_chart_of bytes).refusal ≡ 0 → (read_chart_of bytes).place ≡ 0
unfolding read_chart_of
read-place bytes h = walk-place (length bytes) nothing bytes 0 h
