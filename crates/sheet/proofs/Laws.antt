-- The sheet's text in its parts; and what a writer leaves that writes into an empty buffer first and then, if there is room, into the one it was lent.
use Prim.Native.Nat.{ℕ, ◌+◌, ◌<◌, ◌≤◌}
use mathlib.Core.Path.{◌≡◌, refl, sym, ap, ap₂, ◌∙◌}
use mathlib.Core.List.{List, [], ◌++◌}
use native.Mathlib.Omega.{arith}
use borrow.Author.Tests.{lt-ltb, le-ltb}
use lib.ListN.{length}
use Rattle.buffer.specs.Bytes.{Bytes}
use Rattle.lists.specs.Places.{joined}
use Rattle.lists.specs.Refusals.{unless_refused}
use Rattle.std.specs.Prelude.{Result, Ok, Err}
use Rattle.refusal.specs.declared.Refusal.{Refusal}
use Rattle.refusal.specs.declared.Refusal.TheVariants.{NoRoom}
use Rattle.refusal.specs.declared.Fault.{Fault}
use Rattle.refusal.specs.Numbers.{number, AnswersAt}
use Rattle.refusal.proofs.Laws.{names}
use Rattle.lists.proofs.Refusals.{refused}
use Rattle.lists.proofs.Stores.{sets-past, sets-front}
use Rattle.lists.proofs.Places.{joined-next}
use Rattle.chart.specs.declared.Chart.{Chart}
use Rattle.chart_read.specs.Reading.{ChartRead, read_chart_of}
use Rattle.chart_refuse.specs.Refusal.{chart_refusal}
use Rattle.chart_refuse.specs.Promises.{Accepted}
use Rattle.chart_refuse.proofs.Accepted.{accepted}
use Rattle.chart_write.proofs.Promises.{write_undoes_read}
use Rattle.route_search.proofs.Telling.{places-right}
use Rattle.chart_net.specs.Net.{start, routes_of}
use Rattle.chart_net.specs.declared.Asked.{Asked}
use Rattle.chart_net.specs.Private.{asked_of, station_place_for, ends_for, passages_for, array_routes}
use Rattle.chart_net.proofs.Places.{place-few}
use Rattle.chart_net.proofs.Promises.{routes-kept, accepted-ends}
use Rattle.text.specs.Private.{Laid, last}
use Rattle.text.proofs.Joining.{◌▸◌, said}
use Rattle.sheet_lines.specs.Lines.{refused_line}
use Rattle.sheet_routes.specs.Private.{routes_held}
use Rattle.sheet.specs.Sheet.{long_line, place, line_at, chart_text, read_text, sheet_text, sheet_refusal, SheetAnswers, sheet_after}

-- ---- one line more

pub line-more : {A : Type 0} (line : ℕ → A → List ℕ) (d : ℕ → A) (i : ℕ) {x : A} {o m q : List ℕ} {a b c : ℕ} → x ≡ d i
    → Laid o a (joined (line_at line d) place i) m b → Laid m b (line i x) q c → Laid o a (joined (line_at line d) place (i + 1)) q c
unfolding line_at
line-more line d i e p w = said (sym (joined-next (line_at line d) place i)) (p ▸ said (ap (line i) e) w)

-- ---- the routes of an accepted chart

routes-listed : (c : Chart) → chart_refusal c ≡ 0
    → routes_held (ends_for c.nodes c.links) (passages_for c.links) c.links.count (station_place_for c.nodes c.from) (station_place_for c.nodes c.to) ≡ routes_of c
unfolding routes_held unless_refused array_routes start
routes-listed c ok =
    let yes : Accepted c = accepted c ok in
    let h = (accepted-ends c yes).begins in
    let k = yes.few_nodes in
    let p : station_place_for c.nodes c.from < 16 = rw (place-few c.nodes c.from yes.few_nodes) (omega arith) in
    rw (places-right c.links.count (station_place_for c.nodes c.from) yes.few_links p) (routes-kept c yes)

-- the same of what was made of it
pub kept-listed : (c : Chart) → chart_refusal c ≡ 0 → {ends : List (List ℕ)} {ways : List ℕ} {asked : Asked} → ends ≡ ends_for c.nodes c.links → ways ≡ passages_for c.links
    → asked ≡ asked_of c → routes_held ends ways c.links.count asked.from asked.to ≡ routes_of c
unfolding asked_of
kept-listed c ok e w q = (λ j. routes_held (e j) (w j) c.links.count (q j).from (q j).to) ∙ routes-listed c ok

-- ---- what was read

pub read-refused : (r : ChartRead) → (r.refusal ≡ 0 → ⊥) → refused_line r.refusal r.place ≡ read_text r
unfolding read_text
read-refused r h = sym (refused (chart_text r.chart) (refused_line r.refusal r.place) r.refusal h)

pub read-chart : (r : ChartRead) → r.refusal ≡ 0 → chart_text r.chart ≡ read_text r
unfolding read_text unless_refused
read-chart r e = rw e

-- a chart that is read is accepted
pub read-accepted : (bytes : List ℕ) → Bytes bytes → (r : ChartRead) → r ≡ read_chart_of bytes → r.refusal ≡ 0 → chart_refusal r.chart ≡ 0
read-accepted bytes s r e h =
    let k : (read_chart_of bytes).refusal ≡ 0 = sym (ap (λ (q : ChartRead). q.refusal) e) ∙ h in
    ap (λ (q : ChartRead). chart_refusal q.chart) e ∙ (write_undoes_read bytes s k bytes (omega arith)).refusal

pub input-long : (bytes : List ℕ) → 4096 < length bytes → long_line ≡ sheet_text bytes
unfolding sheet_text
input-long bytes h = rw (lt-ltb 4096 (length bytes) h)

pub input-read : (bytes : List ℕ) → length bytes ≤ 4096 → read_text (read_chart_of bytes) ≡ sheet_text bytes
unfolding sheet_text
input-read bytes h = rw (le-ltb 4096 (length bytes) h)

-- what the reader gives
abbrev pub Reads : List ℕ → Result Chart Fault → Type 0
Reads bytes x = AnswersAt x (read_chart_of bytes).refusal (read_chart_of bytes).place (read_chart_of bytes).chart

pub given-accepted : (bytes : List ℕ) → Bytes bytes → (c : Chart) → Reads bytes (Ok c) → chart_refusal c ≡ 0
given-accepted bytes s c h = ap chart_refusal h.1.1 ∙ read-accepted bytes s (read_chart_of bytes) refl h.0

pub input-chart : (bytes : List ℕ) → length bytes ≤ 4096 → (c : Chart) → Reads bytes (Ok c) → chart_text c ≡ sheet_text bytes
input-chart bytes l c h = ap chart_text h.1.1 ∙ read-chart (read_chart_of bytes) h.0 ∙ input-read bytes l

pub input-refused : (bytes : List ℕ) → length bytes ≤ 4096 → (f : Fault) → Reads bytes (Err f) → {n : ℕ} → n ≡ number f.refusal → refused_line n f.place ≡ sheet_text bytes
input-refused bytes l f h e = ap₂ refused_line (e ∙ h.0) h.1 ∙ read-refused (read_chart_of bytes) (λ z. names.none_zero f.refusal (h.0 ∙ z)) ∙ input-read bytes l

-- ---- the writer

-- what is promised of an answer and of the buffer after it
abbrev pub Sheeted : List ℕ → List ℕ → Result ℕ Refusal → List ℕ → Type 0
Sheeted bytes out answer new = SheetAnswers bytes (length out) answer × (new ≡ sheet_after bytes out)

module _ (bytes out : List ℕ) where
  short : length out < length (sheet_text bytes) → sheet_refusal bytes (length out) ≡ 10
  unfolding sheet_refusal
  short h = rw (lt-ltb _ _ h)

  fits : length (sheet_text bytes) ≤ length out → sheet_refusal bytes (length out) ≡ 0
  unfolding sheet_refusal
  fits h = rw (le-ltb _ _ h)

  -- the text does not fit: 10, and the buffer as it was
  pub sheet-refused : {new : List ℕ} → length out < length (sheet_text bytes) → new ≡ out → Sheeted bytes out (Err NoRoom) new
  unfolding sheet_after unless_refused
  sheet-refused h e = (sym (short h), e ∙ rw (short h))

  -- it fits, and is laid from the start on
  pub sheet-wrote : {n k : ℕ} {new : List ℕ} → length (sheet_text bytes) ≤ length out → n ≡ length (sheet_text bytes) → Laid out 0 (sheet_text bytes) new k
      → Sheeted bytes out (Ok n) new
  unfolding sheet_after unless_refused
  sheet-wrote {n} {k} {new} h e w = ((fits h, e), rw (fits h) (w.bytes ∙ sets-front out (sheet_text bytes) h))

-- writing into an empty buffer measures, and stores nothing
module _ {text m : List ℕ} {n : ℕ} (out : List ℕ) (p : Laid [] 0 text m n) where
  pub no_room : m ++ out ≡ out
  no_room = let e : m ≡ [] = p.bytes ∙ sets-past text [] 0 (omega arith) in rw e

  pub too_short : length out < n → length out < length text
  too_short h = omega (arith, p.place)

  pub long-enough : n ≤ length out → length out < last → n ≡ length text
  long-enough h g = omega (arith, p.place)

  pub as_lent : {new : List ℕ} {k : ℕ} → Laid (m ++ out) 0 text new k → Laid out 0 text new k
  as_lent q = rw no_room at q
