-- What the calls answer: the chart's number and place, or the class's number, or what was asked for.
use Prim.Native.Nat.{ℕ}
use mathlib.Core.Path.{◌≡◌, sym, ap, ap₂, subst, ◌∙◌}
use mathlib.Core.List.{List}
use Rattle.std.specs.Prelude.{Result, Ok, Err}
use Rattle.std.specs.Result.{IsErrAnd}
use Rattle.refusal.specs.declared.Fault.{Fault}
use Rattle.refusal.specs.Numbers.{AnswersAt}
use Rattle.refusal.proofs.Laws.{names}
use Rattle.lists.specs.Refusals.{or_else, unless_refused}
use Rattle.lists.proofs.Refusals.{or-refused, taken, refused}
use Rattle.buffer.specs.Bytes.{Bytes}
use Rattle.address.specs.declared.Port.{Port}
use Rattle.address.specs.declared.Station.{Station}
use Rattle.address.specs.declared.Address.{Address}
use Rattle.chart.specs.declared.Chart.{Chart}
use Rattle.chart_refuse.specs.Promises.{Accepted}
use Rattle.chart_read.specs.Reading.{ChartRead, read_chart_of}
use Rattle.chart_read.proofs.Walking.{read-place}
use Rattle.chart_net.specs.Net.{station_place}
use Rattle.chart_net.specs.Private.{station_place_for}
use Rattle.chart_net.proofs.Places.{place-few}
use Rattle.class.specs.declared.Message.{Message}
use Rattle.class.specs.Class.{begun_at, step_on, class_refusal}
use Rattle.class.specs.Calls.{Sent, Passed, tables_in}
use Rattle.class.specs.Private.{Going, passed_from}
use Rattle.class.proofs.Held.{long_of}
use Rattle.class.proofs.Refusals.{not-refused, read-accepted}

-- ---- an answer by two numbers: the chart's, and the class's

module _ {A : Type 0} where
  abbrev answer : (ChartRead → ℕ) → (ChartRead → A) → (ℕ → ℕ → A) → ChartRead → A
  answer number good bad r = unless_refused (or_else r.refusal (number r)) (good r) (bad (or_else r.refusal (number r)) r.place)

  module _ (number : ChartRead → ℕ) (good : ChartRead → A) (bad : ℕ → ℕ → A) (bytes : List ℕ) {q : ChartRead} (g : q ≡ read_chart_of bytes) where
    whole : {x : A} → x ≡ answer number good bad q → x ≡ answer number good bad (read_chart_of bytes)
    whole e = e ∙ ap (answer number good bad) g

    -- the chart is refused
    pub by-chart : (q.refusal ≡ 0 → ⊥) → bad q.refusal q.place ≡ answer number good bad (read_chart_of bytes)
    by-chart h =
        let n = or-refused q.refusal (number q) h in
        whole (sym (refused (good q) _ _ (λ z. h (sym n ∙ z)) ∙ ap (λ (k : ℕ). bad k q.place) n))

    -- or the class is: no place is told
    pub by-class : q.refusal ≡ 0 → {k : ℕ} → k ≡ number q → (k ≡ 0 → ⊥) → bad k 0 ≡ answer number good bad (read_chart_of bytes)
    by-class z e h =
        let n = ap (λ (k : ℕ). or_else k (number q)) z ∙ sym e in
        let p : q.place ≡ 0 = ap (λ (r : ChartRead). r.place) g ∙ read-place bytes (sym (ap (λ (r : ChartRead). r.refusal) g) ∙ z) in
        whole (sym (refused (good q) _ _ (λ o. h (sym n ∙ o)) ∙ ap₂ bad n p))

    -- or neither
    pub by-neither : q.refusal ≡ 0 → {k : ℕ} → k ≡ number q → k ≡ 0 → {x : A} → x ≡ good q → x ≡ answer number good bad (read_chart_of bytes)
    by-neither z e h f = whole (f ∙ sym (taken (good q) _ (ap (λ (k : ℕ). or_else k (number q)) z ∙ sym e ∙ h)))

-- ---- a chart that was read

pub read_right : (bytes : List ℕ) → Bytes bytes → {q : ChartRead} → q ≡ read_chart_of bytes → q.refusal ≡ 0 → Accepted q.chart
read_right bytes b {q} g z =
    let e : (read_chart_of bytes).refusal ≡ 0 = sym (ap (λ (r : ChartRead). r.refusal) g) ∙ z in
    subst (λ (r : ChartRead). Accepted r.chart) (sym g) (read-accepted bytes b e)

-- no number refuses a message at a place of it: it can go on
pub can-go : (c : Chart) → Accepted c → (tables : List ℕ) (d : Address) (a : ℕ) (p : Port) → class_refusal c.nodes (tables_in tables) d a p ≡ 0
    → Going c tables a
can-go c ok tables d a p e =
    let r = not-refused c.nodes (tables_in tables) d a p e in
    record { chart = ok; long = long_of tables r.here r.tables; here = r.here }

-- ---- a message from a station

-- the class's number
abbrev pub send_number : List ℕ → Address → Station → ChartRead → ℕ
send_number tables d s r = class_refusal r.chart.nodes (tables_in tables) d (station_place r.chart.nodes s) (record { 0 = 0 })

-- what the code knows of it: the chart is accepted, a is the station's place, and k is the class's number
pub record Sending (tables : List ℕ) (d : Address) (s : Station) (q : ChartRead) (a k : ℕ) : Type 0 where
  pub ok : Accepted q.chart
  pub place : a ≡ station_place q.chart.nodes s
  pub number : k ≡ send_number tables d s q
  pub going : k ≡ 0 → Going q.chart tables a

pub sending : (tables : List ℕ) (d : Address) (s : Station) {q : ChartRead} {a k : ℕ} → Accepted q.chart → a ≡ station_place_for q.chart.nodes s
    → k ≡ class_refusal q.chart.nodes (tables_in tables) d a (record { 0 = 0 }) → Sending tables d s q a k
sending tables d s {q} {a} ok e f =
    let p = e ∙ place-few q.chart.nodes s ok.few_nodes in
    record {
      ok = ok;
      place = p;
      number = f ∙ ap (λ (x : ℕ). class_refusal q.chart.nodes (tables_in tables) d x (record { 0 = 0 })) p;
      going = λ z. can-go q.chart ok tables d a (record { 0 = 0 }) (sym f ∙ z);
    }

-- ---- what stands in the answers

-- the class's number for a message that goes on
abbrev pub step_number : List ℕ → Address → Message → ChartRead → ℕ
step_number tables d m r = class_refusal r.chart.nodes (tables_in tables) d m.at m.arrival

-- a message that begins at a station, and one beside a refusal
abbrev pub begun_from : Station → ChartRead → Sent
begun_from s r = record { refusal = 0; place = 0; message = begun_at (station_place r.chart.nodes s) }

abbrev pub unsent : Message → ℕ → ℕ → Sent
unsent m k at = record { refusal = k; place = at; message = m }

-- a step of a message, and all steps
abbrev pub stepped_on : List ℕ → Address → Message → ChartRead → Sent
stepped_on tables d m r = record { refusal = 0; place = 0; message = step_on r.chart (tables_in tables) d m }

abbrev pub passed_on : List ℕ → Address → Station → ChartRead → Passed
passed_on tables d s r = passed_from r.chart (tables_in tables) d (station_place r.chart.nodes s)

-- ---- what the reader gives

abbrev pub Reads : List ℕ → Result Chart Fault → Type 0
Reads bytes x = AnswersAt x (read_chart_of bytes).refusal (read_chart_of bytes).place (read_chart_of bytes).chart

-- a chart that was read, as it was defined
abbrev pub got : Chart → ChartRead
got c = record { refusal = 0; place = 0; chart = c }

pub given : (bytes : List ℕ) (c : Chart) → Reads bytes (Ok c) → got c ≡ read_chart_of bytes
given bytes c h = λ i. record { refusal = sym h.0 i; place = sym h.1.0 i; chart = h.1.1 i }

-- what refuses the chart is no 0
pub bad : (bytes : List ℕ) (f : Fault) → Reads bytes (Err f) → (read_chart_of bytes).refusal ≡ 0 → ⊥
bad bytes f h z = names.none_zero f.refusal (h.0 ∙ z)

-- a result that a `?` passes on is that fault
pub is-fault : {A : Type 0} (x : Result A Fault) (f : Fault) → IsErrAnd x (λ g. g ≡ f) → x ≡ Err f
is-fault (Ok a) f h = absurd h
is-fault (Err g) f h = ap Err h
