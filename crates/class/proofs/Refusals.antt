-- What the numbers tell that refuse nothing, and that they refuse nothing after a step.
use Prim.Native.Nat.{ℕ, zero, suc, ◌<◌}
use mathlib.Core.Path.{◌≡◌, refl, sym, ap, ◌∙◌, subst}
use mathlib.Core.Bool.{true, false, not}
use mathlib.Core.List.{List}
use native.Mathlib.Decide.{ℕ_discrete}
use native.Mathlib.Nat.{le_refl}
use borrow.Author.Tests.{not-false, leb-false, lt-leb}
use lib.Dec.{leb}
use lib.ListN.{length}
use Rattle.lists.specs.Places.{any_below}
use Rattle.lists.proofs.Bools.{and_left, and_both}
use Rattle.lists.proofs.Refusals.{pass, or-pass, taken}
use Rattle.buffer.specs.Bytes.{Bytes}
use Rattle.address.specs.declared.Port.{Port}
use Rattle.address.specs.declared.Station.{Station}
use Rattle.address.specs.declared.Address.{Address}
use Rattle.address.specs.Address.{in_range}
use Rattle.table.specs.declared.Table.{Table}
use Rattle.table.specs.Table.{call_in_range}
use Rattle.chart.specs.declared.Nodes.{Nodes}
use Rattle.chart.specs.declared.Chart.{Chart}
use Rattle.chart_refuse.specs.Promises.{Accepted}
use Rattle.chart_refuse.proofs.Accepted.{accepted}
use Rattle.chart_read.specs.Reading.{read_chart_of}
use Rattle.chart_write.proofs.Promises.{write_undoes_read}
use Rattle.chart_net.specs.Net.{station_place}
use Rattle.class.specs.declared.Message.{Message}
use Rattle.class.specs.Class.{Arrival, begun_at, ended_with, step_on, steps_on, stray_table, strange_table, class_refusal}
use Rattle.class.specs.Calls.{Sent, chart_of, tables_in, send_refusal, step_refusal, begin_of, step_of}
use Rattle.class.specs.Promises.{sent_after}
use Rattle.class.proofs.Ports.{comes-in}
use Rattle.class.proofs.Steps.{Came, Stepped, halted, again, further, stepped, step-ended}

module _ (ns : Nodes) (ts : ℕ → Table) (d : Address) where
  -- no number refuses a message at place a that came in by a port
  pub record NotRefused (a : ℕ) (p : Port) : Type 0 where
    pub tables : any_below (stray_table ts) ns.count ≡ false
    pub here : a < ns.count
    pub own : any_below (strange_table ns ts) ns.count ≡ false
    pub call : call_in_range d p ≡ true

  pub not-refused : (a : ℕ) (p : Port) → class_refusal ns ts d a p ≡ 0 → NotRefused a p
  unfolding class_refusal
  not-refused a p e =
      let q = pass 49 (any_below (stray_table ts) ns.count) _ e in
      let r = pass 43 (leb ns.count a) _ q.1 in
      let t = pass 94 (any_below (strange_table ns ts) ns.count) _ r.1 in
      let u = pass 50 (not (call_in_range d p)) 0 t.1 in
      record { tables = q.0; here = leb-false ns.count a r.0; own = t.0; call = not-false (call_in_range d p) u.0 }

  pub passes : (a : ℕ) (p : Port) → NotRefused a p → class_refusal ns ts d a p ≡ 0
  unfolding class_refusal
  passes a p k = rw (k.tables, lt-leb ns.count a k.here, k.own, k.call)

  -- another place, and another port
  pub also-here : (a b : ℕ) (p q : Port) → b < ns.count → leb q.0 63 ≡ true → NotRefused a p → NotRefused b q
  unfolding call_in_range
  also-here a b p q h l k = record { tables = k.tables; here = h; own = k.own; call = and_both (and_left (in_range d) (leb p.0 63) k.call) l }

-- ---- step by step

module _ (c : Chart) (ok : Accepted c) (ts : ℕ → Table) (d : Address) where
  -- what refuses nothing refuses nothing after a step
  step_kept : (m : Message) → NotRefused c.nodes ts d m.at m.arrival → NotRefused c.nodes ts d (step_on c ts d m).at (step_on c ts d m).arrival
  unfolding ended_with
  step_kept m k = go (ℕ_discrete m.ending 0)
    where
      Here : Message → Type 0
      Here x = NotRefused c.nodes ts d x.at x.arrival

      went : (x : Arrival) → Came c ts d m x → NotRefused c.nodes ts d x.node x.port
      went x w =
          let q = comes-in c ok m.at w.by x w.out in
          also-here c.nodes ts d m.at x.node m.arrival x.port q.0 q.1 k

      by : Stepped c ts d m → Here (step_on c ts d m)
      by (halted j l h e) = subst Here (sym e) k
      by (again x w h e) = subst Here (sym e) (went x w)
      by (further x w h e) = subst Here (sym e) (went x w)

      go : Dec (m.ending ≡ 0) → Here (step_on c ts d m)
      go (yes e) = by (stepped c ts d m e)
      go (no e) = subst Here (sym (step-ended c ts d m e)) k

  pub steps-kept : (n : ℕ) (m : Message) → NotRefused c.nodes ts d m.at m.arrival
      → NotRefused c.nodes ts d (steps_on c ts d n m).at (steps_on c ts d n m).arrival
  unfolding steps_on
  steps-kept zero m k = k
  steps-kept (suc n) m k = steps-kept n (step_on c ts d m) (step_kept m k)

-- a chart that is read is right
pub read-accepted : (bytes : List ℕ) → Bytes bytes → (read_chart_of bytes).refusal ≡ 0 → Accepted (read_chart_of bytes).chart
read-accepted bytes b z = accepted (read_chart_of bytes).chart (write_undoes_read bytes b z bytes (le_refl (length bytes))).refusal

-- n steps and one more
steps-last : (c : Chart) (ts : ℕ → Table) (d : Address) (n : ℕ) (m : Message) → step_on c ts d (steps_on c ts d n m) ≡ steps_on c ts d (suc n) m
unfolding steps_on
steps-last c ts d zero m = refl
steps-last c ts d (suc n) m = steps-last c ts d n (step_on c ts d m)

module _ (bytes tables : List ℕ) (d : Address) (s : Station) (b : Bytes bytes) (z : send_refusal bytes tables d s ≡ 0) where
  abbrev c : Chart
  c = chart_of bytes

  abbrev ts : ℕ → Table
  ts = tables_in tables

  abbrev begun : Message
  begun = begun_at (station_place (chart_of bytes).nodes s)

  both : ((read_chart_of bytes).refusal ≡ 0) × (class_refusal c.nodes ts d (station_place c.nodes s) (record { 0 = 0 }) ≡ 0)
  unfolding send_refusal
  both = or-pass (read_chart_of bytes).refusal _ z

  read : Accepted c
  read = read-accepted bytes b both.0

  step-taken : (n : ℕ) → step_refusal bytes tables d (steps_on c ts d n begun) ≡ 0
  unfolding step_refusal begun_at
  step-taken n =
      let a = station_place c.nodes s in
      let m = steps_on c ts d n begun in
      rw both.0 (passes c.nodes ts d m.at m.arrival (steps-kept c read ts d n begun (not-refused c.nodes ts d a (record { 0 = 0 }) both.1)))

  pub sent : (n : ℕ) → sent_after bytes tables d s n ≡ record { refusal = 0; place = 0; message = steps_on c ts d n begun }
  unfolding sent_after begin_of step_of steps_on
  sent zero = taken _ _ z
  sent (suc n) =
      ap (λ (x : Sent). step_of bytes tables d x.message) (sent n)
      ∙ taken _ _ (step-taken n)
      ∙ ap (λ (m : Message). record { refusal = 0; place = 0; message = m }) (steps-last c ts d n begun)
