-- What stands in the answers: their number is that of the call, and their place the chart's.
use Prim.Native.Nat.{ℕ, zero, suc, ◌≤◌}
use mathlib.Core.Path.{◌≡◌, refl, sym, ap, ◌∙◌, subst}
use mathlib.Core.Bool.{Bool, true, false, cond, ◌||◌}
use mathlib.Core.List.{List, [], ◌∷◌, ◌++◌}
use native.Mathlib.Omega.{arith}
use lib.Dec.{eqb}
use lib.ListN.{length, get_or, take}
use lib.Seq.{take_at, take-length}
use Rattle.lists.specs.Places.{element_at, firsts, row}
use Rattle.lists.specs.Refusals.{or_else, unless_refused}
use Rattle.lists.proofs.Refusals.{or-pass, taken}
use Rattle.lists.proofs.Places.{length-firsts, length-row}
use Rattle.lists.proofs.Runs.{firsts-take}
use Rattle.buffer.specs.Bytes.{Bytes}
use Rattle.address.specs.declared.Station.{Station}
use Rattle.address.specs.declared.Address.{Address}
use Rattle.table.specs.declared.Table.{Table}
use Rattle.chart.specs.declared.Chart.{Chart}
use Rattle.chart_read.specs.Reading.{read_chart_of}
use Rattle.chart_read.proofs.Walking.{read-place}
use Rattle.chart_write.proofs.Promises.{place-near}
use Rattle.chart_net.specs.Net.{station_place}
use Rattle.class.specs.declared.Message.{Message}
use Rattle.class.specs.Class.{begun_at, step_on, new_place, places_on, way_from, ending_from}
use Rattle.class.specs.Calls.{Sent, Passed, longest_way, chart_of, tables_in, send_refusal, step_refusal, begin_of, step_of, way_of, pass_of}
use Rattle.class.specs.Private.{passed_from}
use Rattle.class.proofs.Calling.{read_right}

module _ {A : Type 0} (f : A → ℕ) where
  number-told : (n : ℕ) (x z : A) → f x ≡ 0 → f z ≡ n → f (unless_refused n x z) ≡ n
  unfolding unless_refused
  number-told zero x z e h = e
  number-told (suc n) x z e h = h

  place-told : (bytes : List ℕ) (k n : ℕ) → n ≡ or_else (read_chart_of bytes).refusal k → (x z : A) → f x ≡ 0 → f z ≡ (read_chart_of bytes).place
      → f (unless_refused n x z) ≡ (read_chart_of bytes).place
  unfolding unless_refused
  place-told bytes k zero q x z e h = e ∙ sym (read-place bytes (or-pass (read_chart_of bytes).refusal k (sym q)).0)
  place-told bytes k (suc n) q x z e h = h

-- it fits in 16 bits
pub near : (bytes : List ℕ) → Bytes bytes → {p : ℕ} → p ≡ (read_chart_of bytes).place → p ≤ 1113
near bytes b e = rw e (place-near bytes b)

module _ (bytes tables : List ℕ) (d : Address) where
  pub begin-number : (s : Station) → (begin_of bytes tables d s).refusal ≡ send_refusal bytes tables d s
  unfolding begin_of
  begin-number s = number-told (λ (r : Sent). r.refusal) _ _ _ refl refl

  pub begin-place : (s : Station) → (begin_of bytes tables d s).place ≡ (read_chart_of bytes).place
  unfolding begin_of send_refusal
  begin-place s = place-told (λ (r : Sent). r.place) bytes _ _ refl _ _ refl refl

  pub step-number : (m : Message) → (step_of bytes tables d m).refusal ≡ step_refusal bytes tables d m
  unfolding step_of
  step-number m = number-told (λ (r : Sent). r.refusal) _ _ _ refl refl

  pub step-place : (m : Message) → (step_of bytes tables d m).place ≡ (read_chart_of bytes).place
  unfolding step_of step_refusal
  step-place m = place-told (λ (r : Sent). r.place) bytes _ _ refl _ _ refl refl

  pub pass-number : (s : Station) → (pass_of bytes tables d s).refusal ≡ send_refusal bytes tables d s
  unfolding pass_of
  pass-number s = number-told (λ (r : Passed). r.refusal) _ _ _ refl refl

  pub pass-place : (s : Station) → (pass_of bytes tables d s).place ≡ (read_chart_of bytes).place
  unfolding pass_of send_refusal
  pass-place s = place-told (λ (r : Passed). r.place) bytes _ _ refl _ _ refl refl

  -- not refused, the chart is read, and the message passed on
  send-read : (s : Station) → send_refusal bytes tables d s ≡ 0 → (read_chart_of bytes).refusal ≡ 0
  unfolding send_refusal
  send-read s z = (or-pass (read_chart_of bytes).refusal _ z).0

  pub pass-told : (s : Station) → send_refusal bytes tables d s ≡ 0
      → pass_of bytes tables d s ≡ passed_from (chart_of bytes) (tables_in tables) d (station_place (chart_of bytes).nodes s)
  unfolding pass_of way_of passed_from
  pass-told s z = taken _ _ z

-- ---- a way

module _ (c : Chart) (ts : ℕ → Table) (d : Address) where
  places-few : (n : ℕ) (m : Message) → length (places_on c ts d n m) ≤ n
  unfolding places_on new_place
  places-few zero m = omega arith
  places-few (suc n) m = go (eqb m.ending 0) (eqb x.ending 0 || eqb x.ending 4) (places-few n x)
    where
      x : Message
      x = step_on c ts d m

      go : (under new : Bool) → length (places_on c ts d n x) ≤ n → length (cond under (cond new (x.at ∷ []) [] ++ places_on c ts d n x) []) ≤ suc n
      go false new h = omega arith
      go true false h = omega arith
      go true true h = omega arith

  way-few : (a : ℕ) → c.nodes.count ≤ 16 → length (way_from c ts d a) ≤ longest_way
  unfolding way_from
  way-few a few = let h = places-few c.nodes.count (begun_at a) in omega arith

-- the nodes of a way, taken from their places
way-taken : (w : List ℕ) → take (length w) (row longest_way 0 (λ i. get_or w i 0) (length w)) ≡ w
unfolding row element_at
way-taken w =
    take_at (firsts (λ i. get_or w i 0) (length w)) _ (length w) (length-firsts _ (length w))
    ∙ sym (firsts-take 0 w (length w) (omega arith))
    ∙ take-length w

-- what a call passed on, of a chart that is read
pub record PassedOn (bytes tables : List ℕ) (d : Address) (s : Station) (p : Passed) : Type 0 where
  pub count : p.count ≡ length (way_of bytes tables d s)
  pub few : p.count ≤ longest_way
  pub places : length p.way ≡ longest_way
  pub nodes : take p.count p.way ≡ way_of bytes tables d s
  pub ending : p.ending ≡ ending_from (chart_of bytes) (tables_in tables) d (station_place (chart_of bytes).nodes s)

pub passed_on : (bytes tables : List ℕ) (d : Address) (s : Station) → Bytes bytes → {p : Passed} → p ≡ pass_of bytes tables d s → p.refusal ≡ 0
    → PassedOn bytes tables d s p
unfolding way_of passed_from
passed_on bytes tables d s b {p} e z =
    let w = way_of bytes tables d s in
    let n : send_refusal bytes tables d s ≡ 0 = sym (ap (λ (x : Passed). x.refusal) e ∙ pass-number bytes tables d s) ∙ z in
    let ok = read_right bytes b refl (send-read bytes tables d s n) in
    let few : length w ≤ longest_way = way-few (chart_of bytes) (tables_in tables) d _ ok.few_nodes in
    subst (λ (x : Passed). PassedOn bytes tables d s x) (sym (e ∙ pass-told bytes tables d s n))
    (record {
      count = refl;
      few = few;
      places = length-row longest_way 0 (λ i. get_or w i 0) (length w) few;
      nodes = way-taken w;
      ending = refl;
    })
