-- A step of a message under way, by what the node where it is chose.
use Prim.Native.Nat.{ℕ}
use mathlib.Core.Path.{◌≡◌, sym, ap, ◌∙◌}
use mathlib.Core.Option.{Option}
use Rattle.std.specs.declared.option.Option.{Option as CodeOption}
use Rattle.std.specs.declared.option.Option.TheVariants.{None, Some}
use Rattle.address.specs.declared.Port.{Port}
use Rattle.address.specs.declared.Address.{Address}
use Rattle.table.specs.declared.Table.{Table}
use Rattle.table.specs.Choice.{Choice, Local, Out, Refused}
use Rattle.table.specs.Table.{choose_of}
use Rattle.chart.specs.declared.Chart.{Chart}
use Rattle.class.specs.declared.Message.{Message}
use Rattle.class.specs.declared.links.Coming.{Coming}
use Rattle.class.specs.Class.{under_way, delivered, without_route, without_link, Arrival, out_by, ended_with, came_to, went_out, after_choice, step_on}
use Rattle.class.specs.Private.{coming_of}
use Rattle.class.proofs.Steps.{step-moving}

module _ (c : Chart) (ts : ℕ → Table) (d : Address) (m : Message) (u : m.ending ≡ under_way) (o : Choice) (e : o ≡ choose_of (ts m.at) d m.arrival) where
  by : {x : Choice} → o ≡ x → after_choice c m x ≡ step_on c ts d m
  by h = sym (step-moving c ts d m u ∙ ap (after_choice c m) (sym e ∙ h))

  pub step_local : (p : Port) → o ≡ Local p → ended_with delivered m ≡ step_on c ts d m
  unfolding after_choice
  step_local p h = by h

  pub step-refused : (k : ℕ) → o ≡ Refused k → ended_with without_route m ≡ step_on c ts d m
  unfolding after_choice
  step-refused k h = by h

  module _ (p : Port) (h : o ≡ Out p) (x : CodeOption Coming) (q : coming_of x ≡ out_by c m.at p) where
    out : {y : Option Arrival} → coming_of x ≡ y → went_out m y ≡ step_on c ts d m
    unfolding after_choice
    out z = ap (went_out m) (sym z ∙ q) ∙ by h

    -- no link leaves by the port, or one does
    pub step-nowhere : x ≡ None → ended_with without_link m ≡ step_on c ts d m
    unfolding went_out coming_of
    step-nowhere t = out (ap coming_of t)

    pub step-over : {y : Coming} → x ≡ Some y → came_to m (record { node = y.node; port = y.port }) ≡ step_on c ts d m
    unfolding went_out coming_of
    step-over t = out (ap coming_of t)
