-- What private code of the class is held to.
use Rattle.std.specs.Prelude.{ℕ, ◌<◌, ◌≤◌, Bool, not, ◌&&◌, ◌||◌, List, eqb, length, get_or}
use Rattle.std.proofs.Math.Option.{Option, none, some}
use Rattle.std.specs.declared.option.Option.{Option as CodeOption}
use Rattle.std.specs.declared.option.Option.TheVariants.{None, Some}
use Rattle.lists.specs.Places.{row}
use Rattle.address.specs.declared.Port.{Port}
use Rattle.address.specs.declared.Station.{Station}
use Rattle.address.specs.declared.Address.{Address}
use Rattle.address.specs.Address.{station_of, same_station}
use Rattle.table.specs.declared.Table.{Table}
use Rattle.chart.specs.declared.Link.{Link}
use Rattle.chart.specs.declared.Links.{Links}
use Rattle.chart.specs.declared.Chart.{Chart}
use Rattle.chart.specs.Values.{out_only, back_only, link_at}
use Rattle.chart_refuse.specs.Promises.{Accepted}
use Rattle.class.specs.declared.links.Coming.{Coming}
use Rattle.class.specs.Class.{Arrival, way_from, ending_from}
use Rattle.class.specs.Calls.{tables_size, longest_way, Passed}

-- a link that is on is passed from its first end, which is at this station and has this port; from its second
unfoldable pub leaves_first : Link → Station → Port → Bool
leaves_first l s p = l.on && not (eqb l.direction back_only) && eqb l.a.port.0 p.0 && same_station (station_of l.a) s

unfoldable pub leaves_second : Link → Station → Port → Bool
leaves_second l s p = l.on && not (eqb l.direction out_only) && eqb l.b.port.0 p.0 && same_station (station_of l.b) s

-- from either end, the link at place i
unfoldable pub leaves_at : Links → Station → Port → ℕ → Bool
leaves_at ls s p i = leaves_first (link_at ls i) s p || leaves_second (link_at ls i) s p

-- where a message comes in, as the code holds it
unfoldable pub coming_of : CodeOption Coming → Option Arrival
coming_of None = none
coming_of (Some x) = some (record { node = x.node; port = x.port })

-- a message at one of the places of an accepted chart, and an image of tables that is long enough
pub record Going (c : Chart) (tables : List ℕ) (a : ℕ) : Type 0 where
  pub chart : Accepted c
  pub long : tables_size ≤ length tables
  pub here : a < c.nodes.count

-- all steps from a place
unfoldable pub passed_from : Chart → (ℕ → Table) → Address → ℕ → Passed
passed_from c ts d a =
    record {
      refusal = 0;
      place = 0;
      ending = ending_from c ts d a;
      count = length (way_from c ts d a);
      way = row longest_way 0 (λ i. get_or (way_from c ts d a) i 0) (length (way_from c ts d a));
    }
