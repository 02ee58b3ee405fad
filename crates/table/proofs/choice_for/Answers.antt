-- `table::choice_for` meets its contract: the count decides, then whether the destination is at the own station, else the entries.
use mathlib.Core.Path.{◌≡◌, sym, ◌∙◌}
use mathlib.Core.Bool.{Bool}
use Rattle.std.specs.Prelude.{Ok, Err}
use Rattle.lists.proofs.Bools.{told-true, told-false}
use Rattle.address.specs.declared.Address.{Address}
use Rattle.address.specs.declared.Station.{Station}
use Rattle.address.specs.Address.{same_station, station_of}
use Rattle.refusal.specs.declared.Refusal.TheVariants.{BadTable}
use Rattle.table.specs.declared.Choice.TheVariants.{Local}
use Rattle.table.specs.declared.Table.{Table}
use Rattle.table.specs.Table.{own_station, is_own}
use Rattle.table.proofs.Laws.{tested-50, tested-here, tested-by, tested-told}
use Rattle.table.proofs.choice_for.Goals as goal

-- what the comparison of the two stations tells
own-told : (t : Table) (d : Address) {own far : Station} {b : Bool} → b ≡ same_station own far → own ≡ own_station t → far ≡ station_of d → b ≡ is_own t d
unfolding is_own
own-told t d e o f = rw (e, o, f)

pub returns-then-table-gt-MOST_ENTRIES : goal.returns-then-table-gt-MOST_ENTRIES
returns-then-table-gt-MOST_ENTRIES c =
    let w = tested-told c.args.table c.args.destination c.args.arrival (Err BadTable) (sym (tested-50 _ _ _ c.if-table-gt-MOST_ENTRIES.true)) in
    record { value = w.0; refusal = w.1.0; local = w.1.1.0; port = w.1.1.1.0; number = w.1.1.1.1 }

pub returns-then-same_station : goal.returns-then-same_station
returns-then-same_station c =
    let own = own-told c.args.table c.args.destination c.same_station.ensures c.own_station.ensures c.station_of.ensures in
    let w = tested-told c.args.table c.args.destination c.args.arrival (Ok (Local c.args.destination.port)) (sym (tested-here _ _ _ c.if-table-gt-MOST_ENTRIES.false (told-true own c.if-same_station.true))) in
    record { value = w.0; refusal = w.1.0; local = w.1.1.0; port = w.1.1.1.0; number = w.1.1.1.1 }

pub returns : goal.returns
returns c =
    let own = own-told c.args.table c.args.destination c.same_station.ensures c.own_station.ensures c.station_of.ensures in
    let w = tested-told c.args.table c.args.destination c.args.arrival c.out_choice.result (c.out_choice.ensures ∙ sym (tested-by _ _ _ c.if-table-gt-MOST_ENTRIES.false (told-false own c.if-same_station.false))) in
    record { value = w.0; refusal = w.1.0; local = w.1.1.0; port = w.1.1.1.0; number = w.1.1.1.1 }
