-- `table_door::pz_choose` meets its contract: the choice's own numbers are what C gets.
use mathlib.Core.Path.{◌∙◌}
use Rattle.address.specs.Address.{address_of}
use Rattle.table.specs.Choice.{choice_in}
use Rattle.table_door.proofs.Laws.{Says, choose-told}
use Rattle.table_door.proofs.pz_choose.Goals as goal

pub returns-in-Ok-Local : goal.returns-in-Ok-Local
returns-in-Ok-Local c =
    let told : Says c.args.table.now (address_of c.args.brigade c.args.node c.args.port) (record { 0 = c.args.arrival }) (choice_in c.choose-choice.result) = choose-told c.args.table.now (address_of c.args.brigade c.args.node c.args.port) (record { 0 = c.args.arrival }) c.table_of-t.ensures c.choose-choice.ensures.value in
    let is = rw c.in-Ok-Local.is at c.in-Ok-Local.field-0-is in
    rw (c.in-Ok-Local.is, is) at told

pub returns-in-Ok-Out : goal.returns-in-Ok-Out
returns-in-Ok-Out c =
    let told : Says c.args.table.now (address_of c.args.brigade c.args.node c.args.port) (record { 0 = c.args.arrival }) (choice_in c.choose-choice.result) = choose-told c.args.table.now (address_of c.args.brigade c.args.node c.args.port) (record { 0 = c.args.arrival }) c.table_of-t.ensures c.choose-choice.ensures.value in
    let is = rw c.in-Ok-Out.is at c.in-Ok-Out.field-0-is in
    rw (c.in-Ok-Out.is, is) at told

pub returns-in-Err : goal.returns-in-Err
returns-in-Err c =
    let told = choose-told c.args.table.now (address_of c.args.brigade c.args.node c.args.port) (record { 0 = c.args.arrival }) c.table_of-t.ensures c.in-Err.ensures.value in
    (c.number.ensures ∙ told.0, told.1, told.2)
