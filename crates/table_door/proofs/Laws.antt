-- What C gets of a choice, from what each step of the call gives.
use Prim.Native.Nat.{ℕ}
use mathlib.Core.Path.{◌≡◌, ap}
use mathlib.Core.Bool.{cond}
use mathlib.Core.List.{List}
use Rattle.address.specs.declared.Port.{Port}
use Rattle.address.specs.declared.Address.{Address}
use Rattle.table.specs.Choice.{Choice}
use Rattle.table.specs.declared.Table.{Table}
use Rattle.table.specs.Table.{choice_refusal, choice_local, choice_port, choose_of}
use Rattle.table_image.specs.Table.{table_of}
use Rattle.table_door.specs.Calls.{pz_choose, pz_choose_refusal, pz_choose_local, pz_choose_port}

-- what C gets of a choice: its number and the two numbers beside it
abbrev pub Says : List ℕ → Address → Port → Choice → Type 0
Says b d arrival c = (choice_refusal c ≡ pz_choose_refusal b d arrival) × (cond (choice_local c) 1 0 ≡ pz_choose_local b d arrival) × (choice_port c ≡ pz_choose_port b d arrival)

pub choose-told : (b : List ℕ) (d : Address) (arrival : Port) {t : Table} {c : Choice} → t ≡ table_of b → c ≡ choose_of t d arrival → Says b d arrival c
unfolding pz_choose pz_choose_refusal pz_choose_local pz_choose_port
choose-told b d arrival {t} {c} e f =
    let w : c ≡ choose_of (table_of b) d arrival = rw e at f in
    (ap choice_refusal w, ap (λ (x : Choice). cond {A = ℕ} (choice_local x) 1 0) w, ap choice_port w)
