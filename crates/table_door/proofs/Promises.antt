-- The theorem of the next route by an image that can't be read: unreadable. Such an image stands for a table with an entry too many.
use mathlib.Core.Path.{◌≡◌}
use mathlib.Core.Bool.{false}
use mathlib.Core.List.{List}
use Prim.Native.Nat.{ℕ}
use Rattle.address.specs.declared.Port.{Port}
use Rattle.address.specs.declared.Address.{Address}
use Rattle.table.specs.Table.{table_in_range, choose_of, choice_refusal}
use Rattle.table_image.specs.Table.{readable_table, table_of}
use Rattle.table_door.specs.Calls.{pz_choose, pz_choose_refusal}
use Rattle.table_door.specs.Promises.{Unreadable}

unchosen : (b : List ℕ) (d : Address) (arrival : Port) → readable_table b ≡ false → choice_refusal (choose_of (table_of b) d arrival) ≡ 50
unfolding table_of choose_of table_in_range
unchosen b d arrival h = rw h

pub unreadable : Unreadable
unfolding pz_choose pz_choose_refusal
unreadable = record { choose = unchosen }
