-- The choice of a table and a call that were found in range: there it is `choose_of` (`chosen-tested` in proofs/Laws.antt).
use Rattle.std.specs.Prelude.{ℕ, not, ◌||◌, cond, leb}
use Rattle.lists.specs.Refusals.{refuse}
use Rattle.address.specs.declared.Port.{Port}
use Rattle.address.specs.declared.Address.{Address}
use Rattle.table.specs.declared.Table.{Table}
use Rattle.table.specs.Choice.{Choice, Local, Refused}
use Rattle.table.specs.Table.{most_entries, is_own, has_route, out_choice}

-- local at the destination's port, or out. A table that counts more entries than it has places is 50 here too
unfoldable pub choice_for : Table → Address → Port → Choice
choice_for t d arrival =
    cond (not (leb t.count most_entries)) (Refused 50)
    (cond (is_own t d) (Local d.port)
    (out_choice t d arrival))

-- its number
unfoldable pub choice_for_refusal : Table → Address → Port → ℕ
choice_for_refusal t d arrival = refuse 50 (not (leb t.count most_entries)) (refuse 52 (not (is_own t d || has_route t d arrival)) 0)
