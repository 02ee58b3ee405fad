-- `table_image::put_table` meets its contract: the four bytes before the entries, and the entries.
use mathlib.Core.Path.{ap, ◌∙◌}
use mathlib.Core.List.{List}
use Prim.Native.Nat.{ℕ}
use lib.Seq.{sets}
use native.Mathlib.Omega.{arith}
use Rattle.buffer.proofs.Words.{two-bytes}
use Rattle.lists.specs.Places.{joined}
use Rattle.table.specs.Table.{most_entries, entry_at}
use Rattle.table_image.specs.Table.{entries_start, entry_bytes}
use Rattle.table_image.proofs.Laws.{table-stored}
use Rattle.table_image.proofs.put_table.Goals as goal

pub returns : goal.returns
returns c =
    let a = c.args in
    let two = two-bytes a.t.node.0 (omega arith) c.to_be_bytes.ensures in
    c.put_entries.ensures
    ∙ ap (λ (b : List ℕ). sets b entries_start (joined entry_bytes (entry_at a.t) most_entries)) (rw two at c.put_all.ensures)
    ∙ table-stored a.t a.image.now
