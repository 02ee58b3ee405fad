-- `table_image::entry_bytes` meets its contract: by cases on the target.
use borrow.Author.Rules.{rules}
use Prim.Native.Nat.{◌<◌}
use Rattle.buffer.proofs.Words.{two-bytes}
use Rattle.table_image.specs.Table.{target_bytes}
use Rattle.table_image.proofs.Laws.{entry-made}
use Rattle.table_image.proofs.entry_bytes.Goals as goal

pub returns-in-One : goal.returns-in-One
unfolding target_bytes
returns-in-One c =
    let small : c.in-One.node.0 < 65536 = search rules in
    let two = two-bytes c.in-One.node.0 small c.to_be_bytes.ensures in
    rw two (entry-made c.args.e c.in-One.is)

pub returns-in-Brigade : goal.returns-in-Brigade
unfolding target_bytes
returns-in-Brigade c = entry-made c.args.e c.in-Brigade.is

pub returns-in-Everything : goal.returns-in-Everything
unfolding target_bytes
returns-in-Everything c = entry-made c.args.e c.in-Everything.is
