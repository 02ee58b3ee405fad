-- `table_image::stray_entry` meets its contract: the kind, then whether it is on.
use Rattle.table_image.proofs.Laws.{kind-stray, on-tells}
use Rattle.table_image.proofs.stray_entry.Goals as goal

pub returns-then-b-at-gt2 : goal.returns-then-b-at-gt2
returns-then-b-at-gt2 c = kind-stray _ _ c.if-b-at-gt2.true

pub returns : goal.returns
returns c = on-tells _ _ c.if-b-at-gt2.false
