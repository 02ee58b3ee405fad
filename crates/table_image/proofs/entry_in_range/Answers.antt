-- `table_image::entry_in_range` meets its contract: the bytes, the port, the kind and the node, in turn.
use mathlib.Core.Path.{sym, ◌∙◌}
use borrow.Author.Rules.{rules}
use Rattle.table_image.proofs.InImage.{stray-unranged, port-unranged, kind-ranged, node-ranged}
use Rattle.table_image.proofs.entry_in_range.Goals as goal

pub returns-then-stray_entry : goal.returns-then-stray_entry
returns-then-stray_entry c = stray-unranged _ _ (sym c.stray_entry.ensures ∙ c.if-stray_entry.true)

pub returns-then-port : goal.returns-then-port
returns-then-port c = port-unranged _ _ (sym c.stray_entry.ensures ∙ c.if-stray_entry.false) c.if-port.true

pub returns-then-b-at-ne0 : goal.returns-then-b-at-ne0
returns-then-b-at-ne0 c = kind-ranged _ _ (sym c.stray_entry.ensures ∙ c.if-stray_entry.false) c.if-port.false c.if-b-at-ne0.true

pub returns : goal.returns
returns c = node-ranged _ _ (sym c.stray_entry.ensures ∙ c.if-stray_entry.false) c.if-port.false c.if-b-at-ne0.false (search rules) c.word_at.ensures
