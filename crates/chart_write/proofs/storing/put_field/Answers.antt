-- `chart_write::storing::put_field` meets its contract: the head, and the body after it.
use Rattle.chart_write.proofs.Laws.{field_put}
use Rattle.chart_write.proofs.storing.put_field.Goals as goal

pub returns : goal.returns
returns c = field_put c.args.tag c.args.body.now c.args.out.now _ _ c.args.at c.put_head.ensures c.put_all.ensures
