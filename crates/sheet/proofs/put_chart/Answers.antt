-- `sheet::put_chart` meets its contract: what the calls lay is joined in the sheet's order.
use Rattle.chart_refuse.proofs.Accepted.{accepted}
use Rattle.text.proofs.Joining.{◌▸◌}
use Rattle.sheet.specs.Sheet.{chart_text}
use Rattle.sheet.proofs.put_chart.Goals as goal

pub put_nodes-n2-requires : goal.put_nodes-n2-requires
put_nodes-n2-requires c = (accepted c.args.c c.requires).few_nodes

pub put_links-n3-requires : goal.put_links-n3-requires
put_links-n3-requires c = (accepted c.args.c c.requires).few_links

pub returns : goal.returns
unfolding chart_text
returns c =
    c.put_counts-n1.ensures ▸ c.put_nodes-n2.ensures ▸ c.put_links-n3.ensures ▸ c.put_question-n4.ensures ▸ c.put_chart_routes.ensures
