-- `route_trace::list_known` meets its contract: the list over what is kept.
use Rattle.route_list.proofs.Telling.{listed-answer}
use Rattle.route_trace.proofs.Laws.{list-kept}
use Rattle.route_trace.proofs.list_known.Goals as goal

pub returns : goal.returns
returns c =
    let a = c.args in
    let l = c.list in
    let w = list-kept a.c c.ends_of-ends.ensures c.passages_for-ways.ensures c.asked_of-asked.ensures l.result l.new.out a.out.now (l.ensures.value, l.ensures.bytes) in
    record { value = w.0; bytes = w.1; answer = listed-answer l.result _ _ _ w.0 }
