-- `ledger_door::pz_answer` meets its contract: the ledger's own answer is put back, and a refusal leaves the image.
use Rattle.address.specs.Address.{address_of}
use Rattle.ledger_door.specs.Calls.{reply_of}
use Rattle.ledger_door.proofs.Laws.{answer-put, answer-refused}
use Rattle.ledger_door.proofs.pz_answer.Goals as goal

pub returns-in-Ok : goal.returns-in-Ok
returns-in-Ok c =
    let a = c.args in
    answer-put a.ledger.now (address_of a.by_brigade a.by_node a.by_port) (address_of a.to_brigade a.to_node a.to_port) (record { 0 = a.seq }) (reply_of a.nak a.set a.code)
    c.ledger_of-l.ensures c.reply_of-reply.ensures c.in-Ok.ensures.value c.put_back.ensures

pub returns-in-Err : goal.returns-in-Err
returns-in-Err c =
    let a = c.args in
    answer-refused a.ledger.now (address_of a.by_brigade a.by_node a.by_port) (address_of a.to_brigade a.to_node a.to_port) (record { 0 = a.seq }) (reply_of a.nak a.set a.code)
    c.ledger_of-l.ensures c.reply_of-reply.ensures c.in-Err.refusal c.in-Err.ensures.value c.put_back-in-Err.ensures
