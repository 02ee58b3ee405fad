-- `ledger_door::pz_tick` meets its contract: the ledger's own tick is put back, and a refusal leaves the image.
use Rattle.ledger_door.proofs.Laws.{tick-put, tick-refused}
use Rattle.ledger_door.proofs.pz_tick.Goals as goal

pub returns-in-Ok : goal.returns-in-Ok
returns-in-Ok c = tick-put c.args.ledger.now c.ledger_of-l.ensures c.in-Ok.ensures.value c.put_back.ensures

pub returns-in-Err : goal.returns-in-Err
returns-in-Err c = tick-refused c.args.ledger.now c.ledger_of-l.ensures c.in-Err.refusal c.in-Err.ensures.value c.put_back-in-Err.ensures
