-- `ledger_door::pz_clear` meets its contract: the ledger's own clear is put back, and a refusal leaves the image.
use Rattle.ledger_door.proofs.Laws.{clear-put, clear-refused}
use Rattle.ledger_door.proofs.pz_clear.Goals as goal

pub returns-in-Ok : goal.returns-in-Ok
returns-in-Ok c = clear-put c.args.ledger.now c.args.place c.ledger_of-l.ensures c.in-Ok.ensures.value c.put_back.ensures

pub returns-in-Err : goal.returns-in-Err
returns-in-Err c = clear-refused c.args.ledger.now c.args.place c.ledger_of-l.ensures c.in-Err.refusal c.in-Err.ensures.value c.put_back-in-Err.ensures
