-- `ledger_image::legs::standing_bytes` meets its contract: by cases on the standing.
use Rattle.ledger_image.specs.Leg.{standing_bytes}
use Rattle.ledger_image.proofs.legs.standing_bytes.Goals as goal

pub returns-in-Open : goal.returns-in-Open
unfolding standing_bytes
returns-in-Open c = rw c.in-Open.is

pub returns-in-Acknowledged : goal.returns-in-Acknowledged
unfolding standing_bytes
returns-in-Acknowledged c = rw c.in-Acknowledged.is

pub returns-in-Refused : goal.returns-in-Refused
unfolding standing_bytes
returns-in-Refused c = rw c.in-Refused.is

pub returns-in-Undeliverable : goal.returns-in-Undeliverable
unfolding standing_bytes
returns-in-Undeliverable c = rw c.in-Undeliverable.is

pub returns-in-TimedOut : goal.returns-in-TimedOut
unfolding standing_bytes
returns-in-TimedOut c = rw c.in-TimedOut.is

pub returns-in-Waiting : goal.returns-in-Waiting
unfolding standing_bytes
returns-in-Waiting c = rw c.in-Waiting.is
