-- `route_ahead::ahead_of_some` meets its contract: where there is but one link, that is the one which begins a route; else it asks for the flood.
use Rattle.route_ahead.proofs.Looking.{no-links, one-worth}
use Rattle.route_ahead.proofs.ahead_of_some.Goals as goal

pub returns-then-links-eq0 : goal.returns-then-links-eq0
returns-then-links-eq0 c = λ at A i e b. no-links _ _ _ at A i e c.if-links-eq0.true

pub returns-then-links-eq0-2 : goal.returns-then-links-eq0-2
returns-then-links-eq0-2 c = λ at A i e b. one-worth _ _ _ at A i e b c.if-links-eq0-2.true
