-- The theorems that specs/Promises states.
use Rattle.route_fewest.specs.Promises.{FewestIs, NoneIs, FewestAway, RouteAway, FewestRest}
use Rattle.route_fewest.proofs.Routes.{fewest-of, none_of, fewest-from, none_from, route-away, fewest-away, away-route}
use Rattle.route_fewest.proofs.Rest.{rest}

pub fewest-is : FewestIs
fewest-is G sound a r = (fewest-of G sound a r, fewest-from G sound a r)

pub none_is : NoneIs
none_is G sound a = (none_of G sound a, none_from G sound a)

pub fewest-is-away : FewestAway
fewest-is-away G sound a r f = fewest-away G sound a r f

pub route-is-away : RouteAway
route-is-away G sound a = (λ p. away-route G sound a p.0 p.1, λ w. let t = route-away G sound w.0 a w.1 in (t.links, t.route))

pub fewest-rest : FewestRest
fewest-rest G sound a i r f = rest G sound a i r f
