-- `route_search::walking::try_links` and `walk_on` meet their contracts: the least route goes by the lowest link, as each begins one.
-- The nodes that are not met fall.
use mathlib.Core.Path.{refl, sym, ◌∙◌, ap}
use Prim.Native.Nat.{◌+◌, ◌-◌}
use native.Mathlib.Omega.{arith}
use lib.Bits.{bit_xor}
use lib.Count.{count_trailing_zeros}
use lib.ListN.{get_or}
use Rattle.route.specs.All.{first_of}
use Rattle.route_links.specs.Private.{alone, routes_on, routes_by}
use Rattle.route_links.proofs.Standing.{fewer, standing-room}
use Rattle.route_links.proofs.Turning.{Turn, turn}
use Rattle.route_ahead.proofs.Going.{going-ahead}
use Rattle.route_search.specs.Private.{not_found, found_at, route_found}
use Rattle.route_search.proofs.Finding.{first-turn, first-none, first-here, first_some, first-leads, found-put, found_some, found_here}
use Rattle.route_search.proofs.walking.+try_links_walk_on.Goals as goal

pub try_links-returns-then-links-eq0 : goal.try_links-returns-then-links-eq0
try_links-returns-then-links-eq0 t c =
    let a = c.args in
    ap (found_at a.d) (sym (first-none a.t.now a.at a.gone a.links c.if-links-eq0.true))

pub try_links-overflow_sub-t : goal.try_links-overflow_sub-t
try_links-overflow_sub-t t c =
    let lowest : let a = c.args in Turn a.t.now a.at a.gone a.links a.d (count_trailing_zeros 64 a.links) = turn _ _ _ _ _ c.requires c.if-links-eq0.false in
    lowest.back

pub try_links-walk_on-requires : goal.try_links-walk_on-requires
try_links-walk_on-requires t c =
    let lowest : let a = c.args in Turn a.t.now a.at a.gone a.links a.d (count_trailing_zeros 64 a.links) = turn _ _ _ _ _ c.requires c.if-links-eq0.false in
    let u = lowest in
    (omega arith, u.stands)

pub try_links-bounds-r-d : goal.try_links-bounds-r-d
try_links-bounds-r-d t c =
    let lowest : let a = c.args in Turn a.t.now a.at a.gone a.links a.d (count_trailing_zeros 64 a.links) = turn _ _ _ _ _ c.requires c.if-links-eq0.false in
    let u = lowest in omega arith

pub try_links-returns-in_err-r : goal.try_links-returns-in_err-r
try_links-returns-in_err-r t c =
    let lowest : let a = c.args in Turn a.t.now a.at a.gone a.links a.d (count_trailing_zeros 64 a.links) = turn _ _ _ _ _ c.requires c.if-links-eq0.false in
    let a = c.args in
    let i = count_trailing_zeros 64 a.links in
    let on = routes_on a.t.now (get_or a.t.now (32 + i) 0 - a.at) a.gone in
    absurd (found_some a.d i (first_of on) (first_of on) (not_found 43) c.in_err-r.ensures (first-leads a.t.now _ a.gone _ lowest.stands) refl)

pub try_links-returns : goal.try_links-returns
try_links-returns t c =
    let lowest : let a = c.args in Turn a.t.now a.at a.gone a.links a.d (count_trailing_zeros 64 a.links) = turn _ _ _ _ _ c.requires c.if-links-eq0.false in
    let a = c.args in
    let i = count_trailing_zeros 64 a.links in
    let on = routes_on a.t.now (get_or a.t.now (32 + i) 0 - a.at) a.gone in
    let rest = routes_by a.t.now a.at a.gone (bit_xor a.links (alone i)) in
    found-put a.d i (first_of on) (first_of rest) (route_found c.in_ok-r.r) c.in_ok-r.ensures (first_some on) (λ e. omega arith)
    ∙ ap (found_at a.d) (sym (first-turn lowest))

pub walk_on-returns-then-f-t : goal.walk_on-returns-then-f-t
walk_on-returns-then-f-t t c =
    let a = c.args in
    found_here a.d (standing-room _ _ _ _ c.requires.stands) ∙ ap (found_at a.d) (sym (first-here a.t.now a.f a.gone c.if-f-t.true))

pub walk_on-try_links-requires : goal.walk_on-try_links-requires
walk_on-try_links-requires t c =
    let F = fewer _ _ _ _ c.requires.stands in
    (omega arith, (going-ahead _ _ _ _ c.requires c.if-f-t.false c.ahead_of_some-c.result c.ahead_of_some-c.ensures).chooses)

pub walk_on-returns : goal.walk_on-returns
walk_on-returns t c =
    let w = c.ahead_of_some-c in
    c.try_links.ensures
    ∙ ap (found_at c.args.d) (ap first_of (sym ((going-ahead _ _ _ _ c.requires c.if-f-t.false w.result w.ensures).says c.if-f-t.false)))
