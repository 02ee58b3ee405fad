-- The walk that lists meets its contract: each turn passes the lowest link that is left, lists the routes on from its far end, and leaves the others; with each
-- node that is met fewer are not.
use mathlib.Core.Path.{◌≡◌, sym, ap, ◌∙◌}
use native.Mathlib.Omega.{arith}
use borrow.Author.Rules.{rules}
use lib.ListN.{length}
use Rattle.route_links.proofs.Standing.{fewer, standing-room}
use Rattle.route_links.proofs.Turning.{turn}
use Rattle.route_list.specs.Private.{stow_all}
use Rattle.route_list.proofs.Stowing.{kept-length}
use Rattle.route_list.proofs.Turns.{walking-of, went, went-full, none_left, arrived, went_on, trying-of}
use Rattle.route_list.proofs.walking.+try_links_walk_on.Goals as goal

pub try_links-bounds-then-d : goal.try_links-bounds-then-d
try_links-bounds-then-d t c =
    let i = c.loop-left.invariant in
    let u = turn _ _ _ _ _ i.1 c.loop-left-test.true in
    let l = u.place in
    let r = u.room in
    let q = u.back in
    omega arith

pub try_links-overflow_sub-t : goal.try_links-overflow_sub-t
try_links-overflow_sub-t t c =
    let i = c.loop-left.invariant in
    let u = turn _ _ _ _ _ i.1 c.loop-left-test.true in
    let l = u.place in
    let r = u.room in
    let q = u.back in
    omega arith

pub try_links-walk_on-p-requires : goal.try_links-walk_on-p-requires
try_links-walk_on-p-requires t c =
    let i = c.loop-left.invariant in
    let u = turn _ _ _ _ _ i.1 c.loop-left-test.true in
    let w = c.requires in
    let a = c.args in
    (omega arith, walking-of _ _ _ _ _ _ a.path u w.cleared _ _ i.2)

pub try_links-returns-then-out-p : goal.try_links-returns-then-out-p
try_links-returns-then-out-p t c =
    let a = c.args in
    let o = c.loop-left in
    let u = turn _ _ _ _ _ o.invariant.1 c.loop-left-test.true in
    let h : length a.path ≡ 16 = search rules in
    let w = c.walk_on-p in
    went-full a.t.now a.at a.gone o.left a.d _ a.path u h _ _ _ w.ensures o.invariant.0 c.if-out-p.true

pub try_links-loop-left-smaller : goal.try_links-loop-left-smaller
try_links-loop-left-smaller t c =
    (turn _ _ _ _ _ c.loop-left.invariant.1 c.loop-left-test.true).fewer

pub try_links-loop-left-preserved : goal.try_links-loop-left-preserved
try_links-loop-left-preserved t c =
    let a = c.args in
    let o = c.loop-left in
    let u = turn _ _ _ _ _ o.invariant.1 c.loop-left-test.true in
    let h : length a.path ≡ 16 = search rules in
    let w = c.walk_on-p in (
      went a.t.now a.at a.gone o.left a.d _ a.path u h _ _ _ w.ensures o.invariant.0,
      u.rest,
      c.if-out-p.false,
      kept-length _ _ _ w.ensures ∙ o.invariant.3,
    )

pub try_links-returns : goal.try_links-returns
try_links-returns t c =
    let l = c.loop-left in
    none_left _ _ _ _ _ _ _ (omega arith) ∙ l.invariant.0

pub walk_on-arrive-requires : goal.walk_on-arrive-requires
walk_on-arrive-requires t c =
    let w = c.requires in
    record { room = w.room; depth = standing-room _ _ _ _ w.stands.stands; cleared = w.cleared }

pub walk_on-returns-then-f-t : goal.walk_on-returns-then-f-t
walk_on-returns-then-f-t t c =
    let a = c.args in
    c.arrive.ensures ∙ arrived a.t.now a.f a.gone a.d a.path _ c.if-f-t.true

pub walk_on-try_links-requires : goal.walk_on-try_links-requires
walk_on-try_links-requires t c =
    let w = c.requires in
    let l = fewer _ _ _ _ w.stands.stands in
    let k = c.ahead_of_some-c in
    (omega arith, trying-of _ _ _ _ _ w.stands c.if-f-t.false k.result k.ensures _ _ w.cleared w.room)

pub walk_on-returns : goal.walk_on-returns
walk_on-returns t c =
    let a = c.args in
    let k = c.ahead_of_some-c in
    c.try_links.ensures
    ∙ ap (stow_all (record { bytes = a.out.now; count = a.n })) (sym (went_on a.t.now a.f a.gone a.d a.path c.requires.stands c.if-f-t.false k.result k.ensures))
