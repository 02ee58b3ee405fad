-- `route_links::lead` meets its contract: each test that fails leaves the table as it was; else the link is put into both sets, its near end into the set of
-- the far one, and its ends are added up.
use mathlib.Core.Path.{◌∙◌, ap}
use mathlib.Core.List.{List}
use Prim.Native.Nat.{ℕ, ◌+◌}
use native.Mathlib.Omega.{arith}
use borrow.Author.Tests.{not-true, not-false}
use lib.ListN.{set}
use Rattle.route_links.specs.Private.{put_in, linked}
use Rattle.route_links.proofs.Building.{lead-shut, lead_near, lead-far, lead-self, lead-on}
use mathlib.Core.Bool.{not}
use Rattle.route_links.proofs.lead.Goals as goal

pub returns-then-not-passed : goal.returns-then-not-passed
returns-then-not-passed c =
    let a = c.args in
    lead-shut a.t.now a.i a.a a.b a.passed (not-true _ (ap not c.if-not-passed.true))

pub returns-then-a-ge-MOST_NODES : goal.returns-then-a-ge-MOST_NODES
returns-then-a-ge-MOST_NODES c =
    let a = c.args in
    lead_near a.t.now a.i a.a a.b a.passed (not-false _ (ap not c.if-not-passed.false)) (omega (arith, c.if-a-ge-MOST_NODES.true))

pub returns-then-b-ge-MOST_NODES : goal.returns-then-b-ge-MOST_NODES
returns-then-b-ge-MOST_NODES c =
    let a = c.args in
    lead-far a.t.now a.i a.a a.b a.passed (not-false _ (ap not c.if-not-passed.false)) (omega (arith, c.if-a-ge-MOST_NODES.false)) (omega (arith, c.if-b-ge-MOST_NODES.true))

pub returns-then-a-b : goal.returns-then-a-b
returns-then-a-b c =
    let a = c.args in
    lead-self a.t.now a.i a.a a.b a.passed (not-false _ (ap not c.if-not-passed.false)) (omega (arith, c.if-a-ge-MOST_NODES.false)) (omega (arith, c.if-b-ge-MOST_NODES.false)) c.if-a-b.true

pub returns : goal.returns
unfolding linked
returns c =
    let a = c.args in
    ap (λ (l : List ℕ). set l (32 + a.i) (a.a + a.b))
    (c.put_in-3.ensures
    ∙ ap (λ (l : List ℕ). put_in l (81 + a.b) a.a) (c.put_in-2.ensures ∙ ap (λ (l : List ℕ). put_in l (16 + a.a) a.i) c.put_in.ensures))
    ∙ lead-on a.t.now a.i a.a a.b a.passed (not-false _ (ap not c.if-not-passed.false)) c.if-a-ge-MOST_NODES.false c.if-b-ge-MOST_NODES.false c.if-a-b.false
