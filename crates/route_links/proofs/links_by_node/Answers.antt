-- `route_links::links_by_node` meets its contract: past link 48 there are no ways.
use mathlib.Core.Path.{◌≡◌, ◌∙◌, ap}
use mathlib.Core.Bool.{Bool}
use mathlib.Core.List.{List, []}
use Prim.Native.Nat.{ℕ, ◌<◌}
use native.Mathlib.Omega.{arith}
use native.Mathlib.Numerals.{add-one}
use borrow.Author.Rules.{rules}
use lib.ListN.{get_or, length}
use Rattle.route_links.specs.Arrays.{is_out, is_back}
use Rattle.route_links.specs.Private.{lead}
use Rattle.route_links.proofs.Filling.{turn-built, start-built, filled}
use Rattle.route_links.proofs.links_by_node.Goals as goal

pub loop-i-init : goal.loop-i-init
loop-i-init c = start-built c.args.ends c.args.ways c.args.links c.args.to

pub loop-i-preserved : goal.loop-i-preserved
loop-i-preserved c =
    let a = c.args in
    let l = c.loop-i in
    let below : l.i < a.links = omega arith in
    let few : l.i < 48 = omega arith in
    let p = get_or (get_or a.ends l.i []) 0 0 in
    let q = get_or (get_or a.ends l.i []) 1 0 in
    let way = get_or a.ways l.i 0 in
    let B = turn-built a.ends a.ways a.links a.to l.i below l.t few l.invariant in
    let e : c.lead-in-loop-i.new.t ≡ lead (lead l.t l.i p q (is_out way)) l.i q p (is_back way) =
    c.lead-in-loop-i.ensures
    ∙ ap (λ (b : Bool). lead c.lead.new.t l.i q p b) c.is_back.ensures
    ∙ ap (λ (t : List ℕ). lead t l.i q p (is_back way))
    (c.lead.ensures ∙ ap (λ (b : Bool). lead l.t l.i p q b) c.is_out.ensures) in
    rw (add-one, e) B

pub returns : goal.returns
returns c =
    let a = c.args in
    let l = c.loop-i in
    let few : length a.ways ≡ 48 = search rules in
    filled a.ends a.ways a.links a.to l.i l.t few (omega arith) l.invariant
