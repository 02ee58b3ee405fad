-- `route_search::given::later` meets its contract: the given route is walked along as long as it is one;
-- on the way back, at each place, the links after its own are tried. What is left of it falls.
use mathlib.Core.Path.{◌≡◌, refl, sym, ◌∙◌, ap, subst}
use mathlib.Core.List.{List}
use Prim.Native.Nat.{ℕ, ◌+◌, ◌-◌}
use native.Mathlib.Omega.{arith}
use borrow.Author.Rules.{rules}
use denote.Enum.Bare.{differs_true, differs_false}
use lib.ListN.{get_or, drop}
use Rattle.std.specs.Prelude.{Result, Err}
use Rattle.refusal.specs.declared.Refusal.{Refusal}
use Rattle.refusal.specs.declared.Refusal.TheVariants.{NoRoute}
use Rattle.refusal.specs.contracts.Refusal.{the_type}
use Rattle.refusal.specs.Numbers.{number}
use Rattle.route.specs.All.{Finding, first_of, next_of}
use Rattle.route_links.specs.Private.{gone_after, routes_on, routes_by}
use Rattle.route_links.proofs.Standing.{standing-room}
use Rattle.route_search.specs.declared.Route.{Route}
use Rattle.route_search.specs.Private.{Found, found_at, route_found}
use Rattle.route_search.proofs.Finding.{known_by, found-put, found_none, found-not, Finds, found-ok, ok-found, found-or, found-else}
use Rattle.route_ahead.specs.Ahead.{LooksAhead}
use Rattle.route_search.proofs.Following.{is-in, not_in, later-end, later-stray, later-past, later-off, more, along, after-it}
use Rattle.route_search.proofs.given.+later.Goals as goal

-- what comes after the rest of the given route, past its link at place d
abbrev past_link : (t r : List ℕ) (f gone d : ℕ) → Finding
past_link t r f gone d = next_of (routes_on t (get_or t (32 + get_or r d 0) 0 - f) (gone_after t gone f)) (drop (d + 1) r)

pub returns-then-over-here : goal.returns-then-over-here
returns-then-over-here t c =
    let a = c.args in
    sym (ap (λ (o : Finding). (found_at a.d o).refusal) (later-end a.t.now a.f a.gone a.d c.requires a.r.now c.if-over-here.true))

pub returns-then-over-here-2 : goal.returns-then-over-here-2
returns-then-over-here-2 t c =
    let a = c.args in
    sym (ap (λ (o : Finding). (found_at a.d o).refusal) (later-stray a.t.now a.f a.gone a.d c.requires a.r.now c.if-over-here.false c.if-over-here-2.true))

pub returns-then-b-ge-MOST_LINKS : goal.returns-then-b-ge-MOST_LINKS
returns-then-b-ge-MOST_LINKS t c =
    let a = c.args in
    sym (ap (λ (o : Finding). (found_at a.d o).refusal) (later-past a.t.now a.f a.gone a.d c.requires a.r.now c.if-over-here-2.false c.if-b-ge-MOST_LINKS.true))

pub returns-then-links-i-ne1 : goal.returns-then-links-i-ne1
returns-then-links-i-ne1 t c =
    let a = c.args in
    sym (ap (λ (o : Finding). (found_at a.d o).refusal) (later-off a.t.now a.f a.gone a.d c.requires a.r.now c.if-over-here-2.false (not_in _ _ c.if-links-i-ne1.true)))

pub overflow_sub-t : goal.overflow_sub-t
overflow_sub-t t c =
    let leads-on = along _ _ _ _ c.requires _ c.if-over-here-2.false (is-in _ _ c.if-links-i-ne1.false) in
    leads-on.back

pub later-requires : goal.later-requires
later-requires t c =
    let leads-on = along _ _ _ _ c.requires _ c.if-over-here-2.false (is-in _ _ c.if-links-i-ne1.false) in
    let a = c.args in
    let l = more a.t.now a.f a.gone a.d c.requires a.r.now c.if-over-here-2.false in
    (omega arith, leads-on.stands)

pub returns-then-ne : goal.returns-then-ne
returns-then-ne t c =
    let leads-on = along _ _ _ _ c.requires _ c.if-over-here-2.false (is-in _ _ c.if-links-i-ne1.false) in
    let a = c.args in
    let o = past_link a.t.now a.r.now a.f a.gone a.d in
    let r = c.in-Err.refusal in
    let h : Finds (Err r) (found_at (a.d + 1) o) = c.in-Err.ensures in
    let e = found-not a.d (get_or a.r.now a.d 0) o _ (found_at (a.d + 1) o) refl (found-else (a.d + 1) o r h (differs_true the_type _ _ (sym c.ne.ensures ∙ c.if-ne.true))) in
    h ∙ ap (λ (f : Found). f.refusal) (e ∙ ap (found_at a.d) (sym leads-on.says))

pub try_links-requires : goal.try_links-requires
try_links-requires t c =
    let a = c.args in
    let w = c.ahead-c in
    let T = after-it a.t.now a.f a.gone a.d c.requires a.r.now c.if-over-here-2.false w.result c.if-b-ge-MOST_LINKS.false
    (subst (λ (links : ℕ). LooksAhead a.t.now (gone_after a.t.now a.gone a.f) links w.result) c.after.ensures w.ensures) in
    T.chooses

pub returns-else-ne : goal.returns-else-ne
returns-else-ne t c =
    let leads-on = along _ _ _ _ c.requires _ c.if-over-here-2.false (is-in _ _ c.if-links-i-ne1.false) in
    let a = c.args in
    let w = c.ahead-c in
    let T = after-it a.t.now a.f a.gone a.d c.requires a.r.now c.if-over-here-2.false w.result c.if-b-ge-MOST_LINKS.false
    (subst (λ (links : ℕ). LooksAhead a.t.now (gone_after a.t.now a.gone a.f) links w.result) c.after.ensures w.ensures) in
    let o = past_link a.t.now a.r.now a.f a.gone a.d in
    let h : Finds (Err c.in-Err.refusal) (found_at (a.d + 1) o) = c.in-Err.ensures in
    let e : c.in-Err.refusal ≡ NoRoute = differs_false the_type (search rules) _ _ (sym c.ne.ensures ∙ c.if-ne.false) in
    let n = found_none a.d (get_or a.r.now a.d 0) o _ (found_at (a.d + 1) o) refl (sym h ∙ ap number e) in
    subst (λ (x : Result Route Refusal). Finds x (found_at a.d (next_of (routes_on a.t.now a.f a.gone) (drop a.d a.r.now)))) (sym c.ok_or.ensures.value)
    (found-or _ _ (c.try_links.ensures ∙ ap (found_at a.d) (sym T.says ∙ sym n ∙ sym leads-on.says)))

pub bounds-w-d : goal.bounds-w-d
bounds-w-d t c =
    let leads-on = along _ _ _ _ c.requires _ c.if-over-here-2.false (is-in _ _ c.if-links-i-ne1.false) in
    let h = standing-room _ _ _ _ leads-on.stands in omega arith

pub returns-in-Ok : goal.returns-in-Ok
returns-in-Ok t c =
    let leads-on = along _ _ _ _ c.requires _ c.if-over-here-2.false (is-in _ _ c.if-links-i-ne1.false) in
    let a = c.args in
    let i = get_or a.r.now a.d 0 in
    let o = past_link a.t.now a.r.now a.f a.gone a.d in
    let r = c.in-Ok.w in
    let e = found-ok (found_at (a.d + 1) o) r c.in-Ok.ensures in
    ok-found _ _ (found-put a.d i o _ (route_found r) e (known_by a.d i o (first_of (routes_by a.t.now a.f 0 0)) (route_found r) e (λ q. omega arith)) (λ q. omega arith)
    ∙ ap (found_at a.d) (sym leads-on.says))
