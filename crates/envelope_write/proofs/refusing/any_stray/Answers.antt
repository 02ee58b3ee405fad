-- `envelope_write::refusing::any_stray` meets its contract: the addresses that the loop sees are the first n.
use Prim.Native.Nat.{ℕ, ◌<◌}
use mathlib.Core.Path.{◌≡◌, sym, ap, ◌∙◌}
use mathlib.Core.Bool.{not}
use mathlib.Core.List.{List}
use lib.ListN.{length, get_or, take}
use Rattle.std.proofs.lemmas.List.{length-take-le}
use Rattle.lists.specs.Places.{element_at}
use Rattle.lists.proofs.Places.{any_none, any-more, any-end, any_found, element-taken}
use Rattle.address.specs.declared.Address.{Address}
use Rattle.address.specs.Address.{in_range, zero_address}
use Rattle.envelope.specs.Refusal.{stray_at}
use native.Mathlib.Omega.{arith}
use borrow.Author.Rules.{rules}
use Rattle.envelope_write.proofs.refusing.any_stray.Goals as goal

-- whether the address that the loop sees is out of range
stray-read : (all : List Address) (z : Address) (n i : ℕ) → i < length (take n all) → stray_at (element_at zero_address all) i ≡ not (in_range (get_or (take n all) i z))
unfolding stray_at
stray-read all z n i h = ap (λ (a : Address). not (in_range a)) (sym (element-taken zero_address z all n i h))

pub loop-a-init : goal.loop-a-init
loop-a-init c = any_none _

pub returns-then-not-in_range : goal.returns-then-not-in_range
returns-then-not-in_range c =
    let all = c.args.addresses in
    let i = c.loop-a.a-index in
    let n : length (take c.args.n all) ≡ c.args.n = search (rules, length-take-le) in
    sym (any_found (stray_at (element_at zero_address all)) c.args.n i (omega (arith, n, c.loop-a-test.true)) (stray-read all _ _ i c.loop-a-test.true ∙ ap not (sym c.in_range.ensures ∙ c.if-not-in_range.true)))

pub loop-a-preserved : goal.loop-a-preserved
loop-a-preserved c = any-more _ c.loop-a.a-index c.loop-a.invariant (stray-read c.args.addresses _ _ c.loop-a.a-index c.loop-a-test.true ∙ ap not (sym c.in_range.ensures ∙ c.if-not-in_range.false))

pub returns : goal.returns
returns c =
    let all = c.args.addresses in
    let n : length (take c.args.n all) ≡ c.args.n = search (rules, length-take-le) in
    any-end _ (omega (arith, n)) c.loop-a.invariant
