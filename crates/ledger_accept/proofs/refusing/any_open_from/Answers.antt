-- `ledger_accept::refusing::any_open_from` meets its contract: the legs that the loop sees are the ledger's own.
use Prim.Native.Nat.{ℕ, ◌<◌}
use mathlib.Core.Path.{◌≡◌, sym, ap, ◌∙◌}
use lib.ListN.{length, get_or, take}
use Rattle.std.proofs.lemmas.List.{length-take-le}
use Rattle.lists.proofs.Places.{any_none, any-more, any_found}
use Rattle.address.specs.declared.Seq.{Seq}
use Rattle.address.specs.declared.Address.{Address}
use Rattle.ledger.specs.declared.Leg.{Leg}
use Rattle.ledger.specs.declared.Ledger.{Ledger}
use Rattle.ledger.proofs.Laws.{leg-read}
use Rattle.ledger_accept.specs.Accept.{is_open_from, is_open_from_at}
use native.Mathlib.Omega.{arith}
use borrow.Author.Rules.{rules}
use Rattle.ledger_accept.proofs.refusing.any_open_from.Goals as goal

-- what is asked of a leg that the loop sees
open-read : (l : Ledger) (source : Address) (seq : Seq) (z : Leg) (i : ℕ) → i < length (take l.count l.legs)
    → is_open_from_at l source seq i ≡ is_open_from source seq (get_or (take l.count l.legs) i z)
unfolding is_open_from_at
open-read l source seq z i h = ap (is_open_from source seq) (sym (leg-read l z i h))

pub loop-g-init : goal.loop-g-init
loop-g-init c = any_none _

pub returns-then-is_open_from : goal.returns-then-is_open_from
returns-then-is_open_from c =
    let l = c.args.l in
    let counted : length (take l.count l.legs) ≡ l.count = search (rules, length-take-le) in
    let k = c.loop-g in
    sym (any_found (is_open_from_at l c.args.source c.args.seq) l.count k.g-index (omega (arith, counted, c.loop-g-test.true)) (open-read l _ _ _ k.g-index c.loop-g-test.true ∙ sym c.is_open_from.ensures ∙ c.if-is_open_from.true))

pub loop-g-preserved : goal.loop-g-preserved
loop-g-preserved c =
    let k = c.loop-g in
    any-more _ k.g-index k.invariant (open-read c.args.l _ _ _ k.g-index c.loop-g-test.true ∙ sym c.is_open_from.ensures ∙ c.if-is_open_from.false)
