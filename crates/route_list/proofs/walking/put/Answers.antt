-- `route_list::walking::put` meets its contract: the slot stands at its place, and the bytes on both sides of it are as they were.
use mathlib.Core.Path.{◌≡◌, refl, sym, ◌∙◌}
use Prim.Native.Nat.{◌+◌, ◌*◌, ◌-◌, ◌≤◌}
use native.Mathlib.Omega.{arith}
use borrow.Author.Rules.{rules}
use lib.ListN.{length}
use lib.Seq.{take-length}
use Rattle.std.proofs.lemmas.List.Edits.{sets-eq}
use Rattle.std.proofs.lemmas.Slice.{put_mid-paste}
use Rattle.route_list.proofs.walking.put.Goals as goal

pub returns : goal.returns
returns c =
    let a = c.args in
    let at = 16 * a.n in
    let whole : length a.slot ≡ 16 = search rules in
    let long : length a.slot ≡ (at + 16) - at = omega (arith, whole) in
    let fits : at + length a.slot ≤ length a.out.now = omega (arith, whole) in
    put_mid-paste at _ a.out.now _ a.slot _ c.copy_from_slice.ensures.after long refl ∙ rw take-length (sym (sets-eq a.slot a.out.now at fits))
