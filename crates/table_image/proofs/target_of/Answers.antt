-- `table_image::target_of` meets its contract: by cases on the kind.
use borrow.Author.Tests.{ne_eqb}
use Rattle.table_image.specs.Table.{target_of}
use mathlib.Core.Path.{◌≡◌}
use native.Mathlib.Omega.{arith}
use Rattle.table_image.proofs.target_of.Goals as goal

pub returns-in-0 : goal.returns-in-0
unfolding target_of
returns-in-0 c = rw c.in-0.is

pub returns-in-1 : goal.returns-in-1
unfolding target_of
returns-in-1 c = rw c.in-1.is

pub returns-in_default : goal.returns-in_default
unfolding target_of
returns-in_default c =
    let a : c.args.kind ≡ 0 → ⊥ = λ e. omega arith in
    let b : c.args.kind ≡ 1 → ⊥ = λ e. omega arith in
    rw (ne_eqb _ _ a, ne_eqb _ _ b)
