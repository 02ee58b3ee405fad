-- How long the lines are: the counts with both below 100, the refusal with any.
use Prim.Native.Nat.{ℕ, ◌<◌, ◌≤◌}
use native.Mathlib.Omega.{arith}
use lib.ListN.{length, length-append}
use Rattle.text.specs.Decimal.{decimal}
use Rattle.text.proofs.Lengths.{digits-most, two}
use Rattle.sheet_lines.specs.Lines.{counts_line, refused_line}

pub counts-long : (nodes links : ℕ) → nodes < 100 → links < 100 → length (counts_line nodes links) ≤ 18
unfolding counts_line
counts-long nodes links h k =
    let p : length (decimal nodes) ≤ 2 = two 20 nodes h in
    let q : length (decimal links) ≤ 2 = two 20 links k in
    rw (length-append, length-append, length-append, length-append) (omega arith)

pub refused-long : (number place : ℕ) → length (refused_line number place) ≤ 53
unfolding refused_line
refused-long number place =
    let p : length (decimal number) ≤ 20 = digits-most 20 number in
    let q : length (decimal place) ≤ 20 = digits-most 20 place in
    rw (length-append, length-append, length-append, length-append) (omega arith)
