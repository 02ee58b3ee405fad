-- `sheet_print::print` meets its contract: what was read, of at most 4,097 bytes, has the sheet of all of the input.
use Rattle.std.proofs.Common.{◌≡◌, length, take, arith, length-take-le}
use Rattle.sheet_print.proofs.Whole.{whole, on_ok}
use Rattle.sheet_print.proofs.print.Goals as goal

pub returns-in-Ok : goal.returns-in-Ok
returns-in-Ok g c =
    let read = c.in-Ok.ensures in
    let bs = take c.in-Ok.n c.read_full.new.buf in
    let long : length bs ≡ c.in-Ok.n = length-take-le _ _ read.within in
    on_ok c.show.result (λ w. whole _ _ bs read.bytes (λ less. read.end (omega arith)) _ _ w) c.show.ensures
