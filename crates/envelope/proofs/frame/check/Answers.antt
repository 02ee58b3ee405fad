-- `envelope::frame::check` meets its contract: the fold is the definition's.
use mathlib.Core.Path.{◌≡◌, ◌∙◌}
use lib.Bits.{bit_xor}
use borrow.Author.Rules.{rules}
use Rattle.std.specs.List.{fold}
use Rattle.envelope.proofs.Laws.{xor-fold}
use Rattle.envelope.proofs.frame.check.Goals as goal

pub returns : goal.returns
returns c =
    let s = c.args.s.now in
    let folded : c.fold.result ≡ fold bit_xor 0 s = search rules in
    folded ∙ xor-fold 0 s
