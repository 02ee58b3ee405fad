-- `envelope_read::destinations_of` meets its contract: the destination reader sees the part from the sixth byte on.
use Rattle.envelope.proofs.Laws.{accepted, count-le}
use Rattle.envelope_read.proofs.Laws.{opened-answer, refused-answer}
use Rattle.envelope_read.proofs.PartsLaws.{destinations-cut, destinations-refused}
use mathlib.Core.Path.{◌≡◌, sym, ap}
use Rattle.envelope.specs.declared.Fixed.{Fixed}
use Rattle.envelope.specs.Frame.{count_of, fields_of}
use native.Mathlib.Omega.{arith}
use Rattle.envelope_read.proofs.parts.destinations_of.Goals as goal

pub returns-in_default : goal.returns-in_default
returns-in_default c =
    let f = c.args.frame.now in
    rw c.no_addresses.ensures
    (sym (destinations-refused f (refused-answer f _ (rw c.in_default.is at c.read_frame.ensures.value))))

pub slice_bounds-read_addresses-count : goal.slice_bounds-read_addresses-count
slice_bounds-read_addresses-count c =
    let opened = opened-answer c.args.frame.now _ c.in-Ok.ensures.value in
    omega (arith, (accepted _ opened.none).frame.sized)

pub slice_bounds-read_addresses-start : goal.slice_bounds-read_addresses-start
slice_bounds-read_addresses-start c =
    let opened = opened-answer c.args.frame.now _ c.in-Ok.ensures.value in
    omega (arith, (accepted _ opened.none).frame.sized)

pub read_addresses-requires : goal.read_addresses-requires
unfolding fields_of
read_addresses-requires c =
    let opened = opened-answer c.args.frame.now _ c.in-Ok.ensures.value in
    let f = c.args.frame.now in
    let n : c.in-Ok.e.count ≡ count_of f = ap (λ (x : Fixed). x.count) opened.same in
    omega (arith, count-le f)

pub returns : goal.returns
returns c =
    let opened = opened-answer c.args.frame.now _ c.in-Ok.ensures.value in
    destinations-cut _ _ opened c.read_addresses.ensures
