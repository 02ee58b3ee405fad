-- `sheet::put_sheet` meets its contract: one line for a long input; a chart that is read is accepted.
use native.Mathlib.Omega.{arith}
use Rattle.text.proofs.Joining.{said}
use Rattle.sheet.proofs.Laws.{given-accepted, input-long, input-chart, input-refused}
use Rattle.sheet.proofs.put_sheet.Goals as goal

pub returns-then-bytes-gt-LONGEST_INPUT : goal.returns-then-bytes-gt-LONGEST_INPUT
returns-then-bytes-gt-LONGEST_INPUT c = said (input-long c.args.bytes.now c.if-bytes-gt-LONGEST_INPUT.true) c.put_bytes.ensures

pub put_chart-requires : goal.put_chart-requires
put_chart-requires c = given-accepted c.args.bytes.now (λ i. omega (arith, c.type_inv.bytes i)) c.in-Ok.c c.in-Ok.ensures.value

pub returns-in-Ok : goal.returns-in-Ok
returns-in-Ok c = said (input-chart c.args.bytes.now c.if-bytes-gt-LONGEST_INPUT.false c.in-Ok.c c.in-Ok.ensures.value) c.put_chart.ensures

pub returns-in-Err : goal.returns-in-Err
returns-in-Err c = said (input-refused c.args.bytes.now c.if-bytes-gt-LONGEST_INPUT.false c.in-Err.fault c.in-Err.ensures.value c.number.ensures) c.put_refused.ensures
