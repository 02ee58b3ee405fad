-- `chart_read::take::take_field` meets its contract: a field that is cut short is 21, else its tag decides, and then its body.
use Prim.Native.Nat.{◌≤◌}
use mathlib.Core.Path.{refl}
use native.Mathlib.Omega.{arith}
use lib.ListN.{length}
use borrow.Author.Tests.{ne_eqb}
use Rattle.chart_read.specs.Fields.{past_field}
use Rattle.chart_read.specs.Reading.{body_refusal}
use Rattle.chart_read.proofs.Laws.{form-tag, no-form, field_cut, field-whole, tag-later}
use Rattle.chart_read.proofs.Taking.{field-takes, field-refused}
use Rattle.chart_read.proofs.take.take_field.Goals as goal

pub returns-then-bytes-at : goal.returns-then-bytes-at
returns-then-bytes-at c = field-refused _ _ _ 20 (field_cut _ _ _ (omega (arith, c.if-bytes-at.true)))

pub returns-then-bytes-past_field : goal.returns-then-bytes-past_field
returns-then-bytes-past_field c = field-refused _ _ _ 20 (field_cut _ _ _ (omega (arith, c.past_field.ensures)))

pub take_link-requires : goal.take_link-requires
take_link-requires c = form-tag _ c.in-2.is

pub returns-in-1 : goal.returns-in-1
returns-in-1 c = field-takes _ _ _ c.past_field.ensures c.if-bytes-past_field.false c.in-1.is c.body_at-b.ensures c.take_node.ensures

pub returns-in-2 : goal.returns-in-2
returns-in-2 c = field-takes _ _ _ c.past_field.ensures c.if-bytes-past_field.false refl c.body_at-b.ensures c.take_link.ensures

pub returns-in-3 : goal.returns-in-3
returns-in-3 c = field-takes _ _ _ c.past_field.ensures c.if-bytes-past_field.false c.in-3.is c.body_at-b.ensures c.take_question.ensures

pub returns-in_default : goal.returns-in_default
unfolding body_refusal
returns-in_default c =
    let whole : past_field c.args.bytes.now c.args.at ≤ length c.args.bytes.now = omega (arith, c.past_field.ensures, c.if-bytes-past_field.false) in
    let r = c.in_default.in_default-own.rest in
    field-refused _ _ _ 21
    (field-whole _ _ _ 22 whole (tag-later _ (ne_eqb _ _ r.0.0.1) (tag-later _ (no-form _ r.0.1) (tag-later _ (ne_eqb _ _ r.1) refl))))
