-- `chart_read::read_chart` meets its contract: each field that is taken is held, and the walk goes on past it.
use mathlib.Core.Path.{sym}
use native.Mathlib.Omega.{arith}
use Rattle.refusal.proofs.Laws.{names}
use Rattle.chart_read.proofs.Laws.{form-tag, no-form}
use Rattle.chart_read.proofs.Taking.{node-left, link_left}
use Rattle.chart_read.proofs.Holding.{field-here, field-taken, holding-start, refused-field, whole-field, node-length, link-length, holding-node, holding-link, holding-question, ends-unasked, ends_asked, parts-refused, parts-read}
use Rattle.chart_read.proofs.read_chart.Goals as goal

pub loop-at-init : goal.loop-at-init
loop-at-init c = holding-start c.args.bytes.now _ _ _ c.no_node-no_node.ensures c.no_link-no_link.ensures c.no_keys-keys.ensures

pub returns-in-Err : goal.returns-in-Err
returns-in-Err c =
    let f = field-here c.loop-at.invariant c.type_inv.bytes c.loop-at-test.true in
    let e = refused-field f c.in-Err.ensures.refusal (names.none_zero _) in
    record { value = parts-refused e; answer = e }

pub body_at-b-requires : goal.body_at-b-requires
body_at-b-requires c =
    let f = field-here c.loop-at.invariant c.type_inv.bytes c.loop-at-test.true in
    (f.begins, whole-field f (sym c.in_default.ensures.refusal))

pub node_in-requires : goal.node_in-requires
node_in-requires c =
    let f = field-taken c.loop-at.invariant c.type_inv.bytes c.loop-at-test.true c.in_default.ensures.refusal c.body_at-b.ensures c.past_field-at.ensures in
    node-length f c.in-1.is

pub bounds-nodes-n : goal.bounds-nodes-n
bounds-nodes-n c =
    let f = field-taken c.loop-at.invariant c.type_inv.bytes c.loop-at-test.true c.in_default.ensures.refusal c.body_at-b.ensures c.past_field-at.ensures in
    omega (arith, node-left _ _ _ f.zero c.in-1.is, f.field.holding.held.long-nodes)

pub loop-at-preserved-in-1 : goal.loop-at-preserved-in-1
loop-at-preserved-in-1 c =
    let f = field-taken c.loop-at.invariant c.type_inv.bytes c.loop-at-test.true c.in_default.ensures.refusal c.body_at-b.ensures c.past_field-at.ensures in
    holding-node f _ _ c.in_default.ensures c.in-1.is _ c.node_in.ensures

pub link_in-requires : goal.link_in-requires
link_in-requires c =
    let f = field-taken c.loop-at.invariant c.type_inv.bytes c.loop-at-test.true c.in_default.ensures.refusal c.body_at-b.ensures c.past_field-at.ensures in
    link-length f (form-tag _ c.in-2.is)

pub bounds-links-m : goal.bounds-links-m
bounds-links-m c =
    let f = field-taken c.loop-at.invariant c.type_inv.bytes c.loop-at-test.true c.in_default.ensures.refusal c.body_at-b.ensures c.past_field-at.ensures in
    omega (arith, link_left _ _ _ f.zero (form-tag _ c.in-2.is), f.field.holding.held.long-links)

pub loop-at-preserved-in-2 : goal.loop-at-preserved-in-2
loop-at-preserved-in-2 c =
    let f = field-taken c.loop-at.invariant c.type_inv.bytes c.loop-at-test.true c.in_default.ensures.refusal c.body_at-b.ensures c.past_field-at.ensures in
    holding-link f _ _ c.in_default.ensures (form-tag _ c.in-2.is) _ c.link_in.ensures

pub loop-at-preserved : goal.loop-at-preserved
loop-at-preserved c =
    let f = field-taken c.loop-at.invariant c.type_inv.bytes c.loop-at-test.true c.in_default.ensures.refusal c.body_at-b.ensures c.past_field-at.ensures in
    let r = c.in_default-tag.in_default-tag-own.rest in
    holding-question f _ _ c.in_default.ensures r.0.1 (no-form _ r.1) c.station_in-from.ensures c.station_in-to.ensures

pub returns-then-not-keys : goal.returns-then-not-keys
returns-then-not-keys c =
    let e = ends-unasked _ _ c.loop-at.invariant c.loop-at-test.false c.if-not-keys.true in
    record { value = parts-refused e; answer = e }

pub returns : goal.returns
returns c =
    let e = ends_asked _ _ c.loop-at.invariant c.loop-at-test.false c.if-not-keys.false in
    record { value = parts-read e; answer = e }
