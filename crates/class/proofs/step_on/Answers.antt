-- `class::step_on` meets its contract: by cases on the choice, and on where a port leads.
use mathlib.Core.Path.{◌≡◌, sym, ap, ◌∙◌}
use native.Mathlib.Omega.{arith}
use Rattle.std.specs.Prelude.{Ok}
use Rattle.table.specs.declared.Choice.{Choice as Taken}
use Rattle.table.specs.Choice.{Out, choice_in}
use Rattle.class.specs.Calls.{tables_in}
use Rattle.class.specs.Private.{coming_of}
use Rattle.class.proofs.Ports.{comes-in}
use Rattle.class.proofs.Steps.{step-ended}
use Rattle.class.proofs.Stepping.{step_local, step-refused, step-nowhere, step-over}
use Rattle.class.proofs.step_on.Goals as goal

pub returns-then-m-ne-UNDER_WAY : goal.returns-then-m-ne-UNDER_WAY
returns-then-m-ne-UNDER_WAY c =
    let a = c.args in
    sym (step-ended a.c (tables_in a.tables.now) a.d a.m c.if-m-ne-UNDER_WAY.true)

pub returns-in-None : goal.returns-in-None
returns-in-None c =
    let a = c.args in
    let ts = tables_in a.tables.now in
    let u = c.if-m-ne-UNDER_WAY.false in
    let choice = c.choice_of in
    let port = c.in-Ok-Out.p in
    let p : choice_in choice.result ≡ Out port = ap choice_in c.in-Ok-Out.is ∙ ap (λ (x : Taken). choice_in (Ok x)) c.in-Ok-Out.field-0-is in
    let x = c.out_by in
    c.ended-in-None.ensures ∙ step-nowhere a.c ts a.d a.m u (choice_in choice.result) choice.ensures port p x.result x.ensures c.in-None.is

pub came_to-requires : goal.came_to-requires
unfolding coming_of
came_to-requires c =
    let g = c.requires in
    omega (arith, (comes-in c.args.c g.chart _ _ _ (sym c.out_by.ensures ∙ ap coming_of c.in-Some.is)).0, g.chart.few_nodes)

pub returns-in-Ok-Local : goal.returns-in-Ok-Local
returns-in-Ok-Local c =
    let a = c.args in
    let ts = tables_in a.tables.now in
    let u = c.if-m-ne-UNDER_WAY.false in
    let choice = c.choice_of in
    c.ended.ensures ∙ step_local a.c ts a.d a.m u (choice_in choice.result) choice.ensures _ (ap choice_in c.in-Ok-Local.is ∙ ap (λ (x : Taken). choice_in (Ok x)) c.in-Ok-Local.field-0-is)

pub returns-in-Err : goal.returns-in-Err
returns-in-Err c =
    let a = c.args in
    let ts = tables_in a.tables.now in
    let u = c.if-m-ne-UNDER_WAY.false in
    let choice = c.choice_of in
    c.ended-in-Err.ensures ∙ step-refused a.c ts a.d a.m u (choice_in choice.result) choice.ensures _ (ap choice_in c.in-Err.is)

pub returns-in-Some : goal.returns-in-Some
returns-in-Some c =
    let a = c.args in
    let ts = tables_in a.tables.now in
    let u = c.if-m-ne-UNDER_WAY.false in
    let choice = c.choice_of in
    let port = c.in-Ok-Out.p in
    let p : choice_in choice.result ≡ Out port = ap choice_in c.in-Ok-Out.is ∙ ap (λ (x : Taken). choice_in (Ok x)) c.in-Ok-Out.field-0-is in
    let x = c.out_by in
    c.came_to.ensures ∙ step-over a.c ts a.d a.m u (choice_in choice.result) choice.ensures port p x.result x.ensures c.in-Some.is
