-- `chart_write::storing::put_link` meets its contract: the directed body, or the same without its last byte.
use Prim.Native.Nat.{ℕ}
use mathlib.Core.Path.{◌≡◌, sym, ap, ◌∙◌}
use mathlib.Core.List.{List}
use lib.ListN.{length, take}
use lib.Seq.{sets, length-take-le}
use Rattle.chart_read.specs.Fields.{tagged}
use Rattle.chart_write.specs.Writing.{link_body, link_field}
use Rattle.chart_write.proofs.Laws.{body-cut, directed-long, directed-length, plain-length}
use native.Mathlib.Omega.{arith}
use Rattle.chart_write.proofs.storing.put_link.Goals as goal

pub put_field-requires : goal.put_field-requires
put_field-requires c =
    let ten : length c.link_body-b.result ≡ 10 = ap length c.link_body-b.ensures ∙ directed-long c.args.l in
    (omega (arith, ten, directed-length c.args.form c.if-form-eq-DIRECTED.true), omega (arith, ten))

pub returns-then-form-eq-DIRECTED : goal.returns-then-form-eq-DIRECTED
unfolding link_field
returns-then-form-eq-DIRECTED c =
    let a = c.args in
    c.put_field.ensures
    ∙ ap (λ (b : List ℕ). sets a.out.now a.at (tagged a.form b)) c.link_body-b.ensures
    ∙ ap (λ (f : ℕ). sets a.out.now a.at (tagged a.form (link_body f a.l))) (sym c.if-form-eq-DIRECTED.true)

pub put_field-requires-2 : goal.put_field-requires-2
put_field-requires-2 c =
    let ten : length c.link_body-b.result ≡ 10 = ap length c.link_body-b.ensures ∙ directed-long c.args.l in
    let nine : length (take 9 c.link_body-b.result) ≡ 9 = length-take-le 9 c.link_body-b.result (omega (arith, ten)) in
    (omega (arith, nine, plain-length c.args.form c.if-form-eq-DIRECTED.false), omega (arith, nine))

pub returns : goal.returns
unfolding link_field
returns c =
    let a = c.args in
    c.put_field-2.ensures
    ∙ ap (λ (b : List ℕ). sets a.out.now a.at (tagged a.form (take 9 b))) c.link_body-b.ensures
    ∙ ap (λ (n : ℕ). sets a.out.now a.at (tagged a.form (take n (link_body 4 a.l)))) (sym (plain-length a.form c.if-form-eq-DIRECTED.false))
    ∙ ap (λ (b : List ℕ). sets a.out.now a.at (tagged a.form b)) (body-cut a.l a.form)
