-- The theorems of moving a chart: restore-undoes-renew, renew-undoes-restore, copied, renewed, restored, routes-stay, one-way-refused.
use Prim.Native.Nat.{ℕ, zero, suc, ◌<◌}
use mathlib.Core.Path.{◌≡◌, refl, sym, ap, ◌∙◌}
use mathlib.Core.List.{List, ◌++◌}
use mathlib.Core.Bool.{Bool, true, false, ◌&&◌, true≢false}
use native.Mathlib.Omega.{arith}
use lib.Dec.{ltb, eqb}
use lib.ListN.{length}
use borrow.Author.Tests.{eqb-true, eq-eqb, ne_eqb}
use Rattle.lists.specs.Places.{joined}
use Rattle.lists.specs.Refusals.{refuse, or_else, among}
use Rattle.lists.proofs.Bools.{and_left, and_right, both_ways}
use Rattle.lists.proofs.Places.{any-nowhere}
use Rattle.chart.specs.declared.Chart.{Chart}
use Rattle.chart.specs.Values.{plain, directed, node_at, link_at}
use Rattle.chart_read.specs.Fields.{is_form}
use Rattle.chart_read.specs.Reading.{ChartRead, read_chart_of}
use Rattle.chart_write.specs.Writing.{node_field, question_field, chart_bytes, tidy_form, tidy}
use Rattle.chart_write.specs.Promises.{chart_reader_refusals}
use Rattle.chart_write.proofs.Forms.{form-bytes}
use Rattle.chart_write.proofs.Numbers.{reader-numbers}
use Rattle.chart_write.proofs.Promises.{read_back}
use Rattle.chart_write.proofs.WriteBack.{read-good}
use Rattle.chart_net.specs.Net.{far_end, routes_between, routes_of}
use Rattle.chart_form.specs.Moving.{in_form, one_way_at, one_way, moved_bytes, move_refusal}
use Rattle.chart_form.specs.Promises.{AllBothWays, RestoreUndoesRenew, RenewUndoesRestore, Copied, Renewed, Restored, RoutesStay, OneWayRefused}
use Rattle.chart_form.proofs.Read.{was_read}
use Rattle.chart_form.proofs.Laws.{both_at, accepted-as}

-- links that all go both ways
none-one-way : (bytes : List ℕ) → AllBothWays bytes → one_way (read_chart_of bytes).chart.links ≡ false
unfolding one_way one_way_at
none-one-way bytes all = any-nowhere _ _ (λ i h. rw (eq-eqb _ 0 (all i h)))

-- ---- what was moved, read again

tidy-again : (to form : ℕ) (c : Chart) → in_form to (tidy (in_form form c)) ≡ in_form to (tidy c)
unfolding in_form tidy link_at
tidy-again to form c = refl

tidy-moved : (form : ℕ) (c : Chart) → 0 < c.links.count → tidy c ≡ c → tidy (in_form form c) ≡ in_form form c
unfolding in_form tidy tidy_form link_at
tidy-moved form c h e =
    let f : tidy_form (in_form form c).links ≡ form = rw (ne_eqb c.links.count 0 (λ z. omega arith)) in
    λ i. record {
      nodes = (e i).nodes;
      links = record { count = c.links.count; form = f i; items = (e i).links.items };
      from = c.from;
      to = c.to;
    }

-- a chart without links, or with links of this form, has the same bytes in it
same_bytes : (form : ℕ) (c : Chart) → ((c.links.count ≡ 0 → ⊥) → c.links.form ≡ form) → chart_bytes (in_form form c) ≡ chart_bytes c
unfolding chart_bytes in_form link_at
same_bytes form c h =
    ap (λ (l : List ℕ). joined node_field (node_at c.nodes) c.nodes.count ++ (l ++ question_field c.from c.to)) (sym (form-bytes c.links form h))

module _ (form : ℕ) (bytes : List ℕ) (z : (read_chart_of bytes).refusal ≡ 0) where
  abbrev c : Chart
  c = (read_chart_of bytes).chart

  module _ (known : is_form form ≡ true) (w : eqb form 2 ≡ true → one_way c.links ≡ false) where
    moved-read : read_chart_of (moved_bytes form bytes) ≡ record { refusal = 0; place = 0; chart = tidy (in_form form c) }
    unfolding moved_bytes
    moved-read = read_back (in_form form c) (accepted-as form c (was_read bytes z).accepted known w)

    -- and moved again to a form
    moved-again : (to : ℕ) → moved_bytes to (moved_bytes form bytes) ≡ moved_bytes to bytes
    unfolding moved_bytes
    moved-again to =
        ap (λ (r : ChartRead). chart_bytes (in_form to r.chart)) moved-read
        ∙ ap chart_bytes (tidy-again to form c)
        ∙ ap (λ (x : Chart). chart_bytes (in_form to x)) (was_read bytes z).tidied

    -- with links, the form alone differs
    moved-is : 0 < c.links.count → read_chart_of (moved_bytes form bytes) ≡ record { refusal = 0; place = 0; chart = in_form form c }
    moved-is h = moved-read ∙ ap (λ (x : Chart). record { refusal = 0; place = 0; chart = x }) (tidy-moved form c h (was_read bytes z).tidied)

-- ---- the theorems

-- plain is not asked for, or the links can be said in it
not_plain : (b : Bool) → eqb directed 2 ≡ true → b ≡ false
not_plain b e = absurd (true≢false (sym e))

is-form : (is_form plain ≡ true) × (is_form directed ≡ true)
unfolding is_form
is-form = (refl, refl)

pub copied : Copied
unfolding moved_bytes
copied form bytes small f =
    let c = (read_chart_of bytes).chart in
    same_bytes form c (λ e. f.form (omega arith)) ∙ ((read-good bytes small).undone f.accepted).same

pub restore_undoes_renew : RestoreUndoesRenew
restore_undoes_renew bytes small f = moved-again directed bytes f.accepted is-form.1 (not_plain _) plain ∙ copied plain bytes small f

pub renew_undoes_restore : RenewUndoesRestore
renew_undoes_restore bytes small f all = moved-again plain bytes f.accepted is-form.0 (λ e. none-one-way bytes all) directed ∙ copied directed bytes small f

pub renewed : Renewed
renewed bytes z h = moved-is directed bytes z is-form.1 (not_plain _) h

pub restored : Restored
restored bytes z all h = moved-is plain bytes z is-form.0 (λ e. none-one-way bytes all) h

-- no route goes by the form
routes-same : (form : ℕ) (c : Chart) → routes_of (tidy (in_form form c)) ≡ routes_of (tidy c)
unfolding routes_of routes_between far_end link_at in_form tidy
routes-same form c = refl

pub routes-stay : RoutesStay
routes-stay bytes z =
    ap (λ (r : ChartRead). routes_of r.chart) (moved-read directed bytes z is-form.1 (not_plain _))
    ∙ routes-same directed (read_chart_of bytes).chart
    ∙ ap routes_of (was_read bytes z).tidied

-- no number of the reader is 32
by-numbers : (n : ℕ) (t b : Bool) → or_else n (refuse 32 t (refuse 10 b 0)) ≡ 32 → among n chart_reader_refusals ≡ true → (n ≡ 0) × (t ≡ true)
by-numbers zero true b h a = (refl, refl)
by-numbers zero false true h a = absurd (omega arith)
by-numbers zero false false h a = absurd (omega arith)
by-numbers (suc n) t b h a = absurd (true≢false (sym a ∙ ap (λ (k : ℕ). among k chart_reader_refusals) h))

some-one-way : (bytes : List ℕ) → (AllBothWays bytes → ⊥) → (b : Bool) → one_way (read_chart_of bytes).chart.links ≡ b → one_way (read_chart_of bytes).chart.links ≡ true
some-one-way bytes f true e = e
some-one-way bytes f false e = absurd (f (both_at (read_chart_of bytes).chart.links e))

pub one_way_refused : OneWayRefused
unfolding move_refusal
one_way_refused form bytes room =
    let r = read_chart_of bytes in
    let way = one_way r.chart.links in (
      (λ h.
          let p = by-numbers r.refusal (eqb form 2 && way) (ltb room (length (moved_bytes form bytes))) h (reader-numbers bytes) in
          (eqb-true form 2 (and_left (eqb form 2) way p.1), p.0, λ all. both_ways (and_right (eqb form 2) way p.1) (none-one-way bytes all))),
      (λ h. rw (h.1, eq-eqb form 2 h.0, some-one-way bytes h.2 way refl)),
    )
