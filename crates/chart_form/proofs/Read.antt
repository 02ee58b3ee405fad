-- The chart that the reader gives is accepted as it stands, and tidy: each field that is taken keeps both. So of any numbers, not of bytes alone.
use Prim.Native.Nat.{ℕ, zero, suc, ◌+◌, ◌-◌, ◌<◌, ◌≤◌}
use mathlib.Core.Path.{◌≡◌, refl, sym, ap, ap₂, subst, ◌∙◌}
use mathlib.Core.List.{List}
use mathlib.Core.Bool.{Bool, true, false, cond, true≢false}
use native.Mathlib.Omega.{arith}
use lib.Dec.{ltb, leb, eqb}
use lib.ListN.{length, set}
use lib.Seq.{get_or-set_same, get_or-set_other}
use borrow.Author.Tests.{le-ltb, ne_eqb, ltb-false}
use Rattle.lists.specs.Places.{element_at, row}
use Rattle.lists.specs.Chains.{first_refusal_below}
use Rattle.lists.proofs.Bools.{or-neither-of}
use Rattle.lists.proofs.Places.{Agree, row-none, row_next, row_at, row-agree, length-row}
use Rattle.lists.proofs.Chains.{refusal-none, refusal-more, refusal-agree}
use Rattle.address.specs.declared.Station.{Station}
use Rattle.address_bytes.specs.Wide.{station_in}
use Rattle.chart.specs.declared.ChartNode.{ChartNode}
use Rattle.chart.specs.declared.Link.{Link}
use Rattle.chart.specs.declared.Nodes.{Nodes}
use Rattle.chart.specs.declared.Links.{Links}
use Rattle.chart.specs.declared.Chart.{Chart}
use Rattle.chart.specs.Values.{no_node, no_link, no_chart, node_at, link_at}
use Rattle.chart.specs.Refusals.{node_refusal, link_refusal, question_refusal}
use Rattle.chart.proofs.Laws.{node-passed, link-passed, question-passed}
use Rattle.chart_refuse.specs.Refusal.{nodes_before, links_before, node_refusal_at, link_refusal_at, chart_values_refusal, chart_refusal}
use Rattle.chart_read.specs.Fields.{is_form, tag_at, body_at, past_field, bytes_from, node_in, link_in}
use Rattle.chart_read.specs.Reading.{ChartRead, SoFar, nothing, node_added, link_added, with_node, with_link, with_question, with_body, node_late, mixes, link_late, link_after, refusing, body_refusal, field_refusal, refused_at, at_end, onward, walk, read_chart_of}
use Rattle.chart_read.proofs.Laws.{with-node, with-link, with-question, node-zero, link-zero, question-zero, node-bounds, link-bounds, question-bounds, body-zero}
use Rattle.chart_read.proofs.Walking.{held_past}
use Rattle.chart_write.specs.Writing.{tidy_node, tidy_at, tidy_form, tidy}
use Rattle.chart_write.proofs.Agree.{SameNodes, SameLinks, node-agree, link-agree}
use Rattle.chart_write.proofs.Forms.{unmixed}

-- ---- one value more

module _ {A : Type 0} (z : A) (l : List A) (n : ℕ) (x : A) where
  set_before : (i : ℕ) → i < n → element_at z l i ≡ element_at z (set l n x) i
  unfolding element_at
  set_before i h = sym (get_or-set_other l n i x z (λ e. absurd (omega arith)))

  set_there : n < length l → element_at z (set l n x) n ≡ x
  unfolding element_at
  set_there h = get_or-set_same l n x z h

row-grown : {A : Type 0} (m : ℕ) (z : A) (l : List A) (n : ℕ) (x : A) (d d' : ℕ → A) → n < m → l ≡ row m z d n → Agree d d' n → d' n ≡ x
    → set l n x ≡ row m z d' (n + 1)
row-grown m z l n x d d' h e a q = ap₂ (λ (r : List _) (y : _). set r n y) (e ∙ row-agree m z d d' n a) (sym q) ∙ row_next m z d' n h

-- a node after the others: those before it are as they were
module _ (ns : Nodes) (n : ChartNode) where
  node-before : (i : ℕ) → i < ns.count → node_at ns i ≡ node_at (node_added ns n) i
  unfolding node_at
  node-before i h = set_before no_node ns.items ns.count n i h

  node-there : ns.count < length ns.items → node_at (node_added ns n) ns.count ≡ n
  unfolding node_at
  node-there h = set_there no_node ns.items ns.count n h

  tidy-before : (i : ℕ) → i < ns.count → tidy_at ns i ≡ tidy_at (node_added ns n) i
  unfolding tidy_at
  tidy-before i h = ap tidy_node (node-before i h)

  tidy-there : ns.count < length ns.items → tidy_at (node_added ns n) ns.count ≡ tidy_node n
  unfolding tidy_at
  tidy-there h = ap tidy_node (node-there h)

  same-before : (i : ℕ) → i ≤ ns.count → SameNodes (nodes_before ns i) (nodes_before (node_added ns n) i)
  unfolding node_at
  same-before i h = record { count = refl; stations = λ j l. ap (λ (x : ChartNode). x.station) (set_before no_node ns.items ns.count n j (omega arith)) }

  nodes-before : (i : ℕ) → i < ns.count → node_refusal_at ns i ≡ node_refusal_at (node_added ns n) i
  unfolding node_refusal_at
  nodes-before i h =
      node-agree _ _ (same-before i (omega arith)) false (node_at ns i) ∙ ap (node_refusal false (nodes_before (node_added ns n) i)) (node-before i h)

  nodes-grown : ns.count < length ns.items → first_refusal_below (node_refusal_at ns) ns.count ≡ 0 → node_refusal false ns n ≡ 0
      → first_refusal_below (node_refusal_at (node_added ns n)) (ns.count + 1) ≡ 0
  nodes-grown h f e =
      refusal-more (node_refusal_at (node_added ns n)) ns.count (sym (refusal-agree _ _ ns.count nodes-before) ∙ f) last
    where
      last : node_refusal_at (node_added ns n) ns.count ≡ 0
      last = unfold node_refusal_at in (ap (node_refusal false (nodes_before (node_added ns n) ns.count)) (node-there h) ∙ sym (node-agree _ _ (same-before ns.count (omega arith)) false n) ∙ e)

-- a link, likewise
module _ (ns : Nodes) (ls : Links) (form : ℕ) (l : Link) where
  link-before : (i : ℕ) → i < ls.count → link_at ls i ≡ link_at (link_added ls form l) i
  unfolding link_at
  link-before i h = set_before no_link ls.items ls.count l i h

  link-there : ls.count < length ls.items → link_at (link_added ls form l) ls.count ≡ l
  unfolding link_at
  link-there h = set_there no_link ls.items ls.count l h

  ends-before : (i : ℕ) → i ≤ ls.count → SameLinks (links_before ls i) (links_before (link_added ls form l) i)
  unfolding link_at
  ends-before i h = record { count = refl; links = λ j k. set_before no_link ls.items ls.count l j (omega arith) }

  nodes-same : SameNodes ns ns
  nodes-same = record { count = refl; stations = λ i h. refl }

  links-before : mixes ls form ≡ false → (i : ℕ) → i < ls.count → link_refusal_at ns ls i ≡ link_refusal_at ns (link_added ls form l) i
  unfolding link_refusal_at
  links-before m i h =
      ap (λ (f : ℕ). link_refusal false f ns (links_before ls i) (link_at ls i)) (unmixed ls form m (λ e. absurd (omega arith)))
      ∙ link-agree ns ns nodes-same _ _ (ends-before i (omega arith)) false form (link_at ls i)
      ∙ ap (link_refusal false form ns (links_before (link_added ls form l) i)) (link-before i h)

  links-grown : ls.count < length ls.items → mixes ls form ≡ false → first_refusal_below (link_refusal_at ns ls) ls.count ≡ 0 → link_refusal false form ns ls l ≡ 0
      → first_refusal_below (link_refusal_at ns (link_added ls form l)) (ls.count + 1) ≡ 0
  links-grown h m f e =
      refusal-more (link_refusal_at ns (link_added ls form l)) ls.count (sym (refusal-agree _ _ ls.count (links-before m)) ∙ f) last
    where
      last : link_refusal_at ns (link_added ls form l) ls.count ≡ 0
      last = unfold link_refusal_at in (ap (link_refusal false form ns (links_before (link_added ls form l) ls.count)) (link-there h) ∙ sym (link-agree ns ns nodes-same _ _ (ends-before ls.count (omega arith)) false form l) ∙ e)

-- the node of a body has zeros after its label
node-tidy : (b : List ℕ) → tidy_node (node_in b) ≡ node_in b
unfolding tidy_node node_in
node-tidy b =
    let n = length b - 3 in
    let e = row-agree 24 0 (element_at 0 (row 24 0 (bytes_from b 3) n)) (bytes_from b 3) n (λ i h. sym (row_at 24 0 (bytes_from b 3) n i h)) in
    λ i. record { station = station_in b 0; length = n; label = e i }

-- ---- what is held

record Neat (s : SoFar) : Type 0 where
  few_nodes : s.chart.nodes.count ≤ 16
  few_links : s.chart.links.count ≤ 48
  nodes : first_refusal_below (node_refusal_at s.chart.nodes) s.chart.nodes.count ≡ 0
  links : first_refusal_below (link_refusal_at s.chart.nodes s.chart.links) s.chart.links.count ≡ 0
  question : s.asked ≡ true → question_refusal false s.chart.nodes s.chart.from s.chart.to ≡ 0
  node_row : s.chart.nodes.items ≡ row 16 no_node (tidy_at s.chart.nodes) s.chart.nodes.count
  link_row : s.chart.links.items ≡ row 48 no_link (link_at s.chart.links) s.chart.links.count
  form : s.chart.links.form ≡ tidy_form s.chart.links

none_yet : Neat nothing
unfolding nothing no_chart first_refusal_below tidy_form
none_yet =
    record {
      few_nodes = omega arith;
      few_links = omega arith;
      nodes = refl;
      links = refl;
      question = λ e. absurd (true≢false (sym e));
      node_row = sym (row-none 16 no_node _);
      link_row = sym (row-none 48 no_link _);
      form = refl;
    }

node-neat : (s : SoFar) (b : List ℕ) → Neat s → node_refusal (node_late s) s.chart.nodes (node_in b) ≡ 0 → Neat (with_node s (node_in b))
unfolding with_node node_late
node-neat s b h z =
    let c = s.chart in
    let n = node_in b in
    let p = node-passed (node_late s) c.nodes n z in
    let q = or-neither-of s.asked (ltb 0 c.links.count) p.timely in
    let none : c.links.count ≡ 0 = omega (arith, ltb-false 0 c.links.count q.1) in
    let long : c.nodes.count < length c.nodes.items =
    omega (arith, p.room, ap length h.node_row, length-row 16 no_node (tidy_at c.nodes) c.nodes.count h.few_nodes) in
    record {
      few_nodes = omega (arith, p.room);
      few_links = h.few_links;
      nodes = nodes-grown c.nodes n long h.nodes (ap (λ (late : Bool). node_refusal late c.nodes n) (sym p.timely) ∙ z);
      links = ap (first_refusal_below (link_refusal_at (node_added c.nodes n) c.links)) none ∙ refusal-none _;
      question = λ e. absurd (true≢false (sym e ∙ q.0));
      node_row = row-grown 16 no_node c.nodes.items c.nodes.count n (tidy_at c.nodes) (tidy_at (node_added c.nodes n)) p.room h.node_row
          (tidy-before c.nodes n) (tidy-there c.nodes n long ∙ node-tidy b);
      link_row = h.link_row;
      form = h.form;
    }

link-neat : (s : SoFar) (form : ℕ) (l : Link) → Neat s → link_after s form l ≡ 0 → Neat (with_link s form l)
unfolding with_link link_after link_late tidy_form
link-neat s form l h z =
    let c = s.chart in
    let p = link-passed (link_late s form) form c.nodes c.links l z in
    let q = or-neither-of s.asked (mixes c.links form) p.timely in
    let long : c.links.count < length c.links.items =
    omega (arith, p.room, ap length h.link_row, length-row 48 no_link (link_at c.links) c.links.count h.few_links) in
    record {
      few_nodes = h.few_nodes;
      few_links = omega (arith, p.room);
      nodes = h.nodes;
      links = links-grown c.nodes c.links form l long q.1 h.links (ap (λ (late : Bool). link_refusal late form c.nodes c.links l) (sym p.timely) ∙ z);
      question = λ e. absurd (true≢false (sym e ∙ q.0));
      node_row = h.node_row;
      link_row = row-grown 48 no_link c.links.items c.links.count l (link_at c.links) (link_at (link_added c.links form l)) p.room h.link_row
          (link-before c.nodes c.links form l) (link-there c.nodes c.links form l long);
      form = rw (ne_eqb (c.links.count + 1) 0 (λ e. omega arith));
    }

question-neat : (s : SoFar) (from to : Station) → Neat s → question_refusal s.asked s.chart.nodes from to ≡ 0 → Neat (with_question s from to)
unfolding with_question
question-neat s from to h z =
    let p = question-passed s.asked s.chart.nodes from to z in
    record {
      few_nodes = h.few_nodes;
      few_links = h.few_links;
      nodes = h.nodes;
      links = h.links;
      question = λ e. ap (λ (late : Bool). question_refusal late s.chart.nodes from to) (sym p.timely) ∙ z;
      node_row = h.node_row;
      link_row = h.link_row;
      form = h.form;
    }

body-neat : (s : SoFar) (tag : ℕ) (b : List ℕ) → Neat s → body_refusal (refusing s) tag b ≡ 0 → Neat (with_body s tag b)
unfolding refusing
body-neat s tag b h z = by (eqb tag 1) (is_form tag) refl refl
  where
    by : (x y : Bool) → eqb tag 1 ≡ x → is_form tag ≡ y → Neat (with_body s tag b)
    by true y e f = subst Neat (sym (with-node s tag b e)) (node-neat s b h (node-bounds (refusing s).node b (node-zero (refusing s) tag b z e)).2)
    by false true e f = subst Neat (sym (with-link s tag b f)) (link-neat s tag (link_in b) h (link-bounds tag ((refusing s).link tag) b (link-zero (refusing s) tag b z f)).2)
    by false false e f =
        subst Neat (sym (with-question s tag b e f))
        (question-neat s (station_in b 0) (station_in b 3) h (question-bounds (refusing s).question b (question-zero (refusing s) tag b z e f)).1)

-- ---- the chart at the end

pub record WasRead (c : Chart) : Type 0 where
  pub accepted : chart_refusal c ≡ 0
  pub tidied : tidy c ≡ c

neat-read : (s : SoFar) → Neat s → s.asked ≡ true → WasRead s.chart
unfolding chart_refusal chart_values_refusal tidy
neat-read s h a =
    let c = s.chart in
    record {
      accepted = rw (le-ltb 16 c.nodes.count h.few_nodes, le-ltb 48 c.links.count h.few_links, h.nodes, h.links) (h.question a);
      tidied = λ i. record {
        nodes = record { count = c.nodes.count; items = sym h.node_row i };
        links = record { count = c.links.count; form = sym h.form i; items = sym h.link_row i };
        from = c.from;
        to = c.to;
      };
    }

abbrev ends_by : SoFar → ℕ → Bool → ChartRead
ends_by s long t = cond {A = ChartRead} t (record { refusal = 0; place = 0; chart = s.chart }) (refused_at 31 long)

end_read : (s : SoFar) (long : ℕ) → Neat s → (at_end s long).refusal ≡ 0 → WasRead (at_end s long).chart
end_read s long h = by s.asked refl
  where
    by : (t : Bool) → s.asked ≡ t → (ends_by s long t).refusal ≡ 0 → WasRead (ends_by s long t).chart
    by true e z = neat-read s h e
    by false e z = absurd (omega arith)

walk-read : (bytes : List ℕ) (k : ℕ) (s : SoFar) (at : ℕ) → Neat s → (walk k s bytes at).refusal ≡ 0 → WasRead (walk k s bytes at).chart
unfolding walk
walk-read bytes zero s at h = end_read s (length bytes) h
walk-read bytes (suc k) s at h = by (λ t a g. walk-read bytes k t a g) (leb (length bytes) at)
  where
    Onward : Type 0
    Onward = (t : SoFar) (a : ℕ) → Neat t → (walk k t bytes a).refusal ≡ 0 → WasRead (walk k t bytes a).chart

    next : ChartRead
    next = walk k (held_past s bytes at) bytes (past_field bytes at)

    on : Onward → (n : ℕ) → field_refusal (refusing s) bytes at ≡ n → (onward n at next).refusal ≡ 0 → WasRead (onward n at next).chart
    on go zero e z = go (held_past s bytes at) (past_field bytes at) (body-neat s (tag_at bytes at) (body_at bytes at) h (body-zero (refusing s) bytes at e)) z
    on go (suc n) e z = absurd (omega arith)

    by : Onward → (t : Bool) → (cond {A = ChartRead} t (at_end s (length bytes)) (onward (field_refusal (refusing s) bytes at) at next)).refusal ≡ 0
        → WasRead (cond {A = ChartRead} t (at_end s (length bytes)) (onward (field_refusal (refusing s) bytes at) at next)).chart
    by go true = end_read s (length bytes) h
    by go false = on go (field_refusal (refusing s) bytes at) refl

pub was_read : (bytes : List ℕ) → (read_chart_of bytes).refusal ≡ 0 → WasRead (read_chart_of bytes).chart
unfolding read_chart_of
was_read bytes = walk-read bytes (length bytes) nothing 0 none_yet
