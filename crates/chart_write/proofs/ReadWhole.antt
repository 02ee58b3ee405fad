-- Reading undoes writing, of a whole chart: its nodes, its links and its question are three runs, and the number is that of the first bad value.
use Prim.Native.Nat.{ℕ, zero, suc, ◌+◌, ◌<◌, ◌≤◌}
use mathlib.Core.Path.{◌≡◌, refl, sym, ap, ap₂, subst, ◌∙◌}
use mathlib.Core.List.{List, [], ◌++◌, append_assoc, append-nil}
use mathlib.Core.Bool.{Bool, true, false}
use native.Mathlib.Nat.{le_refl}
use native.Mathlib.Omega.{arith}
use lib.ListN.{length, set, length-append}
use borrow.Author.Tests.{eq-eqb, ne_eqb, lt-ltb}
use Rattle.lists.specs.Places.{element_at, row, joined}
use Rattle.lists.specs.Refusals.{or_else}
use Rattle.lists.specs.Chains.{first_refusal_below}
use Rattle.lists.proofs.Places.{row_at, row-none, row_next, joined-none}
use Rattle.lists.proofs.Chains.{first-bad}
use Rattle.chart.specs.declared.ChartNode.{ChartNode}
use Rattle.chart.specs.declared.Nodes.{Nodes}
use Rattle.chart.specs.declared.Links.{Links}
use Rattle.chart.specs.declared.Chart.{Chart}
use Rattle.chart.specs.Values.{no_station, no_node, no_link, no_links, no_chart, node_at, link_at}
use Rattle.chart.specs.Refusals.{link_refusal, question_refusal}
use Rattle.chart_read.specs.Fields.{is_form}
use Rattle.chart_read.specs.Reading.{ChartRead, SoFar, nothing, with_node, with_link, with_question, with_body, node_late, mixes, link_late, link_after, refusing, body_refusal, refused_at, read_chart_of}
use Rattle.chart_read.proofs.Laws.{link-number, with-link}
use Rattle.chart_read.proofs.Walking.{Reaches, reach-start, reach-end}
use Rattle.chart_refuse.specs.Refusal.{nodes_before, links_before, node_refusal_at, link_refusal_at, chart_values_refusal}
use Rattle.chart_write.specs.Writing.{node_body, link_body, question_body, node_field, link_field, question_field, chart_bytes, tidy_node, tidy_at, tidy_form, tidy}
use Rattle.chart_write.proofs.Forms.{Said, AllSaid}
use Rattle.chart_write.proofs.Agree.{SameNodes, SameLinks, node-agree, link-agree, question-agree}
use Rattle.chart_write.proofs.ReadBack.{node-back, link-back, question-back, node-refusal-back, link-refusal-back, question-refusal-back, run-reaches, run-refused}

-- what is held after the first i nodes, and after all nodes and the first i links
unfoldable held_nodes : Nodes → ℕ → SoFar
held_nodes ns i =
    record {
      chart = record {
        nodes = record { count = i; items = row 16 no_node (tidy_at ns) i };
        links = no_links;
        from = no_station;
        to = no_station;
      };
      asked = false;
    }

abbrev links_held : Links → ℕ → Links
links_held ls i = record { count = i; form = tidy_form (links_before ls i); items = row 48 no_link (link_at ls) i }

unfoldable held_links : Chart → ℕ → SoFar
held_links c i =
    record {
      chart = record {
        nodes = record { count = c.nodes.count; items = row 16 no_node (tidy_at c.nodes) c.nodes.count };
        links = links_held c.links i;
        from = no_station;
        to = no_station;
      };
      asked = false;
    }

-- before and after the question
unfoldable held_all : Chart → ℕ → SoFar
held_all c zero = held_links c c.links.count
held_all c (suc i) = record { chart = tidy c; asked = true }

nodes-start : (ns : Nodes) → nothing ≡ held_nodes ns 0
unfolding nothing no_chart held_nodes
nodes-start ns = λ j.
    record {
      chart = record {
        nodes = record { count = 0; items = sym (row-none 16 no_node (tidy_at ns)) j };
        links = no_links;
        from = no_station;
        to = no_station;
      };
      asked = false;
    }

links-start : (c : Chart) → held_nodes c.nodes c.nodes.count ≡ held_links c 0
unfolding held_nodes held_links tidy_form
links-start c = λ j.
    record {
      chart = record {
        nodes = record { count = c.nodes.count; items = row 16 no_node (tidy_at c.nodes) c.nodes.count };
        links = record { count = 0; form = 2; items = sym (row-none 48 no_link (link_at c.links)) j };
        from = no_station;
        to = no_station;
      };
      asked = false;
    }

nodes-next : (ns : Nodes) (i : ℕ) → i < 16 → with_node (held_nodes ns i) (tidy_node (node_at ns i)) ≡ held_nodes ns (i + 1)
unfolding with_node held_nodes
nodes-next ns i h =
    let e : set (row 16 no_node (tidy_at ns) i) i (tidy_node (node_at ns i)) ≡ row 16 no_node (tidy_at ns) (i + 1) = unfold tidy_at in row_next 16 no_node (tidy_at ns) i h in
    λ j.
    record {
      chart = record {
        nodes = record { count = i + 1; items = e j };
        links = no_links;
        from = no_station;
        to = no_station;
      };
      asked = false;
    }

-- the form of the links that are held: the chart's after the first of them
form-next : (ls : Links) (i : ℕ) → ls.form ≡ tidy_form (links_before ls (i + 1))
unfolding tidy_form
form-next ls i = rw (ne_eqb (i + 1) 0 (λ e. omega arith))

links-next : (c : Chart) (i : ℕ) → i < 48 → with_link (held_links c i) c.links.form (link_at c.links i) ≡ held_links c (i + 1)
unfolding with_link held_links
links-next c i h = λ j.
    record {
      chart = record {
        nodes = record { count = c.nodes.count; items = row 16 no_node (tidy_at c.nodes) c.nodes.count };
        links = record { count = i + 1; form = form-next c.links i j; items = row_next 48 no_link (link_at c.links) i h j };
        from = no_station;
        to = no_station;
      };
      asked = false;
    }

-- the nodes that are held have the chart's stations, the links are the chart's
same_nodes : (ns : Nodes) (i : ℕ) → SameNodes (record { count = i; items = row 16 no_node (tidy_at ns) i }) (nodes_before ns i)
unfolding node_at tidy_at tidy_node element_at
same_nodes ns i = record { count = refl; stations = λ j h. ap (λ (n : ChartNode). n.station) (sym (row_at 16 no_node (tidy_at ns) i j h)) }

same-links : (ls : Links) (i : ℕ) → SameLinks (links_held ls i) (links_before ls i)
unfolding link_at element_at
same-links ls i = record { count = refl; links = λ j h. sym (row_at 48 no_link (link_at ls) i j h) }

-- ---- the numbers of the three runs, and what is then held

node-refusal : (ns : Nodes) (i : ℕ) → body_refusal (refusing (held_nodes ns i)) 1 (node_body (node_at ns i)) ≡ node_refusal_at ns i
unfolding body_refusal refusing held_nodes node_late node_refusal_at
node-refusal ns i = node-refusal-back false _ (node_at ns i) ∙ node-agree _ _ (same_nodes ns i) false (node_at ns i)

node-held : (ns : Nodes) (i : ℕ) → i < 16 → with_body (held_nodes ns i) 1 (node_body (node_at ns i)) ≡ held_nodes ns (i + 1)
unfolding with_body
node-held ns i h = ap (with_node (held_nodes ns i)) (node-back (node_at ns i)) ∙ nodes-next ns i h

-- no link comes too late
none-mixed : (ls : Links) (i : ℕ) → mixes (links_held ls i) ls.form ≡ false
unfolding mixes tidy_form
none-mixed ls zero = refl
none-mixed ls (suc i) = rw (ne_eqb (suc i) 0 (λ e. omega arith), eq-eqb ls.form ls.form refl, lt-ltb 0 (suc i) (omega arith))

link-timely : (c : Chart) (i : ℕ) → link_late (held_links c i) c.links.form ≡ false
unfolding link_late held_links
link-timely c i = none-mixed c.links i

link-refusal : (c : Chart) (i : ℕ) → Said c.links.form (link_at c.links i)
    → body_refusal (refusing (held_links c i)) c.links.form (link_body c.links.form (link_at c.links i)) ≡ link_refusal_at c.nodes c.links i
unfolding refusing link_after link_refusal_at
link-refusal c i s =
    let form = c.links.form in
    let l = link_at c.links i in
    sym (link-number (refusing (held_links c i)) form (link_body form l) s.known)
    ∙ link-refusal-back form ((refusing (held_links c i)).link form) l s
    ∙ ap (λ (late : Bool). link_refusal late form (held_links c i).chart.nodes (held_links c i).chart.links l) (link-timely c i)
    ∙ (unfold held_links in link-agree _ _ (same_nodes c.nodes c.nodes.count) _ _ (same-links c.links i) false form l)

link-held : (c : Chart) (i : ℕ) → i < 48 → Said c.links.form (link_at c.links i)
    → with_body (held_links c i) c.links.form (link_body c.links.form (link_at c.links i)) ≡ held_links c (i + 1)
link-held c i h s =
    let form = c.links.form in
    with-link (held_links c i) form _ s.known ∙ ap (with_link (held_links c i) form) (link-back form (link_at c.links i) s) ∙ links-next c i h

question-refusal : (c : Chart) → body_refusal (refusing (held_links c c.links.count)) 3 (question_body c.from c.to) ≡ question_refusal false c.nodes c.from c.to
unfolding is_form body_refusal refusing held_links
question-refusal c =
    question-refusal-back _ c.from c.to
    ∙ question-agree _ _ (same_nodes c.nodes c.nodes.count) false c.from c.to

question-held : (c : Chart) → with_body (held_links c c.links.count) 3 (question_body c.from c.to) ≡ record { chart = tidy c; asked = true }
unfolding is_form with_body
question-held c =
    let q = question-back c.from c.to in
    ap₂ (with_question (held_links c c.links.count)) q.0 q.1 ∙ (unfold with_question held_links tidy in refl)

-- ---- the whole chart

module _ (c : Chart) (few_nodes : c.nodes.count ≤ 16) (few_links : c.links.count ≤ 48) (said : AllSaid c.links) where
  abbrev N : List ℕ
  N = joined node_field (node_at c.nodes) c.nodes.count

  abbrev L : List ℕ
  L = joined (link_field c.links.form) (link_at c.links) c.links.count

  abbrev Q : List ℕ
  Q = question_field c.from c.to

  abbrev node_num : ℕ → ℕ
  node_num = node_refusal_at c.nodes

  abbrev link_num : ℕ → ℕ
  link_num = link_refusal_at c.nodes c.links

  abbrev question_num : ℕ → ℕ
  question_num i = question_refusal false c.nodes c.from c.to

  -- the question as a run of one
  question-field : Chart → List ℕ
  question-field x = question_field x.from x.to

  -- how a reading ends: at some place with this number, or with the chart
  abbrev Ends : ℕ → Type 0
  Ends k = ((read_chart_of (chart_bytes c)).refusal ≡ k) × (k ≡ 0 → read_chart_of (chart_bytes c) ≡ record { refusal = 0; place = 0; chart = tidy c })

  refused-ends : (k place : ℕ) → (k ≡ 0 → ⊥) → read_chart_of (chart_bytes c) ≡ refused_at k place → Ends k
  refused-ends k place h e = (ap (λ (r : ChartRead). r.refusal) e, λ z. absurd (h z))

  nodes-reached : Reaches (chart_bytes c) (held_nodes c.nodes 0) (length (joined node_field (node_at c.nodes) 0))
  nodes-reached =
      subst (λ (s : SoFar). Reaches (chart_bytes c) s (length (joined node_field (node_at c.nodes) 0))) (nodes-start c.nodes)
      (subst (λ (l : List ℕ). Reaches (chart_bytes c) nothing (length l)) (sym (joined-none node_field (node_at c.nodes))) (reach-start (chart_bytes c)))

  links-reached : first_refusal_below node_num c.nodes.count ≡ 0 → Reaches (chart_bytes c) (held_links c 0) (length (N ++ joined (link_field c.links.form) (link_at c.links) 0))
  unfolding chart_bytes node_field
  links-reached z =
      subst (λ (s : SoFar). Reaches (chart_bytes c) s (length (N ++ joined (link_field c.links.form) (link_at c.links) 0))) (links-start c)
      (subst (λ (l : List ℕ). Reaches (chart_bytes c) (held_nodes c.nodes c.nodes.count) (length l))
      (sym (append-nil N) ∙ ap (λ (l : List ℕ). N ++ l) (sym (joined-none (link_field c.links.form) (link_at c.links))))
      (run-reaches 1 node_body node_field (λ x. refl) (node_at c.nodes) c.nodes.count (held_nodes c.nodes) node_num [] (L ++ Q)
      (λ i h. node-refusal c.nodes i) (λ i h. node-held c.nodes i (omega arith)) nodes-reached c.nodes.count (le_refl c.nodes.count) z))

  question-input : chart_bytes c ≡ (N ++ L) ++ (joined question-field (λ i. c) 1 ++ [])
  unfolding chart_bytes question-field joined
  question-input = sym (append_assoc N L Q) ∙ ap (λ (x : List ℕ). (N ++ L) ++ x) (sym (append-nil Q))

  question-reached : first_refusal_below node_num c.nodes.count ≡ 0 → first_refusal_below link_num c.links.count ≡ 0
      → Reaches (chart_bytes c) (held_all c 0) (length ((N ++ L) ++ joined question-field (λ i. c) 0))
  unfolding chart_bytes link_field held_all
  question-reached z y =
      subst (λ (l : List ℕ). Reaches (chart_bytes c) (held_links c c.links.count) (length l))
      (sym (append-nil (N ++ L)) ∙ ap (λ (l : List ℕ). (N ++ L) ++ l) (sym (joined-none question-field (λ i. c))))
      (run-reaches c.links.form (link_body c.links.form) (link_field c.links.form) (λ x. refl) (link_at c.links) c.links.count (held_links c) link_num N Q
      (λ i h. link-refusal c i (said i h)) (λ i h. link-held c i (omega arith) (said i h)) (links-reached z) c.links.count (le_refl c.links.count) y)

  one-refusal : (i : ℕ) → i < 1 → body_refusal (refusing (held_all c i)) 3 (question_body c.from c.to) ≡ question_num i
  unfolding held_all
  one-refusal zero h = question-refusal c
  one-refusal (suc i) h = absurd (omega arith)

  one-held : (i : ℕ) → i < 1 → with_body (held_all c i) 3 (question_body c.from c.to) ≡ held_all c (i + 1)
  unfolding held_all
  one-held zero h = question-held c
  one-held (suc i) h = absurd (omega arith)

  -- the three runs in order
  nodes-end : (first_refusal_below node_num c.nodes.count ≡ 0 → ⊥) → Ends (first_refusal_below node_num c.nodes.count)
  unfolding chart_bytes node_field
  nodes-end h =
      let b = first-bad node_num c.nodes.count h in
      refused-ends _ _ h
      (run-refused 1 node_body node_field (λ x. refl) (node_at c.nodes) c.nodes.count (held_nodes c.nodes) node_num [] (L ++ Q)
      (λ i l. node-refusal c.nodes i) (λ i l. node-held c.nodes i (omega arith)) nodes-reached b)

  links_end : first_refusal_below node_num c.nodes.count ≡ 0 → (first_refusal_below link_num c.links.count ≡ 0 → ⊥) → Ends (first_refusal_below link_num c.links.count)
  unfolding chart_bytes link_field
  links_end z h =
      let b = first-bad link_num c.links.count h in
      refused-ends _ _ h
      (run-refused c.links.form (link_body c.links.form) (link_field c.links.form) (λ x. refl) (link_at c.links) c.links.count (held_links c) link_num N Q
      (λ i l. link-refusal c i (said i l)) (λ i l. link-held c i (omega arith) (said i l)) (links-reached z) b)

  question-end : first_refusal_below node_num c.nodes.count ≡ 0 → first_refusal_below link_num c.links.count ≡ 0 → (k : ℕ) → question_num 0 ≡ k → Ends k
  unfolding question_field question-field
  question-end z y (suc k) e =
      let first : first_refusal_below question_num 1 ≡ suc k = unfold first_refusal_below in e in
      let bad : first_refusal_below question_num 1 ≡ 0 → ⊥ = λ x. absurd (let w : suc k ≡ 0 = sym first ∙ x in omega arith) in
      let b = first-bad question_num 1 bad in
      let input = question-input in
      subst Ends first
      (refused-ends (first_refusal_below question_num 1) _ bad
      (ap read_chart_of input
      ∙ run-refused 3 (λ (x : Chart). question_body x.from x.to) question-field (λ x. refl) (λ i. c) 1 (held_all c) question_num (N ++ L) []
      one-refusal one-held (subst (λ (l : List ℕ). Reaches l (held_all c 0) (length ((N ++ L) ++ joined question-field (λ i. c) 0))) input (question-reached z y)) b))
  question-end z y zero e =
      let input = question-input in
      let first : first_refusal_below question_num 1 ≡ 0 = unfold first_refusal_below in e in
      let r = run-reaches 3 (λ (x : Chart). question_body x.from x.to) question-field (λ x. refl) (λ i. c) 1 (held_all c) question_num (N ++ L) []
      one-refusal one-held (subst (λ (l : List ℕ). Reaches l (held_all c 0) (length ((N ++ L) ++ joined question-field (λ i. c) 0))) input (question-reached z y)) 1 (le_refl 1) first in
      let end : read_chart_of (chart_bytes c) ≡ record { refusal = 0; place = 0; chart = tidy c } =
      ap read_chart_of input ∙ sym (reach-end _ _ _ (omega (arith, length-append (N ++ L) (joined question-field (λ i. c) 1 ++ []), ap length (append-nil (joined question-field (λ i. c) 1)), length-append (N ++ L) (joined question-field (λ i. c) 1))) r)
      ∙ (unfold held_all in refl) in
      (ap (λ (x : ChartRead). x.refusal) end, λ w. end)

  -- the reader's number on the chart's bytes is the chart's own; where that is 0, the chart is read back
  pub read-written : Ends (chart_values_refusal c)
  unfolding chart_values_refusal
  read-written = by (first_refusal_below node_num c.nodes.count) refl (first_refusal_below link_num c.links.count) refl
    where
      by : (a : ℕ) → first_refusal_below node_num c.nodes.count ≡ a → (b : ℕ) → first_refusal_below link_num c.links.count ≡ b → Ends (or_else a (or_else b (question_num 0)))
      by (suc a) e b f = subst Ends e (nodes-end (λ z. absurd (let w : suc a ≡ 0 = sym e ∙ z in omega arith)))
      by zero e (suc b) f = subst Ends f (links_end e (λ z. absurd (let w : suc b ≡ 0 = sym f ∙ z in omega arith)))
      by zero e zero f = question-end e f (question_num 0) refl
