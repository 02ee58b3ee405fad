-- Reading undoes writing: the fields of a chart are read one after the other, and what is then held is the chart's first nodes and links.
use Prim.Native.Nat.{ℕ, zero, suc, ◌+◌, ◌-◌, ◌<◌, ◌≤◌}
use mathlib.Core.Path.{◌≡◌, refl, sym, ap, ap₂, subst, ◌∙◌}
use mathlib.Core.List.{List, [], ◌∷◌, ◌++◌, append_assoc}
use mathlib.Core.Bool.{Bool, true, false, cond}
use native.Mathlib.Nat.{div-add-mod'}
use native.Mathlib.Numerals.{add-one}
use native.Mathlib.Omega.{arith}
use lib.ListN.{length, get_or}
use lib.Seq.{get_or-append-add}
use lib.Dec.{ltb, eqb}
use borrow.Author.Tests.{lt-ltb, le-ltb, ltb-true, ltb-false, eq-eqb}
use Rattle.lists.specs.Places.{element_at, firsts, row, joined}
use Rattle.lists.specs.Refusals.{refuse}
use Rattle.lists.specs.Chains.{first_refusal_below}
use Rattle.lists.proofs.Places.{firsts_at, row-agree, joined-next}
use Rattle.lists.proofs.Refusals.{or-pass}
use Rattle.lists.proofs.Chains.{FirstBad}
use Rattle.lists.proofs.Runs.{joined-at-place}
use Rattle.address.specs.declared.Station.{Station}
use Rattle.address_bytes.specs.Wide.{station_bytes, station_in}
use Rattle.chart.specs.declared.ChartNode.{ChartNode}
use Rattle.chart.specs.declared.Link.{Link}
use Rattle.chart.specs.declared.Nodes.{Nodes}
use Rattle.chart.specs.Refusals.{node_refusal_by, node_refusal}
use Rattle.chart_read.specs.Fields.{link_length, tagged, past_field, bytes_from, node_in, link_in}
use Rattle.chart_read.specs.Reading.{SoFar, with_body, refusing, node_body_refusal, link_body_refusal, question_body_refusal, body_refusal, field_refusal, refused_at, read_chart_of}
use Rattle.chart_read.proofs.Fields.{refusal-there, held-there, begins-there, past-there}
use Rattle.chart_read.proofs.Walking.{held_past, Reaches, reach-next, reach-refused}
use Rattle.chart_write.specs.Writing.{node_body, on_byte, direction_bytes, link_body, question_body, tidy_node}
use Rattle.chart_write.proofs.Laws.{length-node-body, length-link-body, length-question-body}
use Rattle.chart_write.proofs.Forms.{Said}
use Rattle.chart_write.proofs.Agree.{tidy-refusal}

-- ---- each body, read back

station-back : (s : Station) (rest : List ℕ) → station_in (station_bytes s ++ rest) 0 ≡ s
station-back s rest = ap (λ (k : ℕ). record { brigade = s.brigade; node = record { 0 = k } }) (div-add-mod' s.node.0 256)

label-back : (n : ChartNode) (i : ℕ) → i < n.length → bytes_from (node_body n) 3 i ≡ element_at 0 n.label i
unfolding bytes_from node_body
label-back n i h =
    get_or-append-add (station_bytes n.station) (firsts (element_at 0 n.label) n.length) i 0
    ∙ firsts_at (element_at 0 n.label) n.length i 0 h

pub node-back : (n : ChartNode) → node_in (node_body n) ≡ tidy_node n
unfolding node_in tidy_node
node-back n =
    let k : length (node_body n) - 3 ≡ n.length = omega (arith, length-node-body n) in
    let s : station_in (node_body n) 0 ≡ n.station = unfold node_body in station-back n.station (firsts (element_at 0 n.label) n.length) in
    let r : row 24 0 (bytes_from (node_body n) 3) (length (node_body n) - 3) ≡ row 24 0 (element_at 0 n.label) n.length =
    ap (row 24 0 (bytes_from (node_body n) 3)) k ∙ row-agree 24 0 (bytes_from (node_body n) 3) (element_at 0 n.label) n.length (label-back n) in
    λ i. record { station = s i; length = k i; label = r i }

-- a label of more than 24 bytes is refused by the length of its field, as by its own number
pub node-refusal-back : (late : Bool) (ns : Nodes) (n : ChartNode) → node_body_refusal (node_refusal late ns) (node_body n) ≡ node_refusal late ns n
unfolding node_body_refusal
node-refusal-back late ns n =
    rw (le-ltb (length (node_body n)) 3 (omega (arith, length-node-body n)))
    (by (ltb 24 n.length) refl (ap (node_refusal late ns) (node-back n) ∙ tidy-refusal late ns n))
  where
    by : (b : Bool) → ltb 24 n.length ≡ b → node_refusal late ns (node_in (node_body n)) ≡ node_refusal late ns n
        → refuse 23 (ltb 27 (length (node_body n))) (node_refusal late ns (node_in (node_body n))) ≡ node_refusal late ns n
    by true h e =
        let l : 24 < n.length = ltb-true 24 n.length h in
        rw (lt-ltb 27 (length (node_body n)) (omega (arith, length-node-body n))) (unfold node_refusal node_refusal_by in rw h refl)
    by false h e =
        let l : n.length ≤ 24 = ltb-false 24 n.length h in
        rw (le-ltb 27 (length (node_body n)) (omega (arith, length-node-body n))) e

on-back : (on : Bool) → eqb (on_byte on) 1 ≡ on
on-back true = refl
on-back false = refl

on-small : (on : Bool) → ltb 1 (on_byte on) ≡ false
on-small true = refl
on-small false = refl

way_back : (d : Bool) (way : ℕ) → (d ≡ false → way ≡ 0) → get_or (cond d (way ∷ []) []) 0 0 ≡ way
way_back true way h = refl
way_back false way h = sym (h refl)

pub link-back : (form : ℕ) (l : Link) → Said form l → link_in (link_body form l) ≡ l
unfolding link_in link_body direction_bytes
link-back form l s =
    let a = div-add-mod' l.a.node.0 256 in
    let b = div-add-mod' l.b.node.0 256 in
    λ i. record {
      a = record { brigade = l.a.brigade; node = record { 0 = a i }; port = l.a.port };
      b = record { brigade = l.b.brigade; node = record { 0 = b i }; port = l.b.port };
      on = on-back l.on i;
      direction = way_back (eqb form 4) l.direction s.ways i;
    }

pub link-refusal-back : (form : ℕ) (refusal : Link → ℕ) (l : Link) → Said form l → link_body_refusal form refusal (link_body form l) ≡ refusal l
unfolding link_body_refusal
link-refusal-back form refusal l s =
    let e : get_or (link_body form l) 8 0 ≡ on_byte l.on = unfold link_body in refl in
    rw (length-link-body l form, eq-eqb (link_length form) (link_length form) refl, e, on-small l.on) (ap refusal (link-back form l s))

pub question-back : (from to : Station) → (station_in (question_body from to) 0 ≡ from) × (station_in (question_body from to) 3 ≡ to)
unfolding question_body
question-back from to = (station-back from (station_bytes to), station-back to [])

pub question-refusal-back : (refusal : Station → Station → ℕ) (from to : Station) → question_body_refusal refusal (question_body from to) ≡ refusal from to
unfolding question_body_refusal
question-refusal-back refusal from to =
    let q = question-back from to in
    rw (length-question-body from to) (ap₂ refusal q.0 q.1)

-- ---- a run of fields, one after the other

module _ {A : Type 0} (tag : ℕ) (body : A → List ℕ) (field : A → List ℕ) (is : (x : A) → field x ≡ tagged tag (body x))
    (d : ℕ → A) (n : ℕ) (S : ℕ → SoFar) (num : ℕ → ℕ) (pre post : List ℕ)
    (refusal : (i : ℕ) → i < n → body_refusal (refusing (S i)) tag (body (d i)) ≡ num i)
    (held : (i : ℕ) → i < n → with_body (S i) tag (body (d i)) ≡ S (i + 1)) where
  abbrev input : List ℕ
  input = pre ++ (joined field d n ++ post)

  abbrev pub place_of : ℕ → ℕ
  place_of i = length (pre ++ joined field d i)

  -- the input around the field at place i
  around : (i : ℕ) → i < n → (rest : List ℕ) × (input ≡ (pre ++ joined field d i) ++ (tagged tag (body (d i)) ++ rest))
  around i h =
      let r = joined-at-place field d n i h in
      let F = joined field d i in (
        r.0 ++ post,
        ap (λ (x : List ℕ). pre ++ (x ++ post)) r.1
            ∙ ap (λ (x : List ℕ). pre ++ x) (append_assoc F (field (d i) ++ r.0) post ∙ ap (λ (x : List ℕ). F ++ x) (append_assoc (field (d i)) r.0 post))
            ∙ sym (append_assoc pre F (field (d i) ++ (r.0 ++ post)))
            ∙ ap (λ (x : List ℕ). (pre ++ F) ++ (x ++ (r.0 ++ post))) (is (d i)),
      )

  refusal-here : (i : ℕ) → i < n → field_refusal (refusing (S i)) input (place_of i) ≡ num i
  refusal-here i h =
      let a = around i h in
      ap (λ (b : List ℕ). field_refusal (refusing (S i)) b (place_of i)) a.1
      ∙ refusal-there (pre ++ joined field d i) tag (body (d i)) a.0 (refusing (S i))
      ∙ refusal i h

  held-here : (i : ℕ) → i < n → held_past (S i) input (place_of i) ≡ S (i + 1)
  held-here i h =
      let a = around i h in
      ap (λ (b : List ℕ). held_past (S i) b (place_of i)) a.1 ∙ held-there (pre ++ joined field d i) tag (body (d i)) a.0 (S i) ∙ held i h

  begins-here : (i : ℕ) → i < n → place_of i < length input
  begins-here i h =
      let a = around i h in
      subst (λ (b : List ℕ). place_of i < length b) (sym a.1) (begins-there (pre ++ joined field d i) tag (body (d i)) a.0)

  past-here : (i : ℕ) → i < n → past_field input (place_of i) ≡ place_of (i + 1)
  past-here i h =
      let a = around i h in
      ap (λ (b : List ℕ). past_field b (place_of i)) a.1
      ∙ past-there (pre ++ joined field d i) tag (body (d i)) a.0
      ∙ ap length (ap (λ (x : List ℕ). (pre ++ joined field d i) ++ x) (sym (is (d i))) ∙ append_assoc pre (joined field d i) (field (d i)) ∙ ap (λ (x : List ℕ). pre ++ x) (sym (joined-next field d i)))

  -- all before place i are taken
  pub run-reaches : Reaches input (S 0) (place_of 0) → (i : ℕ) → i ≤ n → first_refusal_below num i ≡ 0 → Reaches input (S i) (place_of i)
  run-reaches r zero h z = r
  run-reaches r (suc i) h z =
      let p : (first_refusal_below num i ≡ 0) × (num i ≡ 0) = unfold first_refusal_below in or-pass (first_refusal_below num i) (num i) z in
      let l : i < n = omega arith in
      let g = reach-next input (S i) (place_of i) (begins-here i l) (run-reaches r i (omega arith) p.0) (refusal-here i l ∙ p.1) in
      subst (λ (t : SoFar). Reaches input t (place_of (suc i))) (held-here i l ∙ ap S (add-one i))
      (subst (λ (a : ℕ). Reaches input (held_past (S i) input (place_of i)) a) (past-here i l ∙ ap place_of (add-one i)) g)

  -- the first bad one decides
  pub run-refused : Reaches input (S 0) (place_of 0) → (b : FirstBad num n) → read_chart_of input ≡ refused_at (first_refusal_below num n) (place_of b.place)
  run-refused r b =
      let i = b.place in
      let l = b.below in
      let k = refusal-here i l in
      sym (ap (λ (m : ℕ). refused_at m (place_of i)) (b.same ∙ sym k)
      ∙ reach-refused input (S i) (place_of i) (begins-here i l) (run-reaches r i (omega (arith, l)) b.before) (λ z. b.bad (sym k ∙ z)))
