-- Writing undoes reading: at each place of an input the bytes before it are those of what is held, so that at the end they are the chart's.
use Prim.Native.Nat.{ℕ, suc, zero, ◌+◌, ◌-◌, ◌*◌, ◌<◌, ◌≤◌}
use mathlib.Core.Path.{◌≡◌, refl, sym, ap, ap₂, subst, subst₂, ◌∙◌}
use mathlib.Core.List.{List, [], ◌∷◌, ◌++◌, append_assoc, append-nil}
use mathlib.Core.Bool.{Bool, true, false, cond}
use native.Mathlib.Decide.{dec_lt}
use native.Mathlib.Omega.{arith}
use lib.ListN.{length, take, drop, get_or, set, length-set, length-drop, length-append, drop_of_length-le}
use lib.Seq.{take_all, get_or-set_same, get_or-set_other, drop-cons, length-take-le}
use lib.Dec.{ltb, leb, eqb}
use borrow.Author.Tests.{ltb-false, leb-true, leb-false, eqb-true}
use Rattle.buffer.specs.Bytes.{Bytes}
use Rattle.lists.specs.Places.{element_at, firsts, row, joined}
use Rattle.lists.proofs.Bools.{or-neither-of}
use Rattle.lists.proofs.Places.{firsts-agree, row_at, joined-none}
use Rattle.lists.proofs.Runs.{joined-set}
use Rattle.address.specs.declared.Station.{Station}
use Rattle.address_bytes.specs.Wide.{station_in}
use Rattle.chart.specs.declared.ChartNode.{ChartNode}
use Rattle.chart.specs.declared.Link.{Link}
use Rattle.chart.specs.declared.Chart.{Chart}
use Rattle.chart.specs.Values.{no_chart, no_node, no_link, node_at, link_at}
use Rattle.chart.specs.Refusals.{node_refusal, question_refusal}
use Rattle.chart.proofs.Laws.{node-passed, link-passed, question-passed}
use Rattle.chart_read.specs.Fields.{is_form, plain_length, directed_length, link_length, question_length, tagged, tag_at, body_at, past_field, bytes_from, node_in, link_in}
use Rattle.chart_read.specs.Reading.{ChartRead, SoFar, nothing, with_node, with_link, with_question, with_body, node_late, mixes, link_late, link_after, refusing, node_body_refusal, link_body_refusal, question_body_refusal, body_refusal, field_refusal, refused_at, at_end, onward, walk, read_chart_of}
use Rattle.chart_read.proofs.Laws.{part, link-length-bounds, with-node, with-link, with-question, node-zero, link-zero, question-tag, question-zero, node-bounds, link-bounds, question-bounds, whole, body-zero}
use Rattle.chart_read.proofs.Fields.{three-on, field-there, bytes-body}
use Rattle.buffer.proofs.Words.{high-back, low-back}
use Rattle.chart_read.proofs.Walking.{held_past, turn, walk_end}
use Rattle.chart_write.specs.Writing.{node_body, on_byte, direction_bytes, link_body, question_body, node_field, link_field, question_field, question_field_size, longest_node_field, longest_chart, chart_bytes}
use Rattle.chart_write.proofs.Laws.{nodes-most, length-links, links-few, length-question}
use Rattle.chart_write.proofs.Forms.{Said, AllSaid, in-range-said, unmixed, form-bytes}

-- ---- the bodies: what a body says, written, is the body

rest-firsts : (b : List ℕ) → 3 ≤ length b → firsts (bytes_from b 3) (length b - 3) ≡ drop 3 b
unfolding bytes_from
rest-firsts b h =
    let n : length (drop 3 b) ≡ length b - 3 = length-drop 3 b in
    part b 3 (length b - 3) (omega arith) ∙ take_all (length b - 3) (drop 3 b) (omega arith)

node-body-back : (b : List ℕ) → Bytes b → 3 ≤ length b → node_body (node_in b) ≡ b
unfolding node_body node_in
node-body-back b s h =
    let f : firsts (element_at 0 (row 24 0 (bytes_from b 3) (length b - 3))) (length b - 3) ≡ drop 3 b =
    firsts-agree (element_at 0 (row 24 0 (bytes_from b 3) (length b - 3))) (bytes_from b 3) (length b - 3) (λ i l. sym (row_at 24 0 (bytes_from b 3) (length b - 3) i l)) ∙ rest-firsts b h in
    (λ i. get_or b 0 0 ∷ high-back (get_or b 1 0) (get_or b 2 0) (s 2) i ∷ low-back (get_or b 1 0) (get_or b 2 0) (s 2) i ∷ f i)
    ∙ sym (three-on b 0 (omega arith))

on-is : (x : ℕ) → x ≤ 1 → on_byte (eqb x 1) ≡ x
on-is zero h = refl
on-is (suc zero) h = refl
on-is (suc (suc x)) h = absurd (omega arith)

-- a link's bytes, written out, and the last of them by its form
link-bytes : (b : List ℕ) → 9 ≤ length b
    → b ≡ get_or b 0 0 ∷ get_or b 1 0 ∷ get_or b 2 0 ∷ get_or b 3 0 ∷ get_or b 4 0 ∷ get_or b 5 0 ∷ get_or b 6 0 ∷ get_or b 7 0 ∷ get_or b 8 0 ∷ drop 9 b
link-bytes b h =
    three-on b 0 (omega arith)
    ∙ ap (λ (t : List ℕ). get_or b 0 0 ∷ get_or b 1 0 ∷ get_or b 2 0 ∷ t)
    (three-on b 3 (omega arith)
    ∙ ap (λ (t : List ℕ). get_or b 3 0 ∷ get_or b 4 0 ∷ get_or b 5 0 ∷ t)
    (three-on b 6 (omega arith)))

direction-bytes : (form : ℕ) (b : List ℕ) → length b ≡ link_length form → direction_bytes form (get_or b 9 0) ≡ drop 9 b
unfolding direction_bytes link_length
direction-bytes form b l = by (eqb form 4) l
  where
    by : (d : Bool) → length b ≡ cond d 10 9 → cond d (get_or b 9 0 ∷ []) [] ≡ drop 9 b
    by true h = sym (drop-cons b 9 0 (omega arith) ∙ ap (λ (t : List ℕ). get_or b 9 0 ∷ t) (drop_of_length-le b {i = directed_length} (omega arith)))
    by false h = sym (drop_of_length-le b {i = plain_length} (omega arith))

link-body-back : (form : ℕ) (b : List ℕ) → Bytes b → length b ≡ link_length form → get_or b 8 0 ≤ 1 → link_body form (link_in b) ≡ b
unfolding link_body link_in
link-body-back form b s l o =
    (λ i.
    get_or b 0 0 ∷ high-back (get_or b 1 0) (get_or b 2 0) (s 2) i ∷ low-back (get_or b 1 0) (get_or b 2 0) (s 2) i ∷ get_or b 3 0
    ∷ get_or b 4 0 ∷ high-back (get_or b 5 0) (get_or b 6 0) (s 6) i ∷ low-back (get_or b 5 0) (get_or b 6 0) (s 6) i ∷ get_or b 7 0
    ∷ on-is (get_or b 8 0) o i ∷ direction-bytes form b l i)
    ∙ sym (link-bytes b (omega (arith, (link-length-bounds form).0)))

question-body-back : (b : List ℕ) → Bytes b → length b ≡ question_length → question_body (station_in b 0) (station_in b 3) ≡ b
unfolding question_body
question-body-back b s l =
    (λ i.
    get_or b 0 0 ∷ high-back (get_or b 1 0) (get_or b 2 0) (s 2) i ∷ low-back (get_or b 1 0) (get_or b 2 0) (s 2) i
    ∷ get_or b 3 0 ∷ high-back (get_or b 4 0) (get_or b 5 0) (s 5) i ∷ low-back (get_or b 4 0) (get_or b 5 0) (s 5) i ∷ [])
    ∙ sym (three-on b 0 (omega arith)
    ∙ ap (λ (t : List ℕ). get_or b 0 0 ∷ get_or b 1 0 ∷ get_or b 2 0 ∷ t)
    (three-on b 3 (omega arith) ∙ ap (λ (t : List ℕ). get_or b 3 0 ∷ get_or b 4 0 ∷ get_or b 5 0 ∷ t) (drop_of_length-le b {i = question_length} (omega arith))))

-- ---- the bytes of what is held

unfoldable held_bytes : SoFar → List ℕ
held_bytes s =
    joined node_field (node_at s.chart.nodes) s.chart.nodes.count
    ++ (joined (link_field s.chart.links.form) (link_at s.chart.links) s.chart.links.count
    ++ cond s.asked (question_field s.chart.from s.chart.to) [])

record Kept (s : SoFar) : Type 0 where
  nodes : length s.chart.nodes.items ≡ 16
  links : length s.chart.links.items ≡ 48
  few_nodes : s.chart.nodes.count ≤ 16
  few_links : s.chart.links.count ≤ 48
  short : (i : ℕ) → i < s.chart.nodes.count → (node_at s.chart.nodes i).length ≤ 24
  said : AllSaid s.chart.links

-- one field more
abbrev Grown : SoFar → SoFar → List ℕ → Type 0
Grown s t field = (held_bytes t ≡ held_bytes s ++ field) × Kept t

-- what holds of the first k and of one more
set_all : {A : Type 0} (P : A → Type 0) (z : A) (l : List A) (k : ℕ) (x : A) → k < length l → P x → ((j : ℕ) → j < k → P (element_at z l j))
    → (i : ℕ) → i < k + 1 → P (element_at z (set l k x) i)
unfolding element_at
set_all P z l k x w m o i h = go (dec_lt i k)
  where
    go : Dec (i < k) → P (get_or (set l k x) i z)
    go (yes q) = subst P (sym (get_or-set_other l k i x z (λ e. omega arith))) (o i q)
    go (no q) =
        let e : k ≡ i = omega arith in
        subst P (sym (ap (λ (j : ℕ). get_or (set l k x) j z) (sym e) ∙ get_or-set_same l k x z w)) m

node-grown : (s : SoFar) (n : ChartNode) → Kept s → node_refusal (node_late s) s.chart.nodes n ≡ 0 → Grown s (with_node s n) (node_field n)
unfolding held_bytes with_node node_late node_at
node-grown s n k z =
    let p = node-passed (node_late s) s.chart.nodes n z in
    let c = s.chart in
    let q = or-neither-of s.asked (ltb 0 c.links.count) p.timely in
    let lc : c.links.count ≡ 0 = omega (arith, ltb-false 0 c.links.count q.1) in
    let N = joined node_field (element_at no_node c.nodes.items) c.nodes.count in
    let F = node_field n in
    let T = joined (link_field c.links.form) (link_at c.links) c.links.count ++ cond s.asked (question_field c.from c.to) [] in
    let t : T ≡ [] =
    ap₂ (λ (m : ℕ) (d : Bool). joined (link_field c.links.form) (link_at c.links) m ++ cond d (question_field c.from c.to) []) lc q.0
    ∙ ap (λ (x : List ℕ). x ++ []) (joined-none (link_field c.links.form) (link_at c.links)) in
    let g : joined node_field (element_at no_node (set c.nodes.items c.nodes.count n)) (c.nodes.count + 1) ≡ N ++ F =
    joined-set node_field no_node c.nodes.items c.nodes.count n (omega (arith, k.nodes, p.room)) in (
      ap₂ (λ (x y : List ℕ). x ++ y) g t ∙ append-nil (N ++ F) ∙ sym (ap (λ (y : List ℕ). (N ++ y) ++ F) t ∙ ap (λ (y : List ℕ). y ++ F) (append-nil N)),
      record {
        nodes = length-set c.nodes.items c.nodes.count n ∙ k.nodes;
        links = k.links;
        few_nodes = omega (arith, p.room);
        few_links = k.few_links;
        short = set_all (λ (x : ChartNode). x.length ≤ 24) no_node c.nodes.items c.nodes.count n (omega (arith, k.nodes, p.room)) p.short k.short;
        said = k.said;
      },
    )

link-grown : (s : SoFar) (form : ℕ) (l : Link) → Kept s → link_after s form l ≡ 0 → Grown s (with_link s form l) (link_field form l)
unfolding held_bytes with_link link_after link_late link_at
link-grown s form l k z =
    let p = link-passed (link_late s form) form s.chart.nodes s.chart.links l z in
    let c = s.chart in
    let q = or-neither-of s.asked (mixes c.links form) p.timely in
    let N = joined node_field (node_at c.nodes) c.nodes.count in
    let L = joined (link_field form) (element_at no_link c.links.items) c.links.count in
    let F = link_field form l in
    let Q = question_field c.from c.to in
    let g : joined (link_field form) (element_at no_link (set c.links.items c.links.count l)) (c.links.count + 1) ≡ L ++ F =
    joined-set (link_field form) no_link c.links.items c.links.count l (omega (arith, k.links, p.room)) in (
      ap₂ (λ (x : List ℕ) (d : Bool). N ++ (x ++ cond d Q [])) g q.0
          ∙ ap (λ (y : List ℕ). N ++ y) (append-nil (L ++ F))
          ∙ sym (append_assoc N L F)
          ∙ sym (ap₂ (λ (x : List ℕ) (d : Bool). (N ++ (x ++ cond d Q [])) ++ F) (form-bytes c.links form (unmixed c.links form q.1)) q.0 ∙ ap (λ (y : List ℕ). (N ++ y) ++ F) (append-nil L)),
      record {
        nodes = k.nodes;
        links = length-set c.links.items c.links.count l ∙ k.links;
        few_nodes = k.few_nodes;
        few_links = omega (arith, p.room);
        short = k.short;
        said = set_all (Said form) no_link c.links.items c.links.count l (omega (arith, k.links, p.room)) (in-range-said form l p.ranged)
            (λ j h. subst (λ (f : ℕ). Said f (element_at no_link c.links.items j)) (unmixed c.links form q.1 (λ e. absurd (omega arith))) (k.said j h));
      },
    )

question-grown : (s : SoFar) (from to : Station) → Kept s → question_refusal s.asked s.chart.nodes from to ≡ 0 → Grown s (with_question s from to) (question_field from to)
unfolding held_bytes with_question
question-grown s from to k z =
    let p = question-passed s.asked s.chart.nodes from to z in
    let c = s.chart in
    let N = joined node_field (node_at c.nodes) c.nodes.count in
    let L = joined (link_field c.links.form) (link_at c.links) c.links.count in
    let F = question_field from to in (
      sym (append_assoc N L F)
          ∙ sym (ap (λ (d : Bool). (N ++ (L ++ cond d (question_field c.from c.to) [])) ++ F) p.timely ∙ ap (λ (y : List ℕ). (N ++ y) ++ F) (append-nil L)),
      record { nodes = k.nodes; links = k.links; few_nodes = k.few_nodes; few_links = k.few_links; short = k.short; said = k.said },
    )

-- ---- a body that is taken

grown-as : (s : SoFar) {a b : SoFar} {f g : List ℕ} → a ≡ b → f ≡ g → Grown s b g → Grown s a f
grown-as s e p r = subst₂ (λ (x : SoFar) (y : List ℕ). Grown s x y) (sym e) (sym p) r

node-step : (s : SoFar) (b : List ℕ) → Kept s → Bytes b → node_body_refusal (refusing s).node b ≡ 0 → Grown s (with_node s (node_in b)) (tagged 1 b)
unfolding node_field refusing
node-step s b k m z =
    let p = node-bounds (refusing s).node b z in
    grown-as s refl (sym (ap (tagged 1) (node-body-back b m p.0))) (node-grown s (node_in b) k p.2)

link-step : (s : SoFar) (form : ℕ) (b : List ℕ) → Kept s → Bytes b → link_body_refusal form ((refusing s).link form) b ≡ 0
    → Grown s (with_link s form (link_in b)) (tagged form b)
unfolding link_field refusing
link-step s form b k m z =
    let p = link-bounds form ((refusing s).link form) b z in
    grown-as s refl (sym (ap (tagged form) (link-body-back form b m p.0 p.1))) (link-grown s form (link_in b) k p.2)

question-step : (s : SoFar) (b : List ℕ) → Kept s → Bytes b → question_body_refusal (refusing s).question b ≡ 0
    → Grown s (with_question s (station_in b 0) (station_in b 3)) (tagged 3 b)
unfolding question_field refusing
question-step s b k m z =
    let p = question-bounds (refusing s).question b z in
    grown-as s refl (sym (ap (tagged 3) (question-body-back b m p.0))) (question-grown s (station_in b 0) (station_in b 3) k p.1)

body-step : (s : SoFar) (tag : ℕ) (b : List ℕ) → Kept s → Bytes b → body_refusal (refusing s) tag b ≡ 0 → Grown s (with_body s tag b) (tagged tag b)
body-step s tag b k m z = by (eqb tag 1) (is_form tag) refl refl
  where
    by : (x y : Bool) → eqb tag 1 ≡ x → is_form tag ≡ y → Grown s (with_body s tag b) (tagged tag b)
    by true y e f =
        grown-as s (with-node s tag b e) (ap (λ (t : ℕ). tagged t b) (eqb-true tag 1 e)) (node-step s b k m (node-zero (refusing s) tag b z e))
    by false true e f = grown-as s (with-link s tag b f) refl (link-step s tag b k m (link-zero (refusing s) tag b z f))
    by false false e f =
        grown-as s (with-question s tag b e f) (ap (λ (t : ℕ). tagged t b) (eqb-true tag 3 (question-tag (refusing s) tag b z e f)))
        (question-step s b k m (question-zero (refusing s) tag b z e f))

-- ---- the walk: what was passed is what is held

held_all : (s : SoFar) → s.asked ≡ true → held_bytes s ≡ chart_bytes s.chart
unfolding held_bytes chart_bytes
held_all s d =
    ap (λ (b : Bool).
    joined node_field (node_at s.chart.nodes) s.chart.nodes.count
    ++ (joined (link_field s.chart.links.form) (link_at s.chart.links) s.chart.links.count ++ cond b (question_field s.chart.from s.chart.to) [])) d

held_small : (s : SoFar) → Kept s → length (held_bytes s) ≤ longest_chart
unfolding held_bytes
held_small s k =
    let c = s.chart in
    let N = joined node_field (node_at c.nodes) c.nodes.count in
    let L = joined (link_field c.links.form) (link_at c.links) c.links.count in
    let T = cond s.asked (question_field c.from c.to) [] in
    let n : length N ≤ longest_node_field * c.nodes.count = nodes-most c.nodes c.nodes.count k.short in
    let l : length L ≤ 624 = rw (length-links c.links.form c.links c.links.count) (links-few c.links.form c.links.count k.few_links) in
    let q : length T ≤ question_field_size = tail s.asked in
    omega (arith, length-append N (L ++ T), length-append L T, k.few_nodes, k.few_links)
  where
    tail : (b : Bool) → length (cond b (question_field s.chart.from s.chart.to) []) ≤ question_field_size
    tail true = omega (arith, length-question s.chart.from s.chart.to)
    tail false = omega arith

module _ (bytes : List ℕ) (small : Bytes bytes) where
  record Holds (s : SoFar) (at : ℕ) : Type 0 where
    passed : held_bytes s ≡ take at bytes
    within : at ≤ length bytes
    kept : Kept s

  -- what is to be shown of a reading
  pub record Undone (c : Chart) : Type 0 where
    pub same : chart_bytes c ≡ bytes
    pub few_nodes : c.nodes.count ≤ 16
    pub few_links : c.links.count ≤ 48
    pub said : AllSaid c.links

  pub record Good (r : ChartRead) : Type 0 where
    pub undone : r.refusal ≡ 0 → Undone r.chart
    pub near : r.place ≤ longest_chart

  place-small : (s : SoFar) (at : ℕ) → Holds s at → at ≤ longest_chart
  place-small s at H = omega (arith, held_small s H.kept, ap length H.passed, length-take-le at bytes H.within)

  holds-next : (s : SoFar) (at : ℕ) → Holds s at → field_refusal (refusing s) bytes at ≡ 0 → Holds (held_past s bytes at) (past_field bytes at)
  holds-next s at H z =
      let l = whole (refusing s) bytes at z in
      let g = body-step s (tag_at bytes at) (body_at bytes at) H.kept (bytes-body bytes small at) (body-zero (refusing s) bytes at z) in
      record {
        passed = g.0 ∙ ap (λ (x : List ℕ). x ++ tagged (tag_at bytes at) (body_at bytes at)) H.passed ∙ sym (field-there bytes small at l);
        within = l;
        kept = g.1;
      }

  end-good : (s : SoFar) (at : ℕ) → Holds s at → length bytes ≤ at → Good (at_end s (length bytes))
  end-good s at H h = by s.asked refl
    where
      by : (b : Bool) → s.asked ≡ b → Good (cond {A = ChartRead} b (record { refusal = 0; place = 0; chart = s.chart }) (refused_at 31 (length bytes)))
      by true d = record { undone = λ z. record { same = sym (held_all s d) ∙ H.passed ∙ take_all at bytes h; few_nodes = H.kept.few_nodes; few_links = H.kept.few_links; said = H.kept.said }; near = omega arith }
      by false d = record { undone = λ z. absurd (omega arith); near = omega (arith, place-small s at H) }

  walk-good : (k : ℕ) (s : SoFar) (at : ℕ) → Holds s at → length bytes ≤ at + k → Good (walk k s bytes at)
  walk-good zero s at H h =
      let g : length bytes ≤ at = omega arith in
      subst Good (sym (walk_end zero s bytes at g)) (end-good s at H g)
  walk-good (suc k) s at H h = by (λ t a G l. walk-good k t a G l) (leb (length bytes) at) refl
    where
      Onward : Type 0
      Onward = (t : SoFar) (a : ℕ) → Holds t a → length bytes ≤ a + k → Good (walk k t bytes a)

      on : Onward → at < length bytes → (n : ℕ) → field_refusal (refusing s) bytes at ≡ n → Good (onward n at (walk k (held_past s bytes at) bytes (past_field bytes at)))
      on go l zero e = go (held_past s bytes at) (past_field bytes at) (holds-next s at H e) (omega arith)
      on go l (suc n) e = record { undone = λ z. absurd (omega arith); near = place-small s at H }

      by : Onward → (b : Bool) → leb (length bytes) at ≡ b → Good (walk (suc k) s bytes at)
      by go true e =
          let g : length bytes ≤ at = leb-true (length bytes) at e in
          subst Good (sym (walk_end (suc k) s bytes at g)) (end-good s at H g)
      by go false e =
          let l : at < length bytes = leb-false (length bytes) at e in
          subst Good (sym (turn k s bytes at l)) (on go l (field_refusal (refusing s) bytes at) refl)

  -- an accepted chart is written as the bytes that it was read from; a refusal's place is small
  pub read-good : Good (read_chart_of bytes)
  unfolding read_chart_of
  read-good =
      walk-good (length bytes) nothing 0
      (record { passed = start; within = omega arith; kept = kept })
      (omega arith)
    where
      start : held_bytes nothing ≡ take 0 bytes
      start = unfold held_bytes nothing no_chart joined in refl

      kept : Kept nothing
      kept = unfold nothing no_chart in record { nodes = refl; links = refl; few_nodes = omega arith; few_links = omega arith; short = λ i h. absurd (omega arith); said = λ i h. absurd (omega arith) }
