-- Laws of the writer: how long its fields are, what its loops store, and its answer.
use Prim.Native.Nat.{ℕ, ◌+◌, ◌*◌, ◌<◌, ◌≤◌}
use mathlib.Core.Path.{◌≡◌, refl, sym, ap, ap₂, ◌∙◌}
use mathlib.Core.List.{List, [], ◌∷◌, ◌++◌, append_assoc}
use mathlib.Core.Bool.{Bool, true, false, cond}
use native.Mathlib.Nat.{mul-le-mul}
use native.Mathlib.Omega.{arith}
use lib.ListN.{length, get_or, take, drop, length-append, length-take}
use lib.Dec.{eqb}
use lib.Seq.{sets}
use borrow.Author.Tests.{lt-ltb, le-ltb, eq-eqb, ne_eqb}
use Rattle.lists.specs.Places.{element_at, firsts, joined}
use Rattle.lists.specs.Refusals.{unless_refused}
use Rattle.buffer.specs.Bytes.{word_bytes}
use Rattle.buffer.specs.Writing.{Written, Wrote, Refused, written_refusal, written_count, wrote_unless}
use Rattle.lists.proofs.Places.{length-firsts, length-joined, joined-none}
use Rattle.lists.proofs.Refusals.{taken, refused}
use Rattle.lists.proofs.Chains.{or-stops}
use Rattle.lists.proofs.Stores.{sets-append, sets-front}
use Rattle.lists.proofs.Runs.{length-joined-next, joined-within, joined-most}
use Rattle.buffer.proofs.Writing.{wrote-refusal, wrote_count, wrote-taken, wrote-refused}
use Rattle.address.specs.declared.Station.{Station}
use Rattle.address_bytes.specs.Wide.{station_bytes, address_bytes}
use Rattle.chart.specs.declared.ChartNode.{ChartNode}
use Rattle.chart.specs.declared.Link.{Link}
use Rattle.chart.specs.declared.Nodes.{Nodes}
use Rattle.chart.specs.declared.Links.{Links}
use Rattle.chart.specs.declared.Chart.{Chart}
use Rattle.chart.specs.Values.{most_links, longest_label, node_at, link_at}
use Rattle.chart.proofs.Laws.{node-taken}
use Rattle.chart_refuse.specs.Refusal.{chart_refusal}
use Rattle.chart_read.specs.Fields.{node_tag, question_tag, shortest_node, longest_node, directed_length, link_length, question_length, tagged}
use Rattle.chart_read.proofs.Laws.{link-length-bounds}
use Rattle.chart_write.specs.Writing.{node_body, on_byte, direction_bytes, link_body, question_body, node_field, link_field, question_field, head_size, link_field_size, question_field_size, longest_node_field, chart_bytes, chart_write_refusal, write_chart_of, chart_after}
use Rattle.chart_write.specs.Private.{Short}
use Rattle.chart_refuse.proofs.Laws.{passed, node_of}

-- ---- how long the fields are

pub length-tagged : (tag : ℕ) (body : List ℕ) → length (tagged tag body) ≡ head_size + length body
unfolding tagged
length-tagged tag body = omega arith

pub length-node-body : (n : ChartNode) → length (node_body n) ≡ shortest_node + n.length
unfolding node_body
length-node-body n = omega (arith, length-firsts (element_at 0 n.label) n.length)

pub length-node : (n : ChartNode) → length (node_field n) ≡ head_size + length (node_body n)
unfolding node_field
length-node n = length-tagged node_tag (node_body n)

-- fields of short labels
pub nodes-most : (ns : Nodes) (n : ℕ) → ((i : ℕ) → i < n → (node_at ns i).length ≤ longest_label) → length (joined node_field (node_at ns) n) ≤ longest_node_field * n
nodes-most ns n h = joined-most node_field (node_at ns) longest_node_field n (λ i l. omega (arith, h i l, length-node (node_at ns i), length-node-body (node_at ns i)))

-- a link's body in a form: the directed one's, as long as the form says
module _ (l : Link) where
  abbrev body : Bool → List ℕ
  body d = address_bytes l.a ++ address_bytes l.b ++ (on_byte l.on ∷ cond d (l.direction ∷ []) [])

  long : (d : Bool) → length (body d) ≡ cond d 10 9
  long true = refl
  long false = refl

  cut : (d : Bool) → take (cond d 10 9) (body true) ≡ body d
  cut true = refl
  cut false = refl

  pub length-link-body : (form : ℕ) → length (link_body form l) ≡ link_length form
  unfolding link_body direction_bytes link_length
  length-link-body form = long (eqb form 4)

  pub body-cut : (form : ℕ) → take (link_length form) (link_body 4 l) ≡ link_body form l
  unfolding link_body direction_bytes link_length
  body-cut form = cut (eqb form 4)

  pub directed-long : length (link_body 4 l) ≡ 10
  unfolding link_body direction_bytes
  directed-long = refl

-- the length by the form
pub directed-length : (form : ℕ) → form ≡ 4 → link_length form ≡ 10
unfolding link_length
directed-length form e = rw (eq-eqb form 4 e)

pub plain-length : (form : ℕ) → (form ≡ 4 → ⊥) → link_length form ≡ 9
unfolding link_length
plain-length form n = rw (ne_eqb form 4 n)

pub length-link : (form : ℕ) (l : Link) → length (link_field form l) ≡ link_field_size form
unfolding link_field
length-link form l = length-tagged form (link_body form l) ∙ ap (λ (n : ℕ). head_size + n) (length-link-body l form)

-- 48 fields of one size have at most 624 bytes
pub size-most : (w i : ℕ) → w ≤ head_size + directed_length → i ≤ most_links → w * i ≤ 624
size-most w i h k = mul-le-mul h k

pub length-question-body : (from to : Station) → length (question_body from to) ≡ question_length
unfolding question_body
length-question-body from to = refl

pub length-question : (from to : Station) → length (question_field from to) ≡ question_field_size
unfolding question_field
length-question from to = length-tagged question_tag (question_body from to) ∙ ap (λ (n : ℕ). head_size + n) (length-question-body from to)

pub length-links : (form : ℕ) (ls : Links) (n : ℕ) → length (joined (link_field form) (link_at ls) n) ≡ link_field_size form * n
length-links form ls n = length-joined (link_field form) (link_field_size form) (length-link form) (link_at ls) n

pub links-few : (form n : ℕ) → n ≤ most_links → link_field_size form * n ≤ 624
links-few form n h = size-most (link_field_size form) n (omega (arith, (link-length-bounds form).1)) h

pub length-chart : (c : Chart)
    → length (chart_bytes c) ≡ length (joined node_field (node_at c.nodes) c.nodes.count) + link_field_size c.links.form * c.links.count + question_field_size
unfolding chart_bytes
length-chart c =
    let N = joined node_field (node_at c.nodes) c.nodes.count in
    let L = joined (link_field c.links.form) (link_at c.links) c.links.count in
    let Q = question_field c.from c.to in
    omega (arith, length-append N (L ++ Q), length-append L Q, length-links c.links.form c.links c.links.count, length-question c.from c.to)

-- where the question's field begins, and where it ends
pub chart-end : (c : Chart) {at size : ℕ} → at ≡ length (joined node_field (node_at c.nodes) c.nodes.count) → size ≡ link_field_size c.links.form
    → at + size * c.links.count + question_field_size ≡ length (chart_bytes c)
chart-end c {at} e f = ap (λ (w : ℕ). at + w * c.links.count + question_field_size) f ∙ omega (arith, e, length-chart c)

-- ---- what a loop reads and stores at a place

-- the label of a node that is read
pub short-read : (ns : Nodes) → Short ns → (d : ChartNode) (i : ℕ) → i < length (take ns.count ns.items) → (get_or (take ns.count ns.items) i d).length ≤ longest_label
short-read ns s d i k =
    let h : i < ns.count = omega (arith, length-take ns.count ns.items) in
    omega (arith, s.short i h, ap (λ (n : ChartNode). n.length) (node-taken ns d ns.count i k))

-- the offset past the first i nodes, each with a field of at most 30 bytes
abbrev pub Past : Nodes → ℕ → ℕ → Type 0
Past ns i at = (at ≡ length (joined node_field (node_at ns) i)) × (at ≤ longest_node_field * i)

pub past-none : (ns : Nodes) → Past ns 0 0
past-none ns = (rw (joined-none node_field (node_at ns)) refl, omega arith)

pub past_next : (ns : Nodes) (d : ChartNode) (i at long : ℕ) → i < length (take ns.count ns.items) → (long ≡ length (node_body (get_or (take ns.count ns.items) i d))) × (long ≤ longest_node)
    → Past ns i at → Past ns (i + 1) (at + (head_size + long))
past_next ns d i at long h e p = (
  omega (arith, e.0, p.0, length-joined-next node_field (node_at ns) i, length-node (node_at ns i), ap (λ (n : ChartNode). length (node_body n)) (node-taken ns d ns.count i h)),
  omega (arith, e.1, p.1),
)

-- where the fields of all nodes fit, the next does
pub node-fits : (ns : Nodes) (d : ChartNode) (i at room : ℕ) → i < length (take ns.count ns.items) → Past ns i at → length (joined node_field (node_at ns) ns.count) ≤ room
    → at + length (node_field (get_or (take ns.count ns.items) i d)) ≤ room
node-fits ns d i at room k p m =
    let h : i < ns.count = omega (arith, length-take ns.count ns.items) in
    omega (arith, p.0, joined-within node_field (node_at ns) ns.count i h, ap (λ (n : ChartNode). length (node_field n)) (node-taken ns d ns.count i k))

-- ---- a chart whose number is 0

pub short : (c : Chart) → chart_refusal c ≡ 0 → Short c.nodes
short c z =
    let p = passed c z in
    record { few = p.few_nodes; short = λ i h. (node_of c p i h).short }

-- ---- the answer

module _ (c : Chart) (room : ℕ) where
  pub write-refused : {k : ℕ} → k ≡ chart_refusal c → (k ≡ 0 → ⊥) → k ≡ chart_write_refusal c room
  unfolding chart_write_refusal
  write-refused e h = or-stops _ e h

  pub write-short : chart_refusal c ≡ 0 → room < length (chart_bytes c) → 10 ≡ chart_write_refusal c room
  unfolding chart_write_refusal
  write-short z h = rw (z, lt-ltb room (length (chart_bytes c)) h)

  pub refusal-none : chart_refusal c ≡ 0 → length (chart_bytes c) ≤ room → chart_write_refusal c room ≡ 0
  unfolding chart_write_refusal
  refusal-none z h = rw (z, le-ltb room (length (chart_bytes c)) h)

-- and what the buffer then holds
module _ (c : Chart) (out : List ℕ) where
  pub chart-left : {k : ℕ} → k ≡ chart_write_refusal c (length out) → (k ≡ 0 → ⊥) → out ≡ chart_after c out
  unfolding chart_after
  chart-left {k} e h = sym (ap (λ (j : ℕ). unless_refused j (chart_bytes c ++ drop (length (chart_bytes c)) out) out) (sym e) ∙ refused _ _ k h)

  pub chart-stored : chart_write_refusal c (length out) ≡ 0 → length (chart_bytes c) ≤ length out → sets out 0 (chart_bytes c) ≡ chart_after c out
  unfolding chart_after
  chart-stored e h = sets-front out (chart_bytes c) h ∙ sym (taken _ _ e)

pub write-told : (c : Chart) (out : List ℕ) (r : Written) → r ≡ write_chart_of c (length out)
    → (written_refusal r ≡ chart_write_refusal c (length out)) × (written_count r ≡ unless_refused (chart_write_refusal c (length out)) (length (chart_bytes c)) 0)
unfolding write_chart_of
write-told c out r e = (ap written_refusal e ∙ wrote-refusal _ _, ap written_count e ∙ wrote_count _ _)

-- what is answered, and what the buffer then holds
pub record Answer (c : Chart) (out : List ℕ) (r : Written) (after : List ℕ) : Type 0 where
  pub answer : r ≡ write_chart_of c (length out)
  pub buffer : after ≡ chart_after c out

refused_as : (c : Chart) (out : List ℕ) (k : ℕ) → k ≡ chart_write_refusal c (length out) → (k ≡ 0 → ⊥) → Answer c out (Refused k) out
unfolding write_chart_of
refused_as c out k e h = record {
  answer = wrote-refused k _ h ∙ ap (λ (j : ℕ). wrote_unless j (length (chart_bytes c))) e;
  buffer = chart-left c out e h;
}

pub answer-refused : (c : Chart) (out : List ℕ) {k : ℕ} → k ≡ chart_refusal c → (k ≡ 0 → ⊥) → Answer c out (Refused k) out
answer-refused c out {k} e h = refused_as c out k (write-refused c (length out) e h) h

pub answer-short : (c : Chart) (out : List ℕ) → chart_refusal c ≡ 0 → length out < length (chart_bytes c) → Answer c out (Refused 10) out
answer-short c out z h = refused_as c out 10 (write-short c (length out) z h) (λ e. omega arith)

pub write-wrote : (c : Chart) (out : List ℕ) → chart_refusal c ≡ 0 → length (chart_bytes c) ≤ length out → Answer c out (Wrote (length (chart_bytes c))) (sets out 0 (chart_bytes c))
unfolding write_chart_of
write-wrote c out z h =
    let e = refusal-none c (length out) z h in
    record { answer = wrote-taken _ e; buffer = chart-stored c out e h }

-- ---- fields stored in parts

-- the tag and the length, then the body
pub field_put : (tag : ℕ) (body l m o : List ℕ) (at : ℕ) → m ≡ sets l at (tag ∷ word_bytes (length body)) → o ≡ sets m (at + head_size) body → o ≡ sets l at (tagged tag body)
unfolding tagged
field_put tag body l m o at f g =
    g ∙ ap (λ (x : List ℕ). sets x (at + head_size) body) f ∙ sets-append (tag ∷ word_bytes (length body)) l at body (at + head_size) refl

-- a node's body is stored in two parts
pub node-put : (n : ChartNode) (long : ℕ) (l m o p s : List ℕ) (at : ℕ) → long ≡ length (node_body n) → m ≡ sets l at (node_tag ∷ word_bytes long)
    → s ≡ station_bytes n.station → o ≡ sets m (at + head_size) s → p ≡ sets o (at + head_size + shortest_node) (firsts (element_at 0 n.label) n.length)
    → p ≡ sets l at (node_field n)
unfolding node_field
node-put n long l m o p s at k f e g h = field_put node_tag (node_body n) l m p at (f ∙ ap (λ (w : ℕ). sets l at (node_tag ∷ word_bytes w)) k) (body ∙ (unfold node_body in refl))
  where
    label : List ℕ
    label = firsts (element_at 0 n.label) n.length

    body : p ≡ sets m (at + head_size) (station_bytes n.station ++ label)
    body =
        h ∙ ap (λ (x : List ℕ). sets x (at + head_size + shortest_node) label) (g ∙ ap (sets m (at + head_size)) e)
        ∙ sets-append (station_bytes n.station) m (at + head_size) label (at + head_size + shortest_node) refl

-- the parts of a chart, one after the other
pub chart-put : (c : Chart) (l m o p b : List ℕ) (at size : ℕ) → at ≡ length (joined node_field (node_at c.nodes) c.nodes.count)
    → m ≡ sets l 0 (joined node_field (node_at c.nodes) c.nodes.count)
    → o ≡ sets m at (joined (link_field c.links.form) (link_at c.links) c.links.count)
    → size ≡ link_field_size c.links.form
    → b ≡ question_body c.from c.to
    → p ≡ sets o (at + size * c.links.count) (tagged question_tag b)
    → p ≡ sets l 0 (chart_bytes c)
unfolding chart_bytes question_field
chart-put c l m o p b at size e f g w h k =
    let N = joined node_field (node_at c.nodes) c.nodes.count in
    let L = joined (link_field c.links.form) (link_at c.links) c.links.count in
    let Q = question_field c.from c.to in
    let next = at + size * c.links.count in
    let n : size * c.links.count ≡ length L = ap (λ (x : ℕ). x * c.links.count) w ∙ sym (length-links c.links.form c.links c.links.count) in
    k ∙ ap₂ (λ (x y : List ℕ). sets x next (tagged question_tag y)) (g ∙ ap (λ (x : List ℕ). sets x at L) f ∙ sets-append N l 0 L at (omega arith)) h
    ∙ sets-append (N ++ L) l 0 Q next (omega (arith, length-append N L))
    ∙ ap (sets l 0) (append_assoc N L Q)
