-- What the reader's loop keeps: the walk from here is the whole reading, and the keys are those of the nodes and links that are held.
use Prim.Native.Nat.{ℕ, ◌<◌, ◌≤◌}
use mathlib.Core.Path.{◌≡◌, sym, ap, subst, ◌∙◌}
use mathlib.Core.List.{List}
use mathlib.Core.Bool.{true, false}
use native.Mathlib.Omega.{arith}
use lib.ListN.{length, get_or, set, replicate}
use mir.Syntax.{w8}
use mir.Val.{Fits}
use borrow.Author.Tests.{eq-eqb, ne_eqb}
use Rattle.buffer.specs.Bytes.{Bytes}
use Rattle.lists.proofs.Refusals.{taken}
use Rattle.address.specs.declared.Station.{Station}
use Rattle.address_bytes.specs.Wide.{station_in}
use Rattle.chart.specs.declared.ChartNode.{ChartNode}
use Rattle.chart.specs.declared.Link.{Link}
use Rattle.chart.specs.declared.Chart.{Chart}
use Rattle.chart.specs.Values.{most_nodes, most_links, no_node, no_link, no_chart}
use Rattle.chart_read.specs.declared.Counts.{Counts}
use Rattle.chart_read.specs.declared.Keys.{Keys}
use Rattle.chart_read.specs.Fields.{is_form, tag_at, body_at, past_field, node_in, link_in}
use Rattle.chart_read.specs.Reading.{SoFar, nothing, with_node, with_link, with_question, with_body, Refusing, refusing, body_refusal, field_refusal, ChartRead, refused_at, read_chart_of}
use Rattle.chart_read.specs.Private.{no_keys, refusing_by, TakesField}
use Rattle.chart_read.proofs.Walking.{held_past, Reaches, reach-start, reach-next, reach-refused, reach-end, end-unasked, end-asked}
use Rattle.chart_read.proofs.Laws.{link-length-bounds, with-node, with-link, with-question, node-zero, link-zero, node-bounds, link-bounds, whole, body-zero}
use Rattle.chart_read.proofs.Keyed.{counts_of}
use Rattle.chart_read.proofs.Taking.{HeldKeys, none-held, held-refusal, held-keys}

-- the loop's variables
pub record Turn : Type 0 where
  pub nodes : List ChartNode
  pub links : List Link
  pub from : Station
  pub to : Station
  pub keys : Keys
  pub at : ℕ

-- what they hold of the chart
abbrev pub so_far : List ChartNode → List Link → Station → Station → Counts → SoFar
so_far nodes links from to c =
    record {
      chart = record { nodes = record { count = c.nodes; items = nodes }; links = record { count = c.links; form = c.form; items = links }; from = from; to = to };
      asked = c.asked;
    }

abbrev pub so_far_of : Turn → SoFar
so_far_of t = so_far t.nodes t.links t.from t.to t.keys.counts

pub record Holding (bytes : List ℕ) (t : Turn) : Type 0 where
  pub reaches : Reaches bytes (so_far_of t) t.at
  pub held : HeldKeys (so_far_of t) t.keys

-- before the first field
abbrev pub first_turn : ChartNode → Link → Keys → Turn
first_turn n l k = record { nodes = replicate most_nodes n; links = replicate most_links l; from = n.station; to = n.station; keys = k; at = 0 }

nothing_yet : (bytes : List ℕ) → Holding bytes (first_turn no_node no_link no_keys)
unfolding no_chart nothing
nothing_yet bytes = record { reaches = reach-start bytes; held = none-held }

pub holding-start : (bytes : List ℕ) (n : ChartNode) (l : Link) (k : Keys) → n ≡ no_node → l ≡ no_link → k ≡ no_keys → Holding bytes (first_turn n l k)
holding-start bytes n l k e f g =
    subst (λ (x : ChartNode). Holding bytes (first_turn x l k)) (sym e)
    (subst (λ (y : Link). Holding bytes (first_turn no_node y k)) (sym f) (subst (λ (z : Keys). Holding bytes (first_turn no_node no_link z)) (sym g) (nothing_yet bytes)))

abbrev pub refusal_of : List ℕ → Turn → ℕ
refusal_of bytes t = field_refusal (refusing_by t.keys) bytes t.at

-- at a field of the input
pub record Field (bytes : List ℕ) (t : Turn) : Type 0 where
  pub holding : Holding bytes t
  pub all-bytes : Bytes bytes
  pub begins : t.at < length bytes

-- at a field that is taken: its number is 0, and its body and the place past it are at hand
pub record Accepted (bytes : List ℕ) (t : Turn) (b : List ℕ) (next : ℕ) : Type 0 where
  pub field : Field bytes t
  pub zero : refusal_of bytes t ≡ 0
  pub body : b ≡ body_at bytes t.at
  pub past : next ≡ past_field bytes t.at

-- from what the loop knows at a field, and once it has taken it
abbrev pub field-here : {bytes : List ℕ} {t : Turn} → Holding bytes t → ((i : ℕ) → Fits w8 (get_or bytes i 0)) → t.at < length bytes → Field bytes t
field-here h b l = record { holding = h; all-bytes = λ i. omega (arith, b i); begins = l }

abbrev pub field-taken : {bytes : List ℕ} {t : Turn} → Holding bytes t → ((i : ℕ) → Fits w8 (get_or bytes i 0)) → t.at < length bytes
    → 0 ≡ refusal_of bytes t → {b : List ℕ} → b ≡ body_at bytes t.at → {next : ℕ} → next ≡ past_field bytes t.at → Accepted bytes t b next
field-taken h b l e d p = record { field = field-here h b l; zero = sym e; body = d; past = p }

module _ {bytes : List ℕ} {t : Turn} (f : Field bytes t) where
  refusal-same : refusal_of bytes t ≡ field_refusal (refusing (so_far_of t)) bytes t.at
  refusal-same = held-refusal (so_far_of t) t.keys f.holding.held bytes f.all-bytes t.at

  pub refused-field : {k : ℕ} → k ≡ refusal_of bytes t → (k ≡ 0 → ⊥) → refused_at k t.at ≡ read_chart_of bytes
  refused-field e z =
      ap (λ (x : ℕ). refused_at x t.at) (e ∙ refusal-same)
      ∙ reach-refused bytes (so_far_of t) t.at f.begins f.holding.reaches (λ q. z (e ∙ refusal-same ∙ q))

  pub whole-field : refusal_of bytes t ≡ 0 → past_field bytes t.at ≤ length bytes
  whole-field e = whole (refusing_by t.keys) bytes t.at e

module _ {bytes : List ℕ} {t : Turn} {b : List ℕ} {next : ℕ} (f : Accepted bytes t b next) where
  abbrev s : SoFar
  s = so_far_of t

  abbrev tag : ℕ
  tag = tag_at bytes t.at

  abbrev r : Refusing
  r = refusing_by t.keys

  -- the walk goes on there
  reached : Reaches bytes (held_past s bytes t.at) next
  reached =
      subst (λ (x : ℕ). Reaches bytes (held_past s bytes t.at) x) (sym f.past)
      (reach-next bytes s t.at f.field.begins f.field.holding.reaches (sym (refusal-same f.field) ∙ f.zero))

  body-none : body_refusal r tag b ≡ 0
  body-none = ap (body_refusal r tag) f.body ∙ body-zero r bytes t.at f.zero

  -- the length of its body
  pub node-length : tag ≡ 1 → (3 ≤ length b) × (length b ≤ 27)
  node-length g =
      let p = node-bounds r.node b (node-zero r tag b body-none (eq-eqb tag 1 g)) in
      (p.0, p.1)

  pub link-length : is_form tag ≡ true → 9 ≤ length b
  link-length g = omega (arith, (link-length-bounds tag).0, (link-bounds tag (r.link tag) b (link-zero r tag b body-none g)).0)

  -- with the keys that are then stored
  module _ (k : ℕ) (keys : Keys) (p : TakesField t.keys bytes t.at k keys) where
    held_on : HeldKeys (held_past s bytes t.at) keys
    held_on =
        subst (λ (x : SoFar). HeldKeys x keys) (taken _ s (p.refusal ∙ f.zero))
        (held-keys s t.keys f.field.holding.held bytes f.field.all-bytes t.at k keys p)

    -- the loop holds what its body adds, whatever its tag
    goes_on : (v : SoFar) → with_body s tag b ≡ v → (nodes : List ChartNode) (links : List Link) (from to : Station)
        → ((c : Counts) → c ≡ counts_of v → so_far nodes links from to c ≡ v)
        → Holding bytes (record { nodes = nodes; links = links; from = from; to = to; keys = keys; at = next })
    goes_on v e nodes links from to q =
        let d : held_past s bytes t.at ≡ v = ap (with_body s tag) (sym f.body) ∙ e in
        let w = d ∙ sym (q keys.counts (held_on.counts ∙ ap counts_of d)) in
        record { reaches = subst (λ (x : SoFar). Reaches bytes x next) w reached; held = subst (λ (x : SoFar). HeldKeys x keys) w held_on }

    pub holding-node : tag ≡ 1 → (node : ChartNode) → node ≡ node_in b
        → Holding bytes (record { nodes = set t.nodes t.keys.counts.nodes node; links = t.links; from = t.from; to = t.to; keys = keys; at = next })
    unfolding with_node
    holding-node g node q =
        goes_on (with_node s (node_in b)) (with-node s tag b (eq-eqb tag 1 g)) _ _ _ _
        (λ c e i. so_far (set t.nodes t.keys.counts.nodes (q i)) t.links t.from t.to (e i))

    pub holding-link : is_form tag ≡ true → (link : Link) → link ≡ link_in b
        → Holding bytes (record { nodes = t.nodes; links = set t.links t.keys.counts.links link; from = t.from; to = t.to; keys = keys; at = next })
    unfolding with_link
    holding-link g link q =
        goes_on (with_link s tag (link_in b)) (with-link s tag b g) _ _ _ _
        (λ c e i. so_far t.nodes (set t.links t.keys.counts.links (q i)) t.from t.to (e i))

    pub holding-question : (tag ≡ 1 → ⊥) → is_form tag ≡ false → {from to : Station} → from ≡ station_in b 0 → to ≡ station_in b 3
        → Holding bytes (record { nodes = t.nodes; links = t.links; from = from; to = to; keys = keys; at = next })
    unfolding with_question
    holding-question x y d e =
        goes_on (with_question s (station_in b 0) (station_in b 3)) (with-question s tag b (ne_eqb tag 1 x) y) _ _ _ _
        (λ c q i. so_far t.nodes t.links (d i) (e i) (q i))

-- the input's end
module _ (bytes : List ℕ) (t : Turn) (h : Holding bytes t) (l : length bytes ≤ t.at) where
  pub ends-unasked : t.keys.counts.asked ≡ false → refused_at 31 (length bytes) ≡ read_chart_of bytes
  ends-unasked e = end-unasked (so_far_of t) (length bytes) e ∙ reach-end bytes (so_far_of t) t.at l h.reaches

  pub ends_asked : t.keys.counts.asked ≡ true → record { refusal = 0; place = 0; chart = (so_far_of t).chart } ≡ read_chart_of bytes
  ends_asked e = end-asked (so_far_of t) (length bytes) e ∙ reach-end bytes (so_far_of t) t.at l h.reaches

-- what stands in a reading, part by part
pub parts-refused : {k place : ℕ} {r : ChartRead} → refused_at k place ≡ r → (k ≡ r.refusal) × (place ≡ r.place)
parts-refused e = (ap (λ (x : ChartRead). x.refusal) e, ap (λ (x : ChartRead). x.place) e)

pub parts-read : {chart : Chart} {r : ChartRead} → record { refusal = 0; place = 0; chart = chart } ≡ r → (r.refusal ≡ 0) × ((r.place ≡ 0) × (chart ≡ r.chart))
parts-read e = (sym (ap (λ (x : ChartRead). x.refusal) e), (sym (ap (λ (x : ChartRead). x.place) e), ap (λ (x : ChartRead). x.chart) e))
