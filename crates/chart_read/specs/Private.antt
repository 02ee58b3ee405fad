-- Taking one field of a walk, as the code does: by the keys of the nodes and links before it.
use Rattle.std.specs.Prelude.{ℕ, ◌+◌, ◌≡◌, List, Bool, true, false, not, cond, ◌&&◌, ◌||◌, length, set, replicate, ltb, eqb}
use Rattle.lists.specs.Refusals.{unless_refused}
use Rattle.chart.specs.declared.ChartNode.{ChartNode}
use Rattle.chart.specs.declared.Link.{Link}
use Rattle.chart_refuse.specs.Private.{station_key, end_key, node_refusal_by_keys, link_refusal_by_keys, question_refusal_by_keys}
use Rattle.chart_read.specs.declared.Counts.{Counts}
use Rattle.chart_read.specs.declared.Keys.{Keys}
use Rattle.chart_read.specs.Fields.{node_tag, is_form, tag_at, body_at, past_field, cut_short, node_in, link_in}
use Rattle.chart_read.specs.Reading.{Refusing, body_refusal, field_refusal}

abbrev pub as_keys : List ℕ → List ℕ → List ℕ → Counts → Keys
as_keys keys akeys bkeys c = record { keys = keys; akeys = akeys; bkeys = bkeys; counts = c }

-- before the first field
abbrev pub no_keys : Keys
no_keys = as_keys (replicate 16 0) (replicate 48 0) (replicate 48 0) (record { nodes = 0; links = 0; form = 2; asked = false })

-- the numbers after them
unfoldable pub link_late_by : Counts → ℕ → Bool
link_late_by c form = c.asked || (ltb 0 c.links && not (eqb c.form form))

unfoldable pub link_after_keys : Keys → ℕ → Link → ℕ
link_after_keys t form =
    let c = t.counts in
    link_refusal_by_keys (link_late_by c form) form t.keys c.nodes t.akeys t.bkeys c.links

unfoldable pub refusing_by : Keys → Refusing
refusing_by t =
    let c = t.counts in
    record {
      node = node_refusal_by_keys (c.asked || ltb 0 c.links) t.keys c.nodes;
      link = link_after_keys t;
      question = question_refusal_by_keys c.asked t.keys c.nodes;
    }

-- with those of one node, one link or the question more
unfoldable pub with_node_key : Keys → ChartNode → Keys
with_node_key t n =
    let c = t.counts in
    as_keys (set t.keys c.nodes (station_key n.station)) t.akeys t.bkeys (record { nodes = c.nodes + 1; links = c.links; form = c.form; asked = c.asked })

unfoldable pub with_link_keys : Keys → ℕ → Link → Keys
with_link_keys t form l =
    let c = t.counts in
    as_keys t.keys (set t.akeys c.links (end_key l.a)) (set t.bkeys c.links (end_key l.b)) (record { nodes = c.nodes; links = c.links + 1; form = form; asked = c.asked })

unfoldable pub with_asked : Keys → Keys
with_asked t = as_keys t.keys t.akeys t.bkeys (record { nodes = t.counts.nodes; links = t.counts.links; form = t.counts.form; asked = true })

-- with those of one body more, which has one of the tags
unfoldable pub keys_with : Keys → ℕ → List ℕ → Keys
keys_with t tag b =
    cond (eqb tag node_tag) (with_node_key t (node_in b))
    (cond (is_form tag) (with_link_keys t tag (link_in b))
    (with_asked t))

-- what taking a body comes to: its number, and the keys with its own unless it is refused
pub record Takes (t : Keys) (tag : ℕ) (b : List ℕ) (k : ℕ) (u : Keys) : Type 0 where
  pub refusal : k ≡ body_refusal (refusing_by t) tag b
  pub keys : u ≡ unless_refused k (keys_with t tag b) t

-- the field at a place, likewise
pub record TakesField (t : Keys) (bytes : List ℕ) (at : ℕ) (k : ℕ) (u : Keys) : Type 0 where
  pub refusal : k ≡ field_refusal (refusing_by t) bytes at
  pub keys : u ≡ unless_refused k (keys_with t (tag_at bytes at) (body_at bytes at)) t

-- the place past that field, or the input's end where it is cut short
unfoldable pub field_end : List ℕ → ℕ → ℕ
field_end bytes at = cond (cut_short bytes at) (length bytes) (past_field bytes at)
