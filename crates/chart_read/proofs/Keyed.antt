-- A field's number by keys is the number that the reader's definitions give.
use Prim.Native.Nat.{ℕ, ◌+◌}
use mathlib.Core.Path.{◌≡◌, refl, ap}
use mathlib.Core.List.{List}
use mathlib.Core.Bool.{not, cond}
use native.Mathlib.Omega.{arith}
use lib.ListN.{length, get_or}
use lib.Dec.{ltb, eqb}
use Rattle.buffer.specs.Bytes.{Bytes}
use Rattle.lists.specs.Refusals.{refuse}
use Rattle.address_bytes.specs.Wide.{station_in, address_in}
use Rattle.chart_refuse.specs.Private.{end_key, EndKeyed, KeyedNodes, KeyedLinks}
use Rattle.chart_refuse.proofs.ByKeys.{node-keyed, link-keyed, question-keyed}
use Rattle.chart_read.specs.declared.Counts.{Counts}
use Rattle.chart_read.specs.Fields.{is_form, link_length, tag_at, body_at, cut_short, node_in, link_in}
use Rattle.chart_read.specs.Reading.{SoFar, Refusing, node_late, mixes, link_late, link_after, refusing, node_body_refusal, link_body_refusal, question_body_refusal, body_refusal, field_refusal}
use Rattle.chart_read.specs.Private.{as_keys, link_late_by, link_after_keys, refusing_by}
use Rattle.buffer.proofs.Words.{word_fits}
use Rattle.chart_read.proofs.Fields.{bytes-body}

pub end_fits : (b : List ℕ) → Bytes b → (at : ℕ) → EndKeyed (address_in b at) (end_key (address_in b at))
end_fits b h at =
    let p = h (at + 3) in
    record { key = refl; node = word_fits b h (at + 1); port = omega arith }

-- the counts of what is held
abbrev pub counts_of : SoFar → Counts
counts_of s = record { nodes = s.chart.nodes.count; links = s.chart.links.count; form = s.chart.links.form; asked = s.asked }

module _ (s : SoFar) (keys akeys bkeys : List ℕ) (hn : KeyedNodes s.chart.nodes keys) (hl : KeyedLinks s.chart.links akeys bkeys) where
  abbrev by : Refusing
  by = refusing_by (as_keys keys akeys bkeys (counts_of s))

  node-same : (b : List ℕ) → Bytes b → node_body_refusal by.node b ≡ node_body_refusal (refusing s).node b
  unfolding refusing_by refusing node_body_refusal node_late node_in
  node-same b h =
      ap (λ (k : ℕ). refuse 23 (ltb (length b) 3) (refuse 23 (ltb 27 (length b)) k)) (node-keyed s.chart.nodes keys hn (node_late s) (node_in b) (word_fits b h 1))

  link-same : (form : ℕ) (b : List ℕ) → Bytes b → link_body_refusal form (by.link form) b ≡ link_body_refusal form ((refusing s).link form) b
  unfolding refusing_by refusing link_late_by link_late mixes link_after_keys link_after link_body_refusal link_in
  link-same form b h =
      ap (λ (k : ℕ). refuse 23 (not (eqb (length b) (link_length form))) (refuse 24 (ltb 1 (get_or b 8 0)) k))
      (link-keyed s.chart.nodes keys hn s.chart.links akeys bkeys hl (link_late s form) form (link_in b) _ _ (end_fits b h 0) (end_fits b h 4))

  question-same : (b : List ℕ) → Bytes b → question_body_refusal by.question b ≡ question_body_refusal (refusing s).question b
  unfolding refusing_by refusing question_body_refusal
  question-same b h =
      ap (λ (k : ℕ). refuse 23 (not (eqb (length b) 6)) k)
      (question-keyed s.chart.nodes keys hn s.asked (station_in b 0) (station_in b 3) (word_fits b h 1) (word_fits b h 4))

  body_same : (tag : ℕ) (b : List ℕ) → Bytes b → body_refusal by tag b ≡ body_refusal (refusing s) tag b
  unfolding body_refusal
  body_same tag b h = λ i. cond (eqb tag 1) (node-same b h i) (cond (is_form tag) (link-same tag b h i) (cond (eqb tag 3) (question-same b h i) 22))

  pub field-same : (bytes : List ℕ) → Bytes bytes → (at : ℕ) → field_refusal by bytes at ≡ field_refusal (refusing s) bytes at
  unfolding field_refusal
  field-same bytes h at = ap (refuse 21 (cut_short bytes at)) (body_same (tag_at bytes at) (body_at bytes at) (bytes-body bytes h at))
