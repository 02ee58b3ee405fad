-- The keys that a walk keeps are those of what it holds: they give each field its number, and so they are after it, taken or refused.
use Prim.Native.Nat.{ℕ, suc, zero, ◌<◌, ◌+◌, ◌≤◌}
use mathlib.Core.Path.{◌≡◌, refl, sym, ap, ap₂, subst, ◌∙◌}
use mathlib.Core.List.{List}
use mathlib.Core.Bool.{Bool, true, false, not}
use native.Mathlib.Omega.{arith}
use lib.ListN.{length, set, length-set}
use lib.Dec.{ltb, leb, eqb}
use borrow.Author.Tests.{eq-eqb, eqb-true, leb-false}
use Rattle.buffer.specs.Bytes.{Bytes}
use Rattle.lists.specs.Refusals.{unless_refused}
use Rattle.lists.proofs.Refusals.{pass, taken, refused}
use Rattle.address_bytes.specs.Wide.{station_in}
use Rattle.chart.specs.Values.{no_chart, node_in_range, link_in_range}
use Rattle.chart.specs.Refusals.{node_refusal_by, link_refusal_by}
use Rattle.chart_refuse.specs.Private.{station_key, end_key, StationKeyed, KeyedNodes, KeyedLinks, node_refusal_by_keys, link_refusal_by_keys}
use Rattle.chart_refuse.proofs.ByKeys.{keyed-node, keyed-link}
use Rattle.chart_read.specs.declared.Counts.{Counts}
use Rattle.chart_read.specs.declared.Keys.{Keys}
use Rattle.chart_read.specs.Fields.{is_form, tag_at, body_at, past_field, node_in, link_in}
use Rattle.chart_read.specs.Reading.{SoFar, nothing, node_added, link_added, with_node, with_link, with_question, with_body, refusing, node_body_refusal, link_body_refusal, body_refusal, field_refusal}
use Rattle.chart_read.specs.Private.{no_keys, as_keys, link_after_keys, refusing_by, with_node_key, with_link_keys, with_asked, keys_with, Takes, TakesField}
use Rattle.chart_read.proofs.Laws.{tag-first, tag-later, form-no-node, with-node, with-link, with-question, node-zero, link-zero, node-bounds, link-bounds, body-zero, field-whole}
use Rattle.chart_read.proofs.Fields.{bytes-body}
use Rattle.chart_read.proofs.Keyed.{end_fits, counts_of, field-same}
use Rattle.buffer.proofs.Words.{word_fits}
use Rattle.chart_read.proofs.Walking.{held_past}

-- ---- one body: refused or taken

module _ (t : Keys) (tag : ℕ) (b : List ℕ) where
  pub takes_none : (k : ℕ) → k ≡ body_refusal (refusing_by t) tag b → (k ≡ 0 → ⊥) → Takes t tag b k t
  takes_none k e z = record { refusal = e; keys = sym (refused _ t k z) }

  pub takes_one : body_refusal (refusing_by t) tag b ≡ 0 → (u : Keys) → u ≡ keys_with t tag b → Takes t tag b 0 u
  takes_one e u q = record { refusal = sym e; keys = q ∙ sym (taken _ t refl) }

-- there is room for the keys of one that is taken
pub node-room : (late : Bool) (keys : List ℕ) (n : ℕ) (b : List ℕ) → node_body_refusal (node_refusal_by_keys late keys n) b ≡ 0 → n < 16
unfolding node_refusal_by_keys node_refusal_by
node-room late keys n b e =
    let x = node_in b in
    let p = pass 22 (ltb 24 x.length) _ (node-bounds (node_refusal_by_keys late keys n) b e).2 in
    let q = pass 23 (not (node_in_range x)) _ p.1 in
    let r = pass 24 late _ q.1 in
    leb-false 16 n (pass 25 (leb 16 n) _ r.1).0

pub link-room : (late : Bool) (form : ℕ) (keys : List ℕ) (n : ℕ) (akeys bkeys : List ℕ) (m : ℕ) (b : List ℕ)
    → link_body_refusal form (link_refusal_by_keys late form keys n akeys bkeys m) b ≡ 0 → m < 48
unfolding link_refusal_by_keys link_refusal_by
link-room late form keys n akeys bkeys m b e =
    let p = pass 23 (not (link_in_range form (link_in b))) _ (link-bounds form (link_refusal_by_keys late form keys n akeys bkeys m) b e).2 in
    let q = pass 24 late _ p.1 in
    let r = pass 25 (ltb 16 n) _ q.1 in
    leb-false 48 m (pass 25 (leb 48 m) _ r.1).0

-- the keys of a link's body
pub link-keys : (t : Keys) (tag : ℕ) (b : List ℕ) → is_form tag ≡ true → with_link_keys t tag (link_in b) ≡ keys_with t tag b
unfolding keys_with
link-keys t tag b e = tag-later _ (form-no-node tag e) (tag-first _ _ e)

-- ---- one field

module _ (t : Keys) (bytes : List ℕ) (at : ℕ) where
  pub field-refused : (k : ℕ) → suc k ≡ field_refusal (refusing_by t) bytes at → TakesField t bytes at (suc k) t
  field-refused k e = record { refusal = e; keys = sym (refused _ t (suc k) (λ z. absurd (omega arith))) }

  -- a whole field is taken as its body is
  pub field-takes : {next : ℕ} → next ≡ past_field bytes at → next ≤ length bytes → {tag : ℕ} → tag_at bytes at ≡ tag → {b : List ℕ} → b ≡ body_at bytes at → {k : ℕ} {u : Keys}
      → Takes t tag b k u → TakesField t bytes at k u
  field-takes q l g e {k} p =
      let d = sym g in
      let h : past_field bytes at ≤ length bytes = omega arith in
      record {
        refusal = field-whole (refusing_by t) bytes at k h (p.refusal ∙ ap₂ (body_refusal (refusing_by t)) d e);
        keys = p.keys ∙ (λ i. unless_refused k (keys_with t (d i) (e i)) t);
      }

  -- there is room for one that is taken
  module _ (e : field_refusal (refusing_by t) bytes at ≡ 0) where
    pub node-left : tag_at bytes at ≡ 1 → t.counts.nodes < 16
    unfolding refusing_by
    node-left g = node-room _ _ _ _ (node-zero (refusing_by t) _ _ (body-zero (refusing_by t) bytes at e) (eq-eqb _ 1 g))

    pub link_left : is_form (tag_at bytes at) ≡ true → t.counts.links < 48
    unfolding refusing_by link_after_keys
    link_left g = link-room _ _ _ _ _ _ _ _ (link-zero (refusing_by t) _ _ (body-zero (refusing_by t) bytes at e) g)

-- ---- the keys of what is held

pub record HeldKeys (s : SoFar) (t : Keys) : Type 0 where
  pub nodes : KeyedNodes s.chart.nodes t.keys
  pub links : KeyedLinks s.chart.links t.akeys t.bkeys
  pub counts : t.counts ≡ counts_of s
  pub few_nodes : s.chart.nodes.count ≤ 16
  pub few_links : s.chart.links.count ≤ 48
  pub long-nodes : length s.chart.nodes.items ≡ 16
  pub long-links : length s.chart.links.items ≡ 48
  pub long-keys : length t.keys ≡ 16
  pub long-akeys : length t.akeys ≡ 48
  pub long-bkeys : length t.bkeys ≡ 48

-- before the first field
pub none-held : HeldKeys nothing no_keys
unfolding nothing no_chart
none-held =
    record {
      nodes = λ i l. absurd (omega arith);
      links = record { a = λ i l. absurd (omega arith); b = λ i l. absurd (omega arith) };
      counts = refl;
      few_nodes = omega arith;
      few_links = omega arith;
      long-nodes = refl;
      long-links = refl;
      long-keys = refl;
      long-akeys = refl;
      long-bkeys = refl;
    }

module _ (s : SoFar) (t : Keys) (h : HeldKeys s t) where
  -- after a body of bytes
  module _ (b : List ℕ) (all : Bytes b) where
    held-node : t.counts.nodes < 16 → HeldKeys (with_node s (node_in b)) (with_node_key t (node_in b))
    unfolding with_node with_node_key node_in
    held-node room =
        let x = node_in b in
        let k = station_key x.station in
        let f : StationKeyed x.station k = record { key = refl; node = word_fits b all 1 } in
        let l : s.chart.nodes.count < 16 = subst (λ (c : Counts). c.nodes < 16) h.counts room in
        record {
          nodes = subst (λ (c : Counts). KeyedNodes (node_added s.chart.nodes x) (set t.keys c.nodes k)) (sym h.counts)
              (keyed-node s.chart.nodes t.keys h.nodes x k f (omega (arith, h.long-nodes)) (omega (arith, h.long-keys)));
          links = h.links;
          counts = ap (λ (c : Counts). record { nodes = c.nodes + 1; links = c.links; form = c.form; asked = c.asked }) h.counts;
          few_nodes = omega (arith, l);
          few_links = h.few_links;
          long-nodes = length-set s.chart.nodes.items s.chart.nodes.count x ∙ h.long-nodes;
          long-links = h.long-links;
          long-keys = length-set t.keys t.counts.nodes k ∙ h.long-keys;
          long-akeys = h.long-akeys;
          long-bkeys = h.long-bkeys;
        }

    held_link : (form : ℕ) → t.counts.links < 48 → HeldKeys (with_link s form (link_in b)) (with_link_keys t form (link_in b))
    unfolding with_link with_link_keys link_in
    held_link form room =
        let x = link_in b in
        let j = end_key x.a in
        let k = end_key x.b in
        let l : s.chart.links.count < 48 = subst (λ (c : Counts). c.links < 48) h.counts room in
        record {
          nodes = h.nodes;
          links = subst (λ (c : Counts). KeyedLinks (link_added s.chart.links form x) (set t.akeys c.links j) (set t.bkeys c.links k)) (sym h.counts)
              (keyed-link s.chart.links t.akeys t.bkeys h.links form x j k (end_fits b all 0) (end_fits b all 4) (omega (arith, h.long-links)) (omega (arith, h.long-akeys)) (omega (arith, h.long-bkeys)));
          counts = ap (λ (c : Counts). record { nodes = c.nodes; links = c.links + 1; form = form; asked = c.asked }) h.counts;
          few_nodes = h.few_nodes;
          few_links = omega (arith, l);
          long-nodes = h.long-nodes;
          long-links = length-set s.chart.links.items s.chart.links.count x ∙ h.long-links;
          long-keys = h.long-keys;
          long-akeys = length-set t.akeys t.counts.links j ∙ h.long-akeys;
          long-bkeys = length-set t.bkeys t.counts.links k ∙ h.long-bkeys;
        }

    held-question : HeldKeys (with_question s (station_in b 0) (station_in b 3)) (with_asked t)
    unfolding with_question with_asked
    held-question =
        record {
          nodes = h.nodes;
          links = h.links;
          counts = ap (λ (c : Counts). record { nodes = c.nodes; links = c.links; form = c.form; asked = true }) h.counts;
          few_nodes = h.few_nodes;
          few_links = h.few_links;
          long-nodes = h.long-nodes;
          long-links = h.long-links;
          long-keys = h.long-keys;
          long-akeys = h.long-akeys;
          long-bkeys = h.long-bkeys;
        }

    held-body : (tag : ℕ) → (tag ≡ 1 → t.counts.nodes < 16) → (is_form tag ≡ true → t.counts.links < 48) → HeldKeys (with_body s tag b) (keys_with t tag b)
    unfolding keys_with
    held-body tag n m = by (eqb tag 1) refl (is_form tag) refl
      where
        by : (x : Bool) → eqb tag 1 ≡ x → (y : Bool) → is_form tag ≡ y → HeldKeys (with_body s tag b) (keys_with t tag b)
        by true p y q = rw (with-node s tag b p, p) (held-node (n (eqb-true tag 1 p)))
        by false p true q = rw (with-link s tag b q, p, q) (held_link tag (m q))
        by false p false q = rw (with-question s tag b p q, p, q) held-question

  module _ (bytes : List ℕ) (all : Bytes bytes) (at : ℕ) where
    -- they give the field its number
    pub held-refusal : field_refusal (refusing_by t) bytes at ≡ field_refusal (refusing s) bytes at
    held-refusal =
        ap (λ (c : Counts). field_refusal (refusing_by (as_keys t.keys t.akeys t.bkeys c)) bytes at) h.counts
        ∙ field-same s t.keys t.akeys t.bkeys h.nodes h.links bytes all at

    -- and after it, taken or refused, they are those of what is then held
    pub held-keys : (k : ℕ) (u : Keys) → TakesField t bytes at k u → HeldKeys (unless_refused k (held_past s bytes at) s) u
    unfolding unless_refused
    held-keys zero u p =
        let e = sym p.refusal in
        subst (HeldKeys (held_past s bytes at)) (sym p.keys)
        (held-body (body_at bytes at) (bytes-body bytes all at) (tag_at bytes at) (node-left t bytes at e) (link_left t bytes at e))
    held-keys (suc k) u p = subst (HeldKeys s) (sym p.keys) h
