-- The numbers that the reader gives for a body: 22 to 30, or 0. 21 is left to a field that is cut short.
use Prim.Native.Nat.{ℕ}
use mathlib.Core.Path.{◌≡◌, refl, sym, ap, ◌∙◌}
use mathlib.Core.List.{List, [], ◌∷◌}
use mathlib.Core.Bool.{Bool, true, false, not, ◌&&◌, ◌||◌}
use lib.ListN.{length, get_or}
use lib.Dec.{ltb, leb, eqb}
use Rattle.lists.specs.Refusals.{refuse, among}
use Rattle.lists.proofs.Bools.{both_ways}
use Rattle.lists.proofs.Given.{Given, tested, chosen}
use Rattle.address.specs.Address.{station_of, station_in_range, same_station}
use Rattle.address_bytes.specs.Wide.{station_in}
use Rattle.chart.specs.Values.{node_in_range, link_in_range, has_node, has_end}
use Rattle.chart.specs.Refusals.{node_refusal_by, link_refusal_by, question_refusal_by, node_refusal, link_refusal, question_refusal}
use Rattle.chart_read.specs.Fields.{is_form, link_length, question_length, tag_at, body_at, cut_short, node_in, link_in}
use Rattle.chart_read.specs.Reading.{SoFar, node_late, link_late, link_after, refusing, node_body_refusal, link_body_refusal, question_body_refusal, body_refusal, field_refusal}

-- the numbers of a bad body, and of any
abbrev pub bad_body_refusals : List ℕ
bad_body_refusals = 22 ∷ 23 ∷ 24 ∷ 25 ∷ 26 ∷ 27 ∷ 28 ∷ 29 ∷ 30 ∷ []

abbrev pub body_refusals : List ℕ
body_refusals = 0 ∷ bad_body_refusals

abbrev R : List ℕ
R = body_refusals

none_read : Given R 0
none_read = record { is = refl }

module _ (s : SoFar) (b : List ℕ) where
  node-read-given : Given R (node_body_refusal (refusing s).node b)
  unfolding node_body_refusal refusing node_refusal node_refusal_by
  node-read-given =
      let n = node_in b in
      tested R 23 (ltb (length b) 3) refl
      (tested R 23 (ltb 27 (length b)) refl
      (tested R 23 (ltb 24 n.length) refl
      (tested R 24 (not (node_in_range n)) refl
      (tested R 25 (node_late s) refl
      (tested R 26 (leb 16 s.chart.nodes.count) refl
      (tested R 27 (has_node s.chart.nodes n.station) refl none_read))))))

  link-read-given : (form : ℕ) → Given R (link_body_refusal form ((refusing s).link form) b)
  unfolding link_body_refusal refusing link_after link_refusal link_refusal_by
  link-read-given form =
      let l = link_in b in
      let ns = s.chart.nodes in
      let ls = s.chart.links in
      tested R 23 (not (eqb (length b) (link_length form))) refl
      (tested R 24 (ltb 1 (get_or b 8 0)) refl
      (tested R 24 (not (link_in_range form l)) refl
      (tested R 25 (link_late s form) refl
      (tested R 26 (ltb 16 ns.count) refl
      (tested R 26 (leb 48 ls.count) refl
      (tested R 28 (not (has_node ns (station_of l.a) && has_node ns (station_of l.b))) refl
      (tested R 29 (same_station (station_of l.a) (station_of l.b)) refl
      (tested R 30 (has_end ls l.a || has_end ls l.b) refl none_read))))))))

  question-read-given : Given R (question_body_refusal (refusing s).question b)
  unfolding question_body_refusal refusing question_refusal question_refusal_by
  question-read-given =
      let from = station_in b 0 in
      let to = station_in b 3 in
      tested R 23 (not (eqb (length b) question_length)) refl
      (tested R 24 (not (station_in_range from && station_in_range to)) refl
      (tested R 25 s.asked refl
      (tested R 26 (ltb 16 s.chart.nodes.count) refl
      (tested R 28 (not (has_node s.chart.nodes from && has_node s.chart.nodes to)) refl none_read))))

  pub body-given : (tag : ℕ) → Given R (body_refusal (refusing s) tag b)
  unfolding body_refusal
  body-given tag =
      chosen R (eqb tag 1) node-read-given (chosen R (is_form tag) (link-read-given tag) (chosen R (eqb tag 3) question-read-given (record { is = refl })))

-- so that a field whose number is 21 is cut short
pub cut-only : (s : SoFar) (bytes : List ℕ) (at : ℕ) → field_refusal (refusing s) bytes at ≡ 21 → cut_short bytes at ≡ true
unfolding field_refusal
cut-only s bytes at = by (cut_short bytes at) (body-given s (body_at bytes at) (tag_at bytes at))
  where
    by : (t : Bool) {k : ℕ} → Given R k → refuse 21 t k ≡ 21 → t ≡ true
    by true g e = refl
    by false g e = absurd (both_ways (sym (ap (λ (k : ℕ). among k R) e) ∙ g.is) refl)
