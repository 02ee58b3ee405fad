-- Writing undoes reading: each node and each link that is used has the bytes that stand at its place of the image, and the unused ones are zeros.
use Prim.Native.Nat.{ℕ, zero, suc, ◌+◌, ◌*◌, ◌-◌, ◌/◌, ◌%◌, ◌≤◌, min}
use mathlib.Core.Path.{◌≡◌, refl, sym, ap, ◌∙◌}
use mathlib.Core.Bool.{cond}
use mathlib.Core.List.{List, ◌∷◌, ◌++◌, append_assoc}
use native.Mathlib.Nat.{add-zero, add_assoc}
use native.Mathlib.Omega.{arith}
use lib.Dec.{ltb, eqb}
use lib.ListN.{length, get_or, take, drop, replicate}
use lib.Seq.{take-add}
use borrow.Author.Tests.{le-ltb}
use Rattle.lists.specs.Places.{element_at, firsts, row, joined, up_to}
use Rattle.lists.proofs.Places.{row_at, joined-agree}
use Rattle.buffer.specs.Bytes.{Bytes, word_at}
use Rattle.address_bytes.specs.Wide.{station_bytes, station_in, address_in}
use Rattle.chart.specs.Values.{no_node, no_link, node_at, link_at}
use Rattle.chart_read.specs.Fields.{bytes_from}
use Rattle.buffer.proofs.Words.{high-back, low-back}
use Rattle.chart_write.specs.Writing.{on_byte, direction_bytes, link_body}
use Rattle.chart_image.specs.Image.{node_image, chart_image, node_held, link_held, chart_in}
use Rattle.chart_image.specs.Promises.{used_image, OnBytes}
use Rattle.chart_read.proofs.Laws.{part}
use Rattle.chart_image.proofs.Rows.{joined-counted, joined-part}

on-forth : (x : ℕ) → x ≤ 1 → on_byte (eqb x 1) ≡ x
on-forth zero h = refl
on-forth (suc zero) h = refl
on-forth (suc (suc x)) h = absurd (omega arith)

module _ (b : List ℕ) (bytes : Bytes b) where
  high : (j : ℕ) → word_at b j / 256 ≡ get_or b j 0
  high j = high-back (get_or b j 0) (get_or b (j + 1) 0) (bytes (j + 1))

  low : (j : ℕ) → word_at b j % 256 ≡ get_or b (j + 1) 0
  low j = low-back (get_or b j 0) (get_or b (j + 1) 0) (bytes (j + 1))

  -- ---- the bytes of a node and of a link, one by one

  node-bytes : (at : ℕ) → node_image (record { station = station_in b at; length = get_or b (at + 3) 0; label = row 24 0 (bytes_from b (at + 4)) 24 }) ≡ firsts (λ k. get_or b (at + k) 0) 28
  unfolding node_image firsts row element_at bytes_from
  node-bytes at = rw (high (at + 1), low (at + 1)) (simp (add_assoc, add-zero))

  link-bytes : (at : ℕ) → get_or b (at + 8) 0 ≤ 1
      → link_body 4 (cond (ltb 1 (get_or b (at + 8) 0)) no_link (record { a = address_in b at; b = address_in b (at + 4); on = eqb (get_or b (at + 8) 0) 1; direction = get_or b (at + 9) 0 })) ≡ firsts (λ k. get_or b (at + k) 0) 10
  unfolding link_body direction_bytes firsts
  link-bytes at h =
      rw (le-ltb 1 (get_or b (at + 8) 0) h, high (at + 1), low (at + 1), high (at + 4 + 1), low (at + 4 + 1), on-forth (get_or b (at + 8) 0) h)
      (simp (add_assoc, add-zero))

  node-forth : (i : ℕ) → 9 + 28 * i + 28 ≤ length b → node_image (node_held b i) ≡ take 28 (drop (9 + 28 * i) b)
  unfolding node_held
  node-forth i h = node-bytes (9 + 28 * i) ∙ part b (9 + 28 * i) 28 h

  link-forth : (i : ℕ) → 457 + 10 * i + 10 ≤ length b → get_or b (457 + 10 * i + 8) 0 ≤ 1 → link_body 4 (link_held b i) ≡ take 10 (drop (457 + 10 * i) b)
  unfolding link_held
  link-forth i h on = link-bytes (457 + 10 * i) on ∙ part b (457 + 10 * i) 10 h

  -- ---- the whole image

  module _ (long : 937 ≤ length b) (ons : OnBytes b) where
    n : ℕ
    n = min (get_or b 0 0) 16

    m : ℕ
    m = min (get_or b 1 0) 48

    head-forth : get_or b 0 0 ∷ get_or b 1 0 ∷ get_or b 2 0 ∷ station_bytes (station_in b 3) ++ station_bytes (station_in b 6) ≡ take 9 b
    unfolding firsts
    head-forth = rw (high 4, low 4, high 7, low 7) (part b 0 9 (omega arith))

    nodes-forth : joined node_image (up_to (get_or b 0 0) no_node (node_at (chart_in b).nodes)) 16 ≡ take (28 * n) (drop 9 b) ++ replicate (28 * (16 - n)) 0
    unfolding n chart_in node_at
    nodes-forth =
        let d = element_at no_node (row 16 no_node (node_held b) n) in
        joined-counted node_image 28 no_node (unfold node_image firsts element_at in refl) d (get_or b 0 0) 16
        ∙ ap (λ (l : List ℕ). l ++ replicate (28 * (16 - n)) 0)
        (sym (joined-agree node_image (node_held b) d n (row_at 16 no_node (node_held b) n))
        ∙ joined-part node_image 28 (node_held b) b 9 n (λ i h. node-forth i (omega arith)))

    links-forth : joined (link_body 4) (up_to (get_or b 1 0) no_link (link_at (chart_in b).links)) 48 ≡ take (10 * m) (drop 457 b) ++ replicate (10 * (48 - m)) 0
    unfolding m chart_in link_at
    links-forth =
        let d = element_at no_link (row 48 no_link (link_held b) m) in
        joined-counted (link_body 4) 10 no_link (unfold link_body direction_bytes in refl) d (get_or b 1 0) 48
        ∙ ap (λ (l : List ℕ). l ++ replicate (10 * (48 - m)) 0)
        (sym (joined-agree (link_body 4) (link_held b) d m (row_at 48 no_link (link_held b) m))
        ∙ joined-part (link_body 4) 10 (link_held b) b 457 m (λ i h. link-forth i (omega arith) (ons i (omega arith) (omega arith))))

    pub chart-forth : chart_image (chart_in b) ≡ used_image b
    unfolding chart_image chart_in used_image n m
    chart-forth =
        let x = take (28 * n) (drop 9 b) in
        let y = replicate {A = ℕ} (28 * (16 - n)) 0 in
        let z = take (10 * m) (drop 457 b) ++ replicate (10 * (48 - m)) 0 in
        (λ i. head-forth i ++ (nodes-forth i ++ links-forth i))
        ∙ ap (λ (l : List ℕ). take 9 b ++ l) (append_assoc x y z)
        ∙ sym (append_assoc (take 9 b) x (y ++ z))
        ∙ ap (λ (l : List ℕ). l ++ (y ++ z)) (sym (take-add 9 (28 * n) b))
