-- Reading undoes writing: the bytes of each node and each link stand at its place of the image, and say what they were put for.
use Prim.Native.Nat.{ℕ, ◌+◌, ◌*◌, ◌<◌, min}
use mathlib.Core.Path.{◌≡◌, refl, ap, ap₂, ◌∙◌}
use mathlib.Core.Bool.{Bool, true, false, cond}
use mathlib.Core.List.{List, [], ◌∷◌, ◌++◌, append_assoc}
use native.Mathlib.Omega.{arith}
use lib.Dec.{ltb, eqb}
use lib.ListN.{length, get_or}
use lib.Seq.{get_or-append-add}
use borrow.Author.Tests.{lt-ltb}
use Rattle.lists.specs.Places.{element_at, firsts, row, joined, up_to}
use Rattle.lists.proofs.Places.{Agree, firsts_at, row-agree, joined_at, length-joined}
use Rattle.buffer.specs.Bytes.{word_at}
use Rattle.address_bytes.specs.Wide.{station_bytes, station_in, address_in}
use Rattle.address_bytes.proofs.WideLaws.{address-back}
use Rattle.buffer.proofs.Words.{word_back}
use Rattle.chart.specs.declared.ChartNode.{ChartNode}
use Rattle.chart.specs.declared.Link.{Link}
use Rattle.chart.specs.declared.Chart.{Chart}
use Rattle.chart.specs.Values.{no_node, no_link, node_at, link_at}
use Rattle.chart_read.specs.Fields.{bytes_from}
use Rattle.chart_write.specs.Writing.{on_byte, direction_bytes, link_body}
use Rattle.chart_write.proofs.Laws.{directed-long}
use Rattle.chart_image.specs.Image.{node_image, chart_image, node_held, link_held, chart_in}
use Rattle.chart_image.specs.Promises.{used_chart, WholeLabels}
use Rattle.chart_image.proofs.Laws.{length-node}
use Rattle.chart_image.proofs.Rows.{row-whole}

-- ---- a node is taken from its 28 bytes, wherever they stand

module _ (n : ChartNode) (b : List ℕ) (at : ℕ) (h : (k : ℕ) → k < 28 → get_or b (at + k) 0 ≡ get_or (node_image n) k 0) where
  node-byte : (j k : ℕ) → j ≡ at + k → k < 28 → get_or b j 0 ≡ get_or (node_image n) k 0
  node-byte j k e l = ap (λ (i : ℕ). get_or b i 0) e ∙ h k l

  label-byte : (k : ℕ) → k < 24 → bytes_from b (at + 4) k ≡ element_at 0 n.label k
  unfolding bytes_from node_image
  label-byte k l =
      node-byte (at + 4 + k) (4 + k) (omega arith) (omega arith)
      ∙ get_or-append-add (station_bytes n.station ++ (n.length ∷ [])) (firsts (element_at 0 n.label) 24) k 0
      ∙ firsts_at (element_at 0 n.label) 24 k 0 l

  node-back : length n.label ≡ 24 → record { station = station_in b at; length = get_or b (at + 3) 0; label = row 24 0 (bytes_from b (at + 4)) 24 } ≡ n
  unfolding node_image
  node-back w =
      let brigade : get_or b at 0 ≡ n.station.brigade = node-byte at 0 (omega arith) (omega arith) in
      let node : word_at b (at + 1) ≡ n.station.node.0 =
      ap₂ (λ (x y : ℕ). x * 256 + y) (node-byte (at + 1) 1 refl (omega arith)) (node-byte (at + 1 + 1) 2 (omega arith) (omega arith)) ∙ word_back n.station.node.0 in
      let long : get_or b (at + 3) 0 ≡ n.length = node-byte (at + 3) 3 refl (omega arith) in
      let label : row 24 0 (bytes_from b (at + 4)) 24 ≡ n.label = row-agree 24 0 (bytes_from b (at + 4)) (element_at 0 n.label) 24 label-byte ∙ row-whole 24 0 n.label w in
      λ i. record { station = record { brigade = brigade i; node = record { 0 = node i } }; length = long i; label = label i }

-- ---- a link from its 10 bytes

on-back : (on : Bool) → eqb (on_byte on) 1 ≡ on
on-back true = refl
on-back false = refl

on-small : (on : Bool) → ltb 1 (on_byte on) ≡ false
on-small true = refl
on-small false = refl

module _ (l : Link) (b : List ℕ) (at : ℕ) (h : (k : ℕ) → k < 10 → get_or b (at + k) 0 ≡ get_or (link_body 4 l) k 0) where
  link-byte : (j k : ℕ) → j ≡ at + k → k < 10 → get_or b j 0 ≡ get_or (link_body 4 l) k 0
  link-byte j k e m = ap (λ (i : ℕ). get_or b i 0) e ∙ h k m

  link-back : cond (ltb 1 (get_or b (at + 8) 0)) no_link (record { a = address_in b at; b = address_in b (at + 4); on = eqb (get_or b (at + 8) 0) 1; direction = get_or b (at + 9) 0 }) ≡ l
  unfolding link_body direction_bytes
  link-back =
      let first : address_in b at ≡ l.a =
      address-back l.a b at (link-byte at 0 (omega arith) (omega arith)) (link-byte (at + 1) 1 refl (omega arith)) (link-byte (at + 1 + 1) 2 (omega arith) (omega arith)) (link-byte (at + 3) 3 refl (omega arith)) in
      let second : address_in b (at + 4) ≡ l.b =
      address-back l.b b (at + 4) (link-byte (at + 4) 4 refl (omega arith)) (link-byte (at + 4 + 1) 5 (omega arith) (omega arith)) (link-byte (at + 4 + 1 + 1) 6 (omega arith) (omega arith)) (link-byte (at + 4 + 3) 7 (omega arith) (omega arith)) in
      let on : get_or b (at + 8) 0 ≡ on_byte l.on = link-byte (at + 8) 8 refl (omega arith) in
      let way : get_or b (at + 9) 0 ≡ l.direction = link-byte (at + 9) 9 refl (omega arith) in
      rw (on, on-small l.on) (λ i. record { a = first i; b = second i; on = on-back l.on i; direction = way i })

-- ---- a chart from its image

module _ (c : Chart) (rest : List ℕ) where
  ns : ℕ → ChartNode
  ns = up_to c.nodes.count no_node (node_at c.nodes)

  ls : ℕ → Link
  ls = up_to c.links.count no_link (link_at c.links)

  head : List ℕ
  head = c.nodes.count ∷ c.links.count ∷ c.links.form ∷ station_bytes c.from ++ station_bytes c.to

  image : List ℕ
  image = chart_image c ++ rest

  -- the 9 bytes before the nodes, the nodes, the links
  parts : image ≡ head ++ (joined node_image ns 16 ++ (joined (link_body 4) ls 48 ++ rest))
  unfolding image head ns ls chart_image
  parts = ap (λ (l : List ℕ). head ++ l) (append_assoc (joined node_image ns 16) (joined (link_body 4) ls 48) rest)

  -- the byte k of the node at place i, and of the link
  node-stands : (i : ℕ) → i < 16 → (k : ℕ) → k < 28 → get_or image (9 + 28 * i + k) 0 ≡ get_or (node_image (ns i)) k 0
  unfolding head
  node-stands i h k m =
      let e : 9 + 28 * i + k ≡ 9 + (28 * i + k) = omega arith in
      rw (parts, e) (get_or-append-add head (joined node_image ns 16 ++ (joined (link_body 4) ls 48 ++ rest)) (28 * i + k) 0
      ∙ joined_at node_image 28 length-node ns 16 i k h m (joined (link_body 4) ls 48 ++ rest))

  link-stands : (i : ℕ) → i < 48 → (k : ℕ) → k < 10 → get_or image (457 + 10 * i + k) 0 ≡ get_or (link_body 4 (ls i)) k 0
  unfolding head
  link-stands i h k m =
      let w : length (joined node_image ns 16) ≡ 448 = length-joined node_image 28 length-node ns 16 in
      let e : 457 + 10 * i + k ≡ 9 + (length (joined node_image ns 16) + (10 * i + k)) = omega arith in
      rw (parts, e) (get_or-append-add head (joined node_image ns 16 ++ (joined (link_body 4) ls 48 ++ rest)) (length (joined node_image ns 16) + (10 * i + k)) 0
      ∙ get_or-append-add (joined node_image ns 16) (joined (link_body 4) ls 48 ++ rest) (10 * i + k) 0
      ∙ joined_at (link_body 4) 10 directed-long ls 48 i k h m rest)

  nodes-back : WholeLabels c.nodes → Agree (node_held image) (node_at c.nodes) (min c.nodes.count 16)
  unfolding node_held ns up_to
  nodes-back whole i h =
      let e : ns i ≡ node_at c.nodes i = rw (lt-ltb i c.nodes.count (omega arith)) in
      node-back (ns i) image (9 + 28 * i) (node-stands i (omega arith)) (ap (λ (n : ChartNode). length n.label) e ∙ whole i (omega arith)) ∙ e

  links-back : Agree (link_held image) (link_at c.links) (min c.links.count 48)
  unfolding link_held ls up_to
  links-back i h =
      let e : ls i ≡ link_at c.links i = rw (lt-ltb i c.links.count (omega arith)) in
      link-back (ls i) image (457 + 10 * i) (link-stands i (omega arith)) ∙ e

  from_back : station_in image 3 ≡ c.from
  unfolding image chart_image
  from_back = rw (word_back c.from.node.0)

  to_back : station_in image 6 ≡ c.to
  unfolding image chart_image
  to_back = rw (word_back c.to.node.0)

  counts-back : (get_or image 0 0 ≡ c.nodes.count) × (get_or image 1 0 ≡ c.links.count) × (get_or image 2 0 ≡ c.links.form)
  unfolding image chart_image
  counts-back = (refl, refl, refl)

  pub chart-back : WholeLabels c.nodes → chart_in (chart_image c ++ rest) ≡ used_chart c
  unfolding chart_in used_chart image
  chart-back whole =
      let n = min c.nodes.count 16 in
      let m = min c.links.count 48 in
      rw (counts-back.0, counts-back.1, counts-back.2) (λ i. record {
        nodes = record { count = c.nodes.count; items = row-agree 16 no_node (node_held image) (node_at c.nodes) n (nodes-back whole) i };
        links = record { count = c.links.count; form = c.links.form; items = row-agree 48 no_link (link_held image) (link_at c.links) m links-back i };
        from = from_back i;
        to = to_back i;
      })
