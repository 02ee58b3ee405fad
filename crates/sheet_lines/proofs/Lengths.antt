-- How long the lines are, with their values in range.
use Prim.Native.Nat.{ℕ, ◌+◌, ◌<◌, ◌≤◌}
use mathlib.Core.Path.{◌≡◌}
use mathlib.Core.Bool.{Bool, true, false, cond}
use mathlib.Core.List.{List, [], ◌∷◌}
use native.Mathlib.Omega.{arith}
use borrow.Author.Tests.{leb-true}
use lib.ListN.{length, take, length-append, length-take}
use lib.Dec.{eqb, leb}
use Rattle.lists.proofs.Bools.{and_left, and_right}
use Rattle.address.specs.declared.Station.{Station}
use Rattle.address.specs.declared.Address.{Address}
use Rattle.address.specs.Address.{station_of, station_in_range, in_range}
use Rattle.chart.specs.declared.ChartNode.{ChartNode}
use Rattle.chart.specs.declared.Link.{Link}
use Rattle.text.specs.Marks.{ascii}
use Rattle.text.specs.Decimal.{decimal}
use Rattle.text.proofs.Lengths.{two, three, four}
use Rattle.sheet_lines.specs.Lines.{station_text, end_text, label_text, node_line, on_off, direction_text, link_line, question_line}

-- a station in range
station-range : (s : Station) → station_in_range s ≡ true → (s.brigade < 1000) × (s.node.0 < 10000)
unfolding station_in_range
station-range s h =
    let p = leb-true s.brigade 255 (and_left (leb s.brigade 255) (leb s.node.0 1023) h) in
    let q = leb-true s.node.0 1023 (and_right (leb s.brigade 255) (leb s.node.0 1023) h) in
    (omega arith, omega arith)

end-range : (e : Address) → in_range e ≡ true → (station_in_range (station_of e) ≡ true) × (e.port.0 < 100)
unfolding in_range
end-range e h =
    let q = leb-true e.port.0 63 (and_right (station_in_range (station_of e)) (leb e.port.0 63) h) in
    (and_left (station_in_range (station_of e)) (leb e.port.0 63) h, omega arith)

pub station-long : (s : Station) → station_in_range s ≡ true → length (station_text s) ≤ 8
unfolding station_text
station-long s h =
    let r = station-range s h in
    let b : length (decimal s.brigade) ≤ 3 = three 20 s.brigade r.0 in
    let n : length (decimal s.node.0) ≤ 4 = four 20 s.node.0 r.1 in
    rw (length-append, length-append) (omega arith)

end-long : (e : Address) → in_range e ≡ true → length (end_text e) ≤ 11
unfolding end_text
end-long e h =
    let q = end-range e h in
    let s = station-long (station_of e) q.0 in
    let p : length (decimal e.port.0) ≤ 2 = two 20 e.port.0 q.1 in
    rw (length-append, length-append) (omega arith)

label-long : (l : List ℕ) → length (label_text l) ≤ length l + 1
unfolding label_text
label-long [] = omega arith
label-long (x ∷ l) = omega arith

pub node_long : (i : ℕ) (n : ChartNode) → i < 100 → station_in_range n.station ≡ true → n.length ≤ 24 → length (node_line i n) ≤ 37
unfolding node_line
node_long i n h s k =
    let p : length (decimal i) ≤ 2 = two 20 i h in
    let q = station-long n.station s in
    let t : length (take n.length n.label) ≤ 24 = rw length-take (omega arith) in
    let l = label-long (take n.length n.label) in
    rw (length-append, length-append, length-append, length-append) (omega arith)

on-long : (on : Bool) → length (on_off on) ≤ 3
on-long true = omega arith
on-long false = omega arith

direction-long : (d : ℕ) → length (direction_text d) ≤ 4
unfolding direction_text
direction-long d = go (eqb d 0) (eqb d 1)
  where
    go : (b o : Bool) → length (cond b (ascii "both") (cond o (ascii "out") (ascii "back"))) ≤ 4
    go true o = omega arith
    go false true = omega arith
    go false false = omega arith

pub link_long : (i : ℕ) (l : Link) → i < 100 → in_range l.a ≡ true → in_range l.b ≡ true → length (link_line i l) ≤ 36
unfolding link_line
link_long i l h a b =
    let p : length (decimal i) ≤ 2 = two 20 i h in
    let q = end-long l.a a in
    let r = end-long l.b b in
    let o = on-long l.on in
    let d = direction-long l.direction in
    rw (length-append, length-append, length-append, length-append, length-append, length-append, length-append, length-append, length-append) (omega arith)

pub question-long : (from to : Station) → station_in_range from ≡ true → station_in_range to ≡ true → length (question_line from to) ≤ 26
unfolding question_line
question-long from to h k =
    let p = station-long from h in
    let q = station-long to k in
    rw (length-append, length-append, length-append, length-append) (omega arith)
