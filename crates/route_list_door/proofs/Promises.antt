-- The theorem of specs/Promises.antt: a chart that is read is right, so that its question begins at one of at most 16 nodes.
use Prim.Native.Nat.{ℕ, ◌+◌, ◌*◌, ◌<◌, ◌≤◌}
use mathlib.Core.Path.{◌≡◌, refl, sym, ap, ◌∙◌}
use mathlib.Core.Bool.{Bool, true, false, cond}
use mathlib.Core.List.{List, [], ◌++◌}
use native.Mathlib.Nat.{le_refl}
use native.Mathlib.Omega.{arith}
use lib.ListN.{length, get_or, take, drop}
use lib.Seq.{drop_at}
use Rattle.lists.specs.Refusals.{unless_refused}
use Rattle.lists.proofs.Refusals.{or-pass}
use Rattle.buffer.specs.Bytes.{Bytes}
use Rattle.route.specs.All.{next_of, route}
use Rattle.chart.specs.declared.Chart.{Chart}
use Rattle.chart_refuse.specs.Promises.{Accepted}
use Rattle.chart_refuse.proofs.Accepted.{accepted}
use Rattle.chart_read.specs.Reading.{read_chart_of}
use Rattle.chart_write.proofs.Promises.{write_undoes_read}
use Rattle.chart_net.specs.Net.{chart_net, start, routes_of, routes_between}
use Rattle.chart_net.proofs.Promises.{accepted-ends}
use Rattle.route_list.specs.Promises.{slot_at}
use Rattle.route_list.specs.Listing.{slot_of, slots_of, slot_room, list_refusal, list_count, list_more, list_after}
use Rattle.route_list.proofs.Slots.{Short, short-take, length-slots, all_short}
use Rattle.route_list.proofs.Promises.{slots-in-order, all_listed, goes_on}
use Rattle.route_list_door.specs.Calls.{routes_asked, pz_routes_refusal, pz_routes_count, pz_routes_more, pz_routes_slots}
use Rattle.route_list_door.specs.Promises.{EverySlotCalled}

module _ (bytes slots : List ℕ) (b : Bytes bytes) (z : pz_routes_refusal bytes (length slots) ≡ 0) where
  abbrev c : Chart
  c = (read_chart_of bytes).chart

  abbrev rs : List (List ℕ)
  rs = routes_asked bytes

  parts : ((read_chart_of bytes).refusal ≡ 0) × (list_refusal (routes_asked bytes) (length slots) ≡ 0)
  unfolding pz_routes_refusal
  parts = or-pass (read_chart_of bytes).refusal (list_refusal (routes_asked bytes) (length slots)) z

  yes : Accepted (read_chart_of bytes).chart
  yes = accepted c (write_undoes_read bytes b parts.0 bytes (le_refl (length bytes))).refusal

  -- the call answers as the lister does of the chart's net
  counted : pz_routes_count bytes (length slots) ≡ list_count 0 (routes_asked bytes) (length slots)
  unfolding pz_routes_count
  counted = ap (λ (k : ℕ). list_count k (routes_asked bytes) (length slots)) z

  followed : pz_routes_more bytes (length slots) ≡ cond (list_more 0 (routes_asked bytes) (length slots)) 1 0
  unfolding pz_routes_more
  followed = ap (λ (k : ℕ). cond (list_more k (routes_asked bytes) (length slots)) 1 0) z

  after : pz_routes_slots bytes slots ≡ list_after 0 (routes_asked bytes) slots
  unfolding pz_routes_slots
  after = ap (λ (k : ℕ). list_after k (routes_asked bytes) slots) z

  -- its question begins at one of at most 16 nodes
  begins : start (read_chart_of bytes).chart < (chart_net (read_chart_of bytes).chart).nodes
  unfolding chart_net
  begins = (accepted-ends c yes).begins

  few : (chart_net (read_chart_of bytes).chart).nodes ≤ 16
  unfolding chart_net
  few = yes.few_nodes

  short : Short (routes_asked bytes)
  unfolding routes_of routes_between chart_net start
  short = all_short (chart_net c) (start c) few begins

  each : (k : ℕ) → k < pz_routes_count bytes (length slots) → slot_at (pz_routes_slots bytes slots) k ≡ slot_of (get_or (routes_asked bytes) k [])
  unfolding routes_of routes_between chart_net start
  each k h = ap (λ (l : List ℕ). slot_at l k) after ∙ slots-in-order (chart_net c) (start c) slots k few begins parts.1 (rw counted at h)

  past : drop (16 * pz_routes_count bytes (length slots)) (pz_routes_slots bytes slots) ≡ drop (16 * pz_routes_count bytes (length slots)) slots
  unfolding list_count list_after unless_refused
  past =
      let n : ℕ = slot_room (length slots) in
      let l : length (slots_of (take n rs)) ≡ 16 * length (take n rs) = length-slots (take n rs) (short-take n rs short) in
      let e : 16 * pz_routes_count bytes (length slots) ≡ length (slots_of (take n rs)) = (let q = counted in omega arith) in
      ap (drop (16 * pz_routes_count bytes (length slots))) after
      ∙ ap (λ (j : ℕ). drop j (slots_of (take n rs) ++ drop (length (slots_of (take n rs))) slots)) e
      ∙ drop_at (slots_of (take n rs)) (drop (length (slots_of (take n rs))) slots) (length (slots_of (take n rs))) refl
      ∙ ap (λ (j : ℕ). drop j slots) (sym e)

  -- 0 and 1 are no and yes
  none-follow : pz_routes_more bytes (length slots) ≡ 0 → list_more 0 (routes_asked bytes) (length slots) ≡ false
  none-follow m = go (list_more 0 rs (length slots)) (sym followed ∙ m)
    where
      go : (o : Bool) → cond {A = ℕ} o 1 0 ≡ 0 → o ≡ false
      go true e = absurd (omega arith)
      go false e = refl

  some-follow : pz_routes_more bytes (length slots) ≡ 1 → list_more 0 (routes_asked bytes) (length slots) ≡ true
  some-follow m = go (list_more 0 rs (length slots)) (sym followed ∙ m)
    where
      go : (o : Bool) → cond {A = ℕ} o 1 0 ≡ 1 → o ≡ true
      go true e = refl
      go false e = absurd (omega arith)

  all : pz_routes_more bytes (length slots) ≡ 0 → pz_routes_count bytes (length slots) ≡ length (routes_asked bytes)
  unfolding list_count unless_refused
  all m = counted ∙ ap length (all_listed rs (length slots) parts.1 (none-follow m))

  on : (k : ℕ) → pz_routes_more bytes (length slots) ≡ 1 → pz_routes_count bytes (length slots) ≡ k + 1
      → next_of (routes_asked bytes) (get_or (routes_asked bytes) k []) ≡ route (get_or (routes_asked bytes) (k + 1) [])
  unfolding routes_of routes_between chart_net start
  on k m q = goes_on (chart_net c) (start c) (length slots) k parts.1 (some-follow m) (sym counted ∙ q)

pub every-slot-called : EverySlotCalled
every-slot-called bytes slots b z = record { each = each bytes slots b z; past = past bytes slots b z; all = all bytes slots b z; goes_on = on bytes slots b z }
