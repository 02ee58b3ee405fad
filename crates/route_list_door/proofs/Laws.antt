-- What C gets of pz_routes, from what the reader and the lister give.
use Prim.Native.Nat.{ℕ, zero, suc, ◌≤◌}
use mathlib.Core.Path.{◌≡◌, refl, sym, ap, subst, ◌∙◌}
use mathlib.Core.Bool.{cond}
use mathlib.Core.List.{List}
use native.Mathlib.Nat.{le_refl}
use native.Mathlib.Omega.{arith}
use mir.Val.{bool_byte}
use lib.ListN.{length, length-take}
use Rattle.lists.specs.Refusals.{or_else, unless_refused}
use Rattle.lists.proofs.Bools.{bool-byte}
use Rattle.buffer.specs.Bytes.{Bytes}
use Rattle.chart_refuse.specs.Refusal.{chart_refusal}
use Rattle.chart.specs.declared.Chart.{Chart}
use Rattle.std.specs.Prelude.{Result, Ok, Err}
use Rattle.refusal.specs.declared.Refusal.{Refusal}
use Rattle.refusal.specs.declared.Fault.{Fault}
use Rattle.refusal.specs.Numbers.{number, AnswersAt}
use Rattle.refusal.proofs.Laws.{names}
use Rattle.chart_read.specs.Reading.{read_chart_of}
use Rattle.chart_write.proofs.Promises.{place-near, write_undoes_read}
use Rattle.chart_net.specs.Net.{routes_of}
use Rattle.chart_net.specs.Private.{array_routes}
use Rattle.route_list.specs.declared.Listed.{Listed}
use Rattle.route_list.specs.Listing.{slot_room, list_refusal, list_count, list_more, list_answer, listing_of}
use Rattle.route_list.proofs.Telling.{room_small}
use Rattle.route_list.proofs.Telling as listing
use Rattle.route_trace.specs.Trace.{list_refusal_of, trace_list, trace_slots}
use Rattle.route_trace.specs.Private.{list_known_refusal}
use Rattle.route_trace.proofs.Laws.{list-known}
use Rattle.route_list_door.specs.Calls.{routes_asked, pz_routes_refusal, pz_routes_place, pz_routes_count, pz_routes_more, pz_routes_slots}

-- a call lists no more routes than a number of two bytes can say
pub few : (k : ℕ) (rs : List (List ℕ)) (n : ℕ) (l : Listed) → l ≡ listing_of (list_answer k rs n) → l.count ≤ 4095
unfolding list_answer list_count unless_refused
few zero rs n l e =
    let c = ap (λ (x : Listed). x.count) e in
    let t = length-take (slot_room n) rs in
    let m = room_small n in
    omega arith
few (suc k) rs n l e = let c = ap (λ (x : Listed). x.count) e in omega arith

-- a refusal lists none
none-listed : (r : Refusal) (k : ℕ) (rs : List (List ℕ)) (n : ℕ) → number r ≡ k → (0 ≡ list_count k rs n) × ◌≡◌ {A = ℕ} 0 (cond (list_more k rs n) 1 0)
unfolding list_count list_more unless_refused
none-listed r zero rs n h = absurd (names.none_zero r h)
none-listed r (suc k) rs n h = (refl, refl)

-- what the reader gives
abbrev pub Reads : List ℕ → Result Chart Fault → Type 0
Reads bytes x = AnswersAt x (read_chart_of bytes).refusal (read_chart_of bytes).place (read_chart_of bytes).chart

pub near : (bytes : List ℕ) (f : Fault) → Reads bytes (Err f) → Bytes bytes → f.place ≤ 1113
near bytes f h b = rw h.1 (place-near bytes b)

module _ (bytes buf : List ℕ) where
  -- what C gets: the number k, how many, whether others follow, the place and the slots
  abbrev pub Gives : ℕ → ℕ → ℕ → ℕ → List ℕ → Type 0
  Gives k count more place slots =
      (k ≡ pz_routes_refusal bytes (length buf)) × (count ≡ pz_routes_count bytes (length buf)) × (more ≡ pz_routes_more bytes (length buf)) × (place ≡ pz_routes_place bytes)
      × (slots ≡ pz_routes_slots bytes buf)

  -- a refusal by any, and the slots after it
  refused : (r : Refusal) {slots : List ℕ} → listing.Gives (pz_routes_refusal bytes (length buf)) (routes_asked bytes) buf (Err r) slots → {place : ℕ} → place ≡ pz_routes_place bytes
      → Gives (number r) 0 0 place slots
  unfolding pz_routes_count pz_routes_more pz_routes_slots
  refused r w p = let z = none-listed r (pz_routes_refusal bytes (length buf)) (routes_asked bytes) (length buf) w.0 in (w.0, z.0, z.1, p, w.1)

  -- the chart's number comes before all others
  pub unread : (f : Fault) → Reads bytes (Err f) → Gives (number f.refusal) 0 0 f.place buf
  unfolding pz_routes_refusal pz_routes_place
  unread f h = refused f.refusal (listing.refusing (pz_routes_refusal bytes (length buf)) f.refusal (routes_asked bytes) buf (before (read_chart_of bytes).refusal h.0)) h.1
    where
      before : (k : ℕ) → number f.refusal ≡ k → or_else k (list_refusal (routes_asked bytes) (length buf)) ≡ number f.refusal
      before zero e = absurd (names.none_zero f.refusal e)
      before (suc k) e = sym e

  -- a chart that is read is right, and needs no second test
  module _ (b : Bytes bytes) (c : Chart) (h : Reads bytes (Ok c)) where
    right : (x : Result Listed Refusal) (slots : List ℕ) → listing.Gives (list_known_refusal c (length buf)) (array_routes c) buf x slots
        → listing.Gives (pz_routes_refusal bytes (length buf)) (routes_asked bytes) buf x slots
    unfolding pz_routes_refusal list_refusal_of trace_list trace_slots
    right x slots w =
        let v = (read_chart_of bytes).chart in
        let ok : chart_refusal v ≡ 0 = (write_undoes_read bytes b h.0 bytes (le_refl (length bytes))).refusal in
        let q : list_refusal_of v (length buf) ≡ pz_routes_refusal bytes (length buf) = rw (ok, h.0) in
        subst (λ (k : ℕ). listing.Gives k (routes_of v) buf x slots) q
        (list-known v ok x slots buf (subst (λ (y : Chart). listing.Gives (list_known_refusal y (length buf)) (array_routes y) buf x slots) h.1.1 w))

    unplaced : 0 ≡ pz_routes_place bytes
    unfolding pz_routes_place
    unplaced = sym h.1.0

    pub read : (l : Listed) (slots : List ℕ) → listing.Gives (list_known_refusal c (length buf)) (array_routes c) buf (Ok l) slots → Gives 0 l.count (bool_byte l.more) 0 slots
    unfolding pz_routes_count pz_routes_more pz_routes_slots list_answer
    read l slots g =
        let w = right (Ok l) slots g in
        (sym w.0.0, ap (λ (x : Listed). x.count) w.0.1, bool-byte l.more ∙ ap (λ (x : Listed). cond x.more 1 0) w.0.1, unplaced, w.1)

    pub unlisted : (r : Refusal) (slots : List ℕ) → listing.Gives (list_known_refusal c (length buf)) (array_routes c) buf (Err r) slots → Gives (number r) 0 0 0 slots
    unlisted r slots g = refused r (right (Err r) slots g) unplaced
