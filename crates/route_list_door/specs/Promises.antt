-- All routes in slots as C sees it (document 02, Ten): pz_routes on a chart's bytes and lent slots. proofs/Promises.antt has the theorem.
use Rattle.std.specs.Prelude.{ℕ, ◌+◌, ◌*◌, ◌<◌, ◌≡◌, List, [], length, get_or, drop}
use Rattle.buffer.specs.Bytes.{Bytes}
use Rattle.route.specs.All.{next_of, route}
use Rattle.route_list.specs.Listing.{slot_size, slot_of}
use Rattle.route_list.specs.Promises.{slot_at}
use Rattle.route_list_door.specs.Calls.{routes_asked, pz_routes_refusal, pz_routes_count, pz_routes_more, pz_routes_slots}

-- slot k holds the k-th route that the chart asks for, and bytes past the slots stay; where no others follow all are listed, and else the one after the last
-- that is listed is the first that is not
pub record SlotsCalled (bytes slots : List ℕ) : Type 0 where
  pub each : (k : ℕ) → k < pz_routes_count bytes (length slots) → slot_at (pz_routes_slots bytes slots) k ≡ slot_of (get_or (routes_asked bytes) k [])
  pub past : drop (slot_size * pz_routes_count bytes (length slots)) (pz_routes_slots bytes slots) ≡ drop (slot_size * pz_routes_count bytes (length slots)) slots
  pub all : pz_routes_more bytes (length slots) ≡ 0 → pz_routes_count bytes (length slots) ≡ length (routes_asked bytes)
  pub goes_on : (k : ℕ) → pz_routes_more bytes (length slots) ≡ 1 → pz_routes_count bytes (length slots) ≡ k + 1
      → next_of (routes_asked bytes) (get_or (routes_asked bytes) k []) ≡ route (get_or (routes_asked bytes) (k + 1) [])

-- so it is wherever the call does not refuse
abbrev pub EverySlotCalled : Type 0
EverySlotCalled = (bytes slots : List ℕ) → Bytes bytes → pz_routes_refusal bytes (length slots) ≡ 0 → SlotsCalled bytes slots
