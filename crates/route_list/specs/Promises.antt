-- What the lister's slots say (document 02, Ten). proofs/Promises.antt has the theorems.
use Rattle.std.specs.Prelude.{ℕ, ◌+◌, ◌*◌, ◌<◌, ◌≤◌, ◌≡◌, true, false, List, [], length, take, drop, get_or}
use Rattle.route.specs.Route.{Net}
use Rattle.route.specs.All.{all_routes, next_of, route}
use Rattle.chart.specs.Values.{most_nodes}
use Rattle.route_list.specs.Listing.{slot_size, slot_of, listed_of, list_refusal, list_count, list_more, list_after}

-- slot k of a buffer
abbrev pub slot_at : List ℕ → ℕ → List ℕ
slot_at buf k = take slot_size (drop (slot_size * k) buf)

-- slot k holds the k-th route, for each that is listed. No route from one of at most 16 nodes is longer than 15
abbrev pub SlotsInOrder : Type 0
SlotsInOrder = (G : Net) (a : ℕ) (buf : List ℕ) (k : ℕ) → G.nodes ≤ most_nodes → a < G.nodes → list_refusal (all_routes G a) (length buf) ≡ 0
    → k < list_count 0 (all_routes G a) (length buf) → slot_at (list_after 0 (all_routes G a) buf) k ≡ slot_of (get_or (all_routes G a) k [])

-- where no others follow, all are listed
abbrev pub AllListed : Type 0
AllListed = (rs : List (List ℕ)) (n : ℕ) → list_refusal rs n ≡ 0 → list_more 0 rs n ≡ false → listed_of rs n ≡ rs

-- where others follow, the one after the last that is listed is the first that is not: next goes on from there
abbrev pub GoesOn : Type 0
GoesOn = (G : Net) (a n k : ℕ) → list_refusal (all_routes G a) n ≡ 0 → list_more 0 (all_routes G a) n ≡ true → list_count 0 (all_routes G a) n ≡ k + 1
    → next_of (all_routes G a) (get_or (all_routes G a) k []) ≡ route (get_or (all_routes G a) (k + 1) [])
