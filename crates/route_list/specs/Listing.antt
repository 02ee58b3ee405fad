-- What the lister answers, and the lent bytes after it (document 02, Ten): all routes in order, each in a slot of 16 bytes, as many as there is room for.
use Rattle.std.specs.Prelude.{ℕ, ◌-◌, ◌/◌, Bool, false, cond, List, [], ◌∷◌, ◌++◌, length, take, replicate, ltb, Result, Ok, Err}
use Rattle.lists.specs.Refusals.{refuse, unless_refused}
use Rattle.buffer.specs.Writing.{lent_after}
use Rattle.refusal.specs.declared.Refusal.{Refusal}
use Rattle.refusal.specs.Numbers.{number}
use Rattle.route.specs.All.{first_of}
use Rattle.route_search.specs.Answers.{longest_route, finding_refusal}
use Rattle.route_list.specs.declared.Listed as code

abbrev pub slot_size : ℕ
slot_size = 16

-- one call lists at most 4,095 routes, whose slots have fewer than 65,536 bytes
abbrev pub most_slots : ℕ
most_slots = 4095

-- a route's slot: its length, its links, zeros
unfoldable pub slot_of : List ℕ → List ℕ
slot_of r = length r ∷ (r ++ replicate (longest_route - length r) 0)

-- slots one after the other
unfoldable pub slots_of : List (List ℕ) → List ℕ
slots_of [] = []
slots_of (r ∷ rs) = slot_of r ++ slots_of rs

-- the slots that n bytes have room for
unfoldable pub slot_room : ℕ → ℕ
slot_room n = cond (ltb most_slots (n / slot_size)) most_slots (n / slot_size)

-- the routes that are listed
abbrev pub listed_of : List (List ℕ) → ℕ → List (List ℕ)
listed_of rs n = take (slot_room n) rs

-- 42: there is no room for a slot; 43: there is no route
unfoldable pub list_refusal : List (List ℕ) → ℕ → ℕ
list_refusal rs n = refuse 42 (ltb n slot_size) (finding_refusal (first_of rs))

-- how many are listed, and whether others follow; 0 and no beside a refusal
unfoldable pub list_count : ℕ → List (List ℕ) → ℕ → ℕ
list_count k rs n = unless_refused k (length (listed_of rs n)) 0

unfoldable pub list_more : ℕ → List (List ℕ) → ℕ → Bool
list_more k rs n = unless_refused k (ltb (slot_room n) (length rs)) false

-- how many routes were listed, and whether others follow; or the number of a refusal
pub record Listed : Type 0 where
  pub refusal : ℕ
  pub count : ℕ
  pub more : Bool

-- what is answered where nothing is refused
abbrev pub listing_of : Listed → code.Listed
listing_of l = record { count = l.count; more = l.more }

-- what the lister's result is as an answer: 0 and no beside a refusal
abbrev pub listed : Result code.Listed Refusal → Listed
listed (Ok l) = record { refusal = 0; count = l.count; more = l.more }
listed (Err r) = record { refusal = number r; count = 0; more = false }

-- the answer with the refusal k, and the bytes after it
unfoldable pub list_answer : ℕ → List (List ℕ) → ℕ → Listed
list_answer k rs n = record { refusal = k; count = list_count k rs n; more = list_more k rs n }

unfoldable pub list_after : ℕ → List (List ℕ) → List ℕ → List ℕ
list_after k rs buf = lent_after k (slots_of (listed_of rs (length buf))) buf
