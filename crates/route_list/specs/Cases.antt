-- Slots, by example: three routes, of no link, of one and of two.
use Rattle.std.specs.Prelude.{ℕ, ◌≡◌, refl, true, false, List, [], ◌∷◌, ◌++◌, replicate}
use Rattle.lists.specs.Refusals.{unless_refused}
use Rattle.route.specs.All.{first_of}
use Rattle.route_search.specs.Answers.{finding_refusal}
use Rattle.route_list.specs.Listing.{slot_of, slots_of, slot_room, list_refusal, list_count, list_more, list_answer, list_after}

abbrev pub three : List (List ℕ)
three = [] ∷ (7 ∷ []) ∷ (0 ∷ 47 ∷ []) ∷ []

-- n bytes of 9
abbrev pub nines : ℕ → List ℕ
nines n = replicate n 9

-- the three slots
abbrev pub slot0 : List ℕ
slot0 = replicate 16 0

abbrev pub slot1 : List ℕ
slot1 = 1 ∷ 7 ∷ replicate 14 0

abbrev pub slot2 : List ℕ
slot2 = 2 ∷ 0 ∷ 47 ∷ replicate 13 0

pub record Cases : Type 0 where
  pub slots : (slot_of [] ≡ slot0) × (slot_of (7 ∷ []) ≡ slot1) × (slot_of (0 ∷ 47 ∷ []) ≡ slot2)
  -- the longest route fills its slot
  pub longest : slot_of (replicate 15 3) ≡ 15 ∷ replicate 15 3
  -- room for one, and 15 bytes that are not used; for two; for all three, and bytes past them
  pub one : (list_answer 0 three 31 ≡ record { refusal = 0; count = 1; more = true }) × (list_after 0 three (nines 31) ≡ slot0 ++ nines 15)
  pub two : (list_answer 0 three 32 ≡ record { refusal = 0; count = 2; more = true }) × (list_after 0 three (nines 32) ≡ slot0 ++ slot1)
  pub all : (list_answer 0 three 48 ≡ record { refusal = 0; count = 3; more = false }) × (list_after 0 three (nines 50) ≡ slot0 ++ slot1 ++ slot2 ++ nines 2)
  -- room beyond 4,095 slots is not used
  pub room : (slot_room 65519 ≡ 4094) × (slot_room 65520 ≡ 4095) × (slot_room 65536 ≡ 4095) × (slot_room 1000000 ≡ 4095)
  -- 42 before 43; a refusal changes no byte
  pub numbers : (list_refusal three 16 ≡ 0) × (list_refusal three 15 ≡ 42) × (list_refusal [] 15 ≡ 42) × (list_refusal [] 16 ≡ 43)
  pub refused : (list_answer 43 [] 16 ≡ record { refusal = 43; count = 0; more = false }) × (list_after 42 three (nines 15) ≡ nines 15)

pub cases : Cases
unfolding unless_refused first_of finding_refusal slot_of slots_of slot_room list_refusal list_count list_more list_answer list_after
cases =
    record {
      slots = (refl, refl, refl);
      longest = refl;
      one = (refl, refl);
      two = (refl, refl);
      all = (refl, refl);
      room = (refl, refl, refl, refl);
      numbers = (refl, refl, refl, refl);
      refused = (refl, refl);
    }
