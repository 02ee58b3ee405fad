-- What stands in the lister's slots: the routes that it listed, so that their lines and the last one are the text of the list.
use Prim.Native.Nat.{ℕ, zero, suc, ◌+◌, ◌*◌, ◌-◌, ◌<◌, ◌≤◌}
use mathlib.Core.Path.{◌≡◌, refl, sym, ap, ap₂, subst, ◌∙◌}
use mathlib.Core.Logic.{◌⊎◌, inl, inr}
use mathlib.Core.Bool.{Bool, true, false, cond}
use mathlib.Core.List.{List, [], ◌∷◌, ◌++◌, append_assoc}
use native.Mathlib.Omega.{arith}
use native.Mathlib.Decide.{dec_lt}
use borrow.Author.Tests.{ltb-true, ltb-false}
use lib.ListN.{length, get_or, take, drop, replicate, length-append, length-replicate}
use lib.Dec.{ltb}
use lib.Seq.{take_all, take_at, get_or_at, get_or-take, get_or-drop, drop-append-add}
use Rattle.lists.specs.Refusals.{unless_refused}
use Rattle.lists.proofs.Bools.{both_ways}
use Rattle.route_links.specs.Arrays.{net}
use Rattle.route_search.specs.Private.{places_refusal, routes_over}
use Rattle.route_search.proofs.Telling.{too_many, no_place, places-right}
use Rattle.route_list.specs.Listing.{slot_of, slots_of, slot_room, list_refusal, list_count, list_more, list_answer, list_after, listing_of}
use Rattle.std.specs.Prelude.{Result, Ok, Err}
use Rattle.std.specs.Result.{result_unwrap_or}
use Rattle.refusal.specs.declared.Refusal.{Refusal}
use Rattle.refusal.specs.Numbers.{Answers}
use Rattle.refusal.proofs.Laws.{names}
use Rattle.route_list.specs.declared.Listed.{Listed}
use Rattle.route_list.specs.Private.{list_refusal_over}
use Rattle.route_list.proofs.Slots.{Short, short-take, length-slot, length-slots, slot_at, all_short}
use Rattle.route_list.proofs.Telling.{refusal-none, refusal-some}
use Rattle.sheet_routes.specs.RouteLines.{end_line, more_line, list_text}
use Rattle.sheet_routes.specs.Private.{routes_held, route_at, routes_from, Slotted, lines_text, listed_text}
use Rattle.sheet_routes.proofs.Routes.{list-whole, list_over}

-- a slot past those that have 16 * k bytes
module _ (pre : List ℕ) (k : ℕ) (e : length pre ≡ 16 * k) (r rest : List ℕ) where
  slot-length : get_or (pre ++ (slot_of r ++ rest)) (16 * k) 0 ≡ length r
  unfolding slot_of
  slot-length = get_or_at pre (length r) ((r ++ replicate (15 - length r) 0) ++ rest) 0 (16 * k) e

  slot-route : route_at (pre ++ (slot_of r ++ rest)) k ≡ r
  unfolding route_at slot_of
  slot-route =
      let d : drop (16 * k + 1) (pre ++ (slot_of r ++ rest)) ≡ (r ++ replicate (15 - length r) 0) ++ rest =
      ap (λ (j : ℕ). drop (j + 1) (pre ++ (slot_of r ++ rest))) (sym e) ∙ drop-append-add pre (slot_of r ++ rest) 1
      in
      ap₂ (λ (n : ℕ) (l : List ℕ). take n l) slot-length (d ∙ append_assoc r (replicate (15 - length r) 0) rest) ∙ take_at r (replicate (15 - length r) 0 ++ rest) (length r) refl

routes-back : (rs : List (List ℕ)) (pre rest : List ℕ) (k : ℕ) → Short rs → length pre ≡ 16 * k → routes_from (pre ++ (slots_of rs ++ rest)) k (length rs) ≡ rs
unfolding routes_from slots_of
routes-back [] pre rest k s e = refl
routes-back (r ∷ rs) pre rest k s e =
    let l = length-append pre (slot_of r) in
    let m = length-slot r s.0 in
    let q : pre ++ (slots_of (r ∷ rs) ++ rest) ≡ pre ++ (slot_of r ++ (slots_of rs ++ rest)) = ap (λ (t : List ℕ). pre ++ t) (append_assoc (slot_of r) (slots_of rs) rest) in
    ap₂ (λ (x : List ℕ) (xs : List (List ℕ)). x ∷ xs) (ap (λ (t : List ℕ). route_at t k) q ∙ slot-route pre k e r (slots_of rs ++ rest))
    (ap (λ (t : List ℕ). routes_from t (suc k) (length rs)) (q ∙ sym (append_assoc pre (slot_of r) (slots_of rs ++ rest)))
    ∙ routes-back rs (pre ++ slot_of r) rest (suc k) s.1 (omega arith))

-- the first byte of each slot is the length of its route
lengths_short : (rs : List (List ℕ)) (rest : List ℕ) (k : ℕ) → Short rs → k < length rs → get_or (slots_of rs ++ rest) (16 * k) 0 ≤ 15
unfolding slot_of
lengths_short rs rest k s h =
    let z : 16 * k + 0 ≡ 16 * k = omega arith in
    let e : get_or (slots_of rs ++ rest) (16 * k) 0 ≡ length (get_or rs k []) =
    ap (λ (j : ℕ). get_or (slots_of rs ++ rest) j 0) (sym z)
    ∙ sym (get_or-drop (16 * k) (slots_of rs ++ rest) 0 0)
    ∙ sym (get_or-take 16 (drop (16 * k) (slots_of rs ++ rest)) 0 0 (omega arith))
    ∙ ap (λ (l : List ℕ). get_or l 0 0) (slot_at rs rest k s h)
    in
    let m = short-at rs k s h in
    omega arith
  where
    short-at : (rs : List (List ℕ)) (k : ℕ) → Short rs → k < length rs → length (get_or rs k []) ≤ 15
    short-at [] k s h = absurd (omega arith)
    short-at (r ∷ rs) zero s h = s.0
    short-at (r ∷ rs) (suc k) s h = short-at rs k s.1 (omega arith)

-- ---- what the lister's refusal says of the routes that are held

data Outcome (k : ℕ) (held rs : List (List ℕ)) : Type 0 where
  refused : (k ≡ 0 → ⊥) → held ≡ [] → Outcome k held rs
  listed : k ≡ 0 → held ≡ rs → Short rs → Outcome k held rs

module _ (ends : List (List ℕ)) (ways : List ℕ) (links from to : ℕ) (n : ℕ) (big : 16 ≤ n) where
  abbrev held : List (List ℕ)
  held = routes_held ends ways links from to

  abbrev rs : List (List ℕ)
  rs = routes_over ends ways links from to

  -- 26 or 28
  outside : (p : ℕ) → places_refusal links from ≡ suc p → Outcome (list_refusal_over ends ways links from to n) (routes_held ends ways links from to) (routes_over ends ways links from to)
  unfolding list_refusal_over routes_held unless_refused
  outside p e = refused (λ z. let q : suc p ≡ 0 = rw e at z in absurd (omega arith)) (rw e)

  module _ (few : links ≤ 48) (inside : from < 16) where
    held_all : routes_held ends ways links from to ≡ routes_over ends ways links from to
    unfolding routes_held unless_refused
    held_all = rw (places-right links from few inside)

    numbered : list_refusal_over ends ways links from to n ≡ list_refusal (routes_over ends ways links from to) n
    unfolding list_refusal_over
    numbered = rw (places-right links from few inside)

    short : Short (routes_over ends ways links from to)
    unfolding routes_over
    short = all_short (net ends ways links to) from (omega arith) inside

    within : Dec (0 < length (routes_over ends ways links from to))
        → Outcome (list_refusal_over ends ways links from to n) (routes_held ends ways links from to) (routes_over ends ways links from to)
    within (yes h) = listed (numbered ∙ refusal-some rs n big h) held_all short
    within (no h) =
        let z : length rs ≡ 0 = omega arith in
        refused (λ e. let q : ◌≡◌ {A = ℕ} 43 0 = sym (numbered ∙ refusal-none rs n big z) ∙ e in absurd (omega arith)) (held_all ∙ empty rs z)
      where
        empty : (l : List (List ℕ)) → length l ≡ 0 → l ≡ []
        empty [] e = refl
        empty (r ∷ l) e = absurd (omega arith)

  outcome : Outcome (list_refusal_over ends ways links from to n) (routes_held ends ways links from to) (routes_over ends ways links from to)
  outcome = go (dec_lt 48 links) (dec_lt from 16)
    where
      go : Dec (48 < links) → Dec (from < 16) → Outcome (list_refusal_over ends ways links from to n) held rs
      go (yes h) d = outside 25 (too_many links from h)
      go (no h) (yes k) = within (omega arith) k (dec_lt 0 (length rs))
      go (no h) (no k) = outside 27 (no_place links from (omega arith) (omega arith))

-- ---- the text of what was listed

-- by the routes in the slots
text_of : (slots : List ℕ) (l : Listed) (rs : List (List ℕ)) → routes_from slots 0 l.count ≡ rs → listed_text slots l ≡ lines_text rs ++ cond l.more more_line end_line
unfolding listed_text
text_of slots l rs e = ap (λ (q : List (List ℕ)). lines_text q ++ cond l.more more_line end_line) e

-- those that there is room for, and whether others follow
text-listed : (room : ℕ) (rs : List (List ℕ)) (more : Bool) → ltb room (length rs) ≡ more → (room ≡ 1000) ⊎ ((more ≡ false) × (room ≤ 1000))
    → lines_text (take room rs) ++ cond more more_line end_line ≡ list_text 1000 rs
text-listed room rs false e d =
    let h : length rs ≤ room = ltb-false room (length rs) e in
    ap (λ (q : List (List ℕ)). lines_text q ++ end_line) (take_all room rs h) ∙ list-whole 1000 rs (go d h)
  where
    go : (room ≡ 1000) ⊎ ((false ≡ false) × (room ≤ 1000)) → length rs ≤ room → length rs ≤ 1000
    go (inl q) h = omega arith
    go (inr q) h = let m = q.1 in omega arith
text-listed room rs true e (inl q) =
    let h = ltb-true room (length rs) e in
    ap (λ (k : ℕ). lines_text (take k rs) ++ more_line) q ∙ list_over 1000 rs (omega arith)
text-listed room rs true e (inr q) = absurd (both_ways refl q.0)

-- what was told and written: nothing, or as many routes as there is room for
pub record Known (ends : List (List ℕ)) (ways : List ℕ) (links from to room : ℕ) (slots : List ℕ) (l : Listed) : Type 0 where
  pub slotted : Slotted slots l.count
  pub text : (room ≡ 1000) ⊎ ((l.more ≡ false) × (room ≤ 1000)) → listed_text slots l ≡ list_text 1000 (routes_held ends ways links from to)

module _ (ends : List (List ℕ)) (ways : List ℕ) (links from to : ℕ) (buf : List ℕ) (room : ℕ) (q : slot_room (length buf) ≡ room) where
  abbrev refusal : ℕ
  refusal = list_refusal_over ends ways links from to (length buf)

  abbrev all : List (List ℕ)
  all = routes_over ends ways links from to

  known-refused : (slots : List ℕ) (l : Listed) → (k : ℕ) → (k ≡ 0 → ⊥) → routes_held ends ways links from to ≡ [] → l ≡ listing_of (list_answer k (routes_over ends ways links from to) (length buf)) → Known ends ways links from to room slots l
  unfolding list_answer list_count list_more unless_refused routes_from
  known-refused slots l zero ne e w = absurd (ne refl)
  known-refused slots l (suc k) ne e w =
      let c : l.count ≡ 0 = ap (λ (x : Listed). x.count) w in
      let m : l.more ≡ false = ap (λ (x : Listed). x.more) w in
      record {
        slotted = record { room = omega arith; short = λ j h. absurd (omega arith) };
        text = λ d. text_of slots l [] (ap (routes_from slots 0) c) ∙ ap (λ (b : Bool). lines_text [] ++ cond b more_line end_line) m ∙ list-whole 1000 [] (omega arith) ∙ ap (list_text 1000) (sym e);
      }

  known-listed : (slots : List ℕ) (l : Listed) → (k : ℕ) → k ≡ 0 → routes_held ends ways links from to ≡ routes_over ends ways links from to → Short (routes_over ends ways links from to)
      → l ≡ listing_of (list_answer k (routes_over ends ways links from to) (length buf)) → slots ≡ list_after k (routes_over ends ways links from to) buf → Known ends ways links from to room slots l
  unfolding list_answer list_count list_more list_after unless_refused
  known-listed slots l (suc k) z e s w v = absurd (omega arith)
  known-listed slots l zero z e s w v =
      let c : l.count ≡ length (take room all) = ap (λ (x : Listed). x.count) w ∙ ap (λ (j : ℕ). length (take j all)) q in
      let m : l.more ≡ ltb room (length all) = ap (λ (x : Listed). x.more) w ∙ ap (λ (j : ℕ). ltb j (length all)) q in
      let o : slots ≡ slots_of (take room all) ++ drop (length (slots_of (take room all))) buf = v ∙ ap (λ (j : ℕ). slots_of (take j all) ++ drop (length (slots_of (take j all))) buf) q in
      let t = short-take room all s in
      let n = length-slots (take room all) t in
      let a = length-append (slots_of (take room all)) (drop (length (slots_of (take room all))) buf) in
      let p : length slots ≡ length (slots_of (take room all) ++ drop (length (slots_of (take room all))) buf) = ap length o in
      let b : routes_from slots 0 l.count ≡ take room all =
      ap₂ (λ (x : List ℕ) (y : ℕ). routes_from x 0 y) o c ∙ routes-back (take room all) [] (drop (length (slots_of (take room all))) buf) 0 t refl
      in
      record {
        slotted = record {
          room = omega arith;
          short = λ j h. subst (λ (x : List ℕ). get_or x (16 * j) 0 ≤ 15) (sym o) (lengths_short (take room all) (drop (length (slots_of (take room all))) buf) j t (omega arith));
        };
        text = λ d. text_of slots l (take room all) b ∙ text-listed room all l.more (sym m) d ∙ ap (list_text 1000) (sym e);
      }

  pub known : 16 ≤ length buf → (slots : List ℕ) (l : Listed)
      → l ≡ listing_of (list_answer (list_refusal_over ends ways links from to (length buf)) (routes_over ends ways links from to) (length buf))
      → slots ≡ list_after (list_refusal_over ends ways links from to (length buf)) (routes_over ends ways links from to) buf → Known ends ways links from to room slots l
  known big slots l w v = go (outcome ends ways links from to (length buf) big)
    where
      go : Outcome refusal (routes_held ends ways links from to) all → Known ends ways links from to room slots l
      go (refused ne e) = known-refused slots l refusal ne e w
      go (listed z e s) = known-listed slots l refusal z e s w v

-- where nothing is listed there is none, and nothing more
none-listed : (x : Result Listed Refusal) (k : ℕ) (rs : List (List ℕ)) (n : ℕ) → Answers x k (listing_of (list_answer k rs n))
    → result_unwrap_or x (record { count = 0; more = false }) ≡ listing_of (list_answer k rs n)
unfolding list_answer list_count list_more unless_refused
none-listed (Ok l) k rs n h = h.1
none-listed (Err r) zero rs n h = absurd (names.none_zero r h)
none-listed (Err r) (suc k) rs n h = refl

-- of n bytes that are zeros
pub known-zeros : (ends : List (List ℕ)) (ways : List ℕ) (links from to n room : ℕ) → slot_room n ≡ room → 16 ≤ n → (slots : List ℕ) (x : Result Listed Refusal) (l : Listed)
    → l ≡ result_unwrap_or x (record { count = 0; more = false })
    → Answers x (list_refusal_over ends ways links from to (length {A = ℕ} (replicate n 0)))
    (listing_of (list_answer (list_refusal_over ends ways links from to (length {A = ℕ} (replicate n 0))) (routes_over ends ways links from to) (length {A = ℕ} (replicate n 0))))
    → slots ≡ list_after (list_refusal_over ends ways links from to (length {A = ℕ} (replicate n 0))) (routes_over ends ways links from to) (replicate n 0)
    → Known ends ways links from to room slots l
known-zeros ends ways links from to n room q h slots x l u w v =
    let e = length-replicate {A = ℕ} n 0 in
    known ends ways links from to (replicate n 0) room (ap slot_room e ∙ q) (omega arith) slots l (u ∙ none-listed x _ _ _ w) v
