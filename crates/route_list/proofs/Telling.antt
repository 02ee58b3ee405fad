-- What the lister answers: each refusal in its turn, and what the walk counted and wrote.
use Prim.Native.Nat.{ℕ, zero, suc, ◌+◌, ◌*◌, ◌-◌, ◌<◌, ◌≤◌, min}
use mathlib.Core.Path.{◌≡◌, refl, sym, ap, ap₂, subst, ◌∙◌}
use mathlib.Core.Bool.{Bool, true, false}
use mathlib.Core.List.{List, [], ◌∷◌, ◌++◌, append_assoc}
use native.Mathlib.Omega.{arith}
use borrow.Author.Tests.{lt-ltb, le-ltb, ltb-true, ltb-false}
use lib.Dec.{ltb}
use lib.ListN.{length, take, drop, replicate, length-take, take-append-drop}
use lib.Seq.{sets, take_all, length-take-le, drop-append-le}
use Rattle.lists.specs.Refusals.{unless_refused}
use Rattle.lists.proofs.Stores.{sets-front}
use Rattle.route.specs.All.{first_of}
use Rattle.route_links.specs.Arrays.{net}
use Rattle.route_links.specs.ByNode.{ByNode}
use Rattle.route_links.specs.Private.{Holds}
use Rattle.route_links.proofs.Table.{table-holds}
use Rattle.route_ahead.specs.Ahead.{Reaches}
use Rattle.route_ahead.proofs.Going.{some-reached, unreached}
use Rattle.route_search.specs.Answers.{finding_refusal}
use Rattle.route_search.specs.Private.{routes_over}
use Rattle.route_search.proofs.Telling.{too_many, no_place, places-right}
use Rattle.std.specs.Prelude.{Result, Ok, Err}
use Rattle.refusal.specs.declared.Refusal.{Refusal}
use Rattle.refusal.specs.declared.Refusal.TheVariants.{ChartCrowd, ChartStranger, NoRouteRoom, NoRoute}
use Rattle.refusal.specs.Numbers.{number, Answers}
use Rattle.refusal.proofs.Laws.{names}
use Rattle.route_list.specs.declared.Listed.{Listed}
use Rattle.route_list.specs.Listing.{slots_of, slot_room, list_refusal, list_count, list_more, list_answer, list_after, listing_of, listed}
use Rattle.route_list.specs.Private.{list_refusal_over, Slots, stow_all, paths_on}
use Rattle.route_list.proofs.Slots.{Short, short-take, length-slots, all_short}
use Rattle.route_list.proofs.Stowing.{room-least, stow-all}
use Rattle.route_list.proofs.Turns.{start-paths}

-- an answer beside a refusal
pub answer-refused : (k : ℕ) (rs : List (List ℕ)) (n : ℕ) → (k ≡ 0 → ⊥) → list_answer k rs n ≡ record { refusal = k; count = 0; more = false }
unfolding list_answer list_count list_more unless_refused
answer-refused zero rs n h = absurd (h refl)
answer-refused (suc k) rs n h = refl

-- a result with the answer's number and listing is the answer
pub listed-answer : (x : Result Listed Refusal) (k : ℕ) (rs : List (List ℕ)) (n : ℕ) → Answers x k (listing_of (list_answer k rs n)) → listed x ≡ list_answer k rs n
unfolding list_answer
listed-answer (Ok l) k rs n h = λ i. record { refusal = sym h.0 i; count = (h.1 i).count; more = (h.1 i).more }
listed-answer (Err r) k rs n h = rw (answer-refused k rs n (λ z. names.none_zero r (h ∙ z))) (λ i. record { refusal = h i; count = 0; more = false })

-- what is promised of the answer and the bytes after it, where the refusal is k
abbrev pub Gives : ℕ → List (List ℕ) → List ℕ → Result Listed Refusal → List ℕ → Type 0
Gives k rs buf r after = Answers r k (listing_of (list_answer k rs (length buf))) × (after ≡ list_after k rs buf)

-- a refusal changes nothing
pub refusing : (refusal : ℕ) (r : Refusal) (rs : List (List ℕ)) (buf : List ℕ) → refusal ≡ number r → Gives refusal rs buf (Err r) buf
unfolding list_after unless_refused
refusing zero r rs buf e = absurd (names.none_zero r (sym e))
refusing (suc k) r rs buf e = (sym e, refl)

pub accepting : (refusal : ℕ) (rs : List (List ℕ)) (buf after : List ℕ) (room n : ℕ) (more : Bool) → refusal ≡ 0 → room ≡ slot_room (length buf) → length (take room rs) ≡ n
    → ltb room (length rs) ≡ more → after ≡ slots_of (take room rs) ++ drop (length (slots_of (take room rs))) buf → Gives refusal rs buf (Ok (record { count = n; more = more })) after
unfolding list_answer list_count list_more list_after unless_refused
accepting refusal rs buf after room n more e q c m w = rw (e, ← q) ((refl, λ i. record { count = sym c i; more = sym m i }), w)

-- ---- the numbers

module _ (rs : List (List ℕ)) (n : ℕ) where
  pub refusal-short : n < 16 → list_refusal rs n ≡ 42
  unfolding list_refusal
  refusal-short h = rw (lt-ltb n 16 h)

  pub refusal-none : 16 ≤ n → length rs ≡ 0 → list_refusal rs n ≡ 43
  unfolding list_refusal first_of finding_refusal
  refusal-none h e = rw (le-ltb n 16 h) (go rs e)
    where
      go : (l : List (List ℕ)) → length l ≡ 0 → finding_refusal (first_of l) ≡ 43
      go [] e = refl
      go (r ∷ l) e = absurd (omega arith)

  pub refusal-some : 16 ≤ n → 0 < length rs → list_refusal rs n ≡ 0
  unfolding list_refusal first_of finding_refusal
  refusal-some h l = rw (le-ltb n 16 h) (go rs l)
    where
      go : (l : List (List ℕ)) → 0 < length l → finding_refusal (first_of l) ≡ 0
      go [] e = absurd (omega arith)
      go (r ∷ l) e = refl

-- ---- the room

module _ (n : ℕ) where
  pub room-none : slot_room n ≡ 0 → n < 16
  room-none e = omega (arith, room-least n)

  pub room_fits : 16 * slot_room n ≤ n
  room_fits = omega (arith, room-least n)

  pub room_small : slot_room n ≤ 4095
  room_small = omega (arith, room-least n)

-- ---- the walk's slots are written at the front of the buffer

module _ (buf : List ℕ) (m : ℕ) (h : m ≤ length buf) (new : List ℕ) (l : length new ≤ m) where
  pub front-back : sets (take m buf) 0 new ++ drop m buf ≡ new ++ drop (length new) buf
  front-back =
      let t : length (take m buf) ≡ m = length-take-le m buf h in
      ap (λ (q : List ℕ). q ++ drop m buf) (sets-front (take m buf) new (omega arith))
      ∙ append_assoc new (drop (length new) (take m buf)) (drop m buf)
      ∙ ap (λ (q : List ℕ). new ++ q) (sym (drop-append-le (length new) (take m buf) (drop m buf) (omega arith)) ∙ ap (drop (length new)) (take-append-drop m buf))

-- ---- what was counted and written

module _ (rs : List (List ℕ)) (s : Short rs) (buf : List ℕ) (room : ℕ) (q : room ≡ slot_room (length buf)) (some : room ≡ 0 → ⊥) where
  fits : 16 * room ≤ length buf
  fits = let l = room_fits (length buf) in omega arith

  enough : 16 ≤ length buf
  enough = let l = fits in go room some l
    where
      go : (k : ℕ) → (k ≡ 0 → ⊥) → 16 * k ≤ length buf → 16 ≤ length buf
      go zero n h = absurd (n refl)
      go (suc k) n h = omega arith

  module _ (z : Slots) (w : z ≡ stow_all (record { bytes = take (16 * room) buf; count = 0 }) rs) where
    all : z ≡ record { bytes = sets (take (16 * room) buf) 0 (slots_of (take room rs)); count = min (room + 1) (length rs) }
    all =
        let a : room - 0 ≡ room = omega arith in
        let b : 0 + length rs ≡ length rs = omega arith in
        let e = length-take-le (16 * room) buf fits in
        w
        ∙ stow-all room rs (take (16 * room) buf) 0 s (omega arith) (omega arith)
        ∙ ap₂ (λ (j k : ℕ). record { bytes = sets (take (16 * room) buf) 0 (slots_of (take j rs)); count = min (room + 1) k }) a b

    counted : z.count ≡ min (room + 1) (length rs)
    counted = ap (λ (q : Slots). q.count) all

    written : z.bytes ++ drop (16 * room) buf ≡ slots_of (take room rs) ++ drop (length (slots_of (take room rs))) buf
    written =
        let l = length-slots (take room rs) (short-take room rs s) in
        let t = length-take room rs in
        ap (λ (q : Slots). q.bytes ++ drop (16 * room) buf) all ∙ front-back buf (16 * room) fits (slots_of (take room rs)) (omega arith)

    -- more than there is room for, and all of them
    told_more : room < z.count → Gives (list_refusal rs (length buf)) rs buf (Ok (record { count = room; more = true })) (z.bytes ++ drop (16 * room) buf)
    told_more h =
        let c = counted in
        let l : length (take room rs) ≡ room = length-take-le room rs (omega arith) in
        accepting (list_refusal rs (length buf)) rs buf _ room room true (refusal-some rs (length buf) enough (omega arith)) q l (lt-ltb room (length rs) (omega arith)) written

    told-all : 0 < length rs → z.count ≤ room → Gives (list_refusal rs (length buf)) rs buf (Ok (record { count = z.count; more = false })) (z.bytes ++ drop (16 * room) buf)
    told-all ne h =
        let c = counted in
        let n : length rs ≤ room = omega arith in
        let l : length (take room rs) ≡ z.count = ap length (take_all room rs n) ∙ omega arith in
        accepting (list_refusal rs (length buf)) rs buf _ room z.count false (refusal-some rs (length buf) enough ne) q l (le-ltb room (length rs) n) written

    -- others follow where there are more than there is room for
    follow : (b : Bool) → ltb room z.count ≡ b → ltb room (length rs) ≡ b
    follow true h = let l = ltb-true room z.count h in let c = counted in lt-ltb room (length rs) (omega arith)
    follow false h = let l = ltb-false room z.count h in let c = counted in le-ltb room (length rs) (omega arith)

    told : 0 < length rs → Gives (list_refusal rs (length buf)) rs buf (Ok (record { count = min z.count room; more = ltb room z.count })) (z.bytes ++ drop (16 * room) buf)
    told ne =
        let c = counted in
        let l : length (take room rs) ≡ min z.count room = omega (arith, length-take room rs) in
        accepting (list_refusal rs (length buf)) rs buf _ room _ _ (refusal-some rs (length buf) enough ne) q l (follow (ltb room z.count) refl) written

-- ---- the list over the arrays: each way that the code returns

module _ (ends : List (List ℕ)) (ways : List ℕ) (links from to : ℕ) (buf : List ℕ) where
  abbrev pub Lists : Result Listed Refusal → List ℕ → Type 0
  Lists r after = Gives (list_refusal_over ends ways links from to (length buf)) (routes_over ends ways links from to) buf r after

  -- 26 and 28 come before all others
  pub list-many : 48 < links → Lists (Err ChartCrowd) buf
  unfolding list_refusal_over
  list-many h = refusing (list_refusal_over ends ways links from to (length buf)) ChartCrowd (routes_over ends ways links from to) buf (rw (too_many links from h))

  pub list-placeless : links ≤ 48 → 16 ≤ from → Lists (Err ChartStranger) buf
  unfolding list_refusal_over
  list-placeless h k = refusing (list_refusal_over ends ways links from to (length buf)) ChartStranger (routes_over ends ways links from to) buf (rw (no_place links from h k))

  module _ (few : links ≤ 48) (inside : from < 16) where
    numbered : list_refusal (routes_over ends ways links from to) (length buf) ≡ list_refusal_over ends ways links from to (length buf)
    unfolding list_refusal_over
    numbered = rw (places-right links from few inside)

    pub list-roomless : (room : ℕ) → room ≡ slot_room (length buf) → room ≡ 0 → Lists (Err NoRouteRoom) buf
    list-roomless room e z =
        refusing (list_refusal_over ends ways links from to (length buf)) NoRouteRoom (routes_over ends ways links from to) buf
        (sym numbered ∙ refusal-short (routes_over ends ways links from to) (length buf) (room-none (length buf) (sym e ∙ z)))

    -- no route leads from there
    pub list-nowhere : (room : ℕ) → room ≡ slot_room (length buf) → (room ≡ 0 → ⊥) → (t : List ℕ) → ByNode (net ends ways links to) t
        → (answer : Bool) → Reaches t from answer → answer ≡ false → Lists (Err NoRoute) buf
    unfolding routes_over
    list-nowhere room e some t b answer R off =
        refusing (list_refusal_over ends ways links from to (length buf)) NoRoute rs₀ buf
        (sym numbered
        ∙ refusal-none rs₀ (length buf) (enough rs₀ (all_short (net ends ways links to) from (omega arith) inside) buf room e some)
        (ap length (sym (H.same from inside) ∙ unreached t from answer R H.walkable inside off)))
      where
        rs₀ : List (List ℕ)
        rs₀ = routes_over ends ways links from to

        H : Holds (net ends ways links to) t
        H = table-holds ends ways links to t b

    -- what the walk counted and wrote
    module _ (room : ℕ) (q : room ≡ slot_room (length buf)) (some : room ≡ 0 → ⊥) (t : List ℕ) (b : ByNode (net ends ways links to) t) (z : Slots)
        (w : z ≡ stow_all (record { bytes = take (16 * room) buf; count = 0 }) (paths_on t from 0 (replicate 16 0) 0)) where
      abbrev rs : List (List ℕ)
      rs = routes_over ends ways links from to

      short : Short (routes_over ends ways links from to)
      unfolding routes_over
      short = all_short (net ends ways links to) from (omega arith) inside

      walked : z ≡ stow_all (record { bytes = take (16 * room) buf; count = 0 }) (routes_over ends ways links from to)
      unfolding routes_over
      walked = w ∙ ap (stow_all (record { bytes = take (16 * room) buf; count = 0 })) (start-paths t from ∙ (table-holds ends ways links to t b).same from inside)

      over : (r : Result Listed Refusal) → Gives (list_refusal (routes_over ends ways links from to) (length buf)) (routes_over ends ways links from to) buf r (z.bytes ++ drop (16 * room) buf) → Lists r (z.bytes ++ drop (16 * room) buf)
      over r g = subst (λ (k : ℕ). Gives k rs buf r (z.bytes ++ drop (16 * room) buf)) numbered g

      some-listed : (answer : Bool) → Reaches t from answer → answer ≡ true → 0 < length (routes_over ends ways links from to)
      unfolding routes_over
      some-listed answer R e = some-routes rs (λ k. some-reached t from answer R H.walkable inside e (H.same from inside ∙ k))
        where
          H : Holds (net ends ways links to) t
          H = table-holds ends ways links to t b

          some-routes : (l : List (List ℕ)) → (l ≡ [] → ⊥) → 0 < length l
          some-routes [] k = absurd (k refl)
          some-routes (r ∷ l) k = omega arith

      pub lists_more : room < z.count → Lists (Ok (record { count = room; more = true })) (z.bytes ++ drop (16 * room) buf)
      lists_more h = over (Ok (record { count = room; more = true })) (told_more rs short buf room q some z walked h)

      pub list_all : (answer : Bool) → Reaches t from answer → answer ≡ true → z.count ≤ room
          → Lists (Ok (record { count = z.count; more = false })) (z.bytes ++ drop (16 * room) buf)
      list_all answer R e h = over (Ok (record { count = z.count; more = false })) (told-all rs short buf room q some z walked (some-listed answer R e) h)

      pub lists : (answer : Bool) → Reaches t from answer → answer ≡ true
          → Lists (Ok (record { count = min z.count room; more = ltb room z.count })) (z.bytes ++ drop (16 * room) buf)
      lists answer R e = over (Ok (record { count = min z.count room; more = ltb room z.count })) (told rs short buf room q some z walked (some-listed answer R e))
