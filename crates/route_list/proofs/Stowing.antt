-- Routes written into slots one after the other: what a turn of the walk leaves, and what all of them together leave.
use Prim.Native.Nat.{ℕ, zero, suc, ◌+◌, ◌*◌, ◌-◌, ◌/◌, ◌<◌, ◌≤◌, min}
use mathlib.Core.Path.{◌≡◌, refl, sym, ap, ap₂, ◌∙◌}
use mathlib.Core.Bool.{Bool, true, false, cond}
use mathlib.Core.List.{List, [], ◌∷◌, ◌++◌}
use native.Mathlib.Numerals.{add-one}
use native.Mathlib.Omega.{arith}
use borrow.Author.Tests.{lt-ltb, le-ltb, ltb-true, ltb-false}
use lib.Dec.{ltb}
use lib.ListN.{length, take, drop, set, replicate, take-append-drop}
use lib.Seq.{sets, length-sets, drop-set-lt, take-suc-set, length-take-le, take-nil}
use Rattle.lists.proofs.Stores.{sets-append}
use Rattle.route_list.specs.Listing.{slot_of, slots_of, slot_room}
use Rattle.route_list.specs.Private.{room_in, slot_put, Slots, full, stow, stow_all, links_in, Cleared}
use Rattle.route_list.proofs.Slots.{Short, length-slot}

-- ---- the room

pub room_most : (n : ℕ) → 4095 < n / 16 → 4095 ≡ slot_room n
unfolding slot_room
room_most n h = rw (lt-ltb 4095 (n / 16) h)

pub room-all : (n : ℕ) → n / 16 ≤ 4095 → n / 16 ≡ slot_room n
unfolding slot_room
room-all n h = rw (le-ltb 4095 (n / 16) h)

pub room-least : (n : ℕ) → min 4095 (n / 16) ≡ slot_room n
unfolding slot_room
room-least n = go (ltb 4095 (n / 16)) refl
  where
    go : (b : Bool) → ltb 4095 (n / 16) ≡ b → min 4095 (n / 16) ≡ cond b 4095 (n / 16)
    go true h = let l = ltb-true 4095 (n / 16) h in omega arith
    go false h = let l = ltb-false 4095 (n / 16) h in omega arith

-- ---- a route more

module _ (bytes : List ℕ) (n : ℕ) (r : List ℕ) where
  pub stow-room : n < room_in bytes → stow (record { bytes = bytes; count = n }) r ≡ record { bytes = sets bytes (16 * n) (slot_of r); count = n + 1 }
  unfolding stow full slot_put
  stow-room h = rw (le-ltb (room_in bytes) n (omega arith), lt-ltb n (room_in bytes) h)

  -- one too many is counted, and not written
  pub stow-over : n ≡ room_in bytes → stow (record { bytes = bytes; count = n }) r ≡ record { bytes = bytes; count = n + 1 }
  unfolding stow full slot_put
  stow-over e = rw (le-ltb (room_in bytes) n (omega arith), le-ltb n (room_in bytes) (omega arith))

-- ---- the path

module _ (path : List ℕ) (d : ℕ) where
  -- a path with its length before it is the slot of its links
  pub path-slot : length path ≡ 16 → d ≤ 15 → Cleared path d → set path 0 d ≡ slot_of (links_in path d)
  unfolding links_in slot_of
  path-slot l h e = go path l e
    where
      go : (p : List ℕ) → length p ≡ 16 → drop (suc d) p ≡ replicate (15 - d) 0 → set p 0 d ≡ length (take d (drop 1 p)) ∷ (take d (drop 1 p) ++ replicate (15 - length (take d (drop 1 p))) 0)
      go [] l e = absurd (omega arith)
      go (x ∷ p) l e =
          let m : length (take d p) ≡ d = length-take-le d p (omega arith) in
          rw m (ap (λ (q : List ℕ). d ∷ q) (sym (take-append-drop d p) ∙ ap (λ (q : List ℕ). take d p ++ q) e))

  -- a link more
  pub cleared_more : (i : ℕ) → d < 15 → Cleared path d → Cleared (set path (d + 1) i) (d + 1)
  cleared_more i h e =
      let k : 15 - d ≡ suc (15 - (d + 1)) = omega arith in
      drop-set-lt (suc (d + 1)) path (d + 1) i (omega arith)
      ∙ ap (λ (j : ℕ). drop (suc j) path) (add-one d)
      ∙ one_less (suc d) (15 - (d + 1)) path (e ∙ ap (λ (j : ℕ). replicate j 0) k)
    where
      none : {A : Type 0} (k : ℕ) → ◌≡◌ {A = List ℕ} [] (replicate (suc k) 0) → A
      none k e = let z : 0 ≡ suc (length {A = ℕ} (replicate k 0)) = ap length e in absurd (omega arith)

      one_less : (n k : ℕ) (l : List ℕ) → drop n l ≡ replicate (suc k) 0 → drop (suc n) l ≡ replicate k 0
      one_less zero k [] e = none k e
      one_less zero k (x ∷ l) e = ap (drop 1) e
      one_less (suc n) k [] e = none k e
      one_less (suc n) k (x ∷ l) e = one_less n k l e

  pub links-more : (i : ℕ) → d + 1 < length path → links_in (set path (d + 1) i) (d + 1) ≡ links_in path d ++ (i ∷ [])
  unfolding links_in
  links-more i h = go path h
    where
      go : (p : List ℕ) → d + 1 < length p → take (d + 1) (drop 1 (set p (d + 1) i)) ≡ take d (drop 1 p) ++ (i ∷ [])
      go [] l = absurd (omega arith)
      go (x ∷ p) l = ap (λ (k : ℕ). take k (drop 1 (set (x ∷ p) k i))) (add-one d) ∙ take-suc-set p d i (omega arith)

-- ---- routes one after the other

pub stow-append : (s : Slots) (a b : List (List ℕ)) → stow_all s (a ++ b) ≡ stow_all (stow_all s a) b
unfolding stow_all
stow-append s [] b = refl
stow-append s (r ∷ a) b = stow-append (stow s r) a b

-- once too many are counted nothing changes
pub stow-full : (s : Slots) (rs : List (List ℕ)) → full s ≡ true → stow_all s rs ≡ s
unfolding stow_all stow
stow-full s [] h = refl
stow-full s (r ∷ rs) h = ap (λ (z : Slots). stow_all z rs) (rw h) ∙ stow-full s rs h

-- the bytes stay as many
stow-length : (s : Slots) (r : List ℕ) → length (stow s r).bytes ≡ length s.bytes
unfolding stow slot_put
stow-length s r = go (full s) (ltb s.count (room_in s.bytes))
  where
    go : (b c : Bool) → length (cond b s (record { bytes = cond c (sets s.bytes (16 * s.count) (slot_of r)) s.bytes; count = s.count + 1 })).bytes ≡ length s.bytes
    go true c = refl
    go false true = length-sets s.bytes (16 * s.count) (slot_of r)
    go false false = refl

pub stow-lengths : (s : Slots) (rs : List (List ℕ)) → length (stow_all s rs).bytes ≡ length s.bytes
unfolding stow_all
stow-lengths s [] = refl
stow-lengths s (r ∷ rs) = stow-lengths (stow s r) rs ∙ stow-length s r

-- what a call left has as many bytes as what it was given
pub kept-length : (s z : Slots) (rs : List (List ℕ)) → z ≡ stow_all s rs → length z.bytes ≡ length s.bytes
kept-length s z rs e = ap (λ (q : Slots). length q.bytes) e ∙ stow-lengths s rs

-- ---- all of them: as many slots as there is room for stand one after the other, and one route more is counted

abbrev stowed : ℕ → List ℕ → ℕ → List (List ℕ) → Slots
stowed room buf n rs = record { bytes = sets buf (16 * n) (slots_of (take (room - n) rs)); count = min (room + 1) (n + length rs) }

module _ (room : ℕ) where
  none-stowed : (buf : List ℕ) (n : ℕ) → n ≤ room → ◌≡◌ {A = Slots} (record { bytes = buf; count = n }) (stowed room buf n [])
  unfolding slots_of
  none-stowed buf n h =
      let c : n ≡ min (room + 1) (n + 0) = omega arith in
      ap₂ (λ (l : List (List ℕ)) (k : ℕ). record { bytes = sets buf (16 * n) (slots_of l); count = k }) (sym (take-nil (room - n))) c

  one-stowed : (buf : List ℕ) (n : ℕ) (r : List ℕ) (rs : List (List ℕ)) → length r ≤ 15 → n < room
      → stowed room (sets buf (16 * n) (slot_of r)) (n + 1) rs ≡ stowed room buf n (r ∷ rs)
  unfolding slots_of
  one-stowed buf n r rs s h =
      let c : min (room + 1) ((n + 1) + length rs) ≡ min (room + 1) (n + suc (length rs)) = omega arith in
      let k : suc (room - (n + 1)) ≡ room - n = omega arith in
      let l = length-slot r s in
      let e : 16 * (n + 1) ≡ 16 * n + length (slot_of r) = omega arith in
      let b : sets (sets buf (16 * n) (slot_of r)) (16 * (n + 1)) (slots_of (take (room - (n + 1)) rs)) ≡ sets buf (16 * n) (slots_of (take (room - n) (r ∷ rs))) =
      sets-append (slot_of r) buf (16 * n) (slots_of (take (room - (n + 1)) rs)) (16 * (n + 1)) e ∙ ap (λ (j : ℕ). sets buf (16 * n) (slots_of (take j (r ∷ rs)))) k
      in
      ap₂ (λ (l : List ℕ) (j : ℕ). record { bytes = l; count = j }) b c

  over-stowed : (buf : List ℕ) (n : ℕ) (r : List ℕ) (rs : List (List ℕ)) → n ≡ room → ◌≡◌ {A = Slots} (record { bytes = buf; count = n + 1 }) (stowed room buf n (r ∷ rs))
  unfolding slots_of
  over-stowed buf n r rs e =
      let c : n + 1 ≡ min (room + 1) (n + suc (length rs)) = omega arith in
      let z : 0 ≡ room - n = omega arith in
      ap₂ (λ (j k : ℕ). record { bytes = sets buf (16 * n) (slots_of (take j (r ∷ rs))); count = k }) z c

  pub stow-all : (rs : List (List ℕ)) (buf : List ℕ) (n : ℕ) → Short rs → room_in buf ≡ room → n ≤ room → stow_all (record { bytes = buf; count = n }) rs ≡ stowed room buf n rs
  unfolding stow_all full
  stow-all [] buf n s q h = none-stowed buf n h
  stow-all (r ∷ rs) buf n s q h = go (ltb n room) refl (λ b m p l. stow-all rs b m s.1 p l)
    where
      go : (t : Bool) → ltb n room ≡ t → ((b : List ℕ) (m : ℕ) → room_in b ≡ room → m ≤ room → stow_all (record { bytes = b; count = m }) rs ≡ stowed room b m rs)
          → stow_all (stow (record { bytes = buf; count = n }) r) rs ≡ stowed room buf n (r ∷ rs)
      go true e below =
          let l : n < room = ltb-true n room e in
          let b : room_in (sets buf (16 * n) (slot_of r)) ≡ room = ap (λ (k : ℕ). k / 16) (length-sets buf (16 * n) (slot_of r)) ∙ q in
          ap (λ (z : Slots). stow_all z rs) (stow-room buf n r (omega arith))
          ∙ below (sets buf (16 * n) (slot_of r)) (n + 1) b (omega arith)
          ∙ one-stowed buf n r rs s.0 l
      go false e below =
          let l : room ≤ n = ltb-false n room e in
          ap (λ (z : Slots). stow_all z rs) (stow-over buf n r (omega arith))
          ∙ stow-full (record { bytes = buf; count = n + 1 }) rs (lt-ltb (room_in buf) (n + 1) (omega arith))
          ∙ over-stowed buf n r rs (omega arith)
