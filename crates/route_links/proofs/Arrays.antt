-- Where the links of the arrays lead: a link is passed ahead or back, its far ends are nodes, and it has but two.
use mathlib.Core.Path.{◌≡◌, refl, sym, ◌∙◌, ap}
use mathlib.Core.Logic.{◌⊎◌, inl, inr}
use mathlib.Core.Bool.{Bool, true, false, cond, ◌&&◌}
use mathlib.Core.Option.{none, some}
use mathlib.Core.List.{List, []}
use Prim.Native.Nat.{ℕ, ◌<◌}
use native.Mathlib.Omega.{arith}
use borrow.Author.Tests.{eqb-true, eq-eqb, ne_eqb, ltb-true, ltb-false, lt-ltb}
use lib.Dec.{eqb, ltb}
use lib.ListN.{get_or, length, get_or-eq_default}
use Rattle.lists.proofs.Bools.{and_left, and_right, both_ways}
use Rattle.route.specs.Route.{Sound}
use Rattle.route_links.specs.Arrays.{node_place, is_out, is_back, other_end, far_node, net}

-- from an absurd equation, anything
pub never : {A : Type 0} → ◌≡◌ {A = ℕ} 0 1 → A
never z = absurd (omega arith)

node-is : (m y : ℕ) → node_place m ≡ some y → (y ≡ m) × (m < 16)
unfolding node_place
node-is m y e = go (ltb m 16) refl e
  where
    go : (b : Bool) → ltb m 16 ≡ b → cond b (some m) none ≡ some y → (y ≡ m) × (m < 16)
    go true h q = (cc, ltb-true m 16 h)
    go false h q = never (cc)

node_at : (m : ℕ) → m < 16 → node_place m ≡ some m
unfolding node_place
node_at m h = rw (lt-ltb m 16 h)

-- how the link between a and b is passed from x to y
pub data Passed (a b way x y : ℕ) : Type 0 where
  ahead : is_out way ≡ true → x ≡ a → y ≡ b → b < 16 → Passed a b way x y
  back : is_back way ≡ true → x ≡ b → y ≡ a → a < 16 → Passed a b way x y

module _ (e : List ℕ) (way : ℕ) where
  abbrev a : ℕ
  a = get_or e 0 0

  abbrev b : ℕ
  b = get_or e 1 0

  other-passed : (x y : ℕ) → other_end e way x ≡ some y → Passed (get_or e 0 0) (get_or e 1 0) way x y
  unfolding other_end
  other-passed x y q = go (is_out way && eqb a x) (is_back way && eqb b x) refl refl q
    where
      go : (o p : Bool) → (is_out way && eqb a x) ≡ o → (is_back way && eqb b x) ≡ p → cond o (node_place b) (cond p (node_place a) none) ≡ some y → Passed a b way x y
      go true p f g k = let w = node-is b y k in ahead (and_left (is_out way) (eqb a x) f) (sym (eqb-true a x (and_right (is_out way) (eqb a x) f))) w.0 w.1
      go false true f g k = let w = node-is a y k in back (and_left (is_back way) (eqb b x) g) (sym (eqb-true b x (and_right (is_back way) (eqb b x) g))) w.0 w.1
      go false false f g k = never (cc)

  other-ahead : is_out way ≡ true → b < 16 → other_end e way a ≡ some b
  unfolding other_end
  other-ahead o l = rw (o, eq-eqb a a refl) (node_at b l)

  other-back : is_back way ≡ true → a < 16 → (a ≡ b → ⊥) → other_end e way b ≡ some a
  unfolding other_end
  other-back o l ne = rw (ne_eqb a b ne, o, eq-eqb b b refl) (go (is_out way))
    where
      go : (c : Bool) → cond (c && false) (node_place b) (node_place a) ≡ some a
      go true = node_at a l
      go false = node_at a l

module _ (ends : List (List ℕ)) (ways : List ℕ) (links : ℕ) where
  -- where there is such a link, the far end is the link's other end
  pub far-in : (i at : ℕ) → i < links → far_node ends ways links i at ≡ other_end (get_or ends i []) (get_or ways i 0) at
  unfolding far_node
  far-in i at h = rw (lt-ltb i links h)

  pub far-inside : (i at f : ℕ) → far_node ends ways links i at ≡ some f → i < links
  unfolding far_node
  far-inside i at f e = go (ltb i links) refl e
    where
      go : (b : Bool) → ltb i links ≡ b → cond b (other_end (get_or ends i []) (get_or ways i 0) at) none ≡ some f → i < links
      go true h q = ltb-true i links h
      go false h q = never (cc)

  abbrev first : ℕ → ℕ
  first i = get_or (get_or ends i []) 0 0

  abbrev second : ℕ → ℕ
  second i = get_or (get_or ends i []) 1 0

  pub far-passed : (i x y : ℕ) → far_node ends ways links i x ≡ some y → Passed (first i) (second i) (get_or ways i 0) x y
  far-passed i x y e = other-passed (get_or ends i []) (get_or ways i 0) x y (sym (far-in i x (far-inside i x y e)) ∙ e)

  pub far-ahead : (i : ℕ) → i < links → is_out (get_or ways i 0) ≡ true → second i < 16 → far_node ends ways links i (first i) ≡ some (second i)
  far-ahead i h o l = far-in i (first i) h ∙ other-ahead (get_or ends i []) (get_or ways i 0) o l

  pub far-back : (i : ℕ) → i < links → is_back (get_or ways i 0) ≡ true → first i < 16 → (first i ≡ second i → ⊥) → far_node ends ways links i (second i) ≡ some (first i)
  far-back i h o l ne = far-in i (second i) h ∙ other-back (get_or ends i []) (get_or ways i 0) o l ne

  -- there are no more links than ways
  pub far-place : (i x y : ℕ) → far_node ends ways links i x ≡ some y → i < length ways
  unfolding is_out is_back
  far-place i x y e = go (ltb i (length ways)) refl (far-passed i x y e)
    where
      go : (b : Bool) → ltb i (length ways) ≡ b → Passed (first i) (second i) (get_or ways i 0) x y → i < length ways
      go true h p = ltb-true i (length ways) h
      go false h p = off (get_or-eq_default ways 0 (ltb-false i (length ways) h)) p
        where
          off : get_or ways i 0 ≡ 0 → Passed (first i) (second i) (get_or ways i 0) x y → i < length ways
          off z (ahead o p q l) = absurd (both_ways (sym (ap is_out z) ∙ o) refl)
          off z (back o p q l) = absurd (both_ways (sym (ap is_back z) ∙ o) refl)

  -- both ends of a link are those of any way to pass it
  pub two_ends : (i a f b g : ℕ) → far_node ends ways links i a ≡ some f → far_node ends ways links i b ≡ some g → (g ≡ a) ⊎ (g ≡ f)
  two_ends i a f b g e k = go (far-passed i a f e) (far-passed i b g k)
    where
      go : Passed (first i) (second i) (get_or ways i 0) a f → Passed (first i) (second i) (get_or ways i 0) b g → (g ≡ a) ⊎ (g ≡ f)
      go (ahead o p q l) (ahead o' p' q' l') = inr (q' ∙ sym q)
      go (ahead o p q l) (back o' p' q' l') = inl (q' ∙ sym p)
      go (back o p q l) (ahead o' p' q' l') = inl (q' ∙ sym p)
      go (back o p q l) (back o' p' q' l') = inr (q' ∙ sym q)

  -- every far end of the net is a node
  pub sound : (to : ℕ) → Sound (net ends ways links to)
  sound to i a f e = go (far-passed i a f e)
    where
      go : Passed (first i) (second i) (get_or ways i 0) a f → f < 16
      go (ahead o p q l) = omega arith
      go (back o p q l) = omega arith
