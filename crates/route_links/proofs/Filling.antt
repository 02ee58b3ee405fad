-- The links of the arrays, one turn of the loop after another: after turn n the table holds those of the first n that lead from a node to another.
use mathlib.Core.Path.{◌≡◌, refl, sym, ◌∙◌, ap, subst}
use mathlib.Core.Logic.{◌⊎◌, inl, inr}
use mathlib.Core.Bool.{Bool, true, false}
use mathlib.Core.Option.{some}
use mathlib.Core.List.{List, []}
use Prim.Native.Nat.{ℕ, suc, ◌+◌, ◌^◌, ◌<◌, ◌≤◌, min}
use native.Mathlib.Omega.{arith}
use borrow.Author.Tests.{eqb-true, eqb-false}
use lib.Dec.{eqb}
use lib.ListN.{get_or, set, length, length-set, replicate}
use lib.Seq.{get_or-set_same, get_or-set_other}
use Rattle.route.specs.Route.{Net}
use Rattle.route_links.specs.Arrays.{is_out, is_back, net}
use Rattle.route_links.specs.Sets.{has}
use Rattle.route_links.specs.ByNode.{ByNode}
use Rattle.route_links.specs.Private.{lead, Kept, Built, Usable}
use Rattle.route_links.proofs.Building.{Led, built-same, led-built, none-built}
use Rattle.route_links.proofs.Arrays.{Passed, ahead, back, far-passed, far-ahead, far-back, far-inside, far-place, sound}
use Rattle.route_links.proofs.Rows.{built-rows}

module _ (ends : List (List ℕ)) (ways : List ℕ) (links to : ℕ) where
  abbrev G : Net
  G = net ends ways links to

  module _ (k : ℕ) (h : k < links) where
    abbrev p : ℕ
    p = get_or (get_or ends k []) 0 0

    abbrev q : ℕ
    q = get_or (get_or ends k []) 1 0

    abbrev out : Bool
    out = is_out (get_or ways k 0)

    abbrev in-back : Bool
    in-back = is_back (get_or ways k 0)

    abbrev more : ℕ → ℕ → ℕ → Type 0
    more j x y = (Usable G k j x y ⊎ Led k p q out j x y) ⊎ Led k q p in-back j x y

    usable-more : (j x y : ℕ) → Usable G (suc k) j x y → more j x y
    usable-more j x y u = go (eqb j k) refl
      where
        go : (c : Bool) → eqb j k ≡ c → more j x y
        go false e =
            let n = eqb-false j k e in
            let l = u.below in
            inl (inl (record { below = omega arith; leads = u.leads; apart = u.apart; node = u.node }))
        go true e = turn (far-passed ends ways links k x y (subst (λ (z : ℕ). G.far z x ≡ some y) z u.leads))
          where
            z : j ≡ k
            z = eqb-true j k e

            turn : Passed p q (get_or ways k 0) x y → more j x y
            turn (ahead o f g l) =
                inl (inr (record {
                  this = record { link = z; near = f; far = g };
                  fits = record { so = o; near = subst (λ (w : ℕ). w < 16) f u.node; far = l; apart = λ r. u.apart (f ∙ r ∙ sym g) };
                }))
            turn (back o f g l) =
                inr (record {
                  this = record { link = z; near = f; far = g };
                  fits = record { so = o; near = subst (λ (w : ℕ). w < 16) f u.node; far = l; apart = λ r. u.apart (f ∙ r ∙ sym g) };
                })

    -- a link that a call of lead has kept
    led-usable : (a b : ℕ) (passed : Bool) (j x y : ℕ) → Led k a b passed j x y → G.far k a ≡ some b → Usable G (suc k) j x y
    led-usable a b passed j x y d e =
        let s = d.this in
        let f = d.fits in
        record {
          below = let z = s.link in omega arith;
          leads = at s.link s.near s.far e;
          apart = λ r. f.apart (sym s.near ∙ r ∙ s.far);
          node = let z = s.near in let l = f.near in omega arith;
        }
      where
        at : j ≡ k → x ≡ a → y ≡ b → G.far k a ≡ some b → G.far j x ≡ some y
        at e f g m = cc

    more-usable : (j x y : ℕ) → more j x y → Usable G (suc k) j x y
    more-usable j x y (inl (inl u)) = let l = u.below in record { below = omega arith; leads = u.leads; apart = u.apart; node = u.node }
    more-usable j x y (inl (inr d)) = led-usable p q out j x y d (far-ahead ends ways links k h d.fits.so d.fits.far)
    more-usable j x y (inr d) = led-usable q p in-back j x y d (far-back ends ways links k h d.fits.so d.fits.far (λ r. d.fits.apart (sym r)))

    pub turn-built : (t : List ℕ) → k < 48 → Built (Usable G k) t → Built (Usable G (suc k)) (lead (lead t k p q out) k q p in-back)
    turn-built t l B =
        let B₁ = led-built (Usable G k) t B k p q out l (λ x y u. absurd (none_yet x y u)) in
        let B₂ = led-built (λ j x y. Usable G k j x y ⊎ Led k p q out j x y) (lead t k p q out) B₁ k q p in-back l sums in
        built-same more (Usable G (suc k)) (lead (lead t k p q out) k q p in-back) more-usable usable-more B₂
      where
        none_yet : (x y : ℕ) → Usable G k k x y → ⊥
        none_yet x y u = let z = u.below in omega arith

        sums : (x y : ℕ) → Usable G k k x y ⊎ Led k p q out k x y → x + y ≡ q + p
        sums x y (inl u) = absurd (none_yet x y u)
        sums x y (inr d) = let f = d.this.near in let g = d.this.far in omega arith

  pub start-built : Built (Usable G 0) (replicate 97 0)
  start-built = none-built (Usable G 0) (λ i a f u. absurd (let z = u.below in omega arith))

-- the goal's word holds no link
pub goal-built : (R : ℕ → ℕ → ℕ → Type 0) (t : List ℕ) (v : ℕ) → Built R t → Built R (set t 80 v)
goal-built R t v B =
    record {
      size = length-set t 80 v ∙ B.size;
      small = λ n l. subst (λ (w : ℕ). w < 2 ^ 48) (sym (other n (omega arith))) (B.small n l);
      few = λ f l. subst (λ (w : ℕ). w < 2 ^ 16) (sym (from f)) (B.few f l);
      ins = λ i f m e. B.ins i f m (sym (same f i (omega arith)) ∙ e);
      outs = λ i a m e. B.outs i a m (sym (same (16 + a) i (omega arith)) ∙ e);
      froms = λ a f m e. B.froms a f m (ap (λ (z : ℕ). has z a) (sym (from f)) ∙ e);
      leads = λ i a f r. kept i a f (B.leads i a f r);
      unused = λ i l h. other (32 + i) (omega arith) ∙ B.unused i l h;
    }
  where
    other : (n : ℕ) → n < 80 → get_or (set t 80 v) n 0 ≡ get_or t n 0
    other n l = get_or-set_other t 80 n v 0 (λ e. absurd (omega arith))

    from : (f : ℕ) → get_or (set t 80 v) (81 + f) 0 ≡ get_or t (81 + f) 0
    from f = get_or-set_other t 80 (81 + f) v 0 (λ e. absurd (omega arith))

    same : (n j : ℕ) → n < 80 → has (get_or (set t 80 v) n 0) j ≡ has (get_or t n 0) j
    same n j l = ap (λ (z : ℕ). has z j) (other n l)

    kept : (i a f : ℕ) → Kept t i a f → Kept (set t 80 v) i a f
    kept i a f k =
        let x = k.place in
        let y = k.near in
        let z = k.far in
        record {
          place = x;
          near = y;
          far = z;
          from = same (16 + a) i (omega arith) ∙ k.from;
          to = same f i (omega arith) ∙ k.to;
          beside = ap (λ (w : ℕ). has w a) (from f) ∙ k.beside;
          sum = other (32 + i) (omega arith) ∙ k.sum;
        }

-- the table with the goal, when the loop is through all links, or all that there are ways for
pub filled : (ends : List (List ℕ)) (ways : List ℕ) (links to i : ℕ) (t : List ℕ) → length ways ≡ 48 → min links 48 ≤ i
    → Built (Usable (net ends ways links to) i) t → ByNode (net ends ways links to) (set t 80 to)
filled ends ways links to i t few e B =
    let G = net ends ways links to in
    let s : 80 < length t = (let z = B.size in omega arith) in
    built-rows G refl (sound ends ways links to) (far-inside ends ways links) (set t 80 to) i (λ j a f q. (let l = far-inside ends ways links j a f q in let m = low j a f q in omega arith))
    (goal-built (Usable G i) t to B) (get_or-set_same t 80 to 0 s)
  where
    low : (j a f : ℕ) → (net ends ways links to).far j a ≡ some f → j < 48
    low j a f q = let z = far-place ends ways links j a f q in omega arith
