-- Laws of the route lines.
use Prim.Native.Nat.{ℕ, suc, zero, ◌+◌, ◌*◌, ◌<◌, ◌≤◌, ◌-◌}
use mathlib.Core.Path.{◌≡◌, refl, ap, ◌∙◌}
use mathlib.Core.Bool.{true, false}
use mathlib.Core.List.{List, [], ◌∷◌, ◌++◌, append_assoc}
use native.Mathlib.Numerals.{add-one}
use native.Mathlib.Omega.{arith}
use lib.ListN.{length, take, drop, get_or, drop_of_length-le}
use lib.Seq.{drop-cons}
use Rattle.text.specs.Private.{Laid}
use Rattle.text.specs.Marks.{ascii, blank, lf}
use Rattle.text.specs.Decimal.{decimal}
use Rattle.text.proofs.Joining.{rest}
use Rattle.route_list.specs.declared.Listed.{Listed}
use Rattle.sheet_routes.specs.RouteLines.{places_text, route_line, end_line, more_line, list_text}
use Rattle.sheet_routes.specs.Private.{route_at, routes_from, lines_text, listed_text}

-- no place is left
pub places-none : (r : List ℕ) (i : ℕ) → length r ≤ i → places_text (drop i r) ≡ []
unfolding places_text
places-none r i h = rw (drop_of_length-le r {i = i} h)

place-more : (r : List ℕ) (i : ℕ) → i < length r → places_text (drop i r) ≡ blank ++ decimal (get_or r i 0) ++ places_text (drop (i + 1) r)
unfolding places_text
place-more r i h = rw (add-one, drop-cons r i 0 h)

-- one more place is laid
pub place-on : {o m q : List ℕ} {a b c : ℕ} (r : List ℕ) (i : ℕ) → i < length r
    → Laid o a (places_text (drop i r)) q c → Laid o a (blank ++ decimal (get_or r i 0)) m b → Laid m b (places_text (drop (i + 1) r)) q c
place-on r i h p w = rest (rw (place-more r i h) at p) w

pub route-none : (r : List ℕ) → length r ≡ 0 → ascii "-\n" ≡ route_line r
unfolding route_line
route-none [] e = refl
route-none (x ∷ r) e = absurd (omega arith)

pub route-some : (r : List ℕ) → (length r ≡ 0 → ⊥) → decimal (get_or r 0 0) ++ places_text (drop 1 r) ++ lf ≡ route_line r
unfolding route_line
route-some [] h = absurd (h refl)
route-some (x ∷ r) h = refl

-- ---- the lines of routes in slots

pub lines_start : (slots : List ℕ) (n : ℕ) → lines_text (routes_from slots 0 n) ≡ lines_text (routes_from slots 0 (n - 0))
lines_start slots n = let e : n ≡ n - 0 = omega arith in ap (λ (k : ℕ). lines_text (routes_from slots 0 k)) e

pub lines_none : (slots : List ℕ) (k n : ℕ) → n ≤ k → lines_text (routes_from slots k (n - k)) ≡ []
unfolding routes_from lines_text
lines_none slots k n h = let e : n - k ≡ 0 = omega arith in rw e

-- the part that is lent
pub route-line : (slots : List ℕ) (k : ℕ)
    → route_line (take ((16 * k + 1 + get_or slots (16 * k) 0) - (16 * k + 1)) (drop (16 * k + 1) slots)) ≡ route_line (route_at slots k)
unfolding route_at
route-line slots k =
    let e : (16 * k + 1 + get_or slots (16 * k) 0) - (16 * k + 1) ≡ get_or slots (16 * k) 0 = omega arith in
    ap (λ (n : ℕ). route_line (take n (drop (16 * k + 1) slots))) e

line-more : (slots : List ℕ) (k n : ℕ) → k < n → lines_text (routes_from slots k (n - k)) ≡ route_line (route_at slots k) ++ lines_text (routes_from slots (k + 1) (n - (k + 1)))
unfolding routes_from lines_text
line-more slots k n h = let e : n - k ≡ suc (n - (k + 1)) = omega arith in rw (e, add-one)

-- one more line is laid
pub line_on : {o m q : List ℕ} {a b c : ℕ} (slots : List ℕ) (k n : ℕ) → k < n → Laid o a (lines_text (routes_from slots k (n - k))) q c
    → Laid o a (route_line (route_at slots k)) m b → Laid m b (lines_text (routes_from slots (k + 1) (n - (k + 1)))) q c
line_on slots k n h p w = rest (rw (line-more slots k n h) at p) w

-- with the last line they are the text of what was listed
module _ (slots : List ℕ) (l : Listed) where
  pub listed-over : l.more ≡ true → lines_text (routes_from slots 0 l.count) ++ more_line ≡ listed_text slots l
  unfolding listed_text
  listed-over e = rw e

  pub listed-whole : l.more ≡ false → lines_text (routes_from slots 0 l.count) ++ end_line ≡ listed_text slots l
  unfolding listed_text
  listed-whole e = rw e

-- the lines and the last one are the text of the list
pub list-whole : (most : ℕ) (rs : List (List ℕ)) → length rs ≤ most → lines_text rs ++ end_line ≡ list_text most rs
unfolding lines_text list_text
list-whole zero [] h = refl
list-whole (suc most) [] h = refl
list-whole zero (r ∷ rs) h = absurd (omega arith)
list-whole (suc most) (r ∷ rs) h = append_assoc (route_line r) (lines_text rs) end_line ∙ ap (λ (l : List ℕ). route_line r ++ l) (list-whole most rs (omega arith))

pub list_over : (most : ℕ) (rs : List (List ℕ)) → most < length rs → lines_text (take most rs) ++ more_line ≡ list_text most rs
unfolding lines_text list_text
list_over zero [] h = absurd (omega arith)
list_over (suc most) [] h = absurd (omega arith)
list_over zero (r ∷ rs) h = refl
list_over (suc most) (r ∷ rs) h = append_assoc (route_line r) (lines_text (take most rs)) more_line ∙ ap (λ (l : List ℕ). route_line r ++ l) (list_over most rs (omega arith))
