-- What first and next answer: each refusal in its turn, and a route that was found is the one that the list of all routes has.
use mathlib.Core.Path.{◌≡◌, refl, sym, ap, subst, ◌∙◌}
use mathlib.Core.Bool.{Bool, true, false}
use mathlib.Core.List.{List}
use Prim.Native.Nat.{ℕ, zero, suc, ◌-◌, ◌<◌, ◌≤◌}
use native.Mathlib.Nat.{zero-add}
use native.Mathlib.Omega.{arith}
use borrow.Author.Tests.{lt-ltb, le-ltb, le-leb, lt-leb}
use lib.ListN.{length, take}
use lib.Seq.{sets, take-append_seam}
use Rattle.lists.specs.Refusals.{unless_refused}
use Rattle.lists.proofs.Refusals.{taken, refused}
use Rattle.route.specs.All.{Finding, route, no_more, no_route, first_of, next_of}
use Rattle.route_links.specs.Arrays.{net}
use Rattle.route_links.specs.ByNode.{ByNode}
use Rattle.route_links.specs.Private.{routes_on, Standing, OnRoute}
use Rattle.route_links.proofs.Standing.{start-standing, start-routes}
use Rattle.route_ahead.specs.Ahead.{Reaches}
use Rattle.route_ahead.proofs.Going.{reached, unreached}
use Rattle.route_links.proofs.Table.{table-holds}
use Rattle.std.specs.Prelude.{Result, Ok, Err}
use Rattle.std.specs.Result.{IsErrAnd}
use Rattle.refusal.specs.declared.Refusal.{Refusal}
use Rattle.refusal.specs.declared.Refusal.TheVariants.{ChartCrowd, ChartStranger, BadRoute, NoRouteRoom, NoRoute}
use Rattle.refusal.specs.Numbers.{number, Answers}
use Rattle.refusal.proofs.Laws.{names}
use Rattle.route_search.specs.declared.Route as code
use Rattle.route_search.specs.Answers.{Route, Refused, traced, traced_refusal, traced_length, finding_refusal, finding_route, Told, told, first_refusal, next_refusal, first_route, next_route}
use Rattle.route_search.specs.Private.{places_refusal, routes_over, first_refusal_over, next_refusal_over, zeros, Found, found_at, route_found, handed_over}
use Rattle.route_search.proofs.Finding.{Finds, found-ok}

-- ---- an answer's parts

-- what is promised of an answer and of the bytes after it
pub record Promised (k : ℕ) (r buf : List ℕ) (x : Result ℕ Refusal) (after : List ℕ) : Type 0 where
  pub value : Answers x k (length r)
  pub bytes : after ≡ (told k r buf).bytes
  pub answer : traced x ≡ (told k r buf).answer
  pub refusal : traced_refusal (traced x) ≡ k
  pub length : traced_length (traced x) ≡ unless_refused k (length r) 0

pub told_refusal : (k : ℕ) (r buf : List ℕ) → traced_refusal (told k r buf).answer ≡ k
unfolding told unless_refused
told_refusal zero r buf = refl
told_refusal (suc k) r buf = refl

pub told-length : (k : ℕ) (r buf : List ℕ) → traced_length (told k r buf).answer ≡ unless_refused k (length r) 0
unfolding told unless_refused
told-length zero r buf = refl
told-length (suc k) r buf = refl

-- an answer with this number and length is what is told, and what is told has them
pub traced-told : (k : ℕ) (r buf : List ℕ) (x : Result ℕ Refusal) → Answers x k (length r) → traced x ≡ (told k r buf).answer
unfolding told unless_refused
traced-told zero r buf (Ok n) h = ap Route h.1
traced-told (suc k) r buf (Ok n) h = absurd (omega (arith, h.0))
traced-told zero r buf (Err e) h = absurd (names.none_zero e h)
traced-told (suc k) r buf (Err e) h = ap Refused h

told-answers : (k : ℕ) (r buf : List ℕ) (x : Result ℕ Refusal) → traced x ≡ (told k r buf).answer → Answers x k (length r)
unfolding told unless_refused
told-answers zero r buf (Ok n) e = (refl, ap traced_length e)
told-answers (suc k) r buf (Ok n) e = absurd (omega (arith, ap traced_refusal e))
told-answers zero r buf (Err s) e = absurd (names.none_zero s (ap traced_refusal e))
told-answers (suc k) r buf (Err s) e = ap traced_refusal e

-- the whole promise, from the number, the length and the bytes, or from what is told
pub promised : (k : ℕ) (r buf : List ℕ) (x : Result ℕ Refusal) {after : List ℕ} → Answers x k (length r) → after ≡ (told k r buf).bytes → Promised k r buf x after
promised k r buf x h b =
    let a = traced-told k r buf x h in
    record { value = h; bytes = b; answer = a; refusal = ap traced_refusal a ∙ told_refusal k r buf; length = ap traced_length a ∙ told-length k r buf }

pub as-told : (k : ℕ) (r buf : List ℕ) (x : Result ℕ Refusal) (after : List ℕ) → record { answer = traced x; bytes = after } ≡ told k r buf → Promised k r buf x after
as-told k r buf x after e = promised k r buf x (told-answers k r buf x (ap (λ (t : Told). t.answer) e)) (ap (λ (t : Told). t.bytes) e)

-- of the same answer and bytes the same
pub carried : {k : ℕ} (r buf : List ℕ) {x y : Result ℕ Refusal} {after bytes : List ℕ} → traced y ≡ traced x → bytes ≡ after → Promised k r buf x after → Promised k r buf y bytes
carried {k} r buf {y = y} p q h = promised k r buf y (told-answers k r buf y (p ∙ h.answer)) (q ∙ h.bytes)

-- so is what a `?` passes on
pub passed-on : {k : ℕ} (r buf : List ℕ) (x : Result ℕ Refusal) (e : Refusal) {after : List ℕ} → IsErrAnd x (λ s. s ≡ e) → Promised k r buf (Err e) after → Promised k r buf x after
passed-on r buf (Ok n) e h p = absurd h
passed-on r buf (Err s) e h p = carried r buf (ap (λ (i : Refusal). Refused (number i)) h) refl p

-- a refusal: its number, and the buffer as it was
abbrev pub refused_told : ℕ → List ℕ → Told
refused_told k buf = record { answer = Refused k; bytes = buf }

-- a refusal leaves the buffer as it was
pub refusing : (n : ℕ) (e : Refusal) (r buf : List ℕ) → number e ≡ n → Promised n r buf (Err e) buf
unfolding told unless_refused
refusing zero e r buf h = absurd (names.none_zero e h)
refusing (suc k) e r buf h = promised (suc k) r buf (Err e) h refl

-- ---- what was found

pub found_refusal : (d : ℕ) (o : Finding) → (found_at d o).refusal ≡ finding_refusal o
unfolding finding_refusal
found_refusal d no_more = refl
found_refusal d no_route = refl
found_refusal d (route r) = refl

-- by the number: a refusal, or the route
pub handed-none : (f : Found) (buf : List ℕ) → (f.refusal ≡ 0 → ⊥) → refused_told f.refusal buf ≡ handed_over f buf
unfolding handed_over
handed-none f buf h = sym (refused _ _ f.refusal h)

pub handed-route : (f : Found) (buf : List ℕ) → f.refusal ≡ 0 → record { answer = Route f.len; bytes = sets buf 0 (take f.len f.route) } ≡ handed_over f buf
unfolding handed_over
handed-route f buf h = sym (taken _ _ h)

-- in the buffer: a refusal, or the route
pub found-told : (o : Finding) (buf : List ℕ) → handed_over (found_at 0 o) buf ≡ told (finding_refusal o) (finding_route o) buf
unfolding handed_over finding_refusal finding_route told unless_refused
found-told no_more buf = refl
found-told no_route buf = refl
found-told (route r) buf = rw (zero-add (length r), take-append_seam r (zeros (15 - length r)))

-- and its length
found-length : (o : Finding) (f : code.Route) → route_found f ≡ found_at 0 o → f.len ≡ length (finding_route o)
unfolding finding_route
found-length no_more f e = absurd (omega (arith, ap (λ (g : Found). g.refusal) e))
found-length no_route f e = absurd (omega (arith, ap (λ (g : Found). g.refusal) e))
found-length (route r) f e = ap (λ (g : Found). g.len) e ∙ zero-add (length r)

-- what was found is told
pub telling : (k : ℕ) (o : Finding) (f : code.Route) (n : ℕ) (buf after : List ℕ) → k ≡ finding_refusal o → Finds (Ok f) (found_at 0 o) → n ≡ f.len
    → after ≡ (handed_over (route_found f) buf).bytes → Promised k (finding_route o) buf (Ok n) after
telling k o f n buf after h e l b =
    let w = found-ok (found_at 0 o) f e in
    promised k (finding_route o) buf (Ok n) (h ∙ sym (found_refusal 0 o) ∙ e.0, l ∙ found-length o f w)
    (b ∙ ap (λ (t : Told). t.bytes) (ap (λ (g : Found). handed_over g buf) w ∙ found-told o buf ∙ ap (λ (j : ℕ). told j (finding_route o) buf) (sym h)))

-- ---- the numbers, one at a time

pub too_many : (links from : ℕ) → 48 < links → places_refusal links from ≡ 26
unfolding places_refusal
too_many links from h = rw (lt-ltb 48 links h)

pub no_place : (links from : ℕ) → links ≤ 48 → 16 ≤ from → places_refusal links from ≡ 28
unfolding places_refusal
no_place links from h k = rw (le-ltb 48 links h, le-leb 16 from k)

pub places-right : (links from : ℕ) → links ≤ 48 → from < 16 → places_refusal links from ≡ 0
unfolding places_refusal
places-right links from h k = rw (le-ltb 48 links h, lt-leb 16 from k)

module _ (rs : List (List ℕ)) (buf : List ℕ) where
  pub first_short : length buf < 15 → first_refusal rs buf ≡ 42
  unfolding first_refusal
  first_short h = rw (lt-ltb (length buf) 15 h)

  pub first-room : 15 ≤ length buf → first_refusal rs buf ≡ finding_refusal (first_of rs)
  unfolding first_refusal
  first-room h = rw (le-ltb (length buf) 15 h)

  module _ (n : ℕ) where
    pub next-short : length buf < 15 → next_refusal rs buf n ≡ 42
    unfolding next_refusal
    next-short h = rw (lt-ltb (length buf) 15 h)

    pub next-long : 15 ≤ length buf → 15 < n → next_refusal rs buf n ≡ 41
    unfolding next_refusal
    next-long h k = rw (le-ltb (length buf) 15 h, lt-ltb 15 n k)

    pub next-room : 15 ≤ length buf → n ≤ 15 → next_refusal rs buf n ≡ finding_refusal (next_of rs (take n buf))
    unfolding next_refusal
    next-room h k = rw (le-ltb (length buf) 15 h, le-ltb 15 n k)

-- ---- the two calls over the arrays: each way that the code returns

module _ (ends : List (List ℕ)) (ways : List ℕ) (links from to : ℕ) where
  abbrev rs : List (List ℕ)
  rs = routes_over ends ways links from to

  -- what first and next promise of an answer and the bytes after it
  abbrev pub FirstGives : List ℕ → Result ℕ Refusal → List ℕ → Type 0
  FirstGives buf x after = Promised (first_refusal_over ends ways links from to buf) (first_route (routes_over ends ways links from to)) buf x after

  abbrev pub NextGives : List ℕ → ℕ → Result ℕ Refusal → List ℕ → Type 0
  NextGives buf n x after = Promised (next_refusal_over ends ways links from to buf n) (next_route (routes_over ends ways links from to) buf n) buf x after

  first-refuses : (e : Refusal) (buf : List ℕ) → first_refusal_over ends ways links from to buf ≡ number e → FirstGives buf (Err e) buf
  first-refuses e buf h = refusing (first_refusal_over ends ways links from to buf) e (first_route rs) buf (sym h)

  next-refuses : (e : Refusal) (buf : List ℕ) (n : ℕ) → next_refusal_over ends ways links from to buf n ≡ number e → NextGives buf n (Err e) buf
  next-refuses e buf n h = refusing (next_refusal_over ends ways links from to buf n) e (next_route rs buf n) buf (sym h)

  -- 26 and 28 come before all others
  pub first-many : (buf : List ℕ) → 48 < links → FirstGives buf (Err ChartCrowd) buf
  unfolding first_refusal_over
  first-many buf h = first-refuses ChartCrowd buf (rw (too_many links from h))

  pub next-many : (buf : List ℕ) (n : ℕ) → 48 < links → NextGives buf n (Err ChartCrowd) buf
  unfolding next_refusal_over
  next-many buf n h = next-refuses ChartCrowd buf n (rw (too_many links from h))

  pub first-placeless : (buf : List ℕ) → links ≤ 48 → 16 ≤ from → FirstGives buf (Err ChartStranger) buf
  unfolding first_refusal_over
  first-placeless buf h k = first-refuses ChartStranger buf (rw (no_place links from h k))

  pub next-placeless : (buf : List ℕ) (n : ℕ) → links ≤ 48 → 16 ≤ from → NextGives buf n (Err ChartStranger) buf
  unfolding next_refusal_over
  next-placeless buf n h k = next-refuses ChartStranger buf n (rw (no_place links from h k))

  module _ (few : links ≤ 48) (inside : from < 16) where
    pub first-numbered : (buf : List ℕ) → first_refusal_over ends ways links from to buf ≡ first_refusal rs buf
    unfolding first_refusal_over
    first-numbered buf = rw (places-right links from few inside)

    pub next-numbered : (buf : List ℕ) (n : ℕ) → next_refusal_over ends ways links from to buf n ≡ next_refusal rs buf n
    unfolding next_refusal_over
    next-numbered buf n = rw (places-right links from few inside)

    -- the search begins at the first node, with none met
    pub all_join : (t : List ℕ) → ByNode (net ends ways links to) t → routes_on t from 0 ≡ rs
    unfolding routes_over
    all_join t T = start-routes t from ∙ (table-holds ends ways links to t T).same from inside

    pub begins : (t : List ℕ) → ByNode (net ends ways links to) t → Standing t from 0 0
    begins t T = start-standing t from (table-holds ends ways links to t T).walkable inside

    pub begins-on : (t : List ℕ) (answer : Bool) → ByNode (net ends ways links to) t → Reaches t from answer → answer ≡ true → OnRoute t from 0 0
    begins-on t answer T R e = reached t from answer R (table-holds ends ways links to t T).walkable inside e

    pub first_small : (buf : List ℕ) → length buf < 15 → FirstGives buf (Err NoRouteRoom) buf
    first_small buf h = first-refuses NoRouteRoom buf (first-numbered buf ∙ first_short rs buf h)

    pub next_small : (buf : List ℕ) (n : ℕ) → length buf < 15 → NextGives buf n (Err NoRouteRoom) buf
    next_small buf n h = next-refuses NoRouteRoom buf n (next-numbered buf n ∙ next-short rs buf n h)

    pub next-over : (buf : List ℕ) (n : ℕ) → 15 ≤ length buf → 15 < n → NextGives buf n (Err BadRoute) buf
    next-over buf n h k = next-refuses BadRoute buf n (next-numbered buf n ∙ next-long rs buf n h k)

    module _ (t : List ℕ) (T : ByNode (net ends ways links to) t) (buf : List ℕ) (room : 15 ≤ length buf) where
      -- no route leads from there
      pub first-nowhere : (answer : Bool) → Reaches t from answer → answer ≡ false → FirstGives buf (Err NoRoute) buf
      unfolding routes_over first_of finding_refusal
      first-nowhere answer R e =
          let H = table-holds ends ways links to t T in
          first-refuses NoRoute buf
          (first-numbered buf ∙ first-room rs buf room ∙ ap (λ l. finding_refusal (first_of l)) (sym (H.same from inside) ∙ unreached t from answer R H.walkable inside e))

      -- what is found over the table is told, and so is why nothing is
      first-found : first_refusal_over ends ways links from to buf ≡ finding_refusal (first_of (routes_on t from 0))
      first-found = first-numbered buf ∙ first-room rs buf room ∙ ap (λ (l : List (List ℕ)). finding_refusal (first_of l)) (sym (all_join t T))

      pub first-none_found : (e : Refusal) → Finds (Err e) (found_at 0 (first_of (routes_on t from 0))) → FirstGives buf (Err e) buf
      first-none_found e h = first-refuses e buf (first-found ∙ sym (h ∙ found_refusal 0 (first_of (routes_on t from 0))))

      pub first-told : (f : code.Route) (n : ℕ) (after : List ℕ) → Finds (Ok f) (found_at 0 (first_of (routes_on t from 0))) → n ≡ f.len
          → after ≡ (handed_over (route_found f) buf).bytes → FirstGives buf (Ok n) after
      first-told f n after h l b =
          subst (λ (q : List (List ℕ)). Promised (first_refusal_over ends ways links from to buf) (first_route q) buf (Ok n) after) (all_join t T)
          (telling (first_refusal_over ends ways links from to buf) (first_of (routes_on t from 0)) f n buf after first-found h l b)

      module _ (k : ℕ) (given : k ≤ 15) where
        next-found : next_refusal_over ends ways links from to buf k ≡ finding_refusal (next_of (routes_on t from 0) (take k buf))
        next-found = next-numbered buf k ∙ next-room rs buf k room given ∙ ap (λ (l : List (List ℕ)). finding_refusal (next_of l (take k buf))) (sym (all_join t T))

        pub next-none_found : (e : Refusal) → Finds (Err e) (found_at 0 (next_of (routes_on t from 0) (take k buf))) → NextGives buf k (Err e) buf
        next-none_found e h = next-refuses e buf k (next-found ∙ sym (h ∙ found_refusal 0 (next_of (routes_on t from 0) (take k buf))))

        pub next-told : (f : code.Route) (n : ℕ) (after : List ℕ) → Finds (Ok f) (found_at 0 (next_of (routes_on t from 0) (take k buf))) → n ≡ f.len
            → after ≡ (handed_over (route_found f) buf).bytes → NextGives buf k (Ok n) after
        next-told f n after h l b =
            subst (λ (q : List (List ℕ)). Promised (next_refusal_over ends ways links from to buf k) (next_route q buf k) buf (Ok n) after) (all_join t T)
            (telling (next_refusal_over ends ways links from to buf k) (next_of (routes_on t from 0) (take k buf)) f n buf after next-found h l b)
