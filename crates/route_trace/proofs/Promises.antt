-- Demand 3: the calls on one buffer go along the list of all routes, which has them all, each once and in order.
use Prim.Native.Nat.{ℕ, ◌<◌, ◌≤◌}
use mathlib.Core.Path.{◌≡◌, refl, sym, ap, subst, ◌∙◌}
use mathlib.Core.Bool.{Bool, true, false}
use mathlib.Core.Option.{Option, none, some}
use mathlib.Core.List.{List, [], ◌∷◌, Memᴰ}
use native.Mathlib.Omega.{arith}
use native.Mathlib.Decide.{dec_lt}
use borrow.Author.Tests.{ltb-true, ltb-false, lt-ltb, le-ltb, ne_eqb}
use lib.ListN.{length, take, drop}
use lib.Seq.{sets, length-sets, drop_at}
use lib.Dec.{ltb}
use Rattle.lists.specs.Refusals.{among, unless_refused}
use Rattle.lists.proofs.Stores.{sets-front, taken-front}
use Rattle.route.specs.Route.{only}
use Rattle.route.specs.All.{all_routes, Finding, route, no_more, no_route, first_of, same_links, next_of}
use Rattle.route.specs.Promises.{Gives}
use Rattle.route.specs.Promises as theory
use Rattle.route.proofs.Promises.{short-routes}
use Rattle.route.proofs.Next.{next-absent, gives_all}
use Rattle.route.proofs.Order.{all-increasing, all_once}
use Rattle.route.proofs.Laws.{all_are, all_here, all_sound}
use Rattle.chart.specs.declared.Chart.{Chart}
use Rattle.chart_refuse.specs.Refusal.{chart_refusal}
use Rattle.chart_refuse.proofs.Accepted.{accepted}
use Rattle.route_links.specs.Arrays.{far_node}
use Rattle.route_links.specs.ByNode.{other_than, leads_out, links_out}
use Rattle.route_links.specs.Sets.{where_from}
use Rattle.route_links.proofs.Places.{where-same}
use Rattle.chart_refuse.specs.Promises.{Accepted}
use Rattle.route_search.specs.Answers.{Route, Refused, Told, told, finding_refusal, finding_route, first_refusal, next_refusal}
use Rattle.route_search.proofs.Telling.{first-room, next-room, next-long}
use Rattle.chart_net.specs.Private.{ends_for, passages_for}
use Rattle.chart_net.proofs.Kept.{far-same, leads-away}
use Rattle.chart_net.specs.Net.{far_end, station_place, chart_net, start, routes_of, routes_between}
use Rattle.chart_net.specs.Promises.{IsRouteOf}
use Rattle.chart_net.proofs.Promises.{accepted-ends}
use Rattle.route_trace.specs.Trace.{first_refusal_of, next_refusal_of, trace_first, trace_next}
use Rattle.route_trace.specs.Promises.{is_some, kept_net, ChartLinksKept, ListsRoutes, RoutesListed, GoesThrough, ended, another, RoutesTraced, EveryRouteTraced, TooShort, ShortBuffers}

-- the first and the next of a list of routes are in it
first-in : (l : List (List ℕ)) (r : List ℕ) → first_of l ≡ route r → Memᴰ r l
unfolding first_of
first-in [] r e = let z : ◌≡◌ {A = ℕ} 0 1 = cc in absurd (omega arith)
first-in (s ∷ l) r e = let q : s ≡ r = cc in Memᴰ.head (sym q)

next-in : (l : List (List ℕ)) (q r : List ℕ) → next_of l q ≡ route r → Memᴰ r l
unfolding next_of
next-in [] q r e = let z : ◌≡◌ {A = ℕ} 0 1 = cc in absurd (omega arith)
next-in (s ∷ l) q r e = go (same_links s q) e (next-in l q r)
  where
    go : (b : Bool) → elim b [ true ↦ first_of l | false ↦ next_of l q ] ≡ route r → (next_of l q ≡ route r → Memᴰ r l) → Memᴰ r (s ∷ l)
    go true h later = Memᴰ.tail (first-in l r h)
    go false h later = Memᴰ.tail (later h)

-- what an answer tells on a buffer that is long enough
abbrev given : Finding → List ℕ → Told
given a buf = told (finding_refusal a) (finding_route a) buf

-- what is told is a route of at most 15 links, or one of these refusals and the buffer as it was
pub data Tells (refusals buf : List ℕ) (t : Told) : Type 0 where
  a-route : {n : ℕ} → t.answer ≡ Route n → n ≤ 15 → Tells refusals buf t
  a-refusal : {k : ℕ} → t.answer ≡ Refused k → among k refusals ≡ true → t.bytes ≡ buf → Tells refusals buf t

module _ (c : Chart) (ok : chart_refusal c ≡ 0) where
  taken-first : (buf : List ℕ) → 15 ≤ length buf → trace_first c buf ≡ given (first_of (routes_of c)) buf
  unfolding trace_first first_refusal_of
  taken-first buf h = rw (ok, first-room (routes_of c) buf h)

  taken_next : (buf : List ℕ) (n : ℕ) → 15 ≤ length buf → n ≤ 15 → trace_next c buf n ≡ given (next_of (routes_of c) (take n buf)) buf
  unfolding trace_next next_refusal_of
  taken_next buf n h k = rw (ok, next-room (routes_of c) buf n h k)

  taken-long : (buf : List ℕ) (n : ℕ) → 15 ≤ length buf → 15 < n → trace_next c buf n ≡ record { answer = Refused 41; bytes = buf }
  unfolding trace_next next_refusal_of told unless_refused
  taken-long buf n h k = rw (ok, next-long (routes_of c) buf n h k)

  -- a route has at most 15 links
  few : (r : List ℕ) → IsRouteOf c r → length r ≤ 15
  unfolding chart_net
  few r p =
      let w = accepted-ends c (accepted c ok) in
      let h : length r < c.nodes.count = short-routes (chart_net c) w.sound (start c) w.begins r p in
      let k = (accepted c ok).few_nodes in
      omega arith

  -- the calls go along the list
  calls : {a : Finding} {l : List (List ℕ)} → Gives (next_of (routes_of c)) a l → ((r : List ℕ) → Memᴰ r l → length r ≤ 15)
      → (buf : List ℕ) → 15 ≤ length buf → GoesThrough c (given a buf) l
  unfolding told unless_refused finding_refusal finding_route
  calls theory.ended s buf h = ended refl
  calls (theory.another {r = r} {l = l} g) s buf h =
      let k : length r ≤ 15 = s r (Memᴰ.head refl) in
      let b : List ℕ = sets buf 0 r in
      let t : take (length r) b ≡ r = taken-front buf r (length r) refl (omega arith) in
      let m : 15 ≤ length b = rw length-sets h in
      let e : given (next_of (routes_of c) r) b ≡ trace_next c b (length r) = sym (taken_next b (length r) m k ∙ ap (λ (x : List ℕ). given (next_of (routes_of c) x) b) t) in
      let next = subst (λ (o : Told). GoesThrough c o l) e (calls g (λ q n. s q (Memᴰ.tail n)) b m) in
      subst (λ (x : List ℕ). GoesThrough c (given (route r) buf) (x ∷ l)) t (another refl k next)

  not_known : (b : List ℕ) (n : ℕ) → 15 ≤ length b → (IsRouteOf c (take n b) → ⊥) → trace_next c b n ≡ record { answer = Refused 41; bytes = b }
  unfolding routes_of routes_between all_routes told unless_refused finding_refusal chart_net start
  not_known b n h bad = go (ltb 15 n) refl
    where
      go : (t : Bool) → ltb 15 n ≡ t → trace_next c b n ≡ record { answer = Refused 41; bytes = b }
      go true e = taken-long b n h (ltb-true 15 n e)
      go false e =
          taken_next b n h (ltb-false 15 n e)
          ∙ ap (λ (a : Finding). given a b) (next-absent (routes_of c) (take n b) (λ m. bad (all_sound (chart_net c) (start c) (only (start c)) (take n b) m)))

  same_place : c.from ≡ c.to → start c ≡ (chart_net c).goal
  unfolding chart_net start
  same_place e = ap (station_place c.nodes) e

  listed : ListsRoutes c
  unfolding routes_of routes_between all_routes chart_net start
  listed =
      let G = chart_net c in
      let a = start c in
      record {
        each = all_are G (accepted-ends c (accepted c ok)).sound a (only a);
        once = all_once G a (only a);
        ordered = all-increasing G a (only a);
        itself = λ e. all_here G a (only a) (same_place e);
        short = few;
      }

  -- a route of the list that is told leaves the bytes past it
  past : (a : Finding) → ((r : List ℕ) → a ≡ route r → length r ≤ 15) → (buf : List ℕ) → 15 ≤ length buf → (n : ℕ) → (given a buf).answer ≡ Route n → drop n (given a buf).bytes ≡ drop n buf
  unfolding told unless_refused finding_refusal finding_route
  past (route r) s buf h n e =
      let k : length r ≤ 15 = s r refl in
      let m : n ≡ length r = cc in
      rw (m, sets-front buf r (omega arith)) (drop_at r (drop (length r) buf) (length r) refl)
  past no_more s buf h n e = let z : ◌≡◌ {A = ℕ} 0 1 = cc in absurd (omega arith)
  past no_route s buf h n e = let z : ◌≡◌ {A = ℕ} 0 1 = cc in absurd (omega arith)

  -- the first and the next of the list are in it, and so have at most 15 links
  first-few : (r : List ℕ) → first_of (routes_of c) ≡ route r → length r ≤ 15
  first-few r e = few r ((listed.each r).0 (first-in (routes_of c) r e))

  next-few : (q r : List ℕ) → next_of (routes_of c) q ≡ route r → length r ≤ 15
  next-few q r e = few r ((listed.each r).0 (next-in (routes_of c) q r e))

  traced : (buf : List ℕ) → 15 ≤ length buf → RoutesTraced c buf
  unfolding routes_of routes_between all_routes chart_net start
  traced buf h =
      record {
        given =
            subst (λ (o : Told). GoesThrough c o (routes_of c)) (sym (taken-first buf h))
            (calls (gives_all (chart_net c) (start c) (only (start c))) (λ r m. few r ((listed.each r).0 m)) buf h);
        others = λ n. not_known buf n h;
        past_first = λ n e.
            let t = taken-first buf h in
            ap (λ (o : Told). drop n o.bytes) t ∙ past (first_of (routes_of c)) first-few buf h n (sym (ap (λ (o : Told). o.answer) t) ∙ e);
        past_next = λ m n e. past_next m n e (ltb 15 m) refl;
      }
    where
      past_next : (m n : ℕ) → (trace_next c buf m).answer ≡ Route n → (t : Bool) → ltb 15 m ≡ t → drop n (trace_next c buf m).bytes ≡ drop n buf
      past_next m n e true q = ap (λ (o : Told). drop n o.bytes) (taken-long buf m h (ltb-true 15 m q))
      past_next m n e false q =
          let t = taken_next buf m h (ltb-false 15 m q) in
          ap (λ (o : Told). drop n o.bytes) t ∙ past (next_of (routes_of c) (take m buf)) (next-few (take m buf)) buf h n (sym (ap (λ (o : Told). o.answer) t) ∙ e)

  too_short : (buf : List ℕ) → length buf < 15 → TooShort c buf
  unfolding trace_first first_refusal_of first_refusal trace_next next_refusal_of next_refusal told unless_refused
  too_short buf h = record { first = rw (ok, lt-ltb (length buf) 15 h); next = λ n. rw (ok, lt-ltb (length buf) 15 h) }

  -- what first and next tell
  pub first-tells : (buf : List ℕ) → Tells (42 ∷ 43 ∷ []) buf (trace_first c buf)
  unfolding told unless_refused finding_refusal finding_route first_of
  first-tells buf = go (dec_lt (length buf) 15)
    where
      by-list : (l : List (List ℕ)) → ((r : List ℕ) → first_of l ≡ route r → length r ≤ 15) → Tells (42 ∷ 43 ∷ []) buf (given (first_of l) buf)
      by-list [] s = a-refusal refl refl refl
      by-list (r ∷ l) s = a-route refl (s r refl)

      go : Dec (length buf < 15) → Tells (42 ∷ 43 ∷ []) buf (trace_first c buf)
      go (yes h) = subst (Tells (42 ∷ 43 ∷ []) buf) (sym (too_short buf h).first) (a-refusal refl refl refl)
      go (no h) = subst (Tells (42 ∷ 43 ∷ []) buf) (sym (taken-first buf (omega arith))) (by-list (routes_of c) first-few)

  pub next-tells : (buf : List ℕ) (n : ℕ) → Tells (41 ∷ 42 ∷ 43 ∷ []) buf (trace_next c buf n)
  unfolding told unless_refused finding_refusal finding_route
  next-tells buf n = go (dec_lt (length buf) 15) (dec_lt 15 n)
    where
      by-finding : (a : Finding) → ((r : List ℕ) → a ≡ route r → length r ≤ 15) → Tells (41 ∷ 42 ∷ 43 ∷ []) buf (given a buf)
      by-finding (route r) s = a-route refl (s r refl)
      by-finding no_more s = a-refusal refl refl refl
      by-finding no_route s = a-refusal refl refl refl

      go : Dec (length buf < 15) → Dec (15 < n) → Tells (41 ∷ 42 ∷ 43 ∷ []) buf (trace_next c buf n)
      go (yes h) d = subst (Tells (41 ∷ 42 ∷ 43 ∷ []) buf) (sym ((too_short buf h).next n)) (a-refusal refl refl refl)
      go (no h) (yes k) = subst (Tells (41 ∷ 42 ∷ 43 ∷ []) buf) (sym (taken-long buf n (omega arith) k)) (a-refusal refl refl refl)
      go (no h) (no k) = subst (Tells (41 ∷ 42 ∷ 43 ∷ []) buf) (sym (taken_next buf n (omega arith) (omega arith))) (by-finding (next_of (routes_of c) (take n buf)) (next-few (take n buf)))

pub routes-listed : RoutesListed
routes-listed = listed

-- demand 3
pub every-route : EveryRouteTraced
every-route = traced

pub short-buffers : ShortBuffers
short-buffers = too_short

-- ---- the links kept beside a node

module _ (c : Chart) (ok : Accepted c) (a : ℕ) (h : a < c.nodes.count) where
  abbrev kept : ℕ → Option ℕ
  kept i = far_node (ends_for c.nodes c.links) (passages_for c.links) c.links.count i a

  -- in range a link leads to the same node, which is not a
  below : (i : ℕ) → i < c.links.count → other_than a (far_node (ends_for c.nodes c.links) (passages_for c.links) c.links.count i a) ≡ is_some (far_end c.nodes c.links i a)
  below i l = ap (other_than a) (sym (far-same c ok i a l h)) ∙ go (far_end c.nodes c.links i a) refl
    where
      go : (o : Option ℕ) → far_end c.nodes c.links i a ≡ o → other_than a o ≡ is_some o
      go none e = refl
      go (some f) e = rw (ne_eqb f a (λ q. leads-away c ok i a f l h e q))

  -- past the links none leads anywhere
  beyond : (i : ℕ) → c.links.count ≤ i → other_than a (far_node (ends_for c.nodes c.links) (passages_for c.links) c.links.count i a) ≡ is_some (far_end c.nodes c.links i a)
  unfolding far_node far_end
  beyond i l = rw (le-ltb i c.links.count l)

links-are : (c : Chart) (a : ℕ) → chart_refusal c ≡ 0 → a < c.nodes.count → links_out (kept_net c) a ≡ where_from (λ i. is_some (far_end c.nodes c.links i a)) 0 c.links.count
unfolding links_out leads_out
links-are c a ok h = where-same _ _ 0 c.links.count (λ i l. go i (dec_lt i c.links.count))
  where
    go : (i : ℕ) → Dec (i < c.links.count) → other_than a (kept c (accepted c ok) a h i) ≡ is_some (far_end c.nodes c.links i a)
    go i (yes l) = below c (accepted c ok) a h i l
    go i (no l) = beyond c (accepted c ok) a h i (omega arith)

pub chart-links-kept : ChartLinksKept
chart-links-kept c t a ok T h =
    let l = (accepted c ok).few_nodes in
    (T.out a (omega (arith, l, h))).places ∙ links-are c a ok h
