-- Demand 3 as C sees it: a chart that is read is right, so the calls are those of the trace, each with its one number.
use Prim.Native.Nat.{ℕ, ◌<◌, ◌≤◌}
use mathlib.Core.Path.{◌≡◌, refl, sym, ap, subst, ◌∙◌}
use mathlib.Core.Bool.{Bool, true, ◌||◌}
use mathlib.Core.List.{List, [], ◌∷◌, ◌++◌}
use mathlib.Core.Logic.{inl, inr}
use native.Mathlib.Decide.{ℕ_discrete}
use lib.Dec.{eqb}
use lib.ListN.{length, take, drop}
use borrow.Author.Tests.{ne_eqb}
use Rattle.lists.specs.Refusals.{among}
use Rattle.lists.proofs.Bools.{or_right}
use Rattle.lists.proofs.Given.{among-more}
use Rattle.lists.proofs.Refusals.{taken, refused}
use Rattle.buffer.specs.Bytes.{Bytes}
use Rattle.chart.specs.declared.Chart.{Chart}
use Rattle.chart_read.specs.Reading.{read_chart_of}
use Rattle.chart_refuse.specs.Refusal.{chart_refusal}
use Rattle.chart_write.proofs.Numbers.{reader-numbers}
use Rattle.route_search.specs.Answers.{Traced, Route, Refused, Told}
use Rattle.chart_net.specs.Net.{routes_of}
use Rattle.route_trace.specs.Trace.{one_number, trace_first, trace_next}
use Rattle.route_trace.specs.Promises.{GoesThrough}
use Rattle.route_trace.specs.Promises as trace
use Rattle.route_trace.proofs.Promises.{Tells, a-route, a-refusal, first-tells, next-tells, every-route, short-buffers}
use Rattle.route_first_door.specs.Routes.{if_read, pz_first, pz_next}
use Rattle.route_first_door.specs.Promises.{CallsGive, ended, another, CallsTrace, EveryRouteCalled, CallsTooShort, ShortCalled, CallsUnread, UnreadCalled, RouteOr, RouteNumbers}
use Rattle.route_first_door.proofs.Laws.{right}

module _ (bytes : List ℕ) where
  abbrev c : Chart
  c = (read_chart_of bytes).chart

  -- ---- a chart that the reader refuses

  module _ (bad : (read_chart_of bytes).refusal ≡ 0 → ⊥) (buf : List ℕ) where
    unread : (t : Told) → if_read bytes buf t ≡ record { answer = Refused (read_chart_of bytes).refusal; bytes = buf }
    unfolding if_read
    unread t = refused t _ (read_chart_of bytes).refusal bad

    unread-calls : CallsUnread bytes buf
    unfolding pz_first pz_next
    unread-calls = record { first = ap (λ (t : Told). one_number t.answer) (unread _); next = λ n. ap (λ (t : Told). one_number t.answer) (unread _) }

  -- ---- a chart that it accepts

  module _ (b : Bytes bytes) (z : (read_chart_of bytes).refusal ≡ 0) where
    ok : chart_refusal c ≡ 0
    ok = right bytes b z

    first_is : (buf : List ℕ) → pz_first bytes buf ≡ trace_first c buf
    unfolding pz_first if_read
    first_is buf = taken _ _ z

    next_is : (buf : List ℕ) (n : ℕ) → pz_next bytes buf n ≡ trace_next c buf n
    unfolding pz_next if_read
    next_is buf n = taken _ _ z

    -- the calls go along with the trace
    calls : {t : Told} {l : List (List ℕ)} → GoesThrough c t l → CallsGive bytes (one_number t.answer) t.bytes l
    calls {t} (trace.ended e) = subst (λ (a : Traced). CallsGive bytes (one_number a) t.bytes []) (sym e) ended
    calls {t} (trace.another {n = n} {l = l} e k g) =
        subst (λ (a : Traced). CallsGive bytes (one_number a) t.bytes (take n t.bytes ∷ l)) (sym e)
        (another k (subst (λ (o : Told). CallsGive bytes (one_number o.answer) o.bytes l) (sym (next_is t.bytes n)) (calls g)))

    module _ (buf : List ℕ) where
      traced : 15 ≤ length buf → CallsTrace bytes buf
      traced h =
          let t = every-route c ok buf h in
          record {
            all = subst (λ (o : Told). CallsGive bytes (one_number o.answer) o.bytes (routes_of c)) (sym (first_is buf)) (calls t.given);
            others = λ n bad. ap (λ (o : Told). one_number o.answer) (next_is buf n ∙ t.others n bad);
            past_first = subst (λ (o : Told). one_number o.answer ≤ 15 → drop (one_number o.answer) o.bytes ≡ drop (one_number o.answer) buf) (sym (first_is buf))
                (λ k. past (42 ∷ 43 ∷ []) (trace_first c buf) (first-tells c ok buf) t.past_first k);
            past_next = λ n. subst (λ (o : Told). one_number o.answer ≤ 15 → drop (one_number o.answer) o.bytes ≡ drop (one_number o.answer) buf) (sym (next_is buf n))
                (λ k. past (41 ∷ 42 ∷ 43 ∷ []) (trace_next c buf n) (next-tells c ok buf n) (t.past_next n) k);
          }
        where
          past : (ks : List ℕ) (t : Told) → Tells ks buf t → ((n : ℕ) → t.answer ≡ Route n → drop n t.bytes ≡ drop n buf)
              → one_number t.answer ≤ 15 → drop (one_number t.answer) t.bytes ≡ drop (one_number t.answer) buf
          past ks t (a-route {n} e h) stays k = subst (λ (a : Traced). drop (one_number a) t.bytes ≡ drop (one_number a) buf) (sym e) (stays n e)
          past ks t (a-refusal e h s) stays k = ap (drop (one_number t.answer)) s

      short : length buf < 15 → CallsTooShort bytes buf
      short h =
          let t = short-buffers c ok buf h in
          record { first = ap (λ (o : Told). one_number o.answer) (first_is buf ∙ t.first); next = λ n. ap (λ (o : Told). one_number o.answer) (next_is buf n ∙ t.next n) }

pub every-route-called : EveryRouteCalled
every-route-called bytes buf b z h = traced bytes b z buf h

pub short-called : ShortCalled
short-called bytes buf b z h = short bytes b z buf h

pub unread-called : UnreadCalled
unread-called bytes buf bad = unread-calls bytes bad buf

-- ---- the numbers

-- those of the reader
abbrev unread_refusals : List ℕ
unread_refusals = 21 ∷ 22 ∷ 23 ∷ 24 ∷ 25 ∷ 26 ∷ 27 ∷ 28 ∷ 29 ∷ 30 ∷ 31 ∷ []

-- one of these is one of those that have others before them
later : (n : ℕ) (ks js : List ℕ) → among n js ≡ true → among n (ks ++ js) ≡ true
later n [] js h = h
later n (k ∷ ks) js h = ap (λ (b : Bool). eqb n k || b) (later n ks js h) ∙ or_right (eqb n k)

module _ (bytes buf : List ℕ) (js : List ℕ) where
  -- what the trace tells of an accepted chart
  told-or : {t : Told} → Tells js buf t → RouteOr (unread_refusals ++ js) buf (one_number t.answer) t.bytes
  told-or (a-route {n} e h) = inl (rw e h)
  told-or (a-refusal {k} e h s) = inr (subst (λ (x : Traced). among (one_number x) (unread_refusals ++ js) ≡ true) (sym e) (later k unread_refusals js h), s)

  -- what comes of a refused one
  unread-or : ((read_chart_of bytes).refusal ≡ 0 → ⊥) → RouteOr (unread_refusals ++ js) buf (read_chart_of bytes).refusal buf
  unread-or bad = inr (among-more (read_chart_of bytes).refusal unread_refusals js (rw (ne_eqb (read_chart_of bytes).refusal 0 bad) at (reader-numbers bytes)), refl)

  route-or : (t : Told) → ((read_chart_of bytes).refusal ≡ 0 → Tells js buf t) → RouteOr (unread_refusals ++ js) buf (one_number (if_read bytes buf t).answer) (if_read bytes buf t).bytes
  unfolding if_read
  route-or t tells = go (ℕ_discrete (read_chart_of bytes).refusal 0)
    where
      go : Dec ((read_chart_of bytes).refusal ≡ 0) → RouteOr (unread_refusals ++ js) buf (one_number (if_read bytes buf t).answer) (if_read bytes buf t).bytes
      go (yes z) = subst (λ (o : Told). RouteOr (unread_refusals ++ js) buf (one_number o.answer) o.bytes) (sym (taken t _ z)) (told-or (tells z))
      go (no bad) = subst (λ (o : Told). RouteOr (unread_refusals ++ js) buf (one_number o.answer) o.bytes) (sym (refused t _ (read_chart_of bytes).refusal bad)) (unread-or bad)

pub route-numbers : RouteNumbers
unfolding pz_first pz_next
route-numbers =
    record {
      first = λ bytes buf b. route-or bytes buf (42 ∷ 43 ∷ []) _ (λ z. first-tells (read_chart_of bytes).chart (right bytes b z) buf);
      next = λ bytes buf b n. route-or bytes buf (41 ∷ 42 ∷ 43 ∷ []) _ (λ z. next-tells (read_chart_of bytes).chart (right bytes b z) buf n);
    }
