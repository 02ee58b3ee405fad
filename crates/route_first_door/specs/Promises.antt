-- Demand 3 as C sees it: pz_first and pz_next on a chart's bytes and one lent buffer. proofs/Promises.antt has the theorems.
use Rattle.std.specs.Prelude.{ℕ, ◌<◌, ◌≤◌, ◌≡◌, true, List, [], ◌∷◌, ◌⊎◌, length, take, drop}
use Rattle.lists.specs.Refusals.{among}
use Rattle.buffer.specs.Bytes.{Bytes}
use Rattle.chart_read.specs.Reading.{read_chart_of}
use Rattle.route_search.specs.Answers.{longest_route}
use Rattle.chart_net.specs.Net.{routes_of}
use Rattle.chart_net.specs.Promises.{IsRouteOf}
use Rattle.route_first_door.specs.Routes.{pz_first_number, pz_first_buffer, pz_next_number, pz_next_buffer}

-- the number that came back and the buffer as it was left, then pz_next with that number until 43: these routes, in this order
pub data CallsGive (bytes : List ℕ) : ℕ → List ℕ → List (List ℕ) → Type 0 where
  ended : {buf : List ℕ} → CallsGive bytes 43 buf []
  another : {n : ℕ} {buf : List ℕ} {l : List (List ℕ)} → n ≤ longest_route → CallsGive bytes (pz_next_number bytes buf n) (pz_next_buffer bytes buf n) l
      → CallsGive bytes n buf (take n buf ∷ l)

-- the calls on the bytes of a chart and one buffer: all routes; what is no route is 41; bytes past a route stay
pub record CallsTrace (bytes buf : List ℕ) : Type 0 where
  pub all : CallsGive bytes (pz_first_number bytes buf) (pz_first_buffer bytes buf) (routes_of (read_chart_of bytes).chart)
  pub others : (n : ℕ) → (IsRouteOf (read_chart_of bytes).chart (take n buf) → ⊥) → pz_next_number bytes buf n ≡ 41
  pub past_first : pz_first_number bytes buf ≤ longest_route → drop (pz_first_number bytes buf) (pz_first_buffer bytes buf) ≡ drop (pz_first_number bytes buf) buf
  pub past_next : (n : ℕ) → pz_next_number bytes buf n ≤ longest_route → drop (pz_next_number bytes buf n) (pz_next_buffer bytes buf n) ≡ drop (pz_next_number bytes buf n) buf

-- so it is for every chart that the reader accepts and every buffer that is long enough
abbrev pub EveryRouteCalled : Type 0
EveryRouteCalled = (bytes buf : List ℕ) → Bytes bytes → (read_chart_of bytes).refusal ≡ 0 → longest_route ≤ length buf → CallsTrace bytes buf

-- a shorter one is 42
pub record CallsTooShort (bytes buf : List ℕ) : Type 0 where
  pub first : pz_first_number bytes buf ≡ 42
  pub next : (n : ℕ) → pz_next_number bytes buf n ≡ 42

abbrev pub ShortCalled : Type 0
ShortCalled = (bytes buf : List ℕ) → Bytes bytes → (read_chart_of bytes).refusal ≡ 0 → length buf < longest_route → CallsTooShort bytes buf

-- a chart that the reader refuses gives its number
pub record CallsUnread (bytes buf : List ℕ) : Type 0 where
  pub first : pz_first_number bytes buf ≡ (read_chart_of bytes).refusal
  pub next : (n : ℕ) → pz_next_number bytes buf n ≡ (read_chart_of bytes).refusal

abbrev pub UnreadCalled : Type 0
UnreadCalled = (bytes buf : List ℕ) → ((read_chart_of bytes).refusal ≡ 0 → ⊥) → CallsUnread bytes buf

-- the refusals of the two calls, all above 15, the longest route
abbrev pub pz_first_refusals : List ℕ
pz_first_refusals = 21 ∷ 22 ∷ 23 ∷ 24 ∷ 25 ∷ 26 ∷ 27 ∷ 28 ∷ 29 ∷ 30 ∷ 31 ∷ 42 ∷ 43 ∷ []

abbrev pub pz_next_refusals : List ℕ
pz_next_refusals = 21 ∷ 22 ∷ 23 ∷ 24 ∷ 25 ∷ 26 ∷ 27 ∷ 28 ∷ 29 ∷ 30 ∷ 31 ∷ 41 ∷ 42 ∷ 43 ∷ []

-- the number is a route's length, or one of them and the buffer is as it was
abbrev pub RouteOr : List ℕ → List ℕ → ℕ → List ℕ → Type 0
RouteOr refusals buf number after = (number ≤ longest_route) ⊎ ((among number refusals ≡ true) × (after ≡ buf))

pub record RouteNumbers : Type 0 where
  pub first : (bytes buf : List ℕ) → Bytes bytes → RouteOr pz_first_refusals buf (pz_first_number bytes buf) (pz_first_buffer bytes buf)
  pub next : (bytes buf : List ℕ) → Bytes bytes → (n : ℕ) → RouteOr pz_next_refusals buf (pz_next_number bytes buf n) (pz_next_buffer bytes buf n)
