-- What first and next answer, and the lent bytes after them (document 01, "Routes and their order").
use Rattle.std.specs.Prelude.{ℕ, List, [], length, take, ltb, Result, Ok, Err}
use Rattle.std.proofs.lemmas.List.Edits.{sets}
use Rattle.lists.specs.Refusals.{refuse, unless_refused}
use Rattle.refusal.specs.declared.Refusal.{Refusal}
use Rattle.refusal.specs.Numbers.{number}
use Rattle.route.specs.All.{Finding, route, no_more, no_route, first_of, next_of}

-- a route has at most 15 links
abbrev pub longest_route : ℕ
longest_route = 15

-- what a trace answers: the length of the route it wrote, or a refusal's number
pub data Traced : Type 0 where
  Route : ℕ → Traced
  Refused : ℕ → Traced

-- what a length or a refusal is as an answer
abbrev pub traced : Result ℕ Refusal → Traced
traced (Ok n) = Route n
traced (Err r) = Refused (number r)

-- document 01's number and length for each case of an answer: 0 stands beside a route, 0 is the length beside a refusal
abbrev pub traced_refusal : Traced → ℕ
traced_refusal (Route n) = 0
traced_refusal (Refused k) = k

abbrev pub traced_length : Traced → ℕ
traced_length (Route n) = n
traced_length (Refused k) = 0

-- 43: there is no route, or none later; 41: what was given is none
unfoldable pub finding_refusal : Finding → ℕ
finding_refusal (route r) = 0
finding_refusal no_more = 43
finding_refusal no_route = 41

-- the route of an answer
unfoldable pub finding_route : Finding → List ℕ
finding_route (route r) = r
finding_route no_more = []
finding_route no_route = []

-- an answer, and the lent bytes after it
pub record Told : Type 0 where
  pub answer : Traced
  pub bytes : List ℕ

-- a route is written at the start of the buffer and the bytes past it stay; a refusal changes none
unfoldable pub told : ℕ → List ℕ → List ℕ → Told
told refusal r buf =
    unless_refused refusal
    (record { answer = Route (length r); bytes = sets buf 0 r })
    (record { answer = Refused refusal; bytes = buf })

-- 42: the buffer is shorter than the longest route
unfoldable pub first_refusal : List (List ℕ) → List ℕ → ℕ
first_refusal rs buf = refuse 42 (ltb (length buf) longest_route) (finding_refusal (first_of rs))

-- 42, then 41 also for a length above the longest route's
unfoldable pub next_refusal : List (List ℕ) → List ℕ → ℕ → ℕ
next_refusal rs buf n =
    refuse 42 (ltb (length buf) longest_route) (refuse 41 (ltb longest_route n) (finding_refusal (next_of rs (take n buf))))

-- the first of these routes, and the one after the first n bytes of the buffer
abbrev pub first_route : List (List ℕ) → List ℕ
first_route rs = finding_route (first_of rs)

abbrev pub next_route : List (List ℕ) → List ℕ → ℕ → List ℕ
next_route rs buf n = finding_route (next_of rs (take n buf))
