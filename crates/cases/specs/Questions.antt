-- What a case asks, and what comes back: the public definitions behind one question.
use Rattle.std.specs.Prelude.{ℕ, zero, suc, ◌-◌, cond, List, [], ◌∷◌, ◌++◌, ltb, length, replicate, take}
use Rattle.address.specs.declared.Port.{Port}
use Rattle.lists.specs.Places.{element_at}
use Rattle.address.specs.declared.Address.{Address}
use Rattle.address.specs.Address.{zero_address}
use Rattle.envelope.specs.declared.Fixed.{Fixed}
use Rattle.envelope_read.specs.Read.{Read}
use Rattle.envelope_read.specs.Read.{read_frame_of}
use Rattle.envelope_read.specs.Parts.{contents_of, destinations_of}
use Rattle.envelope_write.specs.Write.{frame_bytes}
use Rattle.table.specs.declared.Table.{Table}
use Rattle.table.specs.Choice.{Choice}
use Rattle.table.specs.Table.{choose_of}
use Rattle.ledger.specs.declared.Ledger.{Ledger}
use Rattle.ledger_tick.specs.Tick.{tick_of}
use Rattle.ledger_accept.specs.Accept.{accept_of}
use Rattle.ledger_laws.specs.Calls.{Call, accepting, answering, ticking, clearing, refusal_of, after}
use Rattle.chart.specs.declared.Chart.{Chart}
use Rattle.chart_read.specs.Reading.{ChartRead}
use Rattle.chart_read.specs.Reading.{read_chart_of}
use Rattle.chart_read_door.specs.Calls.{pz_chart_read_image}
use Rattle.route_search.specs.Answers.{Traced}
use Rattle.route_search.specs.Answers.{Route, Refused}
use Rattle.route_search.specs.Answers.{Told}
use Rattle.route_trace.specs.Trace.{trace_first, trace_next}
use Rattle.route_list_door.specs.Calls.{pz_routes_count, pz_routes_more, pz_routes_slots}
use Rattle.route_first_door.specs.Routes.{pz_first_number, pz_first_buffer, pz_next_number, pz_next_buffer}

-- ---- questions and answers

-- a chart is given as its bytes
pub data Asked : Type 0 where
  -- what is read
  reading : List ℕ → Asked
  -- the first route, then the next after each, until a refusal
  listing : List ℕ → Asked
  -- the next after a route
  following : List ℕ → List ℕ → Asked
  -- a table's choice for a destination and an arrival port
  choosing : Table → Address → Port → Asked
  -- calls on a ledger, each on what the one before left
  calling : Ledger → List Call → Asked
  -- what a frame says
  opening : List ℕ → Asked
  -- the frame of these fields, destinations and contents
  sending : Fixed → List Address → List ℕ → Asked
  -- the image that C gets of a chart's bytes, in an image of zeros
  imaging : List ℕ → Asked
  -- the numbers that C gets of a chart's bytes: pz_first, then pz_next with the last number until a refusal
  tracing : List ℕ → Asked
  -- all routes of a chart's bytes as C gets them, in so many bytes of zeros
  slotting : List ℕ → ℕ → Asked

-- the number and the count that a call on a ledger returns
pub record Returned : Type 0 where
  pub refusal : ℕ
  pub count : ℕ

pub data Back : Type 0 where
  -- the number, the place and the chart
  read : ChartRead → Back
  -- the routes in turn, and the number that ended them
  listed : List (List ℕ) → ℕ → Back
  -- the answer, and the bytes of the buffer
  told : Traced → List ℕ → Back
  -- out by a port, local at a port, or a refusal
  chosen : Choice → Back
  -- what each call returned, and the ledger after them all
  called : List Returned → Ledger → Back
  -- the fixed fields or the refusal, the destinations that count, the contents
  opened : Read → List Address → List ℕ → Back
  -- a frame's bytes
  sent : List ℕ → Back
  -- an image's bytes
  imaged : List ℕ → Back
  -- numbers
  numbered : List ℕ → Back
  -- how many routes, 1 where others follow, and the slots
  slotted : ℕ → ℕ → List ℕ → Back

-- ---- what comes back

-- the chart that the reader gives for its bytes
abbrev pub chart_from : List ℕ → Chart
chart_from bytes = (read_chart_of bytes).chart

-- a lent buffer of 15 bytes with a route at its start
abbrev pub lent : List ℕ → List ℕ
lent r = r ++ replicate (15 - length r) 0

-- routes in turn, and the number that ended them
pub record Listing : Type 0 where
  pub routes : List (List ℕ)
  pub refusal : ℕ

-- after an answer: its route and what comes after it, or the refusal that ends the list
abbrev pub go_on : Traced → (ℕ → Listing) → Listing
go_on (Route n) more = more n
go_on (Refused k) more = record { routes = []; refusal = k }

-- one route more, before those listed
abbrev pub before : List ℕ → Listing → Listing
before r l = record { routes = r ∷ l.routes; refusal = l.refusal }

-- the routes from what was told on, each next one asked for on the buffer as it was left; where there are more than `most`, 0 ends them
unfoldable pub list_from : ℕ → Chart → Told → Listing
list_from zero c t = record { routes = []; refusal = 0 }
list_from (suc most) c t = go_on t.answer (λ n. before (take n t.bytes) (list_from most c (trace_next c t.bytes n)))

-- what a call returns beside its number: the legs added or timed out
abbrev pub returned_count : Ledger → Call → ℕ
returned_count l (accepting f arrival t ticks) = (accept_of l f arrival t ticks).added
returned_count l (answering by to seq reply) = 0
returned_count l ticking = (tick_of l).ended
returned_count l (clearing place) = 0

abbrev pub returned : Ledger → Call → Returned
returned l c = record { refusal = refusal_of l c; count = returned_count l c }

-- what the calls return, one after the other
unfoldable pub returned_by : Ledger → List Call → List Returned
returned_by l [] = []
returned_by l (c ∷ cs) = returned l c ∷ returned_by (after l c) cs

-- the ledger after them all
unfoldable pub after_all : Ledger → List Call → Ledger
after_all l [] = l
after_all l (c ∷ cs) = after_all (after l c) cs

-- the numbers from the one that came back on, in the buffer as it was left; `most` of them at most
unfoldable pub numbers_from : ℕ → List ℕ → ℕ → List ℕ → List ℕ
numbers_from zero bytes n buf = []
numbers_from (suc most) bytes n buf = n ∷ cond (ltb 15 n) [] (numbers_from most bytes (pz_next_number bytes buf n) (pz_next_buffer bytes buf n))

-- the destinations of a frame that count
abbrev pub destinations_in : List ℕ → List Address
destinations_in f = take (destinations_of f).count (destinations_of f).addresses

-- a list as an answer
abbrev pub listed_of : Listing → Back
listed_of l = listed l.routes l.refusal

-- what is told of a buffer
abbrev pub told_of : Told → Back
told_of t = told t.answer t.bytes

-- the answer to each question
unfoldable pub answer_to : Asked → Back
answer_to (reading bytes) = read (read_chart_of bytes)
answer_to (listing bytes) = listed_of (list_from 20 (chart_from bytes) (trace_first (chart_from bytes) (lent [])))
answer_to (following bytes r) = told_of (trace_next (chart_from bytes) (lent r) (length r))
answer_to (choosing t d arrival) = chosen (choose_of t d arrival)
answer_to (calling l cs) = called (returned_by l cs) (after_all l cs)
answer_to (opening f) = opened (read_frame_of f) (destinations_in f) (contents_of f)
answer_to (sending e d l) = sent (frame_bytes e (element_at zero_address d) l)
answer_to (imaging bytes) = imaged (pz_chart_read_image bytes (replicate 937 0))
answer_to (tracing bytes) = numbered (numbers_from 20 bytes (pz_first_number bytes (lent [])) (pz_first_buffer bytes (lent [])))
answer_to (slotting bytes n) = slotted (pz_routes_count bytes n) (pz_routes_more bytes n) (pz_routes_slots bytes (replicate n 0))
