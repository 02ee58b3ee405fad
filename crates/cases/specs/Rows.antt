-- Document 01's cases at the edges, P1 to P14, and a few of our own: one table, and the one statement of it. A case more is a row more. proofs/Cases.antt has
-- the theorem.
use Rattle.std.specs.Prelude.{ℕ, ◌≡◌, length}
use mathlib.Core.List.{List, [], ◌∷◌, ◌++◌, Memᴰ}
use Rattle.envelope.specs.Cases.{fire_frame, fire_fields}
use Rattle.envelope_read.specs.Read.{Envelope}
use Rattle.table.specs.Choice.{Local, Out, Refused as Unrouted}
use Rattle.table.specs.Cases.{T}
use Rattle.ledger.specs.declared.Standing.TheVariants.{Open, Acknowledged, Refused, TimedOut, Waiting}
use Rattle.ledger.specs.Cases.{leg, ledger, two, one}
use Rattle.ledger_accept.specs.Cases.{to_hill, fire_legs}
use Rattle.ledger_answer.specs.declared.Reply.TheVariants.{Ack, Nak}
use Rattle.ledger_laws.specs.Calls.{Call, accepting, answering, ticking, clearing}
use Rattle.chart.specs.Sample.{S, bytes_s, S', bytes_s'}
use Rattle.chart_read.specs.Reading.{refused_at}
use Rattle.chart_image.specs.Cases.{image_s}
use Rattle.route_search.specs.Answers.{Refused as NoRoute}
use Rattle.cases.specs.Questions.{Asked, reading, listing, following, choosing, calling, opening, sending, imaging, tracing, slotting, Returned, Back, read, listed, told, chosen, called, opened, sent, imaged, numbered, slotted, lent, answer_to}
use Rattle.cases.specs.Values.{port, seq, at, off, way, to}

-- what is asked, and what must come back
pub record Case : Type 0 where
  pub asked : Asked
  pub meant : Back

-- what comes back is what must
abbrev pub Holds : Case → Type 0
Holds c = answer_to c.asked ≡ c.meant

-- ---- the table

-- one row
infix 4 ◌⟶◌
abbrev pub ◌⟶◌ : Asked → Back → Case
◌⟶◌ q b = record { asked = q; meant = b }

-- a route is refused, and the buffer stays as it was lent
abbrev pub refused : ℕ → List ℕ → Back
refused k r = told (NoRoute k) (lent r)

-- a call's number and count
abbrev pub returns : ℕ → ℕ → Returned
returns k n = record { refusal = k; count = n }

-- a route's length, its links and zeros, 16 bytes in all
abbrev pub slot : List ℕ → List ℕ
slot r = length r ∷ lent r

-- 9/20/1 answers 9/1/5 that the call is being made
abbrev pub wait : Call
wait = answering (at 9 20 1) (at 9 1 5) (seq 7) (Nak 2 13)

unfoldable pub table : List Case
table =
    -- S itself, from its bytes
    (reading bytes_s ⟶ read (record { refusal = 0; place = 0; chart = S }))
    -- P1: its four routes and no more
    ∷ (listing bytes_s ⟶ listed ((0 ∷ 2 ∷ []) ∷ (0 ∷ 4 ∷ 3 ∷ []) ∷ (1 ∷ 3 ∷ []) ∷ (1 ∷ 4 ∷ 2 ∷ []) ∷ []) 43)
    -- P2: none after its last one
    ∷ (following bytes_s (1 ∷ 4 ∷ 2 ∷ []) ⟶ refused 43 (1 ∷ 4 ∷ 2 ∷ []))
    -- P3: link 4 off
    ∷ (listing (off 4 bytes_s) ⟶ listed ((0 ∷ 2 ∷ []) ∷ (1 ∷ 3 ∷ []) ∷ []) 43)
    -- P4: from 9/1 to itself
    ∷ (listing (to 1 bytes_s) ⟶ listed ([] ∷ []) 43)
    -- P5: links 0 and 1 off
    ∷ (listing (off 0 (off 1 bytes_s)) ⟶ listed [] 43)
    -- P6: 0 1 is no route
    ∷ (following bytes_s (0 ∷ 1 ∷ []) ⟶ refused 41 (0 ∷ 1 ∷ []))
    -- P7 to P10: T
    ∷ (choosing T (at 9 20 5) (port 0) ⟶ chosen (Out (port 3)))
    ∷ (choosing T (at 9 20 5) (port 3) ⟶ chosen (Out (port 4)))
    ∷ (choosing T (at 12 7 1) (port 4) ⟶ chosen (Unrouted 52))
    ∷ (choosing T (at 9 1 6) (port 0) ⟶ chosen (Local (port 6)))
    ∷ (choosing T (at 9 1 6) (port 3) ⟶ chosen (Local (port 6)))
    -- P11: an acknowledgement settles the second leg only
    ∷ (calling (two 3 Open) (answering (at 9 20 1) (at 9 2 5) (seq 7) Ack ∷ []) ⟶ called (returns 0 0 ∷ []) (two 0 Acknowledged))
    -- P12: two ticks, the second of which times the leg out, and an acknowledgement that comes too late
    ∷ (calling (one 2 Open) (ticking ∷ ticking ∷ answering (at 9 20 1) (at 9 1 5) (seq 7) Ack ∷ []) ⟶ called (returns 0 0 ∷ returns 0 1 ∷ returns 64 0 ∷ []) (one 0 TimedOut))
    -- P13: the empty chart
    ∷ (reading [] ⟶ read (refused_at 31 0))
    -- P14: node 1,024
    ∷ (reading (1 ∷ 0 ∷ 3 ∷ 9 ∷ 4 ∷ 0 ∷ []) ⟶ read (refused_at 24 0))
    -- a frame by its bytes, and the same frame written
    ∷ (opening fire_frame ⟶ opened (Envelope fire_fields) (at 9 20 5 ∷ at 9 21 5 ∷ []) (70 ∷ 105 ∷ 114 ∷ 101 ∷ []))
    ∷ (sending fire_fields (at 9 20 5 ∷ at 9 21 5 ∷ []) (70 ∷ 105 ∷ 114 ∷ 101 ∷ []) ⟶ sent fire_frame)
    -- that frame accepted beside an open leg of another source with the same number: a leg with a route, and one without
    ∷ (calling (ledger (leg (at 9 2 2) (at 9 20 5) 300 1 Open ∷ [])) (accepting fire_frame (port 0) to_hill 5 ∷ []) ⟶ called (returns 0 2 ∷ []) (ledger (leg (at 9 2 2) (at 9 20 5) 300 1 Open ∷ fire_legs)))
    -- wait, wait, ACK; wait, ticks to the end, an ACK that comes too late; wait, then refused; the wait_ack of another set refuses at once
    ∷ (calling (one 3 Open) (wait ∷ wait ∷ answering (at 9 20 1) (at 9 1 5) (seq 7) Ack ∷ []) ⟶ called (returns 0 0 ∷ returns 0 0 ∷ returns 0 0 ∷ []) (one 0 Acknowledged))
    ∷ (calling (one 2 Open) (wait ∷ ticking ∷ ticking ∷ answering (at 9 20 1) (at 9 1 5) (seq 7) Ack ∷ []) ⟶ called (returns 0 0 ∷ returns 0 0 ∷ returns 0 1 ∷ returns 64 0 ∷ []) (one 0 TimedOut))
    ∷ (calling (one 3 Open) (wait ∷ answering (at 9 20 1) (at 9 1 5) (seq 7) (Nak 2 9) ∷ []) ⟶ called (returns 0 0 ∷ returns 0 0 ∷ []) (one 0 (Refused 2 9)))
    ∷ (calling (one 3 Open) (answering (at 9 20 1) (at 9 1 5) (seq 7) (Nak 1 9) ∷ []) ⟶ called (returns 0 0 ∷ []) (one 0 (Refused 1 9)))
    ∷ (calling (one 3 Open) (wait ∷ clearing 0 ∷ []) ⟶ called (returns 0 0 ∷ returns 65 0 ∷ []) (one 3 Waiting))
    -- a NAK with its set and its code
    ∷ (calling (two 3 Open) (answering (at 9 20 1) (at 9 2 5) (seq 7) (Nak 2 9) ∷ []) ⟶ called (returns 0 0 ∷ []) (two 0 (Refused 2 9)))
    -- S in the directed form has the same routes; link 4 back loses one, link 0 back two; direction 3 is out of range
    ∷ (reading bytes_s' ⟶ read (record { refusal = 0; place = 0; chart = S' }))
    ∷ (listing bytes_s' ⟶ listed ((0 ∷ 2 ∷ []) ∷ (0 ∷ 4 ∷ 3 ∷ []) ∷ (1 ∷ 3 ∷ []) ∷ (1 ∷ 4 ∷ 2 ∷ []) ∷ []) 43)
    ∷ (listing (way 4 2 bytes_s') ⟶ listed ((0 ∷ 2 ∷ []) ∷ (1 ∷ 3 ∷ []) ∷ (1 ∷ 4 ∷ 2 ∷ []) ∷ []) 43)
    ∷ (listing (way 0 2 bytes_s') ⟶ listed ((1 ∷ 3 ∷ []) ∷ (1 ∷ 4 ∷ 2 ∷ []) ∷ []) 43)
    ∷ (reading (way 0 3 bytes_s') ⟶ read (refused_at 24 43))
    -- the image of S
    ∷ (imaging bytes_s ⟶ imaged image_s)
    -- the routes of S through C: their lengths, and 43
    ∷ (tracing bytes_s ⟶ numbered (2 ∷ 3 ∷ 2 ∷ 3 ∷ 43 ∷ []))
    -- all of them in slots, and the first one where there is room for no other
    ∷ (slotting bytes_s 64 ⟶ slotted 4 0 (slot (0 ∷ 2 ∷ []) ++ slot (0 ∷ 4 ∷ 3 ∷ []) ++ slot (1 ∷ 3 ∷ []) ++ slot (1 ∷ 4 ∷ 2 ∷ [])))
    ∷ (slotting bytes_s 16 ⟶ slotted 1 1 (slot (0 ∷ 2 ∷ [])))
    ∷ []

-- every case of the table holds
abbrev pub AllHold : Type 0
AllHold = (c : Case) → Memᴰ c table → Holds c
