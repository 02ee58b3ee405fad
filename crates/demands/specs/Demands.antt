-- The three demands, in their order and words, as records of closed statements: over what C sees (numbers that come back, lent bytes, images), and over the values
-- that images stand for. `pz_read_..` and the like are what the call pz_read gives (specs/Calls.antt of each door). proofs/Demands.antt proves all three.
use Rattle.std.specs.Prelude.{ℕ, ◌≡◌, true, List, [], ◌∷◌, length}
use Rattle.lists.specs.Refusals.{among, unless_refused}
use Rattle.buffer.specs.Bytes.{Bytes}
use Rattle.address.specs.declared.Port.{Port}
use Rattle.address.specs.declared.Seq.{Seq}
use Rattle.address.specs.declared.Station.{Station}
use Rattle.address.specs.declared.Address.{Address}
use Rattle.envelope_read.specs.Promises.{ContentsStand}
use Rattle.envelope_write.specs.Promises.{ReadUndoesWrite, WriteUndoesRead}
use Rattle.envelope_door.specs.Calls.{pz_read_refusal, pz_read_image, pz_write_refusal, pz_write_count, pz_write_frame}
use Rattle.envelope_door.specs.Promises.{ImageReadUndoesWrite, ImageWriteUndoesRead}
use Rattle.table.specs.Promises.{NextRoutes, EveryChoice}
use Rattle.table_door.specs.Calls.{pz_choose_refusal, pz_choose_local, pz_choose_port}
use Rattle.ledger.specs.Rules.{obeys}
use Rattle.ledger_answer.specs.declared.Reply.{Reply}
use Rattle.ledger_image.specs.Ledger.{ledger_of}
use Rattle.ledger_laws.specs.Promises.{AsWas, RulesAre, RulesKept, Answers, AnswerCloses, TickCounts, ClearRemoves, ClearRefuses, AcceptAdds, AcceptRefuses, AcceptPasses}
use Rattle.ledger_door.specs.Calls.{pz_answer, pz_answer_image, pz_tick, pz_tick_image, pz_clear, pz_clear_image, pz_accept, pz_accept_image}
use Rattle.ledger_door.specs.Promises.{ImagesFollow, Unreadable}
use Rattle.chart_refuse.specs.Promises.{AcceptedExactly}
use Rattle.chart_write.specs.Promises.{ChartReadUndoesWrite, ChartWriteUndoesRead}
use Rattle.chart_write_door.specs.Promises.{ChartImageReadUndoesWrite, ChartImageWriteUndoesRead}
use Rattle.chart_form.specs.Promises.{RestoreUndoesRenew, RenewUndoesRestore, Copied, OneWayRefused}
use Rattle.chart_read_door.specs.Calls.{pz_chart_read_refusal, pz_chart_read_image}
use Rattle.chart_write_door.specs.Calls.{pz_chart_write_refusal, pz_chart_write_count, pz_chart_write_chart}
use Rattle.chart_form_door.specs.Calls.{pz_chart_renew_refusal, pz_chart_renew_count, pz_chart_renew_chart, pz_chart_restore_refusal, pz_chart_restore_count, pz_chart_restore_chart}
use Rattle.chart_mend_door.specs.Calls.{pz_mend_refusal, pz_mend_kept, pz_mend_listed, pz_mend_chart, pz_mend_list}
use Rattle.route_trace.specs.Promises.{RoutesListed, ChartLinksKept}
use Rattle.route_first_door.specs.Promises.{EveryRouteCalled, ShortCalled, UnreadCalled, RouteNumbers}
use Rattle.route_list_door.specs.Calls.{pz_routes_refusal, pz_routes_count, pz_routes_more, pz_routes_slots}
use Rattle.route_list_door.specs.Promises.{EverySlotCalled}
use Rattle.table_write_door.specs.Calls.{pz_table_refusal, pz_table_image}
use Rattle.class_begin_door.specs.Calls.{pz_begin_refusal, pz_begin_message}
use Rattle.class_step_door.specs.Calls.{pz_step_refusal, pz_step_message}
use Rattle.class_pass_door.specs.Calls.{pz_pass_refusal, pz_pass_places, pz_pass_ending, pz_pass_way}
use Rattle.sheet.specs.Sheet.{sheet_text, sheet_refusal, sheet_after}

-- a call gave 0, or one of these numbers: then no lent byte changed, and the count beside it is 0
pub record Answered (refusals : List ℕ) (number count : ℕ) (lent after : List ℕ) : Type 0 where
  pub one_of : among number (0 ∷ refusals) ≡ true
  pub untouched : (number ≡ 0 → ⊥) → after ≡ lent
  pub none_counted : (number ≡ 0 → ⊥) → count ≡ 0

-- 1. Every byte string, chart, table and ledger gets an answer or a numbered refusal. Nothing faults, nothing runs for ever (that is the language's own proof). A
-- refusal changes no ledger and no byte of a lent buffer. No caller checks beforehand: there is no condition but that a byte is one.
pub record EveryCallAnswers : Type 0 where
  -- a frame into an image; an image and contents into a frame
  pub read : (f image : List ℕ) → Bytes f → Answered (1 ∷ 2 ∷ 3 ∷ 4 ∷ 7 ∷ 8 ∷ 9 ∷ 10 ∷ []) (pz_read_refusal f (length image)) 0 image (pz_read_image f image)
  pub write : (image contents frame : List ℕ)
      → Answered (4 ∷ 5 ∷ 6 ∷ 7 ∷ 8 ∷ 9 ∷ 10 ∷ []) (pz_write_refusal image (length contents) (length frame)) (pz_write_count image (length contents) (length frame)) frame (pz_write_frame image contents frame)
  -- the next route, which writes nothing: `local` and `out` are the counts beside its number
  pub choose_local : (table : List ℕ) (d : Address) (arrival : Port) → Answered (50 ∷ 51 ∷ 52 ∷ []) (pz_choose_refusal table d arrival) (pz_choose_local table d arrival) [] []
  pub choose_out : (table : List ℕ) (d : Address) (arrival : Port) → Answered (50 ∷ 51 ∷ 52 ∷ []) (pz_choose_refusal table d arrival) (pz_choose_port table d arrival) [] []
  -- the four calls on a ledger
  pub accept : (ledger f : List ℕ) (arrival : Port) (table : List ℕ) (ticks : ℕ) → Bytes f
      → Answered (1 ∷ 2 ∷ 3 ∷ 4 ∷ 7 ∷ 8 ∷ 9 ∷ 50 ∷ 51 ∷ 60 ∷ 61 ∷ 62 ∷ 63 ∷ []) (pz_accept ledger f arrival table ticks).refusal (pz_accept ledger f arrival table ticks).added ledger (pz_accept_image ledger f arrival table ticks)
  pub answer : (ledger : List ℕ) (by to : Address) (seq : Seq) (reply : Reply) → Answered (60 ∷ 64 ∷ []) (pz_answer ledger by to seq reply).refusal 0 ledger (pz_answer_image ledger by to seq reply)
  pub tick : (ledger : List ℕ) → Answered (60 ∷ []) (pz_tick ledger).refusal (pz_tick ledger).ended ledger (pz_tick_image ledger)
  pub clear : (ledger : List ℕ) (place : ℕ) → Answered (60 ∷ 65 ∷ []) (pz_clear ledger place).refusal 0 ledger (pz_clear_image ledger place)
  -- a chart into an image; an image into a chart
  pub chart_read : (chart image : List ℕ)
      → Answered (21 ∷ 22 ∷ 23 ∷ 24 ∷ 25 ∷ 26 ∷ 27 ∷ 28 ∷ 29 ∷ 30 ∷ 31 ∷ 10 ∷ []) (pz_chart_read_refusal chart (length image)) 0 image (pz_chart_read_image chart image)
  pub chart_write : (image chart : List ℕ)
      → Answered (10 ∷ 23 ∷ 24 ∷ 26 ∷ 27 ∷ 28 ∷ 29 ∷ 30 ∷ []) (pz_chart_write_refusal image (length chart)) (pz_chart_write_count image (length chart)) chart (pz_chart_write_chart image chart)
  -- a chart in the other form of links
  pub chart_renew : (chart out : List ℕ)
      → Answered (21 ∷ 22 ∷ 23 ∷ 24 ∷ 25 ∷ 26 ∷ 27 ∷ 28 ∷ 29 ∷ 30 ∷ 31 ∷ 10 ∷ []) (pz_chart_renew_refusal chart (length out)) (pz_chart_renew_count chart (length out)) out (pz_chart_renew_chart chart out)
  pub chart_restore : (chart out : List ℕ)
      → Answered (21 ∷ 22 ∷ 23 ∷ 24 ∷ 25 ∷ 26 ∷ 27 ∷ 28 ∷ 29 ∷ 30 ∷ 31 ∷ 32 ∷ 10 ∷ []) (pz_chart_restore_refusal chart (length out)) (pz_chart_restore_count chart (length out)) out (pz_chart_restore_chart chart out)
  -- a damaged chart mended: two lent buffers, what is kept and the list of what is dropped, each with a count of its own
  pub mend_chart : (input chart list : List ℕ)
      → Answered (33 ∷ 31 ∷ 10 ∷ []) (pz_mend_refusal input (length chart) (length list)) (pz_mend_kept input (length chart) (length list)) chart (pz_mend_chart input chart list)
  pub mend_list : (input chart list : List ℕ)
      → Answered (33 ∷ 31 ∷ 10 ∷ []) (pz_mend_refusal input (length chart) (length list)) (pz_mend_listed input (length chart) (length list)) list (pz_mend_list input chart list)
  -- the routing table of one of the chart's nodes
  pub table : (chart : List ℕ) (s : Station) (image : List ℕ)
      → Answered (21 ∷ 22 ∷ 23 ∷ 24 ∷ 25 ∷ 26 ∷ 27 ∷ 28 ∷ 29 ∷ 30 ∷ 31 ∷ 44 ∷ 10 ∷ []) (pz_table_refusal chart s (length image)) 0 image (pz_table_image chart s image)
  -- a message passed from node to node until it ends: how many places it came to, and how it ended, are the counts beside its number; one begun, and a step on
  pub pass_places : (chart tables : List ℕ) (d : Address) (s : Station) (way : List ℕ)
      → Answered (21 ∷ 22 ∷ 23 ∷ 24 ∷ 25 ∷ 26 ∷ 27 ∷ 28 ∷ 29 ∷ 30 ∷ 31 ∷ 50 ∷ 44 ∷ 95 ∷ 51 ∷ 10 ∷ []) (pz_pass_refusal chart tables d s (length way)) (pz_pass_places chart tables d s (length way)) way (pz_pass_way chart tables d s way)
  pub pass_ending : (chart tables : List ℕ) (d : Address) (s : Station) (way : List ℕ)
      → Answered (21 ∷ 22 ∷ 23 ∷ 24 ∷ 25 ∷ 26 ∷ 27 ∷ 28 ∷ 29 ∷ 30 ∷ 31 ∷ 50 ∷ 44 ∷ 95 ∷ 51 ∷ 10 ∷ []) (pz_pass_refusal chart tables d s (length way)) (pz_pass_ending chart tables d s (length way)) way (pz_pass_way chart tables d s way)
  pub begin : (chart tables : List ℕ) (d : Address) (s : Station) (message : List ℕ)
      → Answered (21 ∷ 22 ∷ 23 ∷ 24 ∷ 25 ∷ 26 ∷ 27 ∷ 28 ∷ 29 ∷ 30 ∷ 31 ∷ 50 ∷ 44 ∷ 95 ∷ 51 ∷ 10 ∷ []) (pz_begin_refusal chart tables d s (length message)) 0 message (pz_begin_message chart tables d s message)
  pub step : (chart tables : List ℕ) (d : Address) (message : List ℕ)
      → Answered (21 ∷ 22 ∷ 23 ∷ 24 ∷ 25 ∷ 26 ∷ 27 ∷ 28 ∷ 29 ∷ 30 ∷ 31 ∷ 50 ∷ 44 ∷ 95 ∷ 51 ∷ 10 ∷ []) (pz_step_refusal chart tables d message) 0 message (pz_step_message chart tables d message)
  -- a route's length, 0 to 15, or a refusal, every one of which is above 15
  pub routes : RouteNumbers
  -- all routes in slots: how many there are, and whether others follow, are the counts beside its number
  pub list : (chart slots : List ℕ)
      → Answered (21 ∷ 22 ∷ 23 ∷ 24 ∷ 25 ∷ 26 ∷ 27 ∷ 28 ∷ 29 ∷ 30 ∷ 31 ∷ 42 ∷ 43 ∷ []) (pz_routes_refusal chart (length slots)) (pz_routes_count chart (length slots)) slots (pz_routes_slots chart slots)
  pub list_more : (chart slots : List ℕ)
      → Answered (21 ∷ 22 ∷ 23 ∷ 24 ∷ 25 ∷ 26 ∷ 27 ∷ 28 ∷ 29 ∷ 30 ∷ 31 ∷ 42 ∷ 43 ∷ []) (pz_routes_refusal chart (length slots)) (pz_routes_more chart (length slots)) slots (pz_routes_slots chart slots)
  -- the printed sheet
  pub sheet : (chart text : List ℕ) → Answered (10 ∷ []) (sheet_refusal chart (length text)) (unless_refused (sheet_refusal chart (length text)) (length (sheet_text chart)) 0) text (sheet_after chart text)

-- 2. Envelopes are read and written as GD-92/1003A says, and each undoes the other. A message leaves by the first enabled matching route that is not the port it
-- came in on. An acknowledgement closes the one open leg with the same source, destination and sequence number, and no other.
pub record EnvelopesAndLegs : Type 0 where
  -- as values: any envelope that the writer takes, any frame that the reader takes; the contents are the frame's own part
  pub read_undoes_write : ReadUndoesWrite
  pub write_undoes_read : WriteUndoesRead
  pub contents : ContentsStand
  -- as images
  pub image_read_undoes_write : ImageReadUndoesWrite
  pub image_write_undoes_read : ImageWriteUndoesRead
  -- out by the first entry that qualifies, 52 exactly if none does; every other answer exactly where it is due
  pub next_route : NextRoutes
  pub choices : EveryChoice
  -- what a ledger's rules are, and that every call keeps them; a refused call returns its ledger as it was
  pub rules : RulesAre
  pub rules_kept : RulesKept
  pub as_was : AsWas
  -- an answer closes the leg that it names, of a ledger and of an image of one
  pub answer : AnswerCloses
  pub answer_called : (image : List ℕ) (by to : Address) (seq : Seq) (reply : Reply) → obeys (ledger_of image) ≡ true → Answers (ledger_of image) by to seq reply
  -- a leg for each destination; 61, 62 and 63 exactly where they are due; without <ack_req> nothing
  pub accept_adds : AcceptAdds
  pub accept_refuses : AcceptRefuses
  pub accept_passes : AcceptPasses
  -- a tick ends the legs that it counts; a clear removes a settled leg, and is 65 exactly if none stands there
  pub tick : TickCounts
  pub clear : ClearRemoves
  pub clear_refuses : ClearRefuses
  -- the image after a call is that of the ledger after it; one that can't be read is 60 in its turn
  pub images_follow : ImagesFollow
  pub unreadable : Unreadable

-- 3. First route, then the next after each until told there are no more: every route over enabled links that meets no node twice, each once, in order of link places.
-- A link is passed only in its direction (document 02, Five).
pub record EveryRouteOnce : Type 0 where
  -- the list of all routes (`routes_of`, which the sheet prints) has exactly the routes, each once, in order
  pub listed : RoutesListed
  -- pz_first, then pz_next with the number that came back, on the chart's bytes and one buffer: that list, then 43; what is no route is 41; bytes past a route stay
  pub called : EveryRouteCalled
  -- pz_routes on the chart's bytes: slot k holds the k-th route of that list, all of them or as many as there is room for, and the next goes on from the last
  pub slots : EverySlotCalled
  -- the links that are kept beside a node are those of the chart that can be passed from there, in order of place
  pub links_kept : ChartLinksKept
  -- charts are read and written, and each undoes the other, as values and as images; no number refuses exactly the charts that are right
  pub chart_read_undoes_write : ChartReadUndoesWrite
  pub chart_write_undoes_read : ChartWriteUndoesRead
  pub chart_image_read_undoes_write : ChartImageReadUndoesWrite
  pub chart_image_write_undoes_read : ChartImageWriteUndoesRead
  pub accepted : AcceptedExactly
  -- a chart moved to the other form of links comes back to the same bytes; one in the form asked for is copied; 32 exactly where a link does not go both ways
  pub restore_undoes_renew : RestoreUndoesRenew
  pub renew_undoes_restore : RenewUndoesRestore
  pub copied : Copied
  pub one_way_refused : OneWayRefused
  -- a buffer shorter than 15 is 42; a chart that is refused gives its own number
  pub short : ShortCalled
  pub unread : UnreadCalled

pub record Demands : Type 0 where
  pub first : EveryCallAnswers
  pub second : EnvelopesAndLegs
  pub third : EveryRouteOnce
