-- The three demands: each statement is a theorem of the crate that it speaks of; what a refusal leaves is said here for every call.
use Prim.Native.Nat.{ℕ}
use mathlib.Core.Path.{◌≡◌, refl, ap}
use mathlib.Core.Bool.{Bool, not, cond, ◌&&◌}
use mathlib.Core.List.{List, [], ◌∷◌}
use lib.Dec.{eqb, ltb, leb}
use lib.ListN.{length}
use Rattle.lists.specs.Places.{any_below}
use Rattle.lists.specs.Refusals.{or_else}
use Rattle.lists.proofs.Given.{Given, tested, either, among-more}
use Rattle.lists.proofs.Refusals.{refused}
use Rattle.address.specs.declared.Port.{Port}
use Rattle.address.specs.declared.Station.{Station}
use Rattle.address.specs.declared.Address.{Address}
use Rattle.envelope_read.proofs.Contents.{contents-stand}
use Rattle.envelope_write.proofs.Promises.{read_undoes_write, write_undoes_read}
use Rattle.envelope_door.specs.Calls.{pz_read_image, pz_write_count, pz_write_frame}
use Rattle.envelope_door.proofs.Numbers.{pz-read-numbers, pz-write-numbers}
use Rattle.envelope_door.proofs.Promises as door
use Rattle.table.specs.Choice.{Choice}
use Rattle.table.specs.Choice.{Local, Out, Refused}
use Rattle.table.specs.Table.{call_in_range, choice_refusal, choice_local, choice_port}
use Rattle.table.proofs.Promises.{next_route, every-choice, choose-numbers}
use Rattle.table_image.specs.Table.{table_of}
use Rattle.table_door.specs.Calls.{pz_choose, pz_choose_refusal, pz_choose_local, pz_choose_port}
use Rattle.ledger_accept.specs.Accept.{accept_of}
use Rattle.ledger_tick.specs.Tick.{tick_of}
use Rattle.ledger_image.specs.Ledger.{ledger_of, ledger_after}
use Rattle.ledger_laws.specs.Calls.{accepting, answering, ticking, clearing, refusal_of}
use Rattle.ledger_laws.proofs.Numbers.{call-numbers}
use Rattle.ledger_laws.proofs.Accepting.{accept_refuses, accept_passes}
use Rattle.ledger_laws.proofs.Promises.{as_was, rules-are, rules_kept, answer-closes, tick-counts, clear-removes, clear_refuses, accept_adds}
use Rattle.ledger_door.specs.Calls.{pz_answer, pz_answer_image, pz_tick, pz_tick_image, pz_clear, pz_clear_image, pz_accept, pz_accept_image}
use Rattle.ledger_door.proofs.Images.{image-whole, images_follow}
use Rattle.ledger_door.proofs.Promises.{unreadable}
use Rattle.chart_read.specs.Reading.{read_chart_of}
use Rattle.chart_write.specs.Promises.{chart_reader_refusals}
use Rattle.chart_refuse.proofs.Accepted.{accepted-exactly}
use Rattle.chart_write.proofs.Promises as chart
use Rattle.chart_write_door.proofs.Promises as chart-door
use Rattle.chart_write.proofs.Numbers.{reader-numbers, writer-numbers}
use Rattle.chart_image.specs.Image.{chart_in}
use Rattle.chart.specs.Values.{plain, directed}
use Rattle.chart_form.specs.Moving.{one_way, moved_bytes, move_refusal}
use Rattle.chart_form.proofs.Promises.{restore_undoes_renew, renew_undoes_restore, copied, one_way_refused}
use Rattle.chart_read_door.specs.Calls.{pz_chart_read_refusal, pz_chart_read_image}
use Rattle.chart_write_door.specs.Calls.{pz_chart_write_refusal, pz_chart_write_count, pz_chart_write_chart}
use Rattle.chart_form_door.specs.Calls.{pz_chart_renew_refusal, pz_chart_renew_count, pz_chart_renew_chart, pz_chart_restore_refusal, pz_chart_restore_count, pz_chart_restore_chart}
use Rattle.chart_mend.specs.Mending.{mend_of}
use Rattle.chart_mend_door.specs.Calls.{pz_mend_refusal, pz_mend_kept, pz_mend_listed}
use Rattle.chart_mend_door.proofs.Promises.{mend-refused}
use Rattle.route.specs.All.{first_of}
use Rattle.route_search.specs.Answers.{finding_refusal}
use Rattle.route_list.specs.Listing.{list_refusal, list_count, list_more, list_after}
use Rattle.route_trace.proofs.Promises.{routes-listed, chart-links-kept}
use Rattle.route_first_door.proofs.Promises.{every-route-called, short-called, unread-called, route-numbers}
use Rattle.route_list_door.specs.Calls.{routes_asked, pz_routes_refusal, pz_routes_count, pz_routes_more, pz_routes_slots}
use Rattle.route_list_door.proofs.Promises.{every-slot-called}
use Rattle.table_write_door.proofs.Promises.{table-refused}
use Rattle.chart_net.specs.Net.{station_place}
use Rattle.class.specs.Class.{stray_table, strange_table, class_refusal}
use Rattle.class.specs.Calls.{tables_in, send_refusal, step_refusal}
use Rattle.class_image.specs.Message.{message_in}
use Rattle.class_begin_door.specs.Calls.{pz_begin_refusal, pz_begin_message}
use Rattle.class_step_door.specs.Calls.{pz_step_refusal, pz_step_message}
use Rattle.class_pass_door.specs.Calls.{pz_pass_refusal, pz_pass_places, pz_pass_ending, pz_pass_way}
use Rattle.sheet.specs.Sheet.{sheet_text, sheet_refusal, sheet_after}
use Rattle.demands.specs.Demands.{EveryCallAnswers, EnvelopesAndLegs, EveryRouteOnce, Demands}

-- ---- which numbers the other calls give

module _ (chart : List ℕ) (m : ℕ) where
  abbrev R : List ℕ
  R = 0 ∷ 21 ∷ 22 ∷ 23 ∷ 24 ∷ 25 ∷ 26 ∷ 27 ∷ 28 ∷ 29 ∷ 30 ∷ 31 ∷ 10 ∷ []

  chart-read-given : Given R (pz_chart_read_refusal chart m)
  unfolding pz_chart_read_refusal
  chart-read-given =
      either R (read_chart_of chart).refusal (record { is = among-more (read_chart_of chart).refusal chart_reader_refusals (10 ∷ []) (reader-numbers chart) })
      (tested R 10 (ltb m 937) refl (record { is = refl }))

  chart-renew-given : Given R (pz_chart_renew_refusal chart m)
  unfolding pz_chart_renew_refusal move_refusal
  chart-renew-given =
      either R (read_chart_of chart).refusal (record { is = among-more (read_chart_of chart).refusal chart_reader_refusals (10 ∷ []) (reader-numbers chart) })
      (tested R 10 (ltb m (length (moved_bytes directed chart))) refl (record { is = refl }))

  abbrev B : List ℕ
  B = 0 ∷ 21 ∷ 22 ∷ 23 ∷ 24 ∷ 25 ∷ 26 ∷ 27 ∷ 28 ∷ 29 ∷ 30 ∷ 31 ∷ 32 ∷ 10 ∷ []

  chart-restore-given : Given B (pz_chart_restore_refusal chart m)
  unfolding pz_chart_restore_refusal move_refusal
  chart-restore-given =
      either B (read_chart_of chart).refusal (record { is = among-more (read_chart_of chart).refusal chart_reader_refusals (32 ∷ 10 ∷ []) (reader-numbers chart) })
      (tested B 32 (eqb plain plain && one_way (read_chart_of chart).chart.links) refl
      (tested B 10 (ltb m (length (moved_bytes plain chart))) refl (record { is = refl })))

  abbrev L : List ℕ
  L = 0 ∷ 21 ∷ 22 ∷ 23 ∷ 24 ∷ 25 ∷ 26 ∷ 27 ∷ 28 ∷ 29 ∷ 30 ∷ 31 ∷ 42 ∷ 43 ∷ []

  -- of a list of routes there is a first one, or 43
  first-given : (rs : List (List ℕ)) → Given L (finding_refusal (first_of rs))
  unfolding first_of finding_refusal
  first-given [] = record { is = refl }
  first-given (r ∷ rs) = record { is = refl }

  list-given : Given L (pz_routes_refusal chart m)
  unfolding pz_routes_refusal list_refusal
  list-given =
      either L (read_chart_of chart).refusal (record { is = among-more (read_chart_of chart).refusal chart_reader_refusals (42 ∷ 43 ∷ []) (reader-numbers chart) })
      (tested L 42 (ltb m 16) refl (first-given (routes_asked chart)))

module _ (chart tables : List ℕ) (d : Address) where
  abbrev C : List ℕ
  C = 0 ∷ 21 ∷ 22 ∷ 23 ∷ 24 ∷ 25 ∷ 26 ∷ 27 ∷ 28 ∷ 29 ∷ 30 ∷ 31 ∷ 50 ∷ 44 ∷ 95 ∷ 51 ∷ 10 ∷ []

  -- the chart's number, the class's for a message at a place, then 10
  class-given : (a : ℕ) (arrival : Port) → Given C (or_else (read_chart_of chart).refusal (class_refusal (read_chart_of chart).chart.nodes (tables_in tables) d a arrival))
  unfolding class_refusal
  class-given a arrival =
      let ns = (read_chart_of chart).chart.nodes in
      either C (read_chart_of chart).refusal (record { is = among-more (read_chart_of chart).refusal chart_reader_refusals (50 ∷ 44 ∷ 95 ∷ 51 ∷ 10 ∷ []) (reader-numbers chart) })
      (tested C 50 (any_below (stray_table (tables_in tables)) ns.count) refl
      (tested C 44 (leb ns.count a) refl
      (tested C 95 (any_below (strange_table ns (tables_in tables)) ns.count) refl
      (tested C 51 (not (call_in_range d arrival)) refl (record { is = refl })))))

  send-given : (s : Station) → Given C (send_refusal chart tables d s)
  unfolding send_refusal
  send-given s = class-given (station_place (read_chart_of chart).chart.nodes s) (record { 0 = 0 })

  pass-given : (s : Station) (room : ℕ) → Given C (pz_pass_refusal chart tables d s room)
  unfolding pz_pass_refusal
  pass-given s room = either C (send_refusal chart tables d s) (send-given s) (tested C 10 (ltb room 17) refl (record { is = refl }))

  begin-given : (s : Station) (room : ℕ) → Given C (pz_begin_refusal chart tables d s room)
  unfolding pz_begin_refusal
  begin-given s room = either C (send_refusal chart tables d s) (send-given s) (tested C 10 (ltb room 5) refl (record { is = refl }))

  step_given : (message : List ℕ) → Given C (pz_step_refusal chart tables d message)
  unfolding pz_step_refusal step_refusal
  step_given message =
      either C (step_refusal chart tables d (message_in message)) (class-given (message_in message).at (message_in message).arrival)
      (tested C 10 (ltb (length message) 5) refl (record { is = refl }))

module _ (image : List ℕ) (room : ℕ) where
  abbrev W : List ℕ
  W = 0 ∷ 10 ∷ 23 ∷ 24 ∷ 26 ∷ 27 ∷ 28 ∷ 29 ∷ 30 ∷ []

  chart-write-given : Given W (pz_chart_write_refusal image room)
  unfolding pz_chart_write_refusal
  chart-write-given = tested W 10 (ltb (length image) 937) refl (record { is = writer-numbers (chart_in image) room })

sheet-given : (chart : List ℕ) (room : ℕ) → Given (0 ∷ 10 ∷ []) (sheet_refusal chart room)
unfolding sheet_refusal
sheet-given chart room = tested (0 ∷ 10 ∷ []) 10 (ltb room (length (sheet_text chart))) refl (record { is = refl })

-- no others follow a refusal
none_more : (k : ℕ) (rs : List (List ℕ)) (n : ℕ) → (k ≡ 0 → ⊥) → cond {A = ℕ} (list_more k rs n) 1 0 ≡ 0
unfolding list_more
none_more k rs n h = ap (λ (b : Bool). cond {A = ℕ} b 1 0) (refused _ _ k h)

-- what stands beside a refused choice is 0
none-local : (c : Choice) → (choice_refusal c ≡ 0 → ⊥) → cond {A = ℕ} (choice_local c) 1 0 ≡ 0
none-local (Local p) h = absurd (h refl)
none-local (Out p) h = refl
none-local (Refused k) h = refl

no-port : (c : Choice) → (choice_refusal c ≡ 0 → ⊥) → choice_port c ≡ 0
no-port (Local p) h = absurd (h refl)
no-port (Out p) h = absurd (h refl)
no-port (Refused k) h = refl

-- ---- the demands

every-call-answers : EveryCallAnswers
unfolding pz_read_image pz_write_count pz_write_frame pz_choose pz_choose_refusal pz_choose_local pz_choose_port pz_answer pz_answer_image pz_tick pz_tick_image pz_clear pz_clear_image pz_accept pz_accept_image ledger_after accept_of tick_of refusal_of pz_chart_read_image pz_chart_write_count pz_chart_write_chart pz_chart_renew_count pz_chart_renew_chart pz_chart_restore_count pz_chart_restore_chart pz_mend_refusal pz_mend_kept pz_mend_listed mend_of pz_pass_places pz_pass_ending pz_pass_way pz_begin_message pz_step_message pz_routes_count pz_routes_more pz_routes_slots list_count list_after sheet_after
every-call-answers =
    record {
      read = λ f image b. record { one_of = pz-read-numbers f b (length image); untouched = refused _ _ _; none_counted = λ h. refl };
      write = λ image contents frame. record { one_of = pz-write-numbers image (length contents) (length frame); untouched = refused _ _ _; none_counted = refused _ _ _ };
      choose_local = λ table d arrival. record { one_of = choose-numbers (table_of table) d arrival; untouched = λ h. refl; none_counted = none-local (pz_choose table d arrival) };
      choose_out = λ table d arrival. record { one_of = choose-numbers (table_of table) d arrival; untouched = λ h. refl; none_counted = no-port (pz_choose table d arrival) };
      accept = λ ledger f arrival table ticks b. record { one_of = call-numbers (ledger_of ledger) (accepting f arrival (table_of table) ticks) b; untouched = refused _ _ _; none_counted = refused _ _ _ };
      answer = λ ledger by to seq reply. record { one_of = call-numbers (ledger_of ledger) (answering by to seq reply) tt; untouched = refused _ _ _; none_counted = λ h. refl };
      tick = λ ledger. record { one_of = call-numbers (ledger_of ledger) ticking tt; untouched = refused _ _ _; none_counted = refused _ _ _ };
      clear = λ ledger place. record { one_of = call-numbers (ledger_of ledger) (clearing place) tt; untouched = refused _ _ _; none_counted = λ h. refl };
      chart_read = λ chart image. record { one_of = (chart-read-given chart (length image)).is; untouched = refused _ _ _; none_counted = λ h. refl };
      chart_write = λ image chart. record { one_of = (chart-write-given image (length chart)).is; untouched = refused _ _ _; none_counted = refused _ _ _ };
      chart_renew = λ chart out. record { one_of = (chart-renew-given chart (length out)).is; untouched = refused _ _ _; none_counted = refused _ _ _ };
      chart_restore = λ chart out. record { one_of = (chart-restore-given chart (length out)).is; untouched = refused _ _ _; none_counted = refused _ _ _ };
      mend_chart = λ input chart list. record { one_of = mend-refused.numbers input (length chart) (length list); untouched = mend-refused.chart_left input chart list; none_counted = refused _ _ _ };
      mend_list = λ input chart list. record { one_of = mend-refused.numbers input (length chart) (length list); untouched = mend-refused.list_left input chart list; none_counted = refused _ _ _ };
      table = λ chart s image. record { one_of = table-refused.numbers chart s (length image); untouched = table-refused.left chart s image; none_counted = λ h. refl };
      pass_places = λ chart tables d s way. record { one_of = (pass-given chart tables d s (length way)).is; untouched = refused _ _ _; none_counted = refused _ _ _ };
      pass_ending = λ chart tables d s way. record { one_of = (pass-given chart tables d s (length way)).is; untouched = refused _ _ _; none_counted = refused _ _ _ };
      begin = λ chart tables d s message. record { one_of = (begin-given chart tables d s (length message)).is; untouched = refused _ _ _; none_counted = λ h. refl };
      step = λ chart tables d message. record { one_of = (step_given chart tables d message).is; untouched = refused _ _ _; none_counted = λ h. refl };
      routes = route-numbers;
      list = λ chart slots. record { one_of = (list-given chart (length slots)).is; untouched = refused _ _ _; none_counted = refused _ _ _ };
      list_more = λ chart slots. record { one_of = (list-given chart (length slots)).is; untouched = refused _ _ _; none_counted = none_more _ _ _ };
      sheet = λ chart text. record { one_of = (sheet-given chart (length text)).is; untouched = refused _ _ _; none_counted = refused _ _ _ };
    }

envelopes-and-legs : EnvelopesAndLegs
envelopes-and-legs =
    record {
      read_undoes_write = read_undoes_write;
      write_undoes_read = write_undoes_read;
      contents = contents-stand;
      image_read_undoes_write = door.read_undoes_write;
      image_write_undoes_read = door.write_undoes_read;
      next_route = next_route;
      choices = every-choice;
      rules = rules-are;
      rules_kept = rules_kept;
      as_was = as_was;
      answer = answer-closes;
      answer_called = λ image by to seq reply. answer-closes (ledger_of image) by to seq reply (image-whole image);
      accept_adds = accept_adds;
      accept_refuses = accept_refuses;
      accept_passes = accept_passes;
      tick = tick-counts;
      clear = clear-removes;
      clear_refuses = clear_refuses;
      images_follow = images_follow;
      unreadable = unreadable;
    }

every-route-once : EveryRouteOnce
every-route-once =
    record {
      listed = routes-listed;
      called = every-route-called;
      slots = every-slot-called;
      links_kept = chart-links-kept;
      chart_read_undoes_write = chart.read_undoes_write;
      chart_write_undoes_read = chart.write_undoes_read;
      chart_image_read_undoes_write = chart-door.read_undoes_write;
      chart_image_write_undoes_read = chart-door.write_undoes_read;
      accepted = accepted-exactly;
      restore_undoes_renew = restore_undoes_renew;
      renew_undoes_restore = renew_undoes_restore;
      copied = copied;
      one_way_refused = one_way_refused;
      short = short-called;
      unread = unread-called;
    }

pub demands : Demands
demands = record { first = every-call-answers; second = envelopes-and-legs; third = every-route-once }
