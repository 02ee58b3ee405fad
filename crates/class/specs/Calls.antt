-- What the class answers of a chart's bytes and the image of its tables: a message begun, a step on, and passed until it ends.
use Rattle.std.specs.Prelude.{ℕ, ◌*◌, cond, List, ltb, length, drop, get_or, replicate, Result, Ok, Err}
use Rattle.lists.specs.Places.{row}
use Rattle.lists.specs.Refusals.{or_else, unless_refused}
use Rattle.refusal.specs.declared.Fault.{Fault}
use Rattle.refusal.specs.Numbers.{number}
use Rattle.address.specs.declared.Station.{Station}
use Rattle.address.specs.declared.Address.{Address}
use Rattle.table.specs.declared.Table.{Table}
use Rattle.table_image.specs.Table.{table_size, broken_table, table_of}
use Rattle.chart.specs.declared.Chart.{Chart}
use Rattle.chart_read.specs.Reading.{read_chart_of}
use Rattle.chart_net.specs.Net.{station_place}
use Rattle.class.specs.declared.Message.{Message}
use Rattle.class.specs.declared.Passed as code
use Rattle.class.specs.Class.{begun_at, step_on, way_from, ending_from, class_refusal}

-- 16 tables of 196 bytes
abbrev pub tables_size : ℕ
tables_size = 3136

-- the table of the node at a place; in an image that is too short each is out of range, so that its number, 50, takes its turn
unfoldable pub tables_in : List ℕ → ℕ → Table
tables_in b a = cond (ltb (length b) tables_size) broken_table (table_of (drop (table_size * a) b))

-- the way has at most 16 nodes, and one that is met again
abbrev pub longest_way : ℕ
longest_way = 17

-- a message, or the number of a refusal and where the chart's refused field begins
pub record Sent : Type 0 where
  pub refusal : ℕ
  pub place : ℕ
  pub message : Message

-- the node places that a message came to, in order, and how it ended; or a refusal
pub record Passed : Type 0 where
  pub refusal : ℕ
  pub place : ℕ
  pub ending : ℕ
  pub count : ℕ
  pub way : List ℕ

-- what is answered where nothing is refused
abbrev pub passing : Passed → code.Passed
passing p = record { ending = p.ending; count = p.count; way = p.way }

-- what stands beside a refusal: every number 0
abbrev pub no_message : Message
no_message = record { at = 0; arrival = record { 0 = 0 }; met = 0; ending = 0 }

-- nor has a way a node
abbrev pub no_way : ℕ → ℕ → Passed
no_way refusal place = record { refusal = refusal; place = place; ending = 0; count = 0; way = replicate longest_way 0 }

-- what the result of a beginning is as an answer: beside a refusal every number of the message is 0
abbrev pub message_begun : Result Message Fault → Sent
message_begun (Ok m) = record { refusal = 0; place = 0; message = m }
message_begun (Err f) = record { refusal = number f.refusal; place = f.place; message = record { at = 0; arrival = record { 0 = 0 }; met = 0; ending = 0 } }

-- what the result of a step is as an answer: beside a refusal the message is as it was
abbrev pub message_stepped : Message → Result Message Fault → Sent
message_stepped before (Ok m) = record { refusal = 0; place = 0; message = m }
message_stepped before (Err f) = record { refusal = number f.refusal; place = f.place; message = before }

-- what the result of all steps is as an answer: beside a refusal the way has no node
abbrev pub way_passed : Result code.Passed Fault → Passed
way_passed (Ok p) = record { refusal = 0; place = 0; ending = p.ending; count = p.count; way = p.way }
way_passed (Err f) = record { refusal = number f.refusal; place = f.place; ending = 0; count = 0; way = replicate longest_way 0 }

-- the chart that was read
abbrev pub chart_of : List ℕ → Chart
chart_of bytes = (read_chart_of bytes).chart

module _ (bytes tables : List ℕ) (d : Address) where
  -- the chart's number, then the class's
  unfoldable pub send_refusal : Station → ℕ
  send_refusal s = or_else (read_chart_of bytes).refusal (class_refusal (chart_of bytes).nodes (tables_in tables) d (station_place (chart_of bytes).nodes s) (record { 0 = 0 }))

  unfoldable pub step_refusal : Message → ℕ
  step_refusal m = or_else (read_chart_of bytes).refusal (class_refusal (chart_of bytes).nodes (tables_in tables) d m.at m.arrival)

  -- a message begins at a station
  unfoldable pub begin_of : Station → Sent
  begin_of s =
      unless_refused (send_refusal s)
      (record { refusal = 0; place = 0; message = begun_at (station_place (chart_of bytes).nodes s) })
      (record { refusal = send_refusal s; place = (read_chart_of bytes).place; message = no_message })

  -- a message goes a step on; beside a refusal it is as it was
  unfoldable pub step_of : Message → Sent
  step_of m =
      unless_refused (step_refusal m)
      (record { refusal = 0; place = 0; message = step_on (chart_of bytes) (tables_in tables) d m })
      (record { refusal = step_refusal m; place = (read_chart_of bytes).place; message = m })

  -- the way of a message that begins at a station
  unfoldable pub way_of : Station → List ℕ
  way_of s = way_from (chart_of bytes) (tables_in tables) d (station_place (chart_of bytes).nodes s)

  -- all of its steps; in 17 places, the unused ones 0
  unfoldable pub pass_of : Station → Passed
  pass_of s =
      unless_refused (send_refusal s)
      (record {
        refusal = 0;
        place = 0;
        ending = ending_from (chart_of bytes) (tables_in tables) d (station_place (chart_of bytes).nodes s);
        count = length (way_of s);
        way = row longest_way 0 (λ i. get_or (way_of s) i 0) (length (way_of s));
      })
      (no_way (send_refusal s) (read_chart_of bytes).place)
