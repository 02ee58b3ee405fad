-- A chart moved to the other form of links (document 02, Five): renewed to the directed one, restored to the plain one. Bytes in, bytes out.
use Rattle.std.specs.Prelude.{ℕ, Bool, not, ◌&&◌, List, eqb, ltb, length, Result, Ok, Err}
use Rattle.lists.specs.Places.{any_below}
use Rattle.lists.specs.Refusals.{refuse, or_else, unless_refused}
use Rattle.refusal.specs.declared.Fault.{Fault}
use Rattle.refusal.specs.Numbers.{number}
use Rattle.buffer.specs.Writing.{lent_after}
use Rattle.chart.specs.declared.Links.{Links}
use Rattle.chart.specs.declared.Chart.{Chart}
use Rattle.chart.specs.Values.{plain, both_ways, link_at}
use Rattle.chart_read.specs.Reading.{read_chart_of}
use Rattle.chart_write.specs.Writing.{chart_bytes}

-- the chart with its links in a form
unfoldable pub in_form : ℕ → Chart → Chart
in_form form c =
    record {
      nodes = c.nodes;
      links = record { count = c.links.count; form = form; items = c.links.items };
      from = c.from;
      to = c.to;
    }

-- the link at a place does not go both ways, and one of the links does not
unfoldable pub one_way_at : Links → ℕ → Bool
one_way_at ls i = not (eqb (link_at ls i).direction both_ways)

unfoldable pub one_way : Links → Bool
one_way ls = any_below (one_way_at ls) ls.count

-- the bytes of a chart in a form
unfoldable pub moved_bytes : ℕ → List ℕ → List ℕ
moved_bytes form bytes = chart_bytes (in_form form (read_chart_of bytes).chart)

-- the chart's numbers, then 32 for a link that the plain form cannot say, then 10 for the lent buffer
unfoldable pub move_refusal : ℕ → List ℕ → ℕ → ℕ
move_refusal form bytes room =
    or_else (read_chart_of bytes).refusal
    (refuse 32 (eqb form plain && one_way (read_chart_of bytes).chart.links)
    (refuse 10 (ltb room (length (moved_bytes form bytes))) 0))

-- the number, the place of the field that the chart's number refuses, else 0, and how many bytes were written
pub record Moved : Type 0 where
  pub refusal : ℕ
  pub place : ℕ
  pub written : ℕ

-- what the result of a move is as an answer: no byte is written beside a refusal
abbrev pub moved : Result ℕ Fault → Moved
moved (Ok n) = record { refusal = 0; place = 0; written = n }
moved (Err f) = record { refusal = number f.refusal; place = f.place; written = 0 }

unfoldable pub move_of : ℕ → List ℕ → ℕ → Moved
move_of form bytes room =
    record {
      refusal = move_refusal form bytes room;
      place = (read_chart_of bytes).place;
      written = unless_refused (move_refusal form bytes room) (length (moved_bytes form bytes)) 0;
    }

-- what the buffer then holds
unfoldable pub moved_after : ℕ → List ℕ → List ℕ → List ℕ
moved_after form bytes out = lent_after (move_refusal form bytes (length out)) (moved_bytes form bytes) out
