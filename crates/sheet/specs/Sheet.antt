-- The printed sheet (document 01, "The printed sheet"): what is printed of an input, and what becomes of the buffer that it is written into.
use Rattle.std.specs.Prelude.{ℕ, cond, List, ◌++◌, length, ltb, Result}
use Rattle.lists.specs.Places.{joined}
use Rattle.lists.specs.Refusals.{refuse, unless_refused}
use Rattle.refusal.specs.declared.Refusal.{Refusal}
use Rattle.refusal.specs.Numbers.{Answers}
use Rattle.buffer.specs.Writing.{Written, wrote_unless, lent_after}
use Rattle.chart.specs.declared.Chart.{Chart}
use Rattle.chart.specs.Values.{node_at, link_at}
use Rattle.chart_read.specs.Reading.{ChartRead, read_chart_of}
use Rattle.chart_net.specs.Net.{routes_of}
use Rattle.text.specs.Marks.{ascii}
use Rattle.sheet_lines.specs.Lines.{counts_line, refused_line}
use Rattle.sheet_lines.specs.Lines.{node_line, link_line, question_line}
use Rattle.sheet_routes.specs.RouteLines.{most_routes, list_text}

-- an input above 4,096 bytes is not looked at
abbrev pub longest_input : ℕ
longest_input = 4096

-- the one line of a longer input
abbrev pub long_line : List ℕ
long_line = ascii "too long\n"

-- each place as it is
abbrev pub place : ℕ → ℕ
place i = i

-- the line of what stands at a place
unfoldable pub line_at : {A : Type 0} → (ℕ → A → List ℕ) → (ℕ → A) → ℕ → List ℕ
line_at line d i = line i (d i)

-- the sheet of a chart: the counts, its nodes, its links, the question, and all its routes in order
unfoldable pub chart_text : Chart → List ℕ
chart_text c =
    counts_line c.nodes.count c.links.count
    ++ joined (line_at node_line (node_at c.nodes)) place c.nodes.count
    ++ joined (line_at link_line (link_at c.links)) place c.links.count
    ++ question_line c.from c.to
    ++ list_text most_routes (routes_of c)

-- the sheet of a chart that was read, or the one line of a refused one
unfoldable pub read_text : ChartRead → List ℕ
read_text r = unless_refused r.refusal (chart_text r.chart) (refused_line r.refusal r.place)

-- the sheet of an input
unfoldable pub sheet_text : List ℕ → List ℕ
sheet_text bytes = cond (ltb longest_input (length bytes)) long_line (read_text (read_chart_of bytes))

-- 10: the text does not fit
unfoldable pub sheet_refusal : List ℕ → ℕ → ℕ
sheet_refusal bytes room = refuse 10 (ltb room (length (sheet_text bytes))) 0

-- the number of bytes written, or 10
unfoldable pub write_sheet_of : List ℕ → ℕ → Written
write_sheet_of bytes room = wrote_unless (sheet_refusal bytes room) (length (sheet_text bytes))

-- the same of the writer's result as the code has it
abbrev pub SheetAnswers : List ℕ → ℕ → Result ℕ Refusal → Type 0
SheetAnswers bytes room x = Answers x (sheet_refusal bytes room) (length (sheet_text bytes))

-- what the buffer then holds
unfoldable pub sheet_after : List ℕ → List ℕ → List ℕ
sheet_after bytes out = lent_after (sheet_refusal bytes (length out)) (sheet_text bytes) out
