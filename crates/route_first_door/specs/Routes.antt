-- What C gets of pz_first and pz_next (document 01, "Routes and their order"): the reader's numbers 21 to 31 first, then what the trace of the chart answers.
use Rattle.std.specs.Prelude.{ℕ, List}
use Rattle.lists.specs.Refusals.{unless_refused}
use Rattle.chart_read.specs.Reading.{read_chart_of}
use Rattle.route_search.specs.Answers.{Refused, Told}
use Rattle.route_trace.specs.Trace.{one_number, trace_first, trace_next}

-- a chart that the reader refuses leaves the buffer as it was
unfoldable pub if_read : List ℕ → List ℕ → Told → Told
if_read bytes buf t = unless_refused (read_chart_of bytes).refusal t (record { answer = Refused (read_chart_of bytes).refusal; bytes = buf })

unfoldable pub pz_first : List ℕ → List ℕ → Told
pz_first bytes buf = if_read bytes buf (trace_first (read_chart_of bytes).chart buf)

unfoldable pub pz_next : List ℕ → List ℕ → ℕ → Told
pz_next bytes buf n = if_read bytes buf (trace_next (read_chart_of bytes).chart buf n)

-- what comes back, and the buffer after the call
abbrev pub pz_first_number : List ℕ → List ℕ → ℕ
pz_first_number bytes buf = one_number (pz_first bytes buf).answer

abbrev pub pz_first_buffer : List ℕ → List ℕ → List ℕ
pz_first_buffer bytes buf = (pz_first bytes buf).bytes

abbrev pub pz_next_number : List ℕ → List ℕ → ℕ → ℕ
pz_next_number bytes buf n = one_number (pz_next bytes buf n).answer

abbrev pub pz_next_buffer : List ℕ → List ℕ → ℕ → List ℕ
pz_next_buffer bytes buf n = (pz_next bytes buf n).bytes
