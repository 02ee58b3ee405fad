-- What renewing and restoring a chart say taken together (document 02, Five). proofs/Promises.antt has the theorems.
use Rattle.std.specs.Prelude.{ℕ, ◌<◌, ◌≡◌, ◌↔◌, List}
use Rattle.buffer.specs.Bytes.{Bytes}
use Rattle.chart.specs.Values.{plain, directed, both_ways, link_at}
use Rattle.chart_read.specs.Reading.{read_chart_of}
use Rattle.chart_net.specs.Net.{routes_of}
use Rattle.chart_form.specs.Moving.{in_form, moved_bytes, move_refusal}

-- a chart of one of the two forms that was accepted: its links are of this form, or it has none
pub record Formed (tag : ℕ) (bytes : List ℕ) : Type 0 where
  pub accepted : (read_chart_of bytes).refusal ≡ 0
  pub form : 0 < (read_chart_of bytes).chart.links.count → (read_chart_of bytes).chart.links.form ≡ tag

-- each link goes both ways
abbrev pub AllBothWays : List ℕ → Type 0
AllBothWays bytes = (i : ℕ) → i < (read_chart_of bytes).chart.links.count → (link_at (read_chart_of bytes).chart.links i).direction ≡ both_ways

-- there and back again to the same bytes: every plain chart, and every directed one whose links all go both ways
abbrev pub RestoreUndoesRenew : Type 0
RestoreUndoesRenew = (bytes : List ℕ) → Bytes bytes → Formed plain bytes → moved_bytes plain (moved_bytes directed bytes) ≡ bytes

abbrev pub RenewUndoesRestore : Type 0
RenewUndoesRestore = (bytes : List ℕ) → Bytes bytes → Formed directed bytes → AllBothWays bytes → moved_bytes directed (moved_bytes plain bytes) ≡ bytes

-- one already in the form asked for is copied
abbrev pub Copied : Type 0
Copied = (form : ℕ) (bytes : List ℕ) → Bytes bytes → Formed form bytes → moved_bytes form bytes ≡ bytes

-- what was moved is read as the chart in the other form: no node, no end and no direction changes
abbrev pub Renewed : Type 0
Renewed = (bytes : List ℕ) → (read_chart_of bytes).refusal ≡ 0 → 0 < (read_chart_of bytes).chart.links.count
    → read_chart_of (moved_bytes directed bytes) ≡ record { refusal = 0; place = 0; chart = in_form directed (read_chart_of bytes).chart }

abbrev pub Restored : Type 0
Restored = (bytes : List ℕ) → (read_chart_of bytes).refusal ≡ 0 → AllBothWays bytes → 0 < (read_chart_of bytes).chart.links.count
    → read_chart_of (moved_bytes plain bytes) ≡ record { refusal = 0; place = 0; chart = in_form plain (read_chart_of bytes).chart }

-- and no route does
abbrev pub RoutesStay : Type 0
RoutesStay = (bytes : List ℕ) → (read_chart_of bytes).refusal ≡ 0 → routes_of (read_chart_of (moved_bytes directed bytes)).chart ≡ routes_of (read_chart_of bytes).chart

-- 32 exactly where the plain form is asked for and some link of an accepted chart does not go both ways
abbrev pub OneWayRefused : Type 0
OneWayRefused = (form : ℕ) (bytes : List ℕ) (room : ℕ)
    → (move_refusal form bytes room ≡ 32) ↔ ((form ≡ plain) × ((read_chart_of bytes).refusal ≡ 0) × (AllBothWays bytes → ⊥))
