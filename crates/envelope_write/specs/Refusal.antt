-- Which number refuses an envelope that is given as values, before any byte of it is written.
use Rattle.std.specs.Prelude.{ℕ, ltb}
use Rattle.lists.specs.Refusals.{refuse, or_else}
use Rattle.address.specs.declared.Address.{Address}
use Rattle.envelope.specs.declared.Fixed.{Fixed}
use Rattle.envelope.specs.Frame.{frame_size}
use Rattle.envelope.specs.Refusal.{values_refusal}

-- the size of a frame with n bytes of contents
abbrev pub size_for : Fixed → ℕ → ℕ
size_for e n = frame_size e.count n

-- 4 to 10, of the fields, the destinations, n bytes of contents and the room lent
unfoldable pub frame_write_refusal : Fixed → (ℕ → Address) → ℕ → ℕ → ℕ
frame_write_refusal e d n room = or_else (values_refusal e n d) (refuse 10 (ltb room (size_for e n)) 0)
