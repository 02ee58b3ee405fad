-- What the code that stores a frame asks.
use Rattle.std.specs.Prelude.{ℕ, ◌≤◌}
use Rattle.envelope.specs.declared.Fixed.{Fixed}
use Rattle.envelope_write.specs.Refusal.{size_for}

-- what is so of values that pass 4 to 9 and have room
pub record Ready (e : Fixed) (n room : ℕ) : Type 0 where
  pub counted : e.count ≤ 63
  pub short : n ≤ 1023
  pub urgent : e.priority ≤ 9
  pub versioned : e.version ≤ 2
  pub numbered : e.seq.0 ≤ 32767
  pub roomy : size_for e n ≤ room
