-- That a leg and its bytes, and a ledger and its image, undo each other. proofs/LegUndo.antt and proofs/LedgerUndo.antt have the theorems.
use Rattle.std.specs.Prelude.{◌≡◌, true, false, List, ℕ, ◌+◌, ◌≤◌, length}
use Rattle.std.proofs.lemmas.List.Edits.{sets}
use Rattle.buffer.specs.Bytes.{Bytes}
use Rattle.lists.specs.Places.{row}
use Rattle.ledger.specs.declared.Leg.{Leg}
use Rattle.ledger.specs.declared.Ledger.{Ledger}
use Rattle.ledger.specs.Rules.{most_legs, no_leg, leg_at}
use Rattle.ledger_image.specs.Leg.{leg_bytes, leg_in, stray_leg_in}
use Rattle.ledger_image.specs.Ledger.{ledger_size, leg_count, readable_ledger, ledger_in, with_ledger}

-- a leg and its 15 bytes undo each other, at any place of an image
pub record LegUndo : Type 0 where
  -- reading undoes writing, of any leg; what was written is a leg's
  pub read : (b : List ℕ) (at : ℕ) (g : Leg) → at + 15 ≤ length b → leg_in (sets b at (leg_bytes g)) at ≡ g
  pub known : (b : List ℕ) (at : ℕ) (g : Leg) → at + 15 ≤ length b → stray_leg_in (sets b at (leg_bytes g)) at ≡ false
  -- writing undoes reading, of any bytes that are a leg's
  pub write : (b : List ℕ) (at : ℕ) → Bytes b → stray_leg_in b at ≡ false → sets b at (leg_bytes (leg_in b at)) ≡ b

-- a ledger and its image undo each other
pub record LedgerUndo : Type 0 where
  -- what was read, written back, leaves every byte
  pub write : (b : List ℕ) → Bytes b → readable_ledger b ≡ true → with_ledger b (ledger_in b) (leg_count b) ≡ b
  -- what was written can be read, and gives the legs that count back, and no leg at the other places
  pub readable : (b : List ℕ) (l : Ledger) (n : ℕ) → ledger_size ≤ length b → l.count ≤ n → n ≤ most_legs → readable_ledger (with_ledger b l n) ≡ true
  pub read : (b : List ℕ) (l : Ledger) (n : ℕ) → ledger_size ≤ length b → l.count ≤ n → n ≤ most_legs
      → ledger_in (with_ledger b l n) ≡ record { count = l.count; legs = row most_legs no_leg (leg_at l) l.count }
