-- A leg in an image, 15 bytes: source 4, destination 4, seq 2, ticks 2, standing 1 (0 open, 1 acknowledged, 2 refused, 3 undeliverable, 4 timed out,
-- 5 waiting),
-- then the reason of a refusal: set 1, code 1.
use Rattle.std.specs.Prelude.{ℕ, ◌+◌, Bool, not, ◌&&◌, ◌||◌, cond, List, [], ◌∷◌, ◌++◌, eqb, ltb, get_or}
use Rattle.buffer.specs.Bytes.{word_at, word_bytes}
use Rattle.ledger.specs.declared.Standing.{Standing}
use Rattle.ledger.specs.declared.Standing.TheVariants.{Open, Acknowledged, Refused, Undeliverable, TimedOut, Waiting}
use Rattle.ledger.specs.declared.Leg.{Leg}
use Rattle.address_bytes.specs.Wide.{address_bytes, address_in}

-- ---- a standing with its reason, 3 bytes

-- its three bytes; set and code are 0 but for a refusal
unfoldable pub standing_bytes : Standing → List ℕ
standing_bytes Open = 0 ∷ 0 ∷ 0 ∷ []
standing_bytes Acknowledged = 1 ∷ 0 ∷ 0 ∷ []
standing_bytes (Refused set code) = 2 ∷ set ∷ code ∷ []
standing_bytes Undeliverable = 3 ∷ 0 ∷ 0 ∷ []
standing_bytes TimedOut = 4 ∷ 0 ∷ 0 ∷ []
standing_bytes Waiting = 5 ∷ 0 ∷ 0 ∷ []

-- the standing that three bytes stand for
unfoldable pub standing_of : ℕ → ℕ → ℕ → Standing
standing_of kind set code =
    cond (eqb kind 0) Open
    (cond (eqb kind 1) Acknowledged
    (cond (eqb kind 2) (Refused set code)
    (cond (eqb kind 3) Undeliverable
    (cond (eqb kind 4) TimedOut
    Waiting))))

-- the highest number of a standing
abbrev pub last_standing : ℕ
last_standing = 5

-- three bytes that stand for none: above that, or a set or a code beside anything but a refusal
unfoldable pub stray_standing : ℕ → ℕ → ℕ → Bool
stray_standing kind set code = ltb last_standing kind || (not (eqb kind 2) && not (eqb set 0 && eqb code 0))

-- ---- the leg

-- its 15 bytes
unfoldable pub leg_bytes : Leg → List ℕ
leg_bytes g = address_bytes g.source ++ address_bytes g.destination ++ word_bytes g.seq.0 ++ word_bytes g.ticks ++ standing_bytes g.standing

-- the leg whose 15 bytes begin at a place
unfoldable pub leg_in : List ℕ → ℕ → Leg
leg_in b at =
    record {
      source = address_in b at;
      destination = address_in b (at + 4);
      seq = record { 0 = word_at b (at + 8) };
      ticks = word_at b (at + 10);
      standing = standing_of (get_or b (at + 12) 0) (get_or b (at + 13) 0) (get_or b (at + 14) 0);
    }

-- the 15 bytes that begin at a place are no leg's
unfoldable pub stray_leg_in : List ℕ → ℕ → Bool
stray_leg_in b at = stray_standing (get_or b (at + 12) 0) (get_or b (at + 13) 0) (get_or b (at + 14) 0)
