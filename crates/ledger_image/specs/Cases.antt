-- Legs as bytes (include/poztecameh.h), one for each standing, and images that can't be read.
use Rattle.std.specs.Prelude.{ℕ, ◌≡◌, refl, false, List, [], ◌∷◌, ◌++◌, replicate, set, take}
use Rattle.lists.specs.Places.{any_below, element_at, firsts, row, joined}
use Rattle.lists.specs.Refusals.{unless_refused}
use Rattle.ledger.specs.declared.Standing.TheVariants.{Open, Acknowledged, Refused, Undeliverable, TimedOut, Waiting}
use Rattle.ledger.specs.Rules.{leg_at}
use Rattle.ledger.specs.Cases.{hill, ledger}
use Rattle.ledger_image.specs.Leg.{standing_bytes, standing_of, stray_standing, leg_bytes, leg_in, stray_leg_in}
use Rattle.ledger_image.specs.Ledger.{leg_held, stray_leg_held, readable_ledger, ledger_in, ledger_of, with_ledger, ledger_after}

-- from 9/1/5 to 9/20/1, number 300, 513 ticks, open; the same refused with set 2 and code 9
unfoldable pub two_image : List ℕ
two_image =
    2 ∷
    9 ∷ 0 ∷ 1 ∷ 5 ∷ 9 ∷ 0 ∷ 20 ∷ 1 ∷ 1 ∷ 44 ∷ 2 ∷ 1 ∷ 0 ∷ 0 ∷ 0 ∷
    9 ∷ 0 ∷ 1 ∷ 5 ∷ 9 ∷ 0 ∷ 20 ∷ 1 ∷ 1 ∷ 44 ∷ 0 ∷ 0 ∷ 2 ∷ 2 ∷ 9 ∷
    replicate 1890 0

pub record Cases : Type 0 where
  pub read : ledger_of two_image ≡ ledger (hill 300 513 Open ∷ hill 300 0 (Refused 2 9) ∷ [])
  pub put : with_ledger (replicate 1921 0) (ledger (hill 300 513 Open ∷ hill 300 0 (Refused 2 9) ∷ [])) 2 ≡ two_image
  -- the standings by their numbers
  pub standings : standing_bytes Open ++ standing_bytes Acknowledged ++ standing_bytes (Refused 7 8) ++ standing_bytes Undeliverable ++ standing_bytes TimedOut ++ standing_bytes Waiting
      ≡ 0 ∷ 0 ∷ 0 ∷ 1 ∷ 0 ∷ 0 ∷ 2 ∷ 7 ∷ 8 ∷ 3 ∷ 0 ∷ 0 ∷ 4 ∷ 0 ∷ 0 ∷ 5 ∷ 0 ∷ 0 ∷ []
  pub back : (standing_of 1 0 0 ≡ Acknowledged) × (standing_of 2 7 8 ≡ Refused 7 8) × (standing_of 3 0 0 ≡ Undeliverable) × (standing_of 4 0 0 ≡ TimedOut) × (standing_of 5 0 0 ≡ Waiting)
  -- too short, a leg too many, a standing of 6, a set beside an open leg
  pub short : readable_ledger (take 1920 two_image) ≡ false
  pub many : readable_ledger (set two_image 0 129) ≡ false
  pub stray : readable_ledger (set two_image 13 6) ≡ false
  pub reason : readable_ledger (set two_image 14 1) ≡ false
  -- what stands past the count is not looked at
  pub past : ledger_of (set (set two_image 0 1) 28 6) ≡ ledger (hill 300 513 Open ∷ [])
  -- what can't be read stands for a ledger with one leg too many; a refusal leaves the image
  pub stands : (ledger_of []).count ≡ 129
  pub left : ledger_after (7 ∷ []) 60 (ledger (hill 300 513 Open ∷ [])) 1 ≡ 7 ∷ []

pub cases : Cases
unfolding two_image any_below element_at firsts row joined unless_refused leg_at standing_bytes standing_of stray_standing leg_bytes leg_in stray_leg_in leg_held stray_leg_held readable_ledger ledger_in ledger_of with_ledger ledger_after
cases =
    record {
      read = refl;
      put = refl;
      standings = refl;
      back = (refl, refl, refl, refl, refl);
      short = refl;
      many = refl;
      stray = refl;
      reason = refl;
      past = refl;
      stands = refl;
      left = refl;
    }
