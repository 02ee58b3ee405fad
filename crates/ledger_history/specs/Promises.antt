-- Every leg accounted for (document 02, Thirteen). proofs/Promises.antt has the theorems.
use Rattle.std.specs.Prelude.{ℕ, ◌+◌, ◌≤◌, ◌≡◌, true, false, length, take}
use mathlib.Core.List.{List, Memᴰ, map}
use Rattle.lists.specs.Lists.{how_many}
use Rattle.ledger.specs.declared.Standing.TheVariants.{Undeliverable}
use Rattle.ledger.specs.declared.Leg.{Leg}
use Rattle.ledger.specs.declared.Ledger.{Ledger}
use Rattle.ledger.specs.Rules.{is_open}
use Rattle.ledger_image.specs.Ledger.{ledger_size, leg_count, ledger_of}
use Rattle.ledger_laws.specs.Calls.{Call, after_all}
use Rattle.ledger_laws.specs.Promises.{Whole}
use Rattle.ledger_history.specs.Log.{Made, log, accepted, cleared}
use Rattle.ledger_history.specs.Account.{Line, account, unstruck, as_read, standing_then, open_then, leaves_then}
use Rattle.ledger_history.specs.Images.{PzCall, call_of, image_after_all, pz_log}

-- the legs that a ledger lists
unfoldable pub listed_legs : Ledger → List Leg
listed_legs l = take l.count l.legs

-- a ledger without legs, whatever stands in its places
pub record Empty (l : Ledger) : Type 0 where
  pub none : l.count ≡ 0
  pub whole : Whole l

module _ (l : Ledger) (cs : List Call) where
  pub record Accounted : Type 0 where
    -- the legs accepted, counted from the calls, are the legs now listed plus those cleared
    pub counted : accepted (log l cs) ≡ (after_all l cs).count + cleared (log l cs)
    -- each accepted leg has its line, and each cleared one is struck out; none that is still open
    pub lines : length (account (log l cs)) ≡ accepted (log l cs)
    pub strokes : how_many (λ x. x.struck) (account (log l cs)) ≡ cleared (log l cs)
    pub none_open : (x : Line) → Memᴰ x (account (log l cs)) → x.struck ≡ true → is_open (as_read x).standing ≡ false
    -- each listed leg stands as its own line says, in order of acceptance
    pub listed : listed_legs (after_all l cs) ≡ map as_read (unstruck (account (log l cs)))

-- after any calls on an empty ledger
abbrev pub EveryLegAccounted : Type 0
EveryLegAccounted = (l : Ledger) (cs : List Call) → Empty l → Accounted l cs

-- the log so far is the log of the calls so far, so that all of this holds after each call
abbrev pub SoFar : Type 0
SoFar = (l : Ledger) (cs : List Call) (i : ℕ) → take i (log l cs) ≡ log l (take i cs)

-- whatever the log, each accepted leg leaves the open standing at most once, and one that was undeliverable was never open
abbrev pub LeavesOnce : Type 0
LeavesOnce = (ms : List Made) (n i j : ℕ) → leaves_then ms n i ≡ true → leaves_then ms n j ≡ true → i ≡ j

abbrev pub NeverOpen : Type 0
NeverOpen = (ms : List Made) (n i j : ℕ) → standing_then ms n i ≡ Undeliverable → open_then ms n j ≡ false

-- ---- on one image

-- what C gave back is what the ledger's own calls give back, and the ledger in the image is the ledger after them: whatever the image was
pub record Follows (b : List ℕ) (cs : List PzCall) : Type 0 where
  pub told : pz_log b cs ≡ log (ledger_of b) (map call_of cs)
  pub held : ledger_of (image_after_all b cs) ≡ after_all (ledger_of b) (map call_of cs)

abbrev pub ImagesFollowAll : Type 0
ImagesFollowAll = (b : List ℕ) (cs : List PzCall) → Follows b cs

-- an image without legs, whatever stands in its other bytes
pub record EmptyImage (b : List ℕ) : Type 0 where
  pub long : ledger_size ≤ length b
  pub none : leg_count b ≡ 0

-- from there on the image lists the lines of the account that are not struck out; its first byte is the legs accepted less those cleared
pub record Shown (b : List ℕ) (cs : List PzCall) : Type 0 where
  pub listed : listed_legs (ledger_of (image_after_all b cs)) ≡ map as_read (unstruck (account (pz_log b cs)))
  pub counted : accepted (pz_log b cs) ≡ leg_count (image_after_all b cs) + cleared (pz_log b cs)

abbrev pub ImageShows : Type 0
ImageShows = (b : List ℕ) (cs : List PzCall) → EmptyImage b → Shown b cs
