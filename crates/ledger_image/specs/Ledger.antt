-- The image of a ledger, 1,921 bytes (include/poztecameh.h): count 1, then 128 legs of 15.
use Rattle.std.specs.Prelude.{ℕ, ◌+◌, ◌*◌, min, Bool, not, ◌&&◌, cond, List, ◌∷◌, leb, length, get_or, replicate}
use Rattle.std.proofs.lemmas.List.Edits.{sets}
use Rattle.lists.specs.Places.{any_below, row, joined}
use Rattle.lists.specs.Refusals.{unless_refused}
use Rattle.ledger.specs.declared.Leg.{Leg}
use Rattle.ledger.specs.declared.Ledger.{Ledger}
use Rattle.ledger.specs.Rules.{most_legs, no_leg, leg_at}
use Rattle.ledger_image.specs.Leg.{leg_bytes, leg_in, stray_leg_in}

abbrev pub ledger_size : ℕ
ledger_size = 1921

-- where the legs begin, and the bytes of each
abbrev pub legs_start : ℕ
legs_start = 1

abbrev pub leg_size : ℕ
leg_size = 15

-- ---- the ledger in an image

-- how many of its legs count
abbrev pub leg_count : List ℕ → ℕ
leg_count b = get_or b 0 0

-- the leg at place i
unfoldable pub leg_held : List ℕ → ℕ → Leg
leg_held b i = leg_in b (legs_start + leg_size * i)

-- the bytes at place i are no leg's
unfoldable pub stray_leg_held : List ℕ → ℕ → Bool
stray_leg_held b i = stray_leg_in b (legs_start + leg_size * i)

-- the image can be read: it is long enough, counts at most 128 legs, and none that counts is stray
unfoldable pub readable_ledger : List ℕ → Bool
readable_ledger b = leb ledger_size (length b) && leb (leg_count b) most_legs && not (any_below (stray_leg_held b) (leg_count b))

-- the ledger in it: places past the count are not looked at, and hold no leg
unfoldable pub ledger_in : List ℕ → Ledger
ledger_in b = record { count = leg_count b; legs = row most_legs no_leg (leg_held b) (leg_count b) }

-- a ledger with one leg too many
abbrev pub broken_ledger : Ledger
broken_ledger = record { count = 129; legs = replicate 128 no_leg }

-- the ledger that an image stands for: one that can't be read stands for a ledger that breaks its rules, so that its number, 60, takes its turn
unfoldable pub ledger_of : List ℕ → Ledger
ledger_of b = cond (readable_ledger b) (ledger_in b) broken_ledger

-- the image with a ledger's count and its first n legs written into it; every other byte is as it was
unfoldable pub with_ledger : List ℕ → Ledger → ℕ → List ℕ
with_ledger b l n = sets b 0 (l.count ∷ joined leg_bytes (leg_at l) n)

-- the image after a call that gave this number and this ledger: a refusal leaves it, else the first n legs are written (a ledger has 128 places)
unfoldable pub ledger_after : List ℕ → ℕ → Ledger → ℕ → List ℕ
ledger_after b refusal l n = unless_refused refusal (with_ledger b l (min n most_legs)) b
