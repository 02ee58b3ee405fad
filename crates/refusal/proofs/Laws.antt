-- Each number is that of one refusal, and none is 0.
use Prim.Native.Nat.{ℕ}
use mathlib.Core.Path.{◌≡◌, refl, sym, ap, ◌∙◌}
use mathlib.Core.Bool.{cond}
use native.Mathlib.Omega.{arith}
use lib.Dec.{eqb}
use Rattle.refusal.specs.declared.Refusal.{Refusal}
use Rattle.refusal.specs.declared.Refusal.TheVariants.{FrameShort, FrameLong, FrameCheck, FrameCount, FrameContents, FrameRange, FramePriority, FrameRepeated, FrameVersion, NoRoom, ChartCut, ChartTag, ChartLength, ChartRange, ChartAfter, ChartCrowd, ChartTwice, ChartStranger, ChartLoop, ChartTaken, ChartUnasked, ChartOneWay, ChartLong, BadRoute, NoRouteRoom, NoRoute, NoNode, BadTable, BadDestination, NoEntry, BadLedger, NoTicks, BadSeq, NoPlaces, NoOpenLeg, NoSettledLeg, BadOwnAddress}
use Rattle.std.specs.Prelude.{Result, Ok, Err}
use Rattle.refusal.specs.declared.Fault.{Fault}
use Rattle.refusal.specs.Numbers.{number, Answers, AnswersAt}
use Rattle.refusal.specs.Promises.{Named, Settled}

-- the refusal of a number
named : ℕ → Refusal
named n =
    cond (eqb n 1) FrameShort (
    cond (eqb n 2) FrameLong (
    cond (eqb n 3) FrameCheck (
    cond (eqb n 4) FrameCount (
    cond (eqb n 5) FrameContents (
    cond (eqb n 6) FrameRange (
    cond (eqb n 7) FramePriority (
    cond (eqb n 8) FrameRepeated (
    cond (eqb n 9) FrameVersion (
    cond (eqb n 10) NoRoom (
    cond (eqb n 21) ChartCut (
    cond (eqb n 22) ChartTag (
    cond (eqb n 23) ChartLength (
    cond (eqb n 24) ChartRange (
    cond (eqb n 25) ChartAfter (
    cond (eqb n 26) ChartCrowd (
    cond (eqb n 27) ChartTwice (
    cond (eqb n 28) ChartStranger (
    cond (eqb n 29) ChartLoop (
    cond (eqb n 30) ChartTaken (
    cond (eqb n 31) ChartUnasked (
    cond (eqb n 32) ChartOneWay (
    cond (eqb n 33) ChartLong (
    cond (eqb n 41) BadRoute (
    cond (eqb n 42) NoRouteRoom (
    cond (eqb n 43) NoRoute (
    cond (eqb n 44) NoNode (
    cond (eqb n 50) BadTable (
    cond (eqb n 51) BadDestination (
    cond (eqb n 52) NoEntry (
    cond (eqb n 60) BadLedger (
    cond (eqb n 61) NoTicks (
    cond (eqb n 62) BadSeq (
    cond (eqb n 63) NoPlaces (
    cond (eqb n 64) NoOpenLeg (
    cond (eqb n 65) NoSettledLeg (
    BadOwnAddress))))))))))))))))))))))))))))))))))))

back : (r : Refusal) → named (number r) ≡ r
unfolding named
back FrameShort = refl
back FrameLong = refl
back FrameCheck = refl
back FrameCount = refl
back FrameContents = refl
back FrameRange = refl
back FramePriority = refl
back FrameRepeated = refl
back FrameVersion = refl
back NoRoom = refl
back ChartCut = refl
back ChartTag = refl
back ChartLength = refl
back ChartRange = refl
back ChartAfter = refl
back ChartCrowd = refl
back ChartTwice = refl
back ChartStranger = refl
back ChartLoop = refl
back ChartTaken = refl
back ChartUnasked = refl
back ChartOneWay = refl
back ChartLong = refl
back BadRoute = refl
back NoRouteRoom = refl
back NoRoute = refl
back NoNode = refl
back BadTable = refl
back BadDestination = refl
back NoEntry = refl
back BadLedger = refl
back NoTicks = refl
back BadSeq = refl
back NoPlaces = refl
back NoOpenLeg = refl
back NoSettledLeg = refl
back BadOwnAddress = refl

positive : (r : Refusal) → number r ≡ 0 → ⊥
positive FrameShort h = absurd (omega arith)
positive FrameLong h = absurd (omega arith)
positive FrameCheck h = absurd (omega arith)
positive FrameCount h = absurd (omega arith)
positive FrameContents h = absurd (omega arith)
positive FrameRange h = absurd (omega arith)
positive FramePriority h = absurd (omega arith)
positive FrameRepeated h = absurd (omega arith)
positive FrameVersion h = absurd (omega arith)
positive NoRoom h = absurd (omega arith)
positive ChartCut h = absurd (omega arith)
positive ChartTag h = absurd (omega arith)
positive ChartLength h = absurd (omega arith)
positive ChartRange h = absurd (omega arith)
positive ChartAfter h = absurd (omega arith)
positive ChartCrowd h = absurd (omega arith)
positive ChartTwice h = absurd (omega arith)
positive ChartStranger h = absurd (omega arith)
positive ChartLoop h = absurd (omega arith)
positive ChartTaken h = absurd (omega arith)
positive ChartUnasked h = absurd (omega arith)
positive ChartOneWay h = absurd (omega arith)
positive ChartLong h = absurd (omega arith)
positive BadRoute h = absurd (omega arith)
positive NoRouteRoom h = absurd (omega arith)
positive NoRoute h = absurd (omega arith)
positive NoNode h = absurd (omega arith)
positive BadTable h = absurd (omega arith)
positive BadDestination h = absurd (omega arith)
positive NoEntry h = absurd (omega arith)
positive BadLedger h = absurd (omega arith)
positive NoTicks h = absurd (omega arith)
positive BadSeq h = absurd (omega arith)
positive NoPlaces h = absurd (omega arith)
positive NoOpenLeg h = absurd (omega arith)
positive NoSettledLeg h = absurd (omega arith)
positive BadOwnAddress h = absurd (omega arith)

pub names : Named
names = record { one = λ r s e. sym (back r) ∙ ap named e ∙ back s; none_zero = positive }

one-answer : {A : Type 0} (x y : Result A Refusal) (n : ℕ) (v : A) → Answers x n v → Answers y n v → x ≡ y
one-answer (Ok x) (Ok y) n v h k = ap Ok (h.1 ∙ sym k.1)
one-answer (Ok x) (Err s) n v h k = absurd (positive s (k ∙ h.0))
one-answer (Err r) (Ok y) n v h k = absurd (positive r (h ∙ k.0))
one-answer (Err r) (Err s) n v h k = ap Err (names.one r s (h ∙ sym k))

one-fault : (f g : Fault) → number f.refusal ≡ number g.refusal → f.place ≡ g.place → f ≡ g
one-fault f g h k = let r = names.one f.refusal g.refusal h in λ i. record { refusal = r i; place = k i }

one-at : {A : Type 0} (x y : Result A Fault) (n p : ℕ) (v : A) → AnswersAt x n p v → AnswersAt y n p v → x ≡ y
one-at (Ok x) (Ok y) n p v h k = ap Ok (h.1.1 ∙ sym k.1.1)
one-at (Ok x) (Err g) n p v h k = absurd (positive g.refusal (k.0 ∙ h.0))
one-at (Err f) (Ok y) n p v h k = absurd (positive f.refusal (h.0 ∙ k.0))
one-at (Err f) (Err g) n p v h k = ap Err (one-fault f g (h.0 ∙ sym k.0) (h.1 ∙ sym k.1))

pub settled : Settled
settled = record { answer = one-answer; answer_at = one-at }
