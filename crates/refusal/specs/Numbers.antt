-- The refusal numbers of documents 01 and 02, and the number of an answer.
use Rattle.std.specs.Prelude.{ℕ, ◌≡◌, Result, Ok, Err}
use Rattle.refusal.specs.declared.Refusal.{Refusal}
use Rattle.refusal.specs.declared.Fault.{Fault}
use Rattle.refusal.specs.declared.Refusal.TheVariants.{FrameShort, FrameLong, FrameCheck, FrameCount, FrameContents, FrameRange, FramePriority, FrameRepeated, FrameVersion, NoRoom, ChartCut, ChartTag, ChartLength, ChartRange, ChartAfter, ChartCrowd, ChartTwice, ChartStranger, ChartLoop, ChartTaken, ChartUnasked, ChartOneWay, ChartLong, BadRoute, NoRouteRoom, NoRoute, NoNode, BadTable, BadDestination, NoEntry, BadLedger, NoTicks, BadSeq, NoPlaces, NoOpenLeg, NoSettledLeg, BadOwnAddress}

abbrev pub number : Refusal → ℕ
number FrameShort = 1
number FrameLong = 2
number FrameCheck = 3
number FrameCount = 4
number FrameContents = 5
number FrameRange = 6
number FramePriority = 7
number FrameRepeated = 8
number FrameVersion = 9
number NoRoom = 10
number ChartCut = 21
number ChartTag = 22
number ChartLength = 23
number ChartRange = 24
number ChartAfter = 25
number ChartCrowd = 26
number ChartTwice = 27
number ChartStranger = 28
number ChartLoop = 29
number ChartTaken = 30
number ChartUnasked = 31
number ChartOneWay = 32
number ChartLong = 33
number BadRoute = 41
number NoRouteRoom = 42
number NoRoute = 43
number NoNode = 44
number BadTable = 50
number BadDestination = 51
number NoEntry = 52
number BadLedger = 60
number NoTicks = 61
number BadSeq = 62
number NoPlaces = 63
number NoOpenLeg = 64
number NoSettledLeg = 65
number BadOwnAddress = 95

-- 0 where nothing is refused
abbrev pub number_in : {A : Type 0} → Result A Refusal → ℕ
number_in (Ok x) = 0
number_in (Err r) = number r

-- the answer that has the number n and the value v: the value where nothing is refused, else the refusal with that number
abbrev pub Answers : {A : Type 0} → Result A Refusal → ℕ → A → Type 0
Answers (Ok x) n v = (n ≡ 0) × (x ≡ v)
Answers (Err r) n v = number r ≡ n

-- the same with a place: 0 where nothing is refused
abbrev pub AnswersAt : {A : Type 0} → Result A Fault → ℕ → ℕ → A → Type 0
AnswersAt (Ok x) n p v = (n ≡ 0) × ((p ≡ 0) × (x ≡ v))
AnswersAt (Err f) n p v = (number f.refusal ≡ n) × (f.place ≡ p)
