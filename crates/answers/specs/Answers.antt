-- What a call answers, the number of each answer, the chain by which the first refusal in an order is given, and the runs of P that are reported with an answer.
-- Assumes nothing.
use Rattle.std.specs.Prelude.{ℕ, Bool, true, false, ◌||◌, cond, eqb, Result, Ok, Err, ⊤}
use Rattle.answers.specs.declared.Refusal.{Refusal}
use Rattle.answers.specs.declared.Refusal.TheVariants.{KeyLength, RoundsNumber, TagLength, OverLimit, OutputLength, OtherRevision, EarlierPart, OtherOffset, NotSound, TagDiffers, WidthNumber, OtherJob, SegmentLength, AfterLast}
use Rattle.answers.specs.declared.Outcome.{Outcome}

abbrev pub Answer : Type 0
Answer = Result ⊤ Refusal

abbrev pub refusal_number : Refusal → ℕ
refusal_number KeyLength = 1
refusal_number RoundsNumber = 2
refusal_number TagLength = 3
refusal_number OverLimit = 4
refusal_number OutputLength = 5
refusal_number OtherRevision = 6
refusal_number EarlierPart = 7
refusal_number OtherOffset = 8
refusal_number NotSound = 9
refusal_number TagDiffers = 10
refusal_number WidthNumber = 11
refusal_number OtherJob = 12
refusal_number SegmentLength = 13
refusal_number AfterLast = 14

-- 0 where a call does what it is asked, and else the number of the refusal
abbrev pub number_of : Answer → ℕ
number_of (Ok done) = 0
number_of (Err refusal) = refusal_number refusal

abbrev pub done_of : Answer → Bool
done_of (Ok done) = true
done_of (Err refusal) = false

-- the refusal where its test fails, else what the rest of the chain gives
unfoldable pub need_of : Bool → Refusal → Answer → Answer
need_of ok refusal rest = cond ok rest (Err refusal)

-- refusal 10 reports the full number of runs, as 0 does, and every other refusal 0
unfoldable pub runs_with : Answer → ℕ → ℕ
runs_with a n = cond (eqb (number_of a) 0 || eqb (number_of a) 10) n 0

abbrev pub reported_of : Answer → ℕ → Outcome
reported_of a n = record { answer = a; runs = runs_with a n }
