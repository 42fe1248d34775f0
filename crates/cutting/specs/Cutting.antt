-- How a job is cut into segments, which length a segment has, and where a receiver waits: all by numbers.
-- Assumes nothing.
use Rattle.std.specs.Prelude.{ℕ, ◌+◌, ◌-◌, ◌*◌, ◌/◌, Bool, false, ◌&&◌, ◌||◌, not, cond, leb, ltb, eqb}
use Rattle.answers.specs.declared.Refusal.TheVariants.{SegmentLength, AfterLast}
use Rattle.answers.specs.Answers.{Answer, done_of, need_of}
use Rattle.rules.specs.Rules.{segment_bytes, most_segments}
use Rattle.cutting.specs.declared.Waiting.{Waiting}

-- ---- The cut

-- how many segments a body of n bytes has: each but the last is full, and the last has 1 byte or more, but that an empty body has one empty segment
unfoldable pub count_of : ℕ → ℕ
count_of n = (n - 1) / segment_bytes + 1

-- where segment i of a body of n bytes begins and ends; both at its end, where it has no such segment
unfoldable pub begin_of : ℕ → ℕ → ℕ
begin_of n i = cond (leb (i * segment_bytes) n) (i * segment_bytes) n

unfoldable pub end_of : ℕ → ℕ → ℕ
end_of n i = cond (leb ((i + 1) * segment_bytes) n) ((i + 1) * segment_bytes) n

-- ---- A segment

-- whether segment i, the last or not, may have n bytes: the last 1 to 65,536, or none where it is the first too, and any other 65,536.
-- Index 1,048,575 is for a last one alone, and none is higher.
unfoldable pub segment_ok : ℕ → Bool → ℕ → Bool
segment_ok i last n = cond last (leb n segment_bytes && (ltb 0 n || eqb i 0) && ltb i most_segments) (eqb n segment_bytes && ltb i (most_segments - 1))

-- the same of a sealed segment of n bytes, the last `tag` of which are its tag
unfoldable pub sealed_ok : ℕ → Bool → ℕ → ℕ → Bool
sealed_ok i last tag n = leb tag n && segment_ok i last (n - tag)

-- the number in a segment's nonce: twice the index, plus 1 if it is the last
unfoldable pub segment_number : ℕ → Bool → ℕ
segment_number i last = 2 * i + cond last 1 0

-- ---- A receiver

-- 14 and 13 as links of a chain: what a receiver that waits so answers a sealed segment of n bytes, ahead of `rest`
unfoldable pub take_links : Waiting → Bool → ℕ → ℕ → Answer → Answer
take_links W last tag n rest = need_of (not W.complete) AfterLast (need_of (sealed_ok W.index last tag n) SegmentLength rest)

-- where a receiver waits at first
abbrev pub waiting_first : Waiting
waiting_first = record { index = 0; complete = false }

-- where it waits after a segment: for the next one where the answer is 0, complete where that was the last, and else as before
unfoldable pub waiting_next : Waiting → Answer → Bool → Waiting
waiting_next W answer last = cond (done_of answer) (record { index = W.index + 1; complete = last }) W
