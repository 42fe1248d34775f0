-- What sealing one segment and opening one give, on all inputs: one call with the job's header and no trailer, under the segment's nonce.
-- Assumes nothing.
use Rattle.std.specs.Prelude.{ℕ, ◌-◌, Bool, not, ◌&&◌, cond, List, [], ◌++◌, length}
use Rattle.norx.specs.Norx.{Width}
use Rattle.norx.specs.Front.{eight_bytes}
use Rattle.norx.specs.Runs.{sealing_runs}
use Rattle.answers.specs.declared.Refusal.TheVariants.{SegmentLength}
use Rattle.answers.specs.Answers.{Answer, need_of, runs_with}
use Rattle.rules.specs.Rules.{tag_bytes}
use Rattle.rules.specs.OneCall.{seal_answer, seal_out, open_answer, open_out}
use Rattle.places.specs.declared.terms.Terms.{Terms}
use Rattle.places.specs.Terms.{front_of}
use Rattle.cutting.specs.declared.Waiting.{Waiting}
use Rattle.cutting.specs.Cutting.{segment_ok, sealed_ok, segment_number, take_links}
use Rattle.sealing.specs.Widths.{width_of, answer_at, runs_at, out_at}

-- the nonce of segment i: the job's, then eight bytes, least first, of twice the index plus 1 if it is the last
unfoldable pub segment_nonce : List ℕ → ℕ → Bool → List ℕ
segment_nonce nonce i last = nonce ++ eight_bytes (segment_number i last)

-- the header of every segment of a job: the front, and the note
unfoldable pub segment_header : Terms → List ℕ → List ℕ
segment_header T note = front_of T.edition ++ note

-- nonce is the job's; `text` is the body in sealing, and the sealed segment in opening
module _ (w : Width) (key nonce : List ℕ) (T : Terms) (note : List ℕ) where
  -- sealing answers 13, then as one call
  unfoldable pub segment_answer : ℕ → Bool → List ℕ → List ℕ → Answer
  segment_answer i last text out =
      need_of (segment_ok i last (length text)) SegmentLength (seal_answer w T.rounds key (segment_nonce nonce i last) (segment_header T note) text [] out)

  -- the runs of P that are reported with the answer
  unfoldable pub segment_runs : ℕ → Bool → List ℕ → List ℕ → ℕ
  segment_runs i last text out = runs_with (segment_answer i last text out) (sealing_runs w (length (segment_header T note)) (length text) 0)

  -- the sealed segment where the answer is 0, and else the output as it was
  unfoldable pub segment_out : ℕ → Bool → List ℕ → List ℕ → List ℕ
  segment_out i last text out =
      cond (segment_ok i last (length text)) (seal_out w T.rounds key (segment_nonce nonce i last) (segment_header T note) text [] out) out

  -- opening answers 14, 13, then as one call
  unfoldable pub take_answer : Waiting → Bool → List ℕ → List ℕ → Answer
  take_answer W last text out =
      take_links W last (tag_bytes w) (length text)
      (open_answer w T.rounds key (segment_nonce nonce W.index last) (segment_header T note) text [] out)

  unfoldable pub take_runs : Waiting → Bool → List ℕ → List ℕ → ℕ
  take_runs W last text out = runs_with (take_answer W last text out) (sealing_runs w (length (segment_header T note)) (length text - tag_bytes w) 0)

  -- the message where the answer is 0, zeros where it is 10, and else the output as it was
  unfoldable pub take_out : Waiting → Bool → List ℕ → List ℕ → List ℕ
  take_out W last text out =
      cond (not W.complete && sealed_ok W.index last (tag_bytes w) (length text))
      (open_out w T.rounds key (segment_nonce nonce W.index last) (segment_header T note) text [] out)
      out

-- ---- The same where the width is given as a number, which is checked first: 11

module _ (width : ℕ) (key nonce : List ℕ) (T : Terms) (note : List ℕ) where
  unfoldable pub segment_answer_at : ℕ → Bool → List ℕ → List ℕ → Answer
  segment_answer_at i last text out = answer_at (width_of width) (λ w. segment_answer w key nonce T note i last text out)

  unfoldable pub segment_runs_at : ℕ → Bool → List ℕ → List ℕ → ℕ
  segment_runs_at i last text out = runs_at (width_of width) (λ w. segment_runs w key nonce T note i last text out)

  unfoldable pub segment_out_at : ℕ → Bool → List ℕ → List ℕ → List ℕ
  segment_out_at i last text out = out_at (width_of width) (λ w. segment_out w key nonce T note i last text out) out

  unfoldable pub take_answer_at : Waiting → Bool → List ℕ → List ℕ → Answer
  take_answer_at W last text out = answer_at (width_of width) (λ w. take_answer w key nonce T note W last text out)

  unfoldable pub take_runs_at : Waiting → Bool → List ℕ → List ℕ → ℕ
  take_runs_at W last text out = runs_at (width_of width) (λ w. take_runs w key nonce T note W last text out)

  unfoldable pub take_out_at : Waiting → Bool → List ℕ → List ℕ → List ℕ
  take_out_at W last text out = out_at (width_of width) (λ w. take_out w key nonce T note W last text out) out
