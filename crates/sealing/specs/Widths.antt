-- The calls at a width that is given as a number, which is checked first: 11 where it is not 32 or 64, with nothing changed and no run of P.
-- Assumes nothing.
use Rattle.std.specs.Prelude.{cond, List, ℕ, eqb, Err}
use Rattle.std.proofs.Math.Option.{Option, none, some}
use Rattle.norx.specs.Norx.{Width, word32, word64}
use Rattle.answers.specs.declared.Refusal.TheVariants.{WidthNumber}
use Rattle.answers.specs.Answers.{Answer}
use Rattle.rules.specs.OneCall.{seal_answer, seal_out, open_answer, open_out}
use Rattle.rules.specs.Runs.{seal_runs, open_runs}

-- the width that a number means, if it means one
unfoldable pub width_of : ℕ → Option Width
width_of n = cond (eqb n 32) (some word32) (cond (eqb n 64) (some word64) none)

abbrev pub answer_at : Option Width → (Width → Answer) → Answer
answer_at none f = Err WidthNumber
answer_at (some w) f = f w

abbrev pub out_at : Option Width → (Width → List ℕ) → List ℕ → List ℕ
out_at none f out = out
out_at (some w) f out = f w

abbrev pub runs_at : Option Width → (Width → ℕ) → ℕ
runs_at none f = 0
runs_at (some w) f = f w

-- `text` is the body in sealing, and the sealed text in opening
module _ (width l : ℕ) (key nonce header text trailer out : List ℕ) where
  unfoldable pub seal_answer_at : Answer
  seal_answer_at = answer_at (width_of width) (λ w. seal_answer w l key nonce header text trailer out)

  unfoldable pub seal_runs_at : ℕ
  seal_runs_at = runs_at (width_of width) (λ w. seal_runs w l key nonce header text trailer out)

  unfoldable pub seal_out_at : List ℕ
  seal_out_at = out_at (width_of width) (λ w. seal_out w l key nonce header text trailer out) out

  unfoldable pub open_answer_at : Answer
  open_answer_at = answer_at (width_of width) (λ w. open_answer w l key nonce header text trailer out)

  unfoldable pub open_runs_at : ℕ
  open_runs_at = runs_at (width_of width) (λ w. open_runs w l key nonce header text trailer out)

  unfoldable pub open_out_at : List ℕ
  open_out_at = out_at (width_of width) (λ w. open_out w l key nonce header text trailer out) out
