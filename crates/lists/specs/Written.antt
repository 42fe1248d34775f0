-- What the writer answers and leaves in the output, and the length that it asks, on all inputs.
-- Assumes nothing.
use Rattle.std.specs.Prelude.{◌≡◌, cond, List, ℕ, ◌<◌, ◌^◌, length, leb, eqb, Ok}
use Rattle.answers.specs.declared.Refusal.TheVariants.{OverLimit, OutputLength}
use Rattle.answers.specs.Answers.{Answer, done_of, need_of}
use Rattle.rules.specs.Rules.{longest_job}
use Rattle.lists.specs.Lists.{list_text}

-- the list's length, and 0 for a body that has none
unfoldable pub list_length : ℕ → ℕ → ℕ → ℕ
list_length job revision n = cond (leb n longest_job) (length (list_text job revision n)) 0

-- 4, then 5
unfoldable pub write_answer : ℕ → ℕ → ℕ → List ℕ → Answer
write_answer job revision n out =
    need_of (leb n longest_job) OverLimit
    (need_of (eqb (length out) (length (list_text job revision n))) OutputLength (Ok tt))

-- the list where the answer is 0, and else the output as it was
unfoldable pub write_out : ℕ → ℕ → ℕ → List ℕ → List ℕ
write_out job revision n out = cond (done_of (write_answer job revision n out)) (list_text job revision n) out

-- t is a text that the writer can write: what a call with numbers of 64 bits that is answered 0 leaves in some output
pub record CanWrite (t : List ℕ) : Type 0 where
  pub job : ℕ
  pub revision : ℕ
  pub body : ℕ
  pub out : List ℕ
  pub job_fits : job < 2 ^ 64
  pub revision_fits : revision < 2 ^ 64
  pub done : write_answer job revision body out ≡ Ok tt
  pub text : t ≡ write_out job revision body out
