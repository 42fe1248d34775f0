-- What sealing and opening in one call answer and leave in the output, on all inputs.
-- Assumes nothing.
use Rattle.std.specs.Prelude.{cond, List, ℕ, length}
use Rattle.norx.specs.Norx.{Width, row_bytes, tag_bits, sealed, opened}
use Rattle.answers.specs.Answers.{Answer, done_of}
use Rattle.rules.specs.Rules.{tag_bytes}
use Rattle.rules.specs.Calls.{seal_checks, open_checks, answer_of, out_of}

-- `text` is the body in sealing, and the sealed text in opening
module _ (w : Width) (l : ℕ) (key nonce header text trailer out : List ℕ) where
  unfoldable pub seal_answer : Answer
  seal_answer = seal_checks (row_bytes w) (tag_bytes w) l (length key) (length nonce) (length header) (length text) (length trailer) (length out)

  -- the sealed text where the answer is 0, and else the output as it was
  unfoldable pub seal_out : List ℕ
  seal_out = cond (done_of seal_answer) (sealed w l (tag_bits w) key nonce header text trailer) out

  -- what the numbers of an opening decide
  abbrev pub checked : Answer
  checked = open_checks (row_bytes w) (tag_bytes w) l (length key) (length nonce) (length header) (length text) (length trailer) (length out)

  -- what the tag decides where the numbers refuse nothing
  abbrev pub tag_answer : Answer
  tag_answer = answer_of (opened w l (tag_bits w) key nonce header text trailer)

  abbrev pub tag_out : List ℕ
  tag_out = out_of (opened w l (tag_bits w) key nonce header text trailer) (length out)

  unfoldable pub open_answer : Answer
  open_answer = cond (done_of checked) tag_answer checked

  -- the message where the answer is 0, zeros where it is 10, and else the output as it was
  unfoldable pub open_out : List ℕ
  open_out = cond (done_of checked) tag_out out
