-- What the numbers of one call decide: its answer, and the lengths that stand where it is no refusal; and what an opening then comes to.
-- Assumes nothing.
use Rattle.std.specs.Prelude.{◌≡◌, List, ℕ, ◌+◌, ◌-◌, leb, eqb, replicate, Ok, Err}
use Rattle.std.proofs.Math.Option.{Option, none, some}
use Rattle.answers.specs.declared.Refusal.TheVariants.{KeyLength, RoundsNumber, TagLength, OverLimit, OutputLength, TagDiffers}
use Rattle.answers.specs.Answers.{Answer, need_of}
use Rattle.rules.specs.Rules.{within, rounds_ok, lengths_ok}

-- sealing answers the first of 2, 1, 4, 5; `row` is the length of a key and of a nonce, `tag` that of a tag
unfoldable pub seal_checks : ℕ → ℕ → ℕ → ℕ → ℕ → ℕ → ℕ → ℕ → ℕ → Answer
seal_checks row tag l key nonce header body trailer out =
    need_of (rounds_ok l) RoundsNumber
    (need_of (lengths_ok row key nonce) KeyLength
    (need_of (within header body trailer) OverLimit
    (need_of (eqb out (body + tag)) OutputLength (Ok tt))))

-- opening answers the first of 2, 1, 3, 4, 5, before its tag is looked at
unfoldable pub open_checks : ℕ → ℕ → ℕ → ℕ → ℕ → ℕ → ℕ → ℕ → ℕ → Answer
open_checks row tag l key nonce header text trailer out =
    need_of (rounds_ok l) RoundsNumber
    (need_of (lengths_ok row key nonce) KeyLength
    (need_of (leb tag text) TagLength
    (need_of (within header (text - tag) trailer) OverLimit
    (need_of (eqb out (text - tag)) OutputLength (Ok tt)))))

-- the exact lengths: a key and a nonce are a row each, and a sealed text is its body and a tag
pub record Exact (row tag key nonce body text : ℕ) : Type 0 where
  pub key_long : key ≡ row
  pub nonce_long : nonce ≡ row
  pub text_long : text ≡ body + tag

-- a message, or none: 10, and zeros
abbrev pub answer_of : Option (List ℕ) → Answer
answer_of none = Err TagDiffers
answer_of (some m) = Ok tt

abbrev pub out_of : Option (List ℕ) → ℕ → List ℕ
out_of none n = replicate n 0
out_of (some m) n = m
