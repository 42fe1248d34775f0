-- `words::w64`: half of the table, which follows from the rule of the constants.
use Rattle.std.proofs.Common.{List, ℕ, ap}
use Rattle.norx.specs.Norx.{row_at}
use Rattle.norx.proofs.Constants.{upper64}
use Rattle.words.proofs.w64.U64Word.u8_to_u11.Goals as goal

pub returns : goal.returns
returns c = ap (λ (t : List (List ℕ)). row_at t 0) upper64
