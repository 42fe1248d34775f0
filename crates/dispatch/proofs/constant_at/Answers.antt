-- `dispatch::constant_at`: read in the two rounds, or none.
use Rattle.std.proofs.Common.{◌≡◌, ℕ, ◌/◌, ◌%◌, cond, ltb, ap, ◌∙◌}
use Rattle.norx.specs.Norx.{State, rows, row_at, word_at, p_of, constants}
use Rattle.rules.specs.Rules.{rounds_of}
use Rattle.dispatch.specs.Calls.{constant_at}
use Rattle.dispatch.proofs.Constants.{two_rounds}
use Rattle.dispatch.proofs.constant_at.Goals as goal

pub returns : goal.returns
unfolding constants constant_at
returns g c =
    let w = g.W.Word.width in
    let i = c.args.i in
    let counted : p_of w (rounds_of w 2) (rows c.of_numbers.result c.of_numbers-2.result c.of_numbers-3.result c.of_numbers-4.result) ≡ constants w =
    λ k. p_of w (two_rounds w k) (rows (c.of_numbers.ensures k) (c.of_numbers-2.ensures k) (c.of_numbers-3.ensures k) (c.of_numbers-4.ensures k)) in
    c.number.ensures ∙ ap (λ (s : State). cond (ltb i 16) (word_at (row_at s (i / 4)) (i % 4)) 0) (c.permute.ensures ∙ counted)
