-- `blocks::turns::marked_and_permuted` is P after the mark.
use Rattle.std.proofs.Common.{ap, ◌∙◌}
use Rattle.norx.specs.Norx.{p_of, entered}
use Rattle.rules.specs.Rules.{rounds_of}
use Rattle.blocks.proofs.turns.marked_and_permuted.Goals as goal

pub returns : goal.returns
unfolding entered
returns g c =
    let w = g.W.Word.width in c.permute.ensures ∙ ap (p_of w (rounds_of w c.args.rounds)) c.marked.ensures
