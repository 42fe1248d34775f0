-- `blocks::turns::keyed`: the last row xored with the key, and the others as they were.
use Rattle.std.proofs.Common.{refl, ap, ◌∙◌}
use Rattle.norx.specs.Norx.{keyed}
use Rattle.norx.proofs.Slices.{list4}
use Rattle.blocks.proofs.turns.keyed.Goals as goal

pub returns : goal.returns
unfolding keyed
returns g c = list4 refl refl refl c.xor.ensures ∙ ap (keyed c.args.k) c.s.view_is
