-- `words::state::Row::xor`: its words are xored as the definition has them.
use Rattle.std.proofs.Common.{◌∙◌}
use Rattle.norx.specs.Norx.{row, xor_row}
use Rattle.words.proofs.state.Row.xor.Goals as goal

pub returns : goal.returns
unfolding xor_row
returns g c =
    (λ i. row (c.xor.ensures i) (c.xor-2.ensures i) (c.xor-3.ensures i) (c.xor-4.ensures i)) ∙ (λ i. xor_row (c.self.view_is i) (c.q.view_is i))
