-- `permutation::upper_constants`: both rows are those of the rule.
use Rattle.std.proofs.Common.{[], ◌∷◌}
use Rattle.permutation.proofs.upper_constants.Goals as goal

pub returns : goal.returns
returns g c = λ i. c.u8_to_u11-u8.ensures i ∷ c.u12_to_u15-u12.ensures i ∷ []
