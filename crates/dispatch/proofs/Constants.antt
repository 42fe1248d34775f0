-- Two rounds are two at every width.
-- Assumes nothing.
use Rattle.std.specs.Prelude.{◌≡◌, refl}
use Rattle.norx.specs.Norx.{Width, word32, word64}
use Rattle.rules.specs.Rules.{rounds_of}

pub two_rounds : (w : Width) → rounds_of w 2 ≡ 2
two_rounds word32 = refl
two_rounds word64 = refl
