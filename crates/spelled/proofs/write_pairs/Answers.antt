-- `spelled::write_pairs`: before the turn i the text of the first i bytes is written.
use mathlib.Core.Path.{refl}
use Rattle.spelled.specs.Spelled.{hex_text}
use Rattle.spelled.proofs.Writing.{wrote_next}
use Rattle.spelled.proofs.write_pairs.Goals as goal

pub loop-i-init : goal.loop-i-init
unfolding hex_text
loop-i-init c = refl

pub loop-i-preserved : goal.loop-i-preserved
loop-i-preserved c =
    wrote_next c.args.bytes.now c.args.out.now c.loop-i.out c.loop-i.i _ _ c.loop-i-test.true c.requires c.digit_of.ensures c.digit_of-in-loop-i.ensures c.loop-i.invariant
