-- `spelled::lay`: before the turn i the first i bytes have the first 2 * i digits for their text.
use mathlib.Core.Path.{refl, ◌∙◌}
use native.Mathlib.Omega.{arith}
use lib.Seq.{drop-set-lt}
use Rattle.spelled.specs.Spelled.{hex_text}
use Rattle.spelled.proofs.Hex.{laid_next}
use Rattle.spelled.proofs.lay.Goals as goal

pub loop-i-init : goal.loop-i-init
unfolding hex_text
loop-i-init c = (refl, refl)

pub loop-i-preserved : goal.loop-i-preserved
loop-i-preserved c =
    let inv = c.loop-i.invariant in
    let i = c.loop-i.i in
    let word = c.args.word.now in
    let byte = (rw c.unwrap.ensures at c.pair.ensures).1 in (
      laid_next word c.loop-i.out i _ (omega (arith, c.requires.1)) (omega (arith, c.requires.2)) byte inv.0,
      drop-set-lt c.args.n c.loop-i.out i _ (omega arith) ∙ inv.1,
    )
