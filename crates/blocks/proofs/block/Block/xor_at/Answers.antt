-- `blocks::block::Block::xor_at`: the byte at a place of the block, which is in front.
use Rattle.std.proofs.Common.{List, ℕ, ap, ◌∙◌, arith, get_or-take, sym}
use Rattle.std.specs.Prelude.{bit_xor, set, take}
use lib.Seq.{take-set-lt}
use Rattle.norx.specs.Norx.{rate, xor_at}
use Rattle.blocks.proofs.block.Block.xor_at.Goals as goal

pub returns-then-at-rate : goal.returns-then-at-rate
returns-then-at-rate g c =
    let r = rate g.W.Word.width in
    let x = c.args in
    let l = c.self.inside.bytes in
    let within = rw c.rate.ensures at c.if-at-rate.true in
    take-set-lt r l x.at _ within
    ∙ ap (λ (b : ℕ). set (take r l) x.at (bit_xor b x.v)) (sym (get_or-take r l x.at 0 within))
    ∙ ap (λ (t : List ℕ). xor_at t x.at x.v) c.self.view_is
