-- `blocks::block::Block::lay`: bytes within the block, which is in front.
use Rattle.std.proofs.Common.{Bool, List, ℕ, ◌+◌, ◌-◌, ◌++◌, leb, cond, length, take, drop, ap, sym, ◌∙◌, arith}
use Rattle.std.proofs.lemmas.Bool.{le-leb}
use Rattle.norx.specs.Norx.{rate}
use Rattle.norx.specs.Turns.{put}
use Rattle.norx.proofs.InFront.{put_in_front}
use Rattle.norx.proofs.Widths.{few_bytes}
use Rattle.blocks.proofs.block.Block.lay.Goals as goal

pub returns-then-d-n : goal.returns-then-d-n
returns-then-d-n g c =
    let w = g.W.Word.width in
    let x = c.args in
    let d = x.d.now in
    let l = c.self.inside.bytes in
    let n = c.rate-n.ensures in
    let few = few_bytes w in
    ap (λ (t : List ℕ). take (rate w) (take x.at l ++ (t ++ drop (x.at + length d - x.at) (drop x.at l)))) c.copy_from_slice.ensures.after
    ∙ put_in_front (rate w) x.at l d (omega (arith, n)) (omega (arith, few, c.self.told))
    ∙ ap (λ (t : List ℕ). put t x.at d (length d)) c.self.view_is
    ∙ ap (λ (fits : Bool). cond fits (put x.self.now x.at d (length d)) x.self.now) (sym (le-leb (x.at + length d) (rate w) (omega (arith, n))))
