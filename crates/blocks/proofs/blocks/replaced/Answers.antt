-- `blocks::blocks::replaced`: a full block of ciphertext becomes the new s0..s11, by the law on words of the width.
use Rattle.std.proofs.Common.{◌≡◌, refl, ap, ◌∙◌, arith}
use Rattle.norx.specs.Norx.{row_bytes, row_of, row_at}
use Rattle.norx.proofs.Slices.{list4, run_at}
use Rattle.norx.proofs.Replaced.{replaced}
use Rattle.blocks.proofs.blocks.replaced.Goals as goal

pub returns : goal.returns
returns g c =
    let w = g.W.Word.width in
    let b = c.args.c.now in
    let n = c.row_bytes-n.ensures in
    let same = c.t.view_is ∙ c.owned-t.ensures.same in
    list4
    (c.load_row_at.ensures ∙ ap (row_of w) (run_at (row_bytes w) 0 0 b (omega arith)))
    (c.load_row_at-2.ensures ∙ ap (row_of w) (run_at (row_bytes w) _ 1 b (omega (arith, n))))
    (c.load_row_at-3.ensures ∙ ap (row_of w) (run_at (row_bytes w) _ 2 b (omega (arith, n))))
    (λ i. row_at (same i) 3)
    ∙ replaced w c.args.s b c.owned-t.ensures.whole (λ i. (c.type_inv.c i).fits)
