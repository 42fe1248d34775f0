-- `blocks::blocks::xor_block`: three rows xored, and the fourth as it was.
use Rattle.std.proofs.Common.{refl, ap, ◌∙◌, arith}
use Rattle.norx.specs.Norx.{State, row_bytes, row_of, xor_row, xor_block}
use Rattle.norx.proofs.Slices.{list4, run_at}
use Rattle.blocks.proofs.blocks.xor_block.Goals as goal

pub returns : goal.returns
unfolding xor_block
returns g c =
    let w = g.W.Word.width in
    let b = c.args.b.now in
    let s = c.s.inside in
    let n = c.row_bytes-n.ensures in
    list4
    (c.xor.ensures ∙ ap (xor_row s.a) (c.load_row_at.ensures ∙ ap (row_of w) (run_at (row_bytes w) 0 0 b (omega arith))))
    (c.xor-2.ensures ∙ ap (xor_row s.b) (c.load_row_at-2.ensures ∙ ap (row_of w) (run_at (row_bytes w) _ 1 b (omega (arith, n)))))
    (c.xor-3.ensures ∙ ap (xor_row s.c) (c.load_row_at-3.ensures ∙ ap (row_of w) (run_at (row_bytes w) _ 2 b (omega (arith, n)))))
    refl
    ∙ ap (λ (t : State). xor_block w t b) c.s.view_is
