-- `blocks::blocks::seal_block`: three rows xored and written, one third each, and the fourth as it was.
use Rattle.std.proofs.Common.{List, ℕ, ◌*◌, refl, ap, ◌∙◌, arith}
use Rattle.norx.specs.Norx.{State, row_bytes, row_of, bytes_of_row, xor_row, xor_block, rate_of}
use Rattle.norx.specs.Turns.{put}
use Rattle.norx.proofs.Words.{length-bytes_of_row}
use Rattle.norx.proofs.Slices.{list4, run_at, thirds_at}
use Rattle.blocks.proofs.blocks.seal_block.Goals as goal

pub returns : goal.returns
unfolding xor_block rate_of
returns g c =
    let w = g.W.Word.width in
    let m = row_bytes w in
    let b = c.args.b.now in
    let s = c.s.inside in
    let n = c.row_bytes-n.ensures in
    let a0 = c.seal_row-r0.ensures.state ∙ ap (λ (t : List ℕ). xor_row s.a (row_of w t)) (run_at m 0 0 b (omega arith)) in
    let a1 = c.seal_row-r1.ensures.state ∙ ap (λ (t : List ℕ). xor_row s.b (row_of w t)) (run_at m _ 1 b (omega (arith, n))) in
    let a2 = c.seal_row-r2.ensures.state ∙ ap (λ (t : List ℕ). xor_row s.c (row_of w t)) (run_at m _ 2 b (omega (arith, n))) in
    let two = rw n at c.seal_row-r1.ensures.output ∙ (λ i. put (c.seal_row-r0.ensures.output i) m (bytes_of_row w c.seal_row-r1.result) m) in
    let three = rw n at c.seal_row-r2.ensures.output ∙ (λ i. put (two i) (2 * m) (bytes_of_row w c.seal_row-r2.result) m) in
    record {
      state = list4 a0 a1 a2 refl ∙ ap (λ (t : State). xor_block w t b) c.s.view_is;
      output =
          three
          ∙ thirds_at m c.args.out.now (ap (bytes_of_row w) a0) (ap (bytes_of_row w) a1) (ap (bytes_of_row w) a2)
          (length-bytes_of_row w _) (length-bytes_of_row w _) (length-bytes_of_row w _) (omega (arith, c.requires.1))
          ∙ ap (λ (t : State). rate_of w (xor_block w t b)) c.s.view_is;
    }
