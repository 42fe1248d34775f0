-- `blocks::blocks::open_block`: the message is written, and a full block of ciphertext becomes the new s0..s11.
use Rattle.std.proofs.Common.{List, ℕ, ◌*◌, refl, ap, ◌∙◌, arith}
use Rattle.norx.specs.Norx.{State, row_at, row_bytes, row_of, bytes_of_row, xor_row, xor_block, rate_of}
use Rattle.norx.specs.Turns.{put}
use Rattle.norx.proofs.Words.{length-bytes_of_row}
use Rattle.norx.proofs.Replaced.{replaced}
use Rattle.norx.proofs.Slices.{list4, run_at, thirds_at}
use Rattle.blocks.proofs.blocks.open_block.Goals as goal

pub returns : goal.returns
unfolding xor_block rate_of
returns g c =
    let w = g.W.Word.width in
    let m = row_bytes w in
    let b = c.args.b.now in
    let t = c.t.inside in
    let n = c.row_bytes-n.ensures in
    let same = c.t.view_is ∙ c.owned-t.ensures.same in
    let a0 = c.open_row-r0.ensures.state ∙ ap (row_of w) (run_at m 0 0 b (omega arith)) in
    let a1 = c.open_row-r1.ensures.state ∙ ap (row_of w) (run_at m _ 1 b (omega (arith, n))) in
    let a2 = c.open_row-r2.ensures.state ∙ ap (row_of w) (run_at m _ 2 b (omega (arith, n))) in
    let two = rw n at c.open_row-r1.ensures.output ∙ (λ i. put (c.open_row-r0.ensures.output i) m (bytes_of_row w (xor_row t.b c.open_row-r1.result)) m) in
    let three = rw n at c.open_row-r2.ensures.output ∙ (λ i. put (two i) (2 * m) (bytes_of_row w (xor_row t.c c.open_row-r2.result)) m) in
    record {
      state = list4 a0 a1 a2 (λ i. row_at (same i) 3) ∙ replaced w c.args.s b c.owned-t.ensures.whole (λ i. (c.type_inv.b i).fits);
      output =
          three
          ∙ thirds_at m c.args.out.now
          (ap (λ (x : List ℕ). bytes_of_row w (xor_row t.a x)) a0) (ap (λ (x : List ℕ). bytes_of_row w (xor_row t.b x)) a1) (ap (λ (x : List ℕ). bytes_of_row w (xor_row t.c x)) a2)
          (length-bytes_of_row w _) (length-bytes_of_row w _) (length-bytes_of_row w _) (omega (arith, c.requires.1))
          ∙ ap (λ (x : State). rate_of w (xor_block w x b)) same;
    }
