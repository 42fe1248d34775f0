-- `blocks::blocks::store_rate` writes its three rows, one third each.
use Rattle.std.proofs.Common.{◌*◌, refl, ap, ◌∙◌, arith}
use Rattle.norx.specs.Norx.{row_bytes, bytes_of_row, rate_of}
use Rattle.norx.specs.Turns.{put}
use Rattle.norx.proofs.Words.{length-bytes_of_row}
use Rattle.norx.proofs.Slices.{thirds_at}
use Rattle.blocks.proofs.blocks.store_rate.Goals as goal

pub returns : goal.returns
unfolding rate_of
returns g c =
    let w = g.W.Word.width in
    let m = row_bytes w in
    let s = c.s.inside in
    let n = c.row_bytes-n.ensures in
    let two = rw n at c.store_row_at-2.ensures ∙ (λ i. put (c.store_row_at.ensures i) m (bytes_of_row w s.b) m) in
    let three = rw n at c.store_row_at-3.ensures ∙ (λ i. put (two i) (2 * m) (bytes_of_row w s.c) m) in
    three
    ∙ thirds_at m c.args.out.now refl refl refl (length-bytes_of_row w s.a) (length-bytes_of_row w s.b) (length-bytes_of_row w s.c) (omega (arith, c.requires))
    ∙ ap (rate_of w) c.s.view_is
