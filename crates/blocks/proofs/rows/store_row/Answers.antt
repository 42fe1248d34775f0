-- `blocks::rows::store_row` writes its four words, one quarter each.
use Rattle.std.proofs.Common.{◌*◌, refl, ap, ◌∙◌, arith}
use Rattle.norx.specs.Norx.{word_bytes, bytes_of, bytes_of_row}
use Rattle.norx.specs.Turns.{put}
use Rattle.norx.proofs.Words.{length-bytes_of}
use Rattle.norx.proofs.Slices.{quarters_at}
use Rattle.blocks.proofs.rows.store_row.Goals as goal

pub returns : goal.returns
unfolding bytes_of_row
returns g c =
    let w = g.W.Word.width in
    let m = word_bytes w in
    let r = c.r.inside in
    let n = c.bytes-n.ensures in
    let v = g.W.Word.value in
    let two = rw n at c.store_at-2.ensures ∙ (λ i. put (c.store_at.ensures i) m (bytes_of m (v r.1)) m) in
    let three = rw n at c.store_at-3.ensures ∙ (λ i. put (two i) (2 * m) (bytes_of m (v r.2)) m) in
    let four = rw n at c.store_at-4.ensures ∙ (λ i. put (three i) (3 * m) (bytes_of m (v r.3)) m) in
    four ∙ quarters_at m c.args.b.now refl refl refl refl (length-bytes_of m (v r.0)) (length-bytes_of m (v r.1)) (length-bytes_of m (v r.2)) (omega (arith, c.requires)) ∙ ap (bytes_of_row w) c.r.view_is
