-- `segments::at::nonce_of`: the words of the job's nonce and the number, joined.
use Rattle.std.proofs.Common.{◌≡◌, List, ℕ, ◌++◌, length, ap, ◌∙◌, arith}
use Rattle.norx.specs.Norx.{row_bytes, row_of}
use Rattle.answers.proofs.Tests.{cond_equal}
use Rattle.segments.specs.Segments.{segment_nonce}
use Rattle.segments.proofs.Checks.{nonce_long}
use Rattle.segments.proofs.at.nonce_of.Goals as goal

pub returns : goal.returns
unfolding segment_nonce
returns g c =
    let w = g.W.Word.width in
    let x = c.args in
    let joined : c.join.new.out ≡ segment_nonce x.job.now x.index x.last = c.join.ensures ∙ ap (λ (own : List ℕ). x.job.now ++ own) c.number-own.ensures in
    cond_equal _ _ _ (row_bytes w) (omega (arith, c.requires, nonce_long x.job.now x.index x.last, ap length joined)) c.row.ensures ∙ ap (row_of w) joined
