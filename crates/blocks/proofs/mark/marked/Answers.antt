-- `blocks::mark::marked`: the last row xored with the mark's row, and the others as they were.
use Rattle.std.proofs.Common.{ℕ, ap, ◌∙◌}
use Rattle.norx.specs.Norx.{row, row_at, xor_row}
use Rattle.norx.proofs.Slices.{list4}
use Rattle.norx.proofs.Turns.{marked_by_row}
use Rattle.blocks.proofs.mark.marked.Goals as goal

pub returns : goal.returns
returns g c =
    let same = c.t.view_is ∙ c.owned-t.ensures.same in
    list4 (λ i. row_at (same i) 0) (λ i. row_at (same i) 1) (λ i. row_at (same i) 2)
    (c.xor.ensures ∙ (λ i. xor_row (row_at (same i) 3) (c.m.invariant i)) ∙ ap (λ (k : ℕ). xor_row (row_at c.args.s 3) (row 0 0 0 k)) c.m.view_is)
    ∙ marked_by_row g.W.Word.width c.args.m c.args.s c.owned-t.ensures.whole
