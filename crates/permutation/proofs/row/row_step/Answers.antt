-- `permutation::row::row_step`: the four columns' steps laid out in rows.
use Rattle.std.proofs.Common.{[], ◌∷◌, ◌%◌, ◌∙◌}
use Rattle.norx.specs.Norx.{bits, row, xor_row}
use Rattle.norx.specs.Rows.{h_row, ror_row, stepped}
use Rattle.permutation.proofs.row.row_step.Goals as goal

pub returns : goal.returns
unfolding h_row ror_row xor_row
returns g c =
    let w = g.W.Word.width in
    let p = c.step-n0.ensures in
    let q = c.step-n1.ensures in
    let u = c.step-n2.ensures in
    let v = c.step-n3.ensures in
    (λ i. row (p.h i) (q.h i) (u.h i) (v.h i) ∷ row (p.turned i) (q.turned i) (u.turned i) (v.turned i) ∷ [])
    ∙ (λ i. stepped w (c.args.right % bits w) (c.x.view_is i) (c.y.view_is i) (c.z.view_is i))
