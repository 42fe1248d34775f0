-- `permutation::diagonal_step`: G on the columns into which the diagonals were picked, put back.
use Rattle.std.proofs.Common.{refl, ap, ◌∙◌}
use Rattle.norx.specs.Norx.{g_of, rows, on_columns, on_diagonals}
use Rattle.norx.proofs.Slices.{list4}
use Rattle.norx.proofs.Steps.{by_picking}
use Rattle.permutation.proofs.diagonal_step.Goals as goal

pub returns : goal.returns
returns g c =
    let f = g_of g.W.Word.width in
    let s = c.s.inside in
    let picked =
    c.t.view_is ∙ c.column_step-t.ensures
    ∙ (λ i. on_columns f (rows s.a (c.from_second.ensures i) (c.from_third.ensures i) (c.from_fourth.ensures i))) in
    list4 refl c.from_fourth-2.ensures c.from_third-2.ensures c.from_second-2.ensures
    ∙ by_picking f (rows s.a s.b s.c s.d) picked ∙ ap (on_diagonals f) c.s.view_is
