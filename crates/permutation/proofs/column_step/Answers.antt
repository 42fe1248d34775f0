-- `permutation::column_step` is G on the columns: its four steps' equations joined.
use Rattle.std.proofs.Common.{◌≡◌, ℕ, ◌%◌, ap, ◌∙◌}
use Rattle.norx.specs.Norx.{bits, r0, r1, r2, r3, g_of, on_columns}
use Rattle.norx.specs.Rows.{stepped}
use Rattle.norx.proofs.Widths.{r0_small, r1_small, r2_small, r3_small}
use Rattle.norx.proofs.Steps.{by_rows}
use Rattle.permutation.proofs.column_step.Goals as goal

pub returns : goal.returns
returns g c =
    let w = g.W.Word.width in
    let s = c.s.inside in
    let far0 : c.r0.result % bits w ≡ r0 w = rw c.r0.ensures (r0_small w) in
    let far1 : c.r1.result % bits w ≡ r1 w = rw c.r1.ensures (r1_small w) in
    let far2 : c.r2.result % bits w ≡ r2 w = rw c.r2.ensures (r2_small w) in
    let far3 : c.r3.result % bits w ≡ r3 w = rw c.r3.ensures (r3_small w) in
    by_rows w s.a s.b s.c s.d
    (rw far0 at c.row_step.ensures) (rw far1 at c.row_step-2.ensures) (rw far2 at c.row_step-3.ensures) (rw far3 at c.row_step-4.ensures)
    ∙ ap (on_columns (g_of w)) c.s.view_is
