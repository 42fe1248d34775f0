-- `blocks::ends::finished`: the finish, and the bytes of the last row.
use Rattle.std.proofs.Common.{◌≡◌, ℕ, take, ap, sym, ◌∙◌}
use lib.Seq.{take_all}
use native.Mathlib.Nat.{le_of_eq}
use Rattle.norx.specs.Norx.{tag_mark, p_of, State, row_at, bytes_of_row, entered, keyed, finished, tag_of}
use Rattle.norx.proofs.Widths.{tag_is_row}
use Rattle.norx.proofs.Words.{length-bytes_of_row}
use Rattle.norx.proofs.Turns.{unmarked}
use Rattle.rules.specs.Rules.{rounds_of}
use Rattle.blocks.proofs.ends.finished.Goals as goal

pub returns : goal.returns
unfolding tag_of finished entered
returns g c =
    let w = g.W.Word.width in
    let x = c.args in
    let l = rounds_of w x.rounds in
    let first : c.enter_keyed.result ≡ keyed x.k (entered w l tag_mark x.s) = c.enter_keyed.ensures in
    let second : c.enter_keyed-t.result ≡ keyed x.k (entered w l 0 c.enter_keyed.result) = c.enter_keyed-t.ensures in
    let t = c.t.view_is ∙ second ∙ ap (λ (s : State). keyed x.k (p_of w l s)) (unmarked _ ∙ first) in
    let whole = bytes_of_row w (row_at (finished w l x.k x.s) 3) in
    ap (λ (s : State). bytes_of_row w (row_at s 3)) t
    ∙ sym (ap (λ (n : ℕ). take n whole) (tag_is_row w) ∙ take_all _ whole (le_of_eq (length-bytes_of_row w _)))
