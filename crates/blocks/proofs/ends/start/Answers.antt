-- `blocks::ends::start`: the rows laid out, P, and the key.
use Rattle.std.proofs.Common.{◌≡◌, ◌*◌, ap, ◌∙◌}
use Rattle.norx.specs.Norx.{bits, tag_bits, p_of, State, row, rows, row_at, xor_row, constants, entered, keyed, start}
use Rattle.norx.proofs.Turns.{unmarked}
use Rattle.norx.proofs.Widths.{tag_is_four_words}
use Rattle.rules.specs.Rules.{rounds_of}
use Rattle.blocks.proofs.ends.start.Goals as goal

pub returns : goal.returns
unfolding start entered
returns g c =
    let w = g.W.Word.width in
    let v = g.W.Word.value in
    let x = c.args in
    let l = rounds_of w x.rounds in
    let u = c.upper_constants-u8_to_u11.ensures in
    let b : v c.of_number.result ≡ bits w = c.of_number.ensures ∙ c.bits.ensures in
    let asked : v c.of_number-2.result ≡ l = c.of_number-2.ensures ∙ c.rounds_of.ensures in
    let t : v c.of_number-4.result ≡ tag_bits w = c.of_number-4.ensures ∙ (λ i. 4 * c.bits-2.ensures i) ∙ tag_is_four_words w in
    let numbers : row (v c.of_number.result) (v c.of_number-2.result) (v c.of_number-3.result) (v c.of_number-4.result) ≡ row (bits w) l 1 (tag_bits w) =
    λ i. row (b i) (asked i) (c.of_number-3.ensures i) (t i) in
    c.enter_keyed.ensures
    ∙ ap (λ (s : State). keyed x.k (p_of w l s)) (unmarked _ ∙ (λ i. rows x.n x.k (row_at (u i) 0) ((c.xor.ensures ∙ (λ j. xor_row (row_at (u j) 1) (numbers j))) i)))
