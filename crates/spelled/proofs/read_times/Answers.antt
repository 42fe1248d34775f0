-- `spelled::read_times`: two digits, and a number behind the star.
use mathlib.Core.Path.{refl, sym, ◌∙◌}
use native.Mathlib.Omega.{arith}
use Rattle.norx.proofs.Slices.{tail}
use Rattle.decimal.proofs.Digits.{num_inj}
use Rattle.spelled.proofs.Spells.{first_two, times_digits, times_number, times_some}
use Rattle.spelled.proofs.read_times.Goals as goal

pub returns-in_err-b : goal.returns-in_err-b
returns-in_err-b c =
    let word = c.args.word.now in
    rw c.from_residual.ensures ((λ l t room. let digits = first_two word (omega (arith, c.requires.0)) (times_digits word l t) in c.in_err-b.ensures digits.0 digits.1), refl)

pub returns-in_err-n : goal.returns-in_err-n
returns-in_err-n c =
    let word = c.args.word.now in
    rw c.from_residual-in_err-n.ensures ((λ l t room. c.in_err-n.ensures _ (omega (arith, c.well_formed.1.0)) (tail 3 word ∙ times_number word l t)), refl)

pub returns-then-n-eq0 : goal.returns-then-n-eq0
returns-then-n-eq0 c =
    let word = c.args.word.now in
    let number = c.in_ok-n.ensures in
    ((λ l t room. omega (arith, times_some word l t, num_inj _ _ (sym number.1 ∙ tail 3 word ∙ times_number word l t))), refl)

pub returns-then-out-n : goal.returns-then-out-n
returns-then-out-n c =
    let word = c.args.word.now in
    let number = c.in_ok-n.ensures in
    ((λ l t room. omega (arith, num_inj _ _ (sym number.1 ∙ tail 3 word ∙ times_number word l t))), refl)
