-- `blocks::turns::enter_keyed` takes in a block of zeros, and then the key.
use Rattle.std.proofs.Common.{◌≡◌, List, ℕ, ◌/◌, replicate, ap, ◌∙◌, arith}
use Rattle.std.proofs.Math.Nat.{div_self}
use Rattle.std.proofs.lemmas.List.{length-replicate}
use Rattle.norx.specs.Norx.{rate, keyed}
use Rattle.norx.specs.Turns.{after_turns, after_all_turns}
use Rattle.norx.specs.Blocks.{fulls}
use Rattle.norx.proofs.Widths.{some_bytes}
use Rattle.norx.proofs.Turns.{turns_one, entered_zeros}
use Rattle.rules.specs.Rules.{rounds_of}
use Rattle.blocks.proofs.turns.enter_keyed.Goals as goal

pub returns : goal.returns
returns g c =
    let w = g.W.Word.width in
    let x = c.args in
    let l = rounds_of w x.rounds in
    let some = some_bytes w in
    let one : fulls w (replicate (rate w) 0) ≡ 1 = ap (λ (n : ℕ). n / rate w) (length-replicate (rate w) 0) ∙ div_self (omega (arith, some)) in
    let zeros = c.bytes.ensures.bytes ∙ c.zeros-zeros.ensures in
    rw c.owned.ensures.same at c.unwritten_keyed.ensures
    ∙ ap (λ (b : List ℕ). keyed x.k (after_all_turns w l x.m _ x.s b)) zeros
    ∙ ap (keyed x.k) (ap (after_turns w l x.m _ x.s (replicate (rate w) 0)) one ∙ turns_one w l x.m x.s (replicate (rate w) 0) (length-replicate (rate w) 0) ∙ entered_zeros w l x.m x.s c.owned.ensures.whole)
