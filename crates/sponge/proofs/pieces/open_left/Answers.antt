-- `sponge::pieces::open_left`: nothing of no bytes, else the mark, P, and the message.
use Rattle.std.proofs.Common.{rules, refl, ◌∙◌}
use Rattle.norx.proofs.Unfed.{unfed_none, unfed_fresh}
use Rattle.rules.specs.Rules.{rounds_of}
use Rattle.sponge.proofs.pieces.open_left.Goals as goal

pub returns-then-is_empty : goal.returns-then-is_empty
returns-then-is_empty g c = search (rules, unfed_none)

pub returns : goal.returns
returns g c =
    let w = g.W.Word.width in
    let x = c.args in
    unfed_fresh w (rounds_of w x.rounds) x.s x.left.now (search rules) c.requires (λ i. (c.type_inv.left i).fits)
    c.enter-e.ensures c.filled.ensures c.xor_block.ensures (c.bytes.ensures.bytes ∙ c.of_rate-r.ensures) refl c.filled-2.ensures c.xor_block-2.ensures
