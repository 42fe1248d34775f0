-- `blocks::turns::unwritten`: a text with no full block changes nothing, and a key of zeros leaves the state as it is.
use Rattle.std.proofs.Common.{◌∙◌, arith}
use Rattle.norx.specs.Blocks.{fulls}
use Rattle.norx.proofs.Shape.{unkeyed_turns}
use Rattle.norx.proofs.Turns.{turns_short}
use Rattle.rules.specs.Rules.{rounds_of}
use Rattle.blocks.proofs.turns.unwritten.Goals as goal

pub returns-then-d-rate : goal.returns-then-d-rate
returns-then-d-rate g c =
    let w = g.W.Word.width in
    let x = c.args in
    turns_short w (rounds_of w x.rounds) x.m x.opening x.s x.d.now (rw c.rate.ensures at c.if-d-rate.true)

pub returns : goal.returns
returns g c =
    let w = g.W.Word.width in
    let x = c.args in
    rw (c.zeros.ensures, c.owned.ensures.same) at c.unwritten_keyed.ensures
    ∙ unkeyed_turns w (rounds_of w x.rounds) x.m x.opening x.s x.d.now (fulls w x.d.now) c.owned.ensures.whole
