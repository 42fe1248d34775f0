-- `blocks::turns::turns`: a text with no full block changes nothing, and a key of zeros leaves the state as it is.
use Rattle.std.proofs.Common.{◌∙◌, arith}
use Rattle.norx.specs.Blocks.{fulls}
use Rattle.norx.proofs.Shape.{unkeyed_turns}
use Rattle.norx.proofs.Turns.{turns_short, shown_short}
use Rattle.rules.specs.Rules.{rounds_of}
use Rattle.blocks.proofs.turns.turns.Goals as goal

pub returns-then-d-rate : goal.returns-then-d-rate
returns-then-d-rate g c =
    let w = g.W.Word.width in
    let x = c.args in
    let short = rw c.rate.ensures at c.if-d-rate.true in
    record {
      state = turns_short w (rounds_of w x.rounds) x.m x.opening x.s x.d.now short;
      output = shown_short w (rounds_of w x.rounds) x.m x.opening x.s x.d.now short x.out.now;
    }

pub returns-clause-state : goal.returns-clause-state
returns-clause-state g c =
    let w = g.W.Word.width in
    let x = c.args in
    rw (c.of_number.ensures, c.zeros.ensures, c.owned.ensures.same) at c.turns_keyed.ensures.state
    ∙ unkeyed_turns w (rounds_of w x.rounds) x.m x.opening x.s x.d.now (fulls w x.d.now) c.owned.ensures.whole
