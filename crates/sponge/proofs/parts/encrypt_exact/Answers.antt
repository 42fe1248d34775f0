-- `sponge::parts::encrypt_exact`: the full blocks, and behind them the bytes left.
use Rattle.std.proofs.Common.{rules, ◌≡◌}
use Rattle.norx.specs.Norx.{body_mark, after_part}
use Rattle.norx.proofs.Blocks.{part_none, part_some, text_none, text_last}
use Rattle.rules.specs.Rules.{rounds_of}
use Rattle.sponge.proofs.Laid.{left_of}
use Rattle.sponge.proofs.parts.encrypt_exact.Goals as goal

pub returns-then-is_empty-clause-state : goal.returns-then-is_empty-clause-state
returns-then-is_empty-clause-state g c = search (rules, part_none)

pub returns-then-is_empty-clause-output : goal.returns-then-is_empty-clause-output
returns-then-is_empty-clause-output g c = search (rules, text_none)

pub returns-clause-state : goal.returns-clause-state
returns-clause-state g c = search (rules, part_some, left_of)

pub returns-clause-output : goal.returns-clause-output
returns-clause-output g c =
    let w = g.W.Word.width in
    let x = c.args in
    let l = rounds_of w x.rounds in
    let d = x.d.now in
    let at = c.in_fulls-at.ensures.fulls in
    let state : c.encrypt_last.result ≡ after_part w l body_mark x.s d = search (rules, part_some, left_of) in
    rw at (text_last w l x.s d x.out.now c.encrypt_full-t.ensures.output state (rw (← c.encrypt_last.ensures.state, left_of w d at) at c.encrypt_last.ensures.output))
