-- `blocks::turns::turns_keyed`: before the turn i the state has taken in i blocks, and what they give is written where it is asked for.
use Rattle.std.proofs.Common.{◌≡◌, cond, ◌++◌, ◌*◌, length, drop}
use Rattle.norx.specs.Norx.{rate}
use Rattle.norx.specs.Turns.{after_turns, shown}
use Rattle.rules.specs.Rules.{rounds_of}
use Rattle.blocks.proofs.turns.turns_keyed.Given as goal

abbrev pub invariant-loop-i : goal.invariant-loop-i
invariant-loop-i g l =
    let w = g.W.Word.width in
    (l.t ≡ after_turns w (rounds_of w l.rounds) l.m l.opening l.fn.s l.d l.i)
    × (l.out ≡ cond l.writing (shown w (rounds_of w l.rounds) l.m l.opening l.fn.s l.d l.i ++ drop (l.i * rate w) l.initial.out) l.initial.out)
    × (length l.out ≡ length l.initial.out)
