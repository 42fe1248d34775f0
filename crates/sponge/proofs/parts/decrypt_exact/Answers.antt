-- `sponge::parts::decrypt_exact`: the full blocks, and behind them the bytes left.
use Rattle.std.proofs.Common.{rules}
use Rattle.norx.proofs.Messages.{state_empty, message_empty, state_end, message_end}
use Rattle.sponge.proofs.Laid.{left_of}
use Rattle.sponge.proofs.parts.decrypt_exact.Goals as goal

pub returns-then-is_empty-clause-state : goal.returns-then-is_empty-clause-state
returns-then-is_empty-clause-state g c = search (rules, state_empty)

pub returns-then-is_empty-clause-output : goal.returns-then-is_empty-clause-output
returns-then-is_empty-clause-output g c = search (rules, message_empty)

pub returns-clause-state : goal.returns-clause-state
returns-clause-state g c = search (rules, state_end, left_of)

pub returns-clause-output : goal.returns-clause-output
returns-clause-output g c = search (rules, message_end, left_of)
