-- `jeczmilot::norx_list_write` gives the number of the answer.
use mathlib.Core.Path.{ap, ◌∙◌}
use Rattle.answers.specs.Answers.{number_of}
use Rattle.jeczmilot.proofs.norx_list_write.Goals as goal

pub returns : goal.returns
returns c = let call = c.write_list.ensures in record { answer = c.number.ensures ∙ ap number_of call.answer; output = call.output }
