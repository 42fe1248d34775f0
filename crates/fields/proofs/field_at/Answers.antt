-- `fields::field_at`: from its place up to the first tab or newline, or to the end.
use mathlib.Core.Path.{◌∙◌}
use Rattle.fields.proofs.Fields.{within_min, field_ended, field_unended}
use Rattle.fields.proofs.field_at.Goals as goal

pub returns-in-Some : goal.returns-in-Some
returns-in-Some c =
    let t = c.args.text.now in
    field_ended t c.args.at _ (c.min-from.ensures ∙ within_min t c.args.at) _ c.in-Some.ensures

pub returns-in-None : goal.returns-in-None
returns-in-None c =
    let t = c.args.text.now in
    field_unended t c.args.at _ (c.min-from.ensures ∙ within_min t c.args.at) c.in-None.ensures
