-- `words::runs::runs`: 3, and those of the three parts.
use mathlib.Core.Path.{sym, ◌∙◌}
use native.Mathlib.Omega.{arith}
use Rattle.norx.specs.Norx.{rate}
use Rattle.norx.proofs.Widths.{some_bytes}
use Rattle.rules.proofs.Limits.{parts_from}
use Rattle.rules.proofs.Work.{runs_none, runs_some}
use Rattle.words.proofs.runs.runs.Goals as goal

pub returns-then-not-within : goal.returns-then-not-within
returns-then-not-within g c =
    let x = c.args in
    let r = rate g.W.Word.width in
    runs_none r x.header x.body x.trailer (sym c.within.ensures ∙ c.if-not-within.true)

pub part_runs-requires : goal.part_runs-requires
part_runs-requires g c =
    let x = c.args in
    let r = rate g.W.Word.width in
    let limits = parts_from x.header x.body x.trailer (sym c.within.ensures ∙ c.if-not-within.false) in
    (omega (arith, c.rate-r.ensures, some_bytes g.W.Word.width), omega (arith, limits.header_within))

pub part_runs-requires-2 : goal.part_runs-requires-2
part_runs-requires-2 g c =
    let x = c.args in
    let r = rate g.W.Word.width in
    let limits = parts_from x.header x.body x.trailer (sym c.within.ensures ∙ c.if-not-within.false) in
    (omega (arith, c.rate-r.ensures, some_bytes g.W.Word.width), limits.body_within)

pub part_runs-requires-3 : goal.part_runs-requires-3
part_runs-requires-3 g c =
    let x = c.args in
    let r = rate g.W.Word.width in
    let limits = parts_from x.header x.body x.trailer (sym c.within.ensures ∙ c.if-not-within.false) in
    (omega (arith, c.rate-r.ensures, some_bytes g.W.Word.width), omega (arith, limits.trailer_within))

pub returns : goal.returns
returns g c =
    let x = c.args in
    let r = rate g.W.Word.width in
    runs_some r x.header x.body x.trailer (sym c.within.ensures ∙ c.if-not-within.false)
    (rw c.rate-r.ensures at c.part_runs.ensures.number) (rw c.rate-r.ensures at c.part_runs-2.ensures.number) (rw c.rate-r.ensures at c.part_runs-3.ensures.number)
