-- What reading a text as a list gives, on all texts.
-- Assumes nothing.
use Rattle.std.specs.Prelude.{◌≡◌, List, ℕ, Result, Ok, Err}
use Rattle.cutting.specs.Cutting.{count_of}
use Rattle.lists.specs.Lists.{ListOf}
use Rattle.lists.specs.Lines.{FirstBad}
use Rattle.lists.specs.declared.Job.{Job}
use Rattle.lists.specs.declared.BadLine.{BadLine}

abbrev pub Reading : Type 0
Reading = Result Job BadLine

-- the job, revision and body length whose list the text is, and how many segments that is; or its first bad line
abbrev pub ReadAs : List ℕ → Reading → Type 0
ReadAs t (Ok says) = ListOf t says.job says.revision says.body × (says.segments ≡ count_of says.body)
ReadAs t (Err bad) = FirstBad t bad.line

-- whether a reading is one of a list
abbrev pub IsTaken : Reading → Type 0
IsTaken (Ok says) = Unit {0}
IsTaken (Err bad) = ⊥
