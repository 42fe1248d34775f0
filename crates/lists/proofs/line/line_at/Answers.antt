-- `lists::line::line_at`: four parts, each behind the one before.
use Rattle.lists.proofs.Parts.{no_job, no_revision, no_index, no_body, is_line}
use Rattle.lists.proofs.line.line_at.Goals as goal

pub returns-in_err-job : goal.returns-in_err-job
returns-in_err-job c = rw c.from_residual.ensures (no_job c.args.text.now c.args.at c.in_err-job.ensures)

pub returns-in_err-revision : goal.returns-in_err-revision
returns-in_err-revision c = rw c.from_residual-in_err-revision.ensures (no_revision c.args.text.now c.args.at _ _ c.in_ok-job.ensures c.in_err-revision.ensures)

pub returns-in_err-index : goal.returns-in_err-index
returns-in_err-index c =
    rw c.from_residual-in_err-index.ensures (no_index c.args.text.now c.args.at _ _ c.in_ok-job.ensures _ _ c.in_ok-revision.ensures c.in_err-index.ensures)

pub returns-in_err-body : goal.returns-in_err-body
returns-in_err-body c =
    rw c.from_residual-in_err-body.ensures (no_body c.args.text.now c.args.at _ _ c.in_ok-job.ensures _ _ c.in_ok-revision.ensures _ _ c.in_ok-index.ensures c.in_err-body.ensures)

pub returns : goal.returns
returns c = is_line c.args.text.now c.args.at _ _ c.in_ok-job.ensures _ _ c.in_ok-revision.ensures _ _ c.in_ok-index.ensures _ _ c.in_ok-body.ensures
