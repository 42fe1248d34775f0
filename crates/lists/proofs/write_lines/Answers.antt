-- `lists::write_lines`: the front in a buffer of its own, and every line with it.
use mathlib.Core.Path.{sym, ap, ◌∙◌}
use native.Mathlib.Omega.{arith}
use lib.ListN.{length}
use Rattle.lists.specs.Pieces.{front_text}
use Rattle.lists.proofs.Writing.{front_most, front_taken, from_front}
use Rattle.lists.proofs.write_lines.Goals as goal

pub slice_bounds-write_behind-end : goal.slice_bounds-write_behind-end
slice_bounds-write_behind-end c =
    omega (arith, c.front-n.ensures.length, front_most c.args.job c.args.revision c.ranges.job.fits c.ranges.revision.fits, c.front-n.auto.out)

pub write_behind-requires : goal.write_behind-requires
write_behind-requires c =
    let f = c.front-n in
    c.requires ∙ ap length (sym (from_front c.args.job c.args.revision c.args.body _ (front_taken _ (front_text c.args.job c.args.revision) f.result f.ensures.length f.ensures.text)))

pub returns : goal.returns
returns c =
    let f = c.front-n in
    c.write_behind.ensures
    ∙ from_front c.args.job c.args.revision c.args.body _ (front_taken _ (front_text c.args.job c.args.revision) f.result f.ensures.length f.ensures.text)
