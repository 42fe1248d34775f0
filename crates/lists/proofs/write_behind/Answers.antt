-- `lists::write_behind`: before the turn i the first i lines are laid.
use mathlib.Core.Path.{refl, sym, ap, ◌∙◌}
use mathlib.Core.List.{◌++◌}
use Prim.Native.Nat.{ℕ}
use native.Mathlib.Omega.{arith}
use lib.ListN.{length}
use Rattle.decimal.specs.Laid.{laid}
use Rattle.decimal.proofs.Lay.{laid_none}
use Rattle.cutting.specs.Cutting.{count_of}
use Rattle.lists.specs.Lists.{lines_of}
use Rattle.lists.specs.Pieces.{rest_text, lines_behind}
use Rattle.lists.proofs.Writing.{length_next, line_room, more_laid, all_laid}
use Rattle.lists.proofs.write_behind.Invariants.{line}
use Rattle.lists.proofs.write_behind.Goals as goal

pub loop-i-init : goal.loop-i-init
unfolding lines_of
loop-i-init c = (refl, sym (laid_none c.args.out.now 0))

pub line-at-requires : goal.line-at-requires
unfolding lines_behind
line-at-requires c =
    let l = c.loop-i in
    let front = c.args.front.now in
    let room = line_room (line front c.args.body) l.i (count_of c.args.body) (omega (arith, c.count-i-end.ensures, c.loop-i-test.true)) in
    let same = ap (λ (n : ℕ). length (front ++ rest_text l.i n)) c.segment_length.ensures in
    omega (arith, l.invariant.0, l.auto.out, c.requires)

pub loop-i-preserved : goal.loop-i-preserved
unfolding lines_behind
loop-i-preserved c =
    let l = c.loop-i in
    let front = c.args.front.now in
    let e = c.line-at.ensures in
    let long = c.segment_length.ensures in
    let same = ap (λ (n : ℕ). length (front ++ rest_text l.i n)) long in
    let next = length_next (line front c.args.body) l.i in (
      omega (arith, e.place, l.invariant.0),
      more_laid (line front c.args.body) l.i (count_of c.args.body) l.at c.args.out.now (omega (arith, c.count-i-end.ensures, c.loop-i-test.true)) c.requires l.invariant.0 l.invariant.1
          (e.text ∙ ap (λ (n : ℕ). laid l.out l.at (front ++ rest_text l.i n)) long),
    )

pub returns : goal.returns
unfolding lines_behind
returns c =
    let l = c.loop-i in
    all_laid (line c.args.front.now c.args.body) l.i (count_of c.args.body) c.args.out.now (omega (arith, c.count-i-end.ensures, l.auto.i-end, c.loop-i-test.false)) c.requires l.invariant.1
