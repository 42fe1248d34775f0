-- `texts::same`: before each turn as many bytes are left of both texts, and what is left decides.
use mathlib.Core.Path.{◌≡◌}
use mathlib.Core.Bool.{◌&&◌}
use lib.ListN.{length}
use Rattle.std.specs.Iterator.Adapters.{zip_first, zip_second}
use Rattle.std.specs.Slice.Iter.{iter_rest}
use Rattle.norx.specs.Norx.{same as same_of}
use Rattle.texts.proofs.same.Given as goal

abbrev pub invariant-loop-x : goal.invariant-loop-x
invariant-loop-x l =
    let left = iter_rest (zip_first l.x-iterator) in
    let other = iter_rest (zip_second l.x-iterator) in
    record { long : length left ≡ length other; decides : (l.ok && same_of left other) ≡ same_of l.a l.b }
