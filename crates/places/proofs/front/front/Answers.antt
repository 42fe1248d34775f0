-- `places::front::front`: the bytes of both numbers, one behind the other.
use mathlib.Core.Path.{◌≡◌, refl, ◌∙◌}
use Rattle.norx.specs.Norx.{bytes_of}
use Rattle.norx.specs.Front.{eight_bytes, front}
use Rattle.norx.proofs.Loads.{store8}
use Rattle.places.specs.Terms.{front_of}
use Rattle.places.proofs.front.front.Goals as goal

pub returns : goal.returns
unfolding front_of front eight_bytes bytes_of
returns c =
    let E = c.args.edition in
    let job : c.copy_from_slice.new.self ≡ eight_bytes E.job = c.copy_from_slice.ensures.after ∙ c.to_le_bytes.ensures ∙ store8 E.job in
    let revision : c.copy_from_slice-2.new.self ≡ eight_bytes E.revision = c.copy_from_slice-2.ensures.after ∙ c.to_le_bytes-2.ensures ∙ store8 E.revision in
    rw (job, revision) refl
