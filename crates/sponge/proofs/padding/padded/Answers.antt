-- `sponge::padding::padded` xors two bytes into the filled block.
use Rattle.std.proofs.Common.{rules}
use Rattle.norx.proofs.Overlay.{padded_of}
use Rattle.sponge.proofs.padding.padded.Goals as goal

pub returns : goal.returns
returns g c = search (rules, padded_of)
