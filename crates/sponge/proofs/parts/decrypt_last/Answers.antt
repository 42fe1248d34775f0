-- `sponge::parts::decrypt_last`: the bytes left xored with the rate are their message, which the state takes in with its padding.
use Rattle.std.proofs.Common.{ℕ, length, take, refl, ap, ◌∙◌, arith}
use Rattle.norx.specs.Norx.{State, rate, xors, xor_block, rate_of, padded}
use Rattle.norx.proofs.Overlay.{recovered_of}
use Rattle.sponge.proofs.parts.decrypt_last.Goals as goal

pub returns : goal.returns
returns g c =
    let w = g.W.Word.width in
    let x = c.args.left.now in
    let text =
    c.show_rate.ensures ∙ ap (λ (n : ℕ). take n (rate_of w c.xor_block.result)) c.requires.1
    ∙ recovered_of w c.enter-e.result x (omega arith) (λ i. (c.type_inv.left i).fits) c.filled.ensures c.xor_block.ensures refl
    ∙ ap (λ (s : State). xors (take (length x) (rate_of w s)) x) c.enter-e.ensures in record {
      state = c.xor_block-2.ensures ∙ (λ i. xor_block w (c.enter-e.ensures i) ((c.padded.ensures ∙ ap (padded (rate w)) text) i));
      output = text;
    }
