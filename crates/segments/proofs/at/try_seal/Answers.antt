-- `segments::at::try_seal`: where the numbers pass, the body sealed from the state behind the segment's header.
use mathlib.Core.Path.{◌≡◌, sym, ap, ◌∙◌}
use Rattle.answers.specs.declared.Refusal.TheVariants.{SegmentLength}
use Rattle.answers.specs.Answers.{done_of}
use Rattle.answers.proofs.Chain.{goes_on}
use Rattle.rules.specs.Rules.{rounds_of}
use Rattle.rules.proofs.Limits.{rounds_asked}
use Rattle.segments.proofs.Checks.{segment_chain, segment_fits, segment_sealed}
use Rattle.segments.proofs.States.{segment_sealed_of}
use Rattle.segments.proofs.at.try_seal.Goals as goal

pub returns : goal.returns
returns g c =
    let w = g.W.Word.width in
    let x = c.args in
    let answer = segment_chain w x.key.now x.nonce.now x.terms x.note.now x.index x.last x.body.now x.out.now
    c.row_bytes-n.ensures c.seal_checks.ensures c.segment_ok.ensures (goes_on _ SegmentLength c.in_ok-need.ensures (sym c.in_ok-seal_checks.was)) in
    let passed = sym (ap done_of answer) in
    let fits = segment_fits w x.key.now x.nonce.now x.terms x.note.now x.index x.last x.body.now x.out.now passed in
    let asked : rounds_of w x.terms.rounds ≡ x.terms.rounds = rounds_asked w x.terms.rounds fits.1 in
    let sealed = segment_sealed_of w x.key.now x.nonce.now x.terms x.note.now x.index x.last x.body.now x.out.now
    c.row-k.ensures c.nonce_of.ensures c.before_body-s.ensures fits.0 (rw asked at c.seal.ensures) in
    record { answer = answer; output = sealed ∙ sym (segment_sealed w x.key.now x.nonce.now x.terms x.note.now x.index x.last x.body.now x.out.now passed) }
