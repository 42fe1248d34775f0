-- `segments::at::try_open`: where the numbers pass, the text opened from the state behind the segment's header.
use mathlib.Core.Path.{◌≡◌, refl, sym, ap, ◌∙◌}
use Rattle.answers.specs.Answers.{done_of}
use Rattle.rules.specs.Rules.{rounds_of}
use Rattle.rules.proofs.Limits.{rounds_asked}
use lib.ListN.{length}
use Rattle.segments.proofs.Checks.{links_kept, links_go_on, take_chain, take_fits, take_tag}
use Rattle.segments.proofs.States.{segment_opened_of}
use Rattle.segments.proofs.at.try_open.Goals as goal

pub returns-in_err-take_links-clause-output : goal.returns-in_err-take_links-clause-output
returns-in_err-take_links-clause-output g c =
    let x = c.args in
    links_kept g.W.Word.width x.key.now x.nonce.now x.terms x.note.now x.waiting x.last x.sealed.now x.out.now c.row_bytes-n.ensures refl c.in_err-take_links.ensures

pub returns : goal.returns
returns g c =
    let w = g.W.Word.width in
    let x = c.args in
    let numbers = take_chain w x.key.now x.nonce.now x.terms x.note.now x.waiting x.last x.sealed.now x.out.now
    c.row_bytes-n.ensures c.open_checks.ensures (links_go_on x.waiting x.last c.row_bytes-n.result (length x.sealed.now) c.in_ok-take_links.ensures (sym c.in_ok-open_checks.was)) in
    let passed = sym (ap done_of numbers) in
    let fits = take_fits w x.key.now x.nonce.now x.terms x.note.now x.waiting x.last x.sealed.now x.out.now passed in
    let asked : rounds_of w x.terms.rounds ≡ x.terms.rounds = rounds_asked w x.terms.rounds fits.1 in
    let opened = segment_opened_of w x.key.now x.nonce.now x.terms x.note.now x.waiting.index x.last x.sealed.now x.out.now
    c.row-k.ensures c.nonce_of.ensures c.before_body-s.ensures fits.0 (rw asked at c.open.ensures.answer) (rw asked at c.open.ensures.output) in
    let is = take_tag w x.key.now x.nonce.now x.terms x.note.now x.waiting x.last x.sealed.now x.out.now passed in
    record { answer = opened.0 ∙ sym is.0; output = opened.1 ∙ sym is.1 }
