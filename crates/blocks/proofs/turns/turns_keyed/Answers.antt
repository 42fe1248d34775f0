-- `blocks::turns::turns_keyed`: before the turn i the state has taken in i blocks, and what they give is written where it is asked for.
use Rattle.std.proofs.Common.{◌≡◌, ℕ, Bool, eqb, ◌*◌, ◌/◌, length, refl, ap, ◌∙◌, arith}
use native.Mathlib.Nat.{zero-mul}
use borrow.Author.Tests.{eqb-true}
use Rattle.norx.specs.Norx.{rate, rate_of, xor_block, keyed}
use Rattle.norx.specs.Turns.{after_turns}
use Rattle.norx.proofs.Words.{length-rate_of}
use Rattle.norx.proofs.Slices.{block_fits, cut}
use Rattle.norx.proofs.Turns.{shown_none, turns_next, shown_next, length_show}
use Rattle.rules.specs.Rules.{rounds_of}
use Rattle.blocks.proofs.turns.turns_keyed.Goals as goal

pub loop-i-init : goal.loop-i-init
unfolding after_turns
loop-i-init g c =
    let w = g.W.Word.width in
    let x = c.args in
    (refl, rw zero-mul (shown_none w (rounds_of w x.rounds) x.m x.opening x.s x.d.now (eqb (length x.out.now) (length x.d.now)) x.out.now), refl)

pub loop-i-preserved : goal.loop-i-preserved
loop-i-preserved g c =
    let w = g.W.Word.width in
    let x = c.args in
    let d = x.d.now in
    let i = c.loop-i.i in
    let r = c.rate-r.ensures in
    let writing : Bool = eqb (length x.out.now) (length d) in
    let e = c.marked_and_permuted-e.ensures in
    let part = cut (rate w) (i * rate w) d in
    let next = turns_next w (rounds_of w x.rounds) x.m x.opening x.s d i c.loop-i.invariant.0 e part (rw r at c.block_at-t.ensures.state) in
    let text =
    shown_next w (rounds_of w x.rounds) x.m x.opening x.s d i c.loop-i.invariant.0 e part writing x.out.now c.loop-i.invariant.1 (rw r at c.block_at-t.ensures.output) in
    let fits = block_fits i (length d) (rate w) (rw r at c.loop-i-test.true) in
    let same =
    length_show writing (i * rate w) (rate w) (rate_of w (xor_block w c.marked_and_permuted-e.result _)) c.loop-i.out (length-rate_of w _)
    (λ e. omega (arith, fits, c.loop-i.invariant.2, eqb-true (length x.out.now) (length d) e)) (rw r at c.block_at-t.ensures.output) in
    (next, text, same ∙ c.loop-i.invariant.2)

pub returns : goal.returns
returns g c =
    let w = g.W.Word.width in
    let x = c.args in
    let last : c.loop-i.i ≡ length x.d.now / c.rate-r.result = omega arith in
    let e = last ∙ ap (λ (r : ℕ). length x.d.now / r) c.rate-r.ensures in
    record { state = c.keyed.ensures ∙ ap (keyed x.k) (rw e at c.loop-i.invariant.0); output = rw e at c.loop-i.invariant.1 }
