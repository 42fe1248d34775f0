-- Chains of refusals: put together link by link, and what is known where one gives no refusal.
-- Assumes nothing.
use mathlib.Core.Path.{◌≡◌, refl, sym, ◌∙◌}
use mathlib.Core.Bool.{Bool, true, false, ◌||◌, false≢true}
use mathlib.Core.Logic.{◌≢◌, ◌⊎◌, inl, inr}
use Prim.Native.Nat.{ℕ, ◌≤◌}
use native.Mathlib.Omega.{arith}
use borrow.Author.Tests.{ne_eqb}
use lib.Dec.{eqb}
pub use Rattle.std.proofs.lemmas.Bool.{and_parts as both, and_from as and_true, or_cases as one_of}
use Rattle.std.specs.Prelude.{Ok, Err, ⊤, is_err}
use Rattle.std.specs.Result.{result_and}
use Rattle.answers.specs.declared.Refusal.{Refusal}
use Rattle.answers.specs.declared.Refusal.TheVariants.{KeyLength, RoundsNumber, TagLength, OverLimit, OutputLength, OtherRevision, EarlierPart, OtherOffset, NotSound, TagDiffers, WidthNumber, OtherJob, SegmentLength, AfterLast}
use Rattle.answers.specs.Answers.{Answer, refusal_number, number_of, done_of, need_of}

-- an answer is done where its number is 0
pub done_zero : (a : Answer) → done_of a ≡ true → number_of a ≡ 0
done_zero (Ok done) e = refl
done_zero (Err refusal) e = absurd (false≢true e)

-- no refusal has the number 0
some_number : (refusal : Refusal) → 1 ≤ refusal_number refusal
some_number KeyLength = omega arith
some_number RoundsNumber = omega arith
some_number TagLength = omega arith
some_number OverLimit = omega arith
some_number OutputLength = omega arith
some_number OtherRevision = omega arith
some_number EarlierPart = omega arith
some_number OtherOffset = omega arith
some_number NotSound = omega arith
some_number TagDiffers = omega arith
some_number WidthNumber = omega arith
some_number OtherJob = omega arith
some_number SegmentLength = omega arith
some_number AfterLast = omega arith

pub zero_done : (a : Answer) → number_of a ≡ 0 → done_of a ≡ true
zero_done (Ok done) e = refl
zero_done (Err refusal) e = let some = some_number refusal in absurd (omega arith)

pub not_done : (a : Answer) → number_of a ≢ 0 → done_of a ≡ false
not_done (Ok done) h = absurd (h refl)
not_done (Err refusal) h = refl

pub by_number : (a : Answer) → eqb (number_of a) 0 ≡ done_of a
by_number (Ok done) = refl
by_number (Err refusal) = let some = some_number refusal in ne_eqb (refusal_number refusal) 0 (λ e. omega arith)

-- how a test of an answer came out
pub found_done : (a : Answer) {f : Bool} → f ≡ is_err a → f ≡ false → done_of a ≡ true
found_done a e h = go a (sym e ∙ h)
  where
    go : (a : Answer) → is_err a ≡ false → done_of a ≡ true
    go (Ok done) h = refl
    go (Err refusal) h = absurd (false≢true (sym h))

pub found_refused : (a : Answer) {f : Bool} → f ≡ is_err a → f ≡ true → done_of a ≡ false
found_refused a e h = go a (sym e ∙ h)
  where
    go : (a : Answer) → is_err a ≡ true → done_of a ≡ false
    go (Ok done) h = absurd (false≢true h)
    go (Err refusal) h = refl

-- a link that gives no refusal leaves it to the rest of the chain
pub goes_on : (ok : Bool) (refusal : Refusal) {given rest : Answer} {x : ⊤} → Ok x ≡ need_of ok refusal (Ok tt) → given ≡ rest → given ≡ need_of ok refusal rest
unfolding need_of
goes_on true refusal e f = f
goes_on false refusal e f = cc

-- where a chain gives no refusal the test of its first link holds, and the rest gives none
pub passed : (ok : Bool) (refusal : Refusal) (rest : Answer) → done_of (need_of ok refusal rest) ≡ true → (ok ≡ true) × (done_of rest ≡ true)
unfolding need_of
passed true refusal rest e = (refl, e)
passed false refusal rest e = absurd (false≢true e)

-- and a link whose test holds gives what the rest gives
pub passes : (ok : Bool) (refusal : Refusal) (rest : Answer) → ok ≡ true → done_of rest ≡ true → done_of (need_of ok refusal rest) ≡ true
unfolding need_of
passes ok refusal rest h e = rw h e

-- a number that neither a link's refusal nor the rest has is not answered
pub link_not : (n : ℕ) (ok : Bool) (refusal : Refusal) (rest : Answer) → refusal_number refusal ≢ n → number_of rest ≢ n → number_of (need_of ok refusal rest) ≢ n
unfolding need_of
link_not n true refusal rest h g = g
link_not n false refusal rest h g = h

-- an answer with another behind it, as a part of a chain: done where both are
pub both_done : (a rest : Answer) → done_of (result_and a rest) ≡ true → (done_of a ≡ true) × (done_of rest ≡ true)
both_done (Ok done) rest e = (refl, e)
both_done (Err refusal) rest e = absurd (false≢true e)

-- a number that neither of the two has is not answered
pub and_not : (n : ℕ) (a rest : Answer) → number_of a ≢ n → number_of rest ≢ n → number_of (result_and a rest) ≢ n
and_not n (Ok done) rest h g = g
and_not n (Err refusal) rest h g = h

pub or_true : (a b : Bool) → (a ≡ true) ⊎ (b ≡ true) → (a || b) ≡ true
or_true true b e = refl
or_true false b (inl e) = absurd (false≢true e)
or_true false b (inr e) = e
