-- The promises hold of the two kinds of session, at every width.
-- Assumes nothing.
use Rattle.std.specs.Prelude.{refl}
use Rattle.norx.specs.Norx.{Width}
use Rattle.session.specs.Kinds.{sealing_of, checking_of}
use Rattle.session.specs.Refusals.{NoCloseAnswers10}
use Rattle.session.specs.Promises.{Promised, OneSealing, OneOpening}
use Rattle.session.specs.Largest.{LargestClose}
use Rattle.session.specs.Ran.{ReportsAllThatRan}
use Rattle.session.proofs.Refused.{Lawful, no_close_answers_10}
use Rattle.session.proofs.Demand.{promised, one_sealing, one_opening}
use Rattle.session.proofs.Largest.{largest_close}
use Rattle.session.proofs.Ran.{reports_all_that_ran}

module _ (X : Type 0) (w : Width) where
  pub lawful_sealing : Lawful (sealing_of X w)
  lawful_sealing = record {
    placed = λ p s k. refl;
    stated = λ p s k. refl;
    keyed = λ p s k. refl;
    answered = λ a s. refl;
    stepped = λ a s. refl;
    tagged = refl;
  }

  pub sealing_promised : Promised (sealing_of X w)
  sealing_promised = promised (sealing_of X w) lawful_sealing

  pub sealing_largest : LargestClose (sealing_of X w)
  sealing_largest = largest_close (sealing_of X w) lawful_sealing

  pub sealing_ran : ReportsAllThatRan (sealing_of X w)
  sealing_ran = reports_all_that_ran (sealing_of X w) lawful_sealing

  pub sealing_no_close_10 : NoCloseAnswers10 (sealing_of X w)
  sealing_no_close_10 = no_close_answers_10 (sealing_of X w) lawful_sealing refl

  pub sealing_one_sealing : OneSealing (sealing_of X w)
  sealing_one_sealing = one_sealing (sealing_of X w) lawful_sealing refl

  pub lawful_checking : Lawful (checking_of X w)
  lawful_checking = record {
    placed = λ p s k. refl;
    stated = λ p s k. refl;
    keyed = λ p s k. refl;
    answered = λ a s. refl;
    stepped = λ a s. refl;
    tagged = refl;
  }

  pub checking_promised : Promised (checking_of X w)
  checking_promised = promised (checking_of X w) lawful_checking

  pub checking_largest : LargestClose (checking_of X w)
  checking_largest = largest_close (checking_of X w) lawful_checking

  pub checking_ran : ReportsAllThatRan (checking_of X w)
  checking_ran = reports_all_that_ran (checking_of X w) lawful_checking

  pub checking_one_opening : OneOpening (checking_of X w)
  checking_one_opening = one_opening (checking_of X w) lawful_checking refl
