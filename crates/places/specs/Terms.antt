-- What a session is begun for, and which edition a session, a piece or a close is of.
-- Assumes nothing.
use Rattle.std.specs.Prelude.{ℕ, Bool, List, eqb, Ok}
use Rattle.std.specs.Result.{result_and}
use Rattle.norx.specs.Front.{front}
use Rattle.answers.specs.declared.Refusal.TheVariants.{OtherRevision, OtherJob}
use Rattle.answers.specs.Answers.{Answer, need_of}
use Rattle.rules.specs.Rules.{rounds_ok}
use Rattle.places.specs.declared.terms.Edition.{Edition}
use Rattle.places.specs.declared.terms.Terms.{Terms}

-- the terms of a closed session: every number in them is zero
abbrev pub no_terms : Terms
no_terms = record { rounds = 0; edition = record { job = 0; revision = 0 } }

-- terms that a sound session may have: the rounds are 4 or 6
abbrev pub terms_ok : Terms → Bool
terms_ok T = rounds_ok T.rounds

-- what an edition that is given is answered: 12, 6, and 0 where it is the session's own
unfoldable pub of_edition : Edition → Edition → Answer
of_edition given own = need_of (eqb given.job own.job) OtherJob (need_of (eqb given.revision own.revision) OtherRevision (Ok tt))

-- the same as a link of the chains of refusals
unfoldable pub edition_link : Edition → Edition → Answer → Answer
edition_link given own rest = result_and (of_edition given own) rest

-- what stands in front of the note in the header of a session
unfoldable pub front_of : Edition → List ℕ
front_of E = front E.job E.revision
