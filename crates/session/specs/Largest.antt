-- The largest number of runs of P that a close reports, of any session; and calls behind a start that lead to it.
-- Assumes nothing.
use Rattle.std.specs.Prelude.{ℕ, ◌≤◌, ◌≡◌, List}
use Rattle.rules.specs.Runs.{most_runs}
use Rattle.places.specs.declared.terms.Edition.{Edition}
use Rattle.places.specs.declared.terms.Terms.{Terms}
use Rattle.session.specs.Sessions.{Kind, close_runs}
use Rattle.session.specs.Offered.{Close, Call}
use Rattle.session.specs.Promises.{Started, session_after, OwnClose}

-- calls behind a start, and then a close of the session's own, which reports so many
pub record ClosesWith (K : Kind) (key nonce : List ℕ) (T : Terms) (runs : ℕ) : Type 0 where
  pub calls : List Call
  pub closing : Close
  pub own : OwnClose K key nonce T calls closing
  pub reports : close_runs K (session_after K key nonce T calls) closing.edition closing.tag ≡ runs

-- it is that of one call: every start can be followed so, and no close of any session at all reports more
pub record LargestClose (K : Kind) : Type 0 where
  pub reached : (key nonce : List ℕ) (T : Terms) → Started K key nonce T → ClosesWith K key nonce T (most_runs K.width)
  pub never_more : (s : K.Session) (edition : Edition) (tag : List ℕ) → close_runs K s edition tag ≤ most_runs K.width
