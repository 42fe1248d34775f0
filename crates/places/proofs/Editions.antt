-- The test of the edition, as a link of a chain of refusals; and the front of an edition: how long it is, and that it is bytes.
-- Assumes nothing.
use mathlib.Core.Path.{◌≡◌, refl}
use mathlib.Core.Bool.{true, false}
use mathlib.Core.Logic.{◌≢◌}
use Prim.Native.Nat.{ℕ, ◌≤◌}
use native.Mathlib.Omega.{arith}
use borrow.Author.Tests.{eq-eqb, ne_eqb, eqb-true}
use lib.Dec.{eqb}
use lib.ListN.{length}
use Rattle.std.specs.Prelude.{Ok, Err}
use Rattle.norx.specs.Norx.{bytes_of}
use Rattle.norx.specs.Front.{eight_bytes, front, front_bytes}
use Rattle.norx.proofs.Bytes.{Bytes, bytes_append, bytes_bytes_of}
use Rattle.answers.specs.declared.Refusal.TheVariants.{OtherRevision, OtherJob}
use Rattle.answers.specs.Answers.{Answer, number_of, done_of, need_of}
use Rattle.answers.proofs.Chain.{passed, link_not, both_done, and_not}
use Rattle.places.specs.declared.terms.Edition.{Edition}
use Rattle.places.specs.Terms.{of_edition, edition_link, front_of}

module _ (given own : Edition) (rest : Answer) where
  -- where the link gives no refusal, neither its own answer nor the rest of the chain is one
  each_passed : done_of (edition_link given own rest) ≡ true → (done_of (of_edition given own) ≡ true) × (done_of rest ≡ true)
  unfolding edition_link
  each_passed h = both_done (of_edition given own) rest h

  pub edition_passed : done_of (edition_link given own rest) ≡ true → done_of rest ≡ true
  edition_passed h = (each_passed h).1

  -- and the two editions are one
  pub edition_same : done_of (edition_link given own rest) ≡ true → given ≡ own
  unfolding of_edition
  edition_same h =
      let job = passed _ _ _ (each_passed h).0 in
      let jobs : given.job ≡ own.job = eqb-true given.job own.job job.0 in
      let revisions : given.revision ≡ own.revision = eqb-true given.revision own.revision (passed _ _ _ job.1).0 in
      λ i. record { job = jobs i; revision = revisions i }

  -- an edition is never answered 9 or 10
  pub edition_not : (n : ℕ) → 9 ≤ n → n ≤ 10 → number_of rest ≢ n → number_of (edition_link given own rest) ≢ n
  unfolding edition_link of_edition
  edition_not n least most h =
      and_not n (of_edition given own) rest
      (link_not n (eqb given.job own.job) OtherJob _ (λ e. omega arith)
      (link_not n (eqb given.revision own.revision) OtherRevision (Ok tt) (λ e. omega arith) (λ e. omega arith))) h

  -- another job is answered 12, whatever its revision is and whatever follows
  pub other_job : given.job ≢ own.job → edition_link given own rest ≡ Err OtherJob
  unfolding edition_link of_edition need_of
  other_job h = let apart : eqb given.job own.job ≡ false = ne_eqb given.job own.job h in rw apart

  -- and the same job never
  pub same_job : given.job ≡ own.job → number_of rest ≢ 12 → number_of (edition_link given own rest) ≢ 12
  unfolding edition_link of_edition need_of
  same_job h g =
      let same : eqb given.job own.job ≡ true = eq-eqb given.job own.job h in
      rw same
      (and_not 12 (need_of (eqb given.revision own.revision) OtherRevision (Ok tt)) rest
      (link_not 12 (eqb given.revision own.revision) OtherRevision (Ok tt) (λ e. omega arith) (λ e. omega arith)) g)

-- a session's own edition is not refused
pub edition_own : (E : Edition) (rest : Answer) → edition_link E E rest ≡ rest
unfolding edition_link of_edition need_of
edition_own E rest =
    let job : eqb E.job E.job ≡ true = eq-eqb E.job E.job refl in
    let revision : eqb E.revision E.revision ≡ true = eq-eqb E.revision E.revision refl in
    rw (job, revision)

pub front_long : (E : Edition) → length (front_of E) ≡ front_bytes
unfolding front_of front eight_bytes bytes_of
front_long E = refl

pub front_bytes_lem : (E : Edition) → Bytes (front_of E)
unfolding front_of front eight_bytes
front_bytes_lem E = bytes_append (eight_bytes E.job) (eight_bytes E.revision) (bytes_bytes_of 8 E.job) (bytes_bytes_of 8 E.revision)
