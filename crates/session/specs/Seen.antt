-- What a contract sees of a session, at a width whose words are of the type X: of either kind it is what both hold. And what it sees of what a call gives.
-- Assumes nothing.
use Rattle.std.specs.Prelude.{ℕ, List}
use Rattle.norx.specs.Norx.{State}
use Rattle.answers.specs.Answers.{Answer}
use Rattle.places.specs.declared.Place.{Place}

pub record Session (X : Type 0) : Type 0 where
  pub state : State
  pub key : List ℕ
  pub place : Place

pub record Sealing (X : Type 0) : Type 0 where
  pub 0 : Session X

pub record Checking (X : Type 0) : Type 0 where
  pub 0 : Session X

pub record Step (S : Type 0) : Type 0 where
  pub answer : Answer
  pub session : S

-- what a close gives: `Close` of the code, and not the call of that name in Offered.antt
pub record Closing (S : Type 0) : Type 0 where
  pub answer : Answer
  pub runs : ℕ
  pub session : S
