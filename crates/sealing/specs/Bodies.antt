-- A body sealed and a text opened from the state where the body begins: the second half of `sealed` and of `opened`, which both are this at that state.
-- Assumes nothing.
use Rattle.std.specs.Prelude.{cond, List, ◌++◌, ℕ}
use Rattle.std.proofs.Math.Option.{Option, none, some}
use Rattle.norx.specs.Norx.{Width, State, body_mark, trailer_mark, after_part, ciphertext, message, tag_of, same, body_part, tag_part}

-- key is the four words of the key
module _ (w : Width) (l t : ℕ) (key : List ℕ) (s : State) where
  unfoldable pub tag_from : List ℕ → List ℕ → List ℕ
  tag_from body trailer = tag_of w l t key (after_part w l trailer_mark (after_part w l body_mark s body) trailer)

  unfoldable pub sealed_from : List ℕ → List ℕ → List ℕ
  sealed_from body trailer = ciphertext w l s body ++ tag_from body trailer

  unfoldable pub opened_from : List ℕ → List ℕ → Option (List ℕ)
  opened_from text trailer =
      let m = message w l s (body_part t text) in
      cond (same (tag_part t text) (tag_from m trailer)) (some m) none
