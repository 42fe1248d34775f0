-- A body sealed and a text opened from the state behind the header are `sealed` and `opened`, at every width.
-- Assumes nothing.
use mathlib.Core.Path.{◌≡◌, refl, ap, ap₂, ◌∙◌}
use mathlib.Core.Bool.{cond}
use mathlib.Core.List.{List}
use mathlib.Core.Option.{Option}
use Prim.Native.Nat.{ℕ, ◌+◌}
use lib.Dec.{eqb}
use lib.ListN.{length, replicate}
use Rattle.answers.specs.Answers.{Answer}
use Rattle.std.specs.Prelude.{Err}
use Rattle.norx.specs.Norx.{Width, row_bytes, tag_bits, State, row_of, header_mark, start, after_part, before_body, tag, sealed, recovered, opened}
use Rattle.answers.specs.declared.Refusal.TheVariants.{OutputLength}
use Rattle.answers.proofs.Tests.{cond_equal}
use Rattle.rules.specs.Rules.{tag_bytes}
use Rattle.rules.specs.Calls.{answer_of, out_of}
use Rattle.sealing.specs.Bodies.{tag_from, sealed_from, opened_from}

-- the words of key or nonce where they have the length of a row, as code loads them
abbrev pub loaded : Width → List ℕ → List ℕ
loaded w b = cond (eqb (length b) (row_bytes w)) (row_of w b) (replicate 4 0)

module _ (w : Width) (l : ℕ) (key nonce header text trailer : List ℕ) where
  pub sealed_whole : sealed_from w l (tag_bits w) (row_of w key) (before_body w l (tag_bits w) key nonce header) text trailer ≡ sealed w l (tag_bits w) key nonce header text trailer
  unfolding sealed tag sealed_from tag_from
  sealed_whole = refl

  pub opened_whole : opened_from w l (tag_bits w) (row_of w key) (before_body w l (tag_bits w) key nonce header) text trailer ≡ opened w l (tag_bits w) key nonce header text trailer
  unfolding opened recovered tag opened_from tag_from
  opened_whole = refl

  module _ (key_long : length key ≡ row_bytes w) {k : List ℕ} {s : State} (hk : k ≡ loaded w key)
      (hs : s ≡ after_part w l header_mark (start w l (tag_bits w) k (row_of w nonce)) header) where
    key_is : k ≡ row_of w key
    key_is = cond_equal (row_of w key) (replicate 4 0) (length key) (row_bytes w) key_long hk

    state_is : s ≡ before_body w l (tag_bits w) key nonce header
    unfolding before_body
    state_is = hs ∙ ap (λ (x : List ℕ). after_part w l header_mark (start w l (tag_bits w) x (row_of w nonce)) header) key_is

    pub sealed_of_whole : (o : List ℕ) {y : List ℕ} → length o ≡ length text + tag_bytes w
        → y ≡ cond (eqb (length o) (length text + tag_bytes w)) (sealed_from w l (tag_bits w) k s text trailer) o
        → y ≡ sealed w l (tag_bits w) key nonce header text trailer
    sealed_of_whole o long e =
        cond_equal _ o (length o) (length text + tag_bytes w) long e
        ∙ ap₂ (λ (x : List ℕ) (z : State). sealed_from w l (tag_bits w) x z text trailer) key_is state_is ∙ sealed_whole

    opened-is : opened_from w l (tag_bits w) k s text trailer ≡ opened w l (tag_bits w) key nonce header text trailer
    opened-is = ap₂ (λ (x : List ℕ) (z : State). opened_from w l (tag_bits w) x z text trailer) key_is state_is ∙ opened_whole

    pub opened_of_whole : (o : List ℕ) {r : Answer} {y : List ℕ} → length text ≡ length o + tag_bytes w
        → r ≡ cond (eqb (length text) (length o + tag_bytes w)) (answer_of (opened_from w l (tag_bits w) k s text trailer)) (Err OutputLength)
        → y ≡ cond (eqb (length text) (length o + tag_bytes w)) (out_of (opened_from w l (tag_bits w) k s text trailer) (length o)) o
        → (r ≡ answer_of (opened w l (tag_bits w) key nonce header text trailer)) × (y ≡ out_of (opened w l (tag_bits w) key nonce header text trailer) (length o))
    opened_of_whole o long e f = (
      cond_equal _ _ (length text) (length o + tag_bytes w) long e ∙ ap answer_of opened-is,
      cond_equal _ _ (length text) (length o + tag_bytes w) long f ∙ ap (λ (x : Option (List ℕ)). out_of x (length o)) opened-is,
    )
