-- What one loop over the full blocks of a text does, for each part and either way; the laws in proofs/Turns.antt say that it is NORX.
-- Assumes nothing.
use Rattle.std.specs.Prelude.{Bool, cond, List, [], ◌++◌, ℕ, zero, suc, ◌*◌, eqb, length, take, drop}
use Rattle.norx.specs.Norx.{Width, rate, run, xors, State, xor_block, rate_of, entered}
use Rattle.norx.specs.Blocks.{fulls}

-- l with ys in the place of the n elements from a on
abbrev pub put : List ℕ → ℕ → List ℕ → ℕ → List ℕ
put l a ys n = take a l ++ (ys ++ drop n (drop a l))

-- ---- One block b, at a state e to which its mark and P are done

-- the state with it taken in: as it is or, in opening, as the message of the ciphertext that it is
abbrev pub with_block : Width → Bool → State → List ℕ → State
with_block w opening e b = cond opening (xor_block w e (xors (rate_of w e) b)) (xor_block w e b)

-- what it gives, either way: the rate xored with it
abbrev pub shown_block : Width → State → List ℕ → List ℕ
shown_block w e b = rate_of w (xor_block w e b)

-- an output once that is written at a place of it, where it is asked for
abbrev pub shown_at : Width → Bool → List ℕ → ℕ → State → List ℕ → List ℕ
shown_at w writing out at e b = cond writing (put out at (shown_block w e b) (rate w)) out

-- ---- The first i full blocks of a text

-- the state after them
unfoldable pub after_turns : Width → ℕ → ℕ → Bool → State → List ℕ → ℕ → State
after_turns w l m opening s d zero = s
after_turns w l m opening s d (suc i) = with_block w opening (entered w l m (after_turns w l m opening s d i)) (run (rate w) i d)

-- the bytes that they give, joined
unfoldable pub shown : Width → ℕ → ℕ → Bool → State → List ℕ → ℕ → List ℕ
shown w l m opening s d zero = []
shown w l m opening s d (suc i) = shown w l m opening s d i ++ shown_block w (entered w l m (after_turns w l m opening s d i)) (run (rate w) i d)

-- ---- All of them

-- the state after them
abbrev pub after_all_turns : Width → ℕ → ℕ → Bool → State → List ℕ → State
after_all_turns w l m opening s d = after_turns w l m opening s d (fulls w d)

-- what an output as long as the text then holds: what they give, and behind it what it had; an output of another length stays as it was
abbrev pub out_after_turns : Width → ℕ → ℕ → Bool → State → List ℕ → List ℕ → List ℕ
out_after_turns w l m opening s d out = cond (eqb (length out) (length d)) (shown w l m opening s d (fulls w d) ++ drop (fulls w d * rate w) out) out
