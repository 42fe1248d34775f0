-- A part taken in byte by byte, so that pieces may be cut anywhere: the mark and P are done when a block begins, not when it ends.
-- i is always how many bytes of the part came before.
-- Assumes nothing.
use Rattle.std.specs.Prelude.{cond, List, [], ◌∷◌, ◌++◌, ℕ, zero, suc, ◌%◌, eqb, get_or, replicate}
use Rattle.std.specs.Int.Bits.{bit_xor}
use Rattle.norx.specs.Norx.{Width, rate, State, xor_block, entered, padded, rate_of, body_mark}

-- the bytes l at place j of a block, behind zeros
abbrev pub placed : ℕ → List ℕ → List ℕ
placed j l = replicate j 0 ++ l

-- before byte i: at the start of a block, the mark and P
unfoldable pub entered_at : Width → ℕ → ℕ → State → ℕ → State
entered_at w l m s i = cond (eqb (i % rate w) 0) (entered w l m s) s

-- byte i taken in
abbrev pub fed_byte : Width → ℕ → ℕ → State → ℕ → ℕ → State
fed_byte w l m s i b = xor_block w (entered_at w l m s i) (placed (i % rate w) (b ∷ []))

-- the bytes d taken in
unfoldable pub fed : Width → ℕ → ℕ → State → ℕ → List ℕ → State
fed w l m s i [] = s
fed w l m s i (b ∷ d) = fed w l m (fed_byte w l m s i b) (suc i) d

-- the end of a part of n bytes: nothing where there were none, and else the padding
unfoldable pub ended : Width → ℕ → ℕ → State → ℕ → State
ended w l m s zero = s
ended w l m s (suc n) = xor_block w (entered_at w l m s (suc n)) (padded (rate w) (replicate (suc n % rate w) 0))

-- the ciphertext of the bytes d of a body
unfoldable pub fed_text : Width → ℕ → State → ℕ → List ℕ → List ℕ
fed_text w l s i [] = []
fed_text w l s i (b ∷ d) =
    let t = fed_byte w l body_mark s i b in
    get_or (rate_of w t) (i % rate w) 0 ∷ fed_text w l t (suc i) d

-- the message of the ciphertext bytes c of a body: each byte is the ciphertext's xored with the rate's, and the state takes in the message
unfoldable pub unfed : Width → ℕ → State → ℕ → List ℕ → List ℕ
unfed w l s i [] = []
unfed w l s i (x ∷ c) =
    let b = bit_xor (get_or (rate_of w (entered_at w l body_mark s i)) (i % rate w) 0) x in
    b ∷ unfed w l (fed_byte w l body_mark s i b) (suc i) c
