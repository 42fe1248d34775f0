-- How many times P runs in a sealing: the sealing of Norx.antt once more, step by step, with each P counted where it has one; and the number as a formula.
-- Assumes nothing.
use Rattle.std.specs.Prelude.{◌≡◌, cond, List, [], ◌++◌, ℕ, zero, suc, ◌+◌, ◌/◌, eqb, length, take}
use Rattle.norx.specs.Norx.{Width, bits, rate, header_mark, body_mark, trailer_mark, tag_mark, run, State, row, rows, row_at, row_of, bytes_of_row, xor_row, p_of, constants, keyed, block_count, block, xor_block, rate_of, marked, sealed}

-- ---- Each P counted

-- a sealing under way: its state, the ciphertext so far, and how many times P ran
pub record Counted : Type 0 where
  pub state : State
  pub text : List ℕ
  pub runs : ℕ

-- P, which is one run more
unfoldable pub ran : Width → ℕ → Counted → Counted
ran w l c = record { state = p_of w l c.state; text = c.text; runs = c.runs + 1 }

-- a step in which P does not run
unfoldable pub changed : (State → State) → Counted → Counted
changed f c = record { state = f c.state; text = c.text; runs = c.runs }

-- the first n bytes of s0..s11 are written
unfoldable pub written : Width → ℕ → Counted → Counted
written w n c = record { state = c.state; text = c.text ++ take n (rate_of w c.state); runs = c.runs }

-- 1. Start
unfoldable pub counted_start : Width → ℕ → ℕ → List ℕ → List ℕ → Counted
counted_start w l t k n =
    let s = rows n k (row_at (constants w) 2) (xor_row (row_at (constants w) 3) (row (bits w) l 1 t)) in
    changed (keyed k) (ran w l (record { state = s; text = []; runs = 0 }))

-- 3. For each block: xor the mark into s15, apply P, xor the block into s0..s11
unfoldable pub counted_block : Width → ℕ → ℕ → List ℕ → Counted → Counted
counted_block w l m b c = changed (λ s. xor_block w s b) (ran w l (changed (marked m) c))

unfoldable pub counted_blocks : Width → ℕ → ℕ → Counted → List ℕ → ℕ → Counted
counted_blocks w l m c d zero = c
counted_blocks w l m c d (suc i) = counted_block w l m (block (rate w) d i) (counted_blocks w l m c d i)

unfoldable pub counted_part : Width → ℕ → ℕ → Counted → List ℕ → Counted
counted_part w l m c d = counted_blocks w l m c d (block_count (rate w) (length d))

-- for body blocks the ciphertext is the new s0..s11; of the padded block only the n mod R first bytes are kept
unfoldable pub counted_body_blocks : Width → ℕ → Counted → List ℕ → ℕ → Counted
counted_body_blocks w l c d zero = c
counted_body_blocks w l c d (suc i) = written w (length (run (rate w) i d)) (counted_block w l body_mark (block (rate w) d i) (counted_body_blocks w l c d i))

unfoldable pub counted_body : Width → ℕ → Counted → List ℕ → Counted
counted_body w l c d = counted_body_blocks w l c d (block_count (rate w) (length d))

-- 5. Finish: xor 08 into s15, P, key into s12..s15, P, key into s12..s15
unfoldable pub counted_finish : Width → ℕ → List ℕ → Counted → Counted
counted_finish w l k c = changed (keyed k) (ran w l (changed (keyed k) (ran w l (changed (marked tag_mark) c))))

module _ (w : Width) (l t : ℕ) (key nonce header body trailer : List ℕ) where
  -- a whole sealing, to the end of its finish
  unfoldable pub counted : Counted
  counted =
      let k = row_of w key in
      let s = counted_part w l header_mark (counted_start w l t k (row_of w nonce)) header in
      counted_finish w l k (counted_part w l trailer_mark (counted_body w l s body) trailer)

  -- its ciphertext followed by its tag
  unfoldable pub counted_text : List ℕ
  counted_text = counted.text ++ take (t / 8) (bytes_of_row w (row_at counted.state 3))

  -- the number in the definition
  unfoldable pub counted_runs : ℕ
  counted_runs = counted.runs

-- ---- The formula

-- of a part of n bytes, in blocks of R: none where it is empty, and else floor(n/R) + 1
unfoldable pub part_runs : ℕ → ℕ → ℕ
part_runs R n = cond (eqb n 0) 0 (n / R + 1)

-- 3, and those of header, body and trailer by their lengths
abbrev pub runs_by : ℕ → ℕ → ℕ → ℕ → ℕ
runs_by R header body trailer = 3 + (part_runs R header + (part_runs R body + part_runs R trailer))

abbrev pub sealing_runs : Width → ℕ → ℕ → ℕ → ℕ
sealing_runs w header body trailer = runs_by (rate w) header body trailer

-- ---- What is to be shown of both: counting changes nothing of a sealing, and the number is the formula's, whatever the lengths

pub record CountsSealing (w : Width) : Type 0 where
  pub same_text : (l t : ℕ) (key nonce header body trailer : List ℕ) → counted_text w l t key nonce header body trailer ≡ sealed w l t key nonce header body trailer
  pub by_formula : (l t : ℕ) (key nonce header body trailer : List ℕ)
      → counted_runs w l t key nonce header body trailer ≡ sealing_runs w (length header) (length body) (length trailer)
