-- A full block of ciphertext in the place of s0..s11 is the recovered message taken in.
-- Assumes nothing.
use mathlib.Core.Path.{◌≡◌, sym, ap, ◌∙◌}
use mathlib.Core.List.{List, [], ◌∷◌, ◌++◌}
use Prim.Native.Nat.{ℕ, suc, ◌*◌, ◌^◌, ◌<◌}
use native.Mathlib.Nat.{zero-mul, suc-mul, add_comm, le_of_eq}
use lib.Bits.{bit_xor}
use lib.ListN.{length, take, drop}
use lib.Seq.{take_at, drop_at, drop-drop, take_all}
use Rattle.norx.specs.Norx.{Width, word32, word64, word_bytes, row_bytes, word_of, bytes_of, run, xors, State, rows, row_at, row_of, bytes_of_row, xor_row, xor_block, rate_of}
use Rattle.norx.proofs.Xor.{twice_xor, run_xors}
use Rattle.norx.proofs.Bytes.{Bytes, bytes_run, bytes_bytes_of}
use Rattle.norx.proofs.Words.{length-bytes_of, length-bytes_of_row, word_bytes_lem, word_xors}
use Rattle.norx.specs.Whole.{Word, Words, four, Whole, four_rows}

-- ---- runs of lists joined

run_head : (n : ℕ) (a b : List ℕ) → length a ≡ n → run n 0 (a ++ b) ≡ a
run_head n a b h = ap (λ (k : ℕ). take n (drop k (a ++ b))) (zero-mul n) ∙ take_at a b n h

run_behind : (n j : ℕ) (a b : List ℕ) → length a ≡ n → run n (suc j) (a ++ b) ≡ run n j b
run_behind n j a b h =
    ap (λ (k : ℕ). take n (drop k (a ++ b))) (suc-mul j n ∙ add_comm (j * n) n)
    ∙ ap (take n) (sym (drop-drop (j * n) n (a ++ b)) ∙ ap (drop (j * n)) (drop_at a b n h))

run_only : (n : ℕ) (a : List ℕ) → length a ≡ n → run n 0 a ≡ a
run_only n a h = ap (λ (k : ℕ). take n (drop k a)) (zero-mul n) ∙ take_all n a (le_of_eq h)

-- ---- words

word_fits : (w : Width) (x : ℕ) → Word w x → x < 256 ^ word_bytes w
word_fits word32 x h = h
word_fits word64 x h = h

word_back : (w : Width) (x : ℕ) (p : List ℕ) → Word w x → Bytes p → bit_xor x (word_of (xors (bytes_of (word_bytes w) x) p)) ≡ word_of p
word_back w x p h hp =
    ap (bit_xor x)
    (word_xors (bytes_of (word_bytes w) x) p (bytes_bytes_of (word_bytes w) x) hp
    ∙ ap (λ (y : ℕ). bit_xor y (word_of p)) (word_bytes_lem (word_bytes w) x (word_fits w x h)))
    ∙ twice_xor x (word_of p)

-- ---- rows

module _ (w : Width) (a b c d : ℕ) where
  abbrev bytes_of4 : List ℕ
  bytes_of4 = bytes_of_row w (a ∷ b ∷ c ∷ d ∷ [])

  run_0 : run (word_bytes w) 0 bytes_of4 ≡ bytes_of (word_bytes w) a
  unfolding bytes_of_row
  run_0 = run_head (word_bytes w) (bytes_of (word_bytes w) a) _ (length-bytes_of (word_bytes w) a)

  run_1 : run (word_bytes w) 1 bytes_of4 ≡ bytes_of (word_bytes w) b
  unfolding bytes_of_row
  run_1 =
      run_behind (word_bytes w) 0 (bytes_of (word_bytes w) a) _ (length-bytes_of (word_bytes w) a)
      ∙ run_head (word_bytes w) (bytes_of (word_bytes w) b) _ (length-bytes_of (word_bytes w) b)

  run_2 : run (word_bytes w) 2 bytes_of4 ≡ bytes_of (word_bytes w) c
  unfolding bytes_of_row
  run_2 =
      run_behind (word_bytes w) 1 (bytes_of (word_bytes w) a) _ (length-bytes_of (word_bytes w) a)
      ∙ run_behind (word_bytes w) 0 (bytes_of (word_bytes w) b) _ (length-bytes_of (word_bytes w) b)
      ∙ run_head (word_bytes w) (bytes_of (word_bytes w) c) _ (length-bytes_of (word_bytes w) c)

  run_3 : run (word_bytes w) 3 bytes_of4 ≡ bytes_of (word_bytes w) d
  unfolding bytes_of_row
  run_3 =
      run_behind (word_bytes w) 2 (bytes_of (word_bytes w) a) _ (length-bytes_of (word_bytes w) a)
      ∙ run_behind (word_bytes w) 1 (bytes_of (word_bytes w) b) _ (length-bytes_of (word_bytes w) b)
      ∙ run_behind (word_bytes w) 0 (bytes_of (word_bytes w) c) _ (length-bytes_of (word_bytes w) c)
      ∙ run_only (word_bytes w) (bytes_of (word_bytes w) d) (length-bytes_of (word_bytes w) d)

row_back : (w : Width) (r x : List ℕ) → Words w r → Bytes x → xor_row r (row_of w (xors (bytes_of_row w r) x)) ≡ row_of w x
unfolding xor_row
row_back w r x (four {a} {b} {c} {d} ha hb hc hd) hx =
    λ k. word 0 a (run_0 w a b c d) ha k ∷ word 1 b (run_1 w a b c d) hb k ∷ word 2 c (run_2 w a b c d) hc k ∷ word 3 d (run_3 w a b c d) hd k ∷ []
  where
    word : (j y : ℕ) → run (word_bytes w) j (bytes_of_row w (a ∷ b ∷ c ∷ d ∷ [])) ≡ bytes_of (word_bytes w) y → Word w y
        → bit_xor y (word_of (run (word_bytes w) j (xors (bytes_of_row w (a ∷ b ∷ c ∷ d ∷ [])) x))) ≡ word_of (run (word_bytes w) j x)
    word j y e h =
        ap (λ (p : List ℕ). bit_xor y (word_of p))
        (run_xors (word_bytes w) j (bytes_of_row w (a ∷ b ∷ c ∷ d ∷ [])) x ∙ ap (λ (p : List ℕ). xors p (run (word_bytes w) j x)) e)
        ∙ word_back w y (run (word_bytes w) j x) h (bytes_run (word_bytes w) j x hx)

-- ---- the block

pub replaced : (w : Width) (s : State) (x : List ℕ) → Whole w s → Bytes x
    → rows (row_of w (run (row_bytes w) 0 x)) (row_of w (run (row_bytes w) 1 x)) (row_of w (run (row_bytes w) 2 x)) (row_at s 3) ≡ xor_block w s (xors (rate_of w s) x)
unfolding xor_block rate_of
replaced w s x (four_rows {a} {b} {c} {d} ha hb hc hd) hx =
    sym
    (λ k. one 0 a ha (run_head (row_bytes w) (bytes_of_row w a) _ (length-bytes_of_row w a)) k
    ∷ one 1 b hb (run_behind (row_bytes w) 0 (bytes_of_row w a) _ (length-bytes_of_row w a) ∙ run_head (row_bytes w) (bytes_of_row w b) _ (length-bytes_of_row w b)) k
    ∷ one 2 c hc
    (run_behind (row_bytes w) 1 (bytes_of_row w a) _ (length-bytes_of_row w a) ∙ run_behind (row_bytes w) 0 (bytes_of_row w b) _ (length-bytes_of_row w b)
    ∙ run_only (row_bytes w) (bytes_of_row w c) (length-bytes_of_row w c)) k
    ∷ d ∷ [])
  where
    one : (i : ℕ) (r : List ℕ) → Words w r → run (row_bytes w) i (bytes_of_row w a ++ (bytes_of_row w b ++ bytes_of_row w c)) ≡ bytes_of_row w r
        → xor_row r (row_of w (run (row_bytes w) i (xors (bytes_of_row w a ++ (bytes_of_row w b ++ bytes_of_row w c)) x))) ≡ row_of w (run (row_bytes w) i x)
    one i r h e =
        ap (λ (p : List ℕ). xor_row r (row_of w p))
        (run_xors (row_bytes w) i (bytes_of_row w a ++ (bytes_of_row w b ++ bytes_of_row w c)) x ∙ ap (λ (p : List ℕ). xors p (run (row_bytes w) i x)) e)
        ∙ row_back w r (run (row_bytes w) i x) h (bytes_run (row_bytes w) i x hx)
