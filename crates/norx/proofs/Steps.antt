-- What code shows of G, of the two steps of a round and of P, from what its calls give, at every width.
-- Assumes nothing.
use mathlib.Core.Path.{◌≡◌, refl, ap, ◌∙◌}
use mathlib.Core.List.{List}
use lib.Bits.{bit_xor, xor_comm}
use Prim.Native.Nat.{ℕ, ◌+◌}
use native.Mathlib.Numerals.{add-one}
use Rattle.norx.specs.Norx.{Width, r0, r1, r2, r3, ror, h_of, g_of, State, row, rows, word_at, row_at, xor_row, columns, on_columns, on_diagonals, f_of, p_of}
use Rattle.norx.specs.Rows.{h_row, ror_row, stepped}

-- the eight steps of G, each word xored with the H that was just made
by_steps : (w : Width) (a b c d : ℕ) {a1 b1 c1 d1 a2 b2 c2 d2 : ℕ}
    → a1 ≡ h_of w a b → d1 ≡ ror w (r0 w) (bit_xor a1 d) → c1 ≡ h_of w c d1 → b1 ≡ ror w (r1 w) (bit_xor c1 b)
    → a2 ≡ h_of w a1 b1 → d2 ≡ ror w (r2 w) (bit_xor a2 d1) → c2 ≡ h_of w c1 d2 → b2 ≡ ror w (r3 w) (bit_xor c2 b1)
    → row a2 b2 c2 d2 ≡ g_of w a b c d
unfolding g_of
by_steps w a b c d {a1} {b1} {c1} {d1} {a2} {b2} {c2} {d2} e1 e2 e3 e4 e5 e6 e7 e8 =
    let e4' : b1 ≡ ror w (r1 w) (bit_xor b c1) = e4 ∙ ap (ror w (r1 w)) (xor_comm c1 b) in
    let e8' : b2 ≡ ror w (r3 w) (bit_xor b1 c2) = e8 ∙ ap (ror w (r3 w)) (xor_comm c2 b1) in
    rw (e8', e7, e6, e5, e4', e3, e2, e1)

-- four steps by rows are G on the columns of four rows
pub by_rows : (w : Width) (a b c d : List ℕ) {k m n o : State} → k ≡ stepped w (r0 w) a b d → m ≡ stepped w (r1 w) c (row_at k 1) b
    → n ≡ stepped w (r2 w) (row_at k 0) (row_at m 1) (row_at k 1) → o ≡ stepped w (r3 w) (row_at m 0) (row_at n 1) (row_at m 1)
    → rows (row_at n 0) (row_at o 1) (row_at o 0) (row_at n 1) ≡ on_columns (g_of w) (rows a b c d)
unfolding on_columns h_row ror_row xor_row
by_rows w a b c d e f g h =
    rw (h, g, f, e)
    (λ i. columns
    (by_steps w (word_at a 0) (word_at b 0) (word_at c 0) (word_at d 0) refl refl refl refl refl refl refl refl i)
    (by_steps w (word_at a 1) (word_at b 1) (word_at c 1) (word_at d 1) refl refl refl refl refl refl refl refl i)
    (by_steps w (word_at a 2) (word_at b 2) (word_at c 2) (word_at d 2) refl refl refl refl refl refl refl refl i)
    (by_steps w (word_at a 3) (word_at b 3) (word_at c 3) (word_at d 3) refl refl refl refl refl refl refl refl i))

-- f on the columns of the rows into which the diagonals are picked is f on the diagonals, once they are put back
pub by_picking : (f : ℕ → ℕ → ℕ → ℕ → List ℕ) (s : State) {t : State}
    → t ≡ on_columns f
    (rows (row_at s 0)
    (row (word_at (row_at s 1) 1) (word_at (row_at s 1) 2) (word_at (row_at s 1) 3) (word_at (row_at s 1) 0))
    (row (word_at (row_at s 2) 2) (word_at (row_at s 2) 3) (word_at (row_at s 2) 0) (word_at (row_at s 2) 1))
    (row (word_at (row_at s 3) 3) (word_at (row_at s 3) 0) (word_at (row_at s 3) 1) (word_at (row_at s 3) 2)))
    → rows (row_at t 0)
    (row (word_at (row_at t 1) 3) (word_at (row_at t 1) 0) (word_at (row_at t 1) 1) (word_at (row_at t 1) 2))
    (row (word_at (row_at t 2) 2) (word_at (row_at t 2) 3) (word_at (row_at t 2) 0) (word_at (row_at t 2) 1))
    (row (word_at (row_at t 3) 1) (word_at (row_at t 3) 2) (word_at (row_at t 3) 3) (word_at (row_at t 3) 0))
    ≡ on_diagonals f s
unfolding on_columns on_diagonals
by_picking f s e = rw e refl

-- one round more
pub by_round : (w : Width) (s : State) (i : ℕ) {t n : State} → t ≡ p_of w i s → n ≡ f_of w t → n ≡ p_of w (i + 1) s
unfolding p_of
by_round w s i e f = rw (add-one, f, e)
