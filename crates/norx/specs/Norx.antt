-- NORX 3.0 with parallelism 1, over the word width w, the rounds l and the tag bits t.
-- A byte and a word are numbers, a text is the list of its bytes, and the state is four rows of four words.
-- Assumes nothing.
use Rattle.std.specs.Prelude.{Bool, true, false, ◌&&◌, cond, List, [], ◌∷◌, ◌++◌, ℕ, zero, suc, ◌+◌, ◌-◌, ◌*◌, ◌/◌, ◌%◌, ◌^◌, ltb, eqb, length, get_or, take, drop, set, replicate}
use Rattle.std.proofs.Math.Option.{Option, none, some}
use Rattle.std.specs.Int.Bits.{bit_and, bit_xor}

-- ---- Two widths

pub data Width : Type 0 where
  word32 word64 : Width

abbrev pub bits : Width → ℕ
bits word32 = 32
bits word64 = 64

abbrev pub word_bytes : Width → ℕ
word_bytes word32 = 4
word_bytes word64 = 8

-- the bytes of a row; a key and a nonce are a row each
abbrev pub row_bytes : Width → ℕ
row_bytes w = 4 * word_bytes w

-- the rate R, in bytes: 12 words
abbrev pub rate : Width → ℕ
rate w = 12 * word_bytes w

-- the tag bits that the library uses; the definition has t as a parameter
abbrev pub tag_bits : Width → ℕ
tag_bits word32 = 128
tag_bits word64 = 256

-- the rotations
abbrev pub r0 : Width → ℕ
r0 word32 = 8
r0 word64 = 8

abbrev pub r1 : Width → ℕ
r1 word32 = 11
r1 word64 = 19

abbrev pub r2 : Width → ℕ
r2 word32 = 16
r2 word64 = 40

abbrev pub r3 : Width → ℕ
r3 word32 = 31
r3 word64 = 63

-- the marks of header, body, trailer and tag
abbrev pub header_mark : ℕ
header_mark = 0x01

abbrev pub body_mark : ℕ
body_mark = 0x02

abbrev pub trailer_mark : ℕ
trailer_mark = 0x04

abbrev pub tag_mark : ℕ
tag_mark = 0x08

-- ---- Words and bytes: words are little-endian
-- the word of some bytes, the least first
unfoldable pub word_of : List ℕ → ℕ
word_of [] = 0
word_of (b ∷ bs) = word_of bs * 256 + b

-- the n low bytes of a word, the least first
unfoldable pub bytes_of : ℕ → ℕ → List ℕ
bytes_of zero x = []
bytes_of (suc n) x = x % 256 ∷ bytes_of n (x / 256)

-- the i'th run of n elements; the last may have fewer
abbrev pub run : ℕ → ℕ → List ℕ → List ℕ
run n i l = take n (drop (i * n) l)

-- two lists xored byte by byte; the longer one's rest stands as it is
unfoldable pub xors : List ℕ → List ℕ → List ℕ
xors [] b = b
xors (x ∷ a) [] = x ∷ a
xors (x ∷ a) (y ∷ b) = bit_xor x y ∷ xors a b

-- ---- The state: s_k is the word in row k / 4 at place k % 4

abbrev pub State : Type 0
State = List (List ℕ)

abbrev pub row : ℕ → ℕ → ℕ → ℕ → List ℕ
row a b c d = a ∷ b ∷ c ∷ d ∷ []

abbrev pub rows : List ℕ → List ℕ → List ℕ → List ℕ → State
rows a b c d = a ∷ b ∷ c ∷ d ∷ []

-- the word at place j of a row, and row i of a state
abbrev pub word_at : List ℕ → ℕ → ℕ
word_at r j = get_or r j 0

abbrev pub row_at : State → ℕ → List ℕ
row_at s i = get_or s i []

-- a row of bytes as words, and back
abbrev pub row_of : Width → List ℕ → List ℕ
row_of w b = row (word_of (run (word_bytes w) 0 b)) (word_of (run (word_bytes w) 1 b)) (word_of (run (word_bytes w) 2 b)) (word_of (run (word_bytes w) 3 b))

unfoldable pub bytes_of_row : Width → List ℕ → List ℕ
bytes_of_row w r =
    bytes_of (word_bytes w) (word_at r 0) ++ (bytes_of (word_bytes w) (word_at r 1)
    ++ (bytes_of (word_bytes w) (word_at r 2) ++ bytes_of (word_bytes w) (word_at r 3)))

unfoldable pub xor_row : List ℕ → List ℕ → List ℕ
xor_row r q =
    row (bit_xor (word_at r 0) (word_at q 0)) (bit_xor (word_at r 1) (word_at q 1)) (bit_xor (word_at r 2) (word_at q 2)) (bit_xor (word_at r 3) (word_at q 3))

-- ---- The core permutation
-- x rotated right by r: the r low bits go to the top, the others down by r
unfoldable pub ror : Width → ℕ → ℕ → ℕ
ror w r x = x % 2 ^ r * 2 ^ (bits w - r) + x / 2 ^ r

-- H(x, y) = x xor y xor ((x and y) shifted left by 1), bits beyond the word dropped
unfoldable pub h_of : Width → ℕ → ℕ → ℕ
h_of w x y = bit_xor (bit_xor x y) ((bit_and x y * 2) % 2 ^ bits w)

-- G(a, b, c, d), in order
unfoldable pub g_of : Width → ℕ → ℕ → ℕ → ℕ → List ℕ
g_of w a b c d =
    let a1 = h_of w a b in
    let d1 = ror w (r0 w) (bit_xor a1 d) in
    let c1 = h_of w c d1 in
    let b1 = ror w (r1 w) (bit_xor b c1) in
    let a2 = h_of w a1 b1 in
    let d2 = ror w (r2 w) (bit_xor a2 d1) in
    let c2 = h_of w c1 d2 in
    let b2 = ror w (r3 w) (bit_xor b1 c2) in
    row a2 b2 c2 d2

-- f on the words at place i of row 0, j of row 1, k of row 2 and m of row 3
abbrev pub across : (ℕ → ℕ → ℕ → ℕ → List ℕ) → State → ℕ → ℕ → ℕ → ℕ → List ℕ
across f s i j k m = f (word_at (row_at s 0) i) (word_at (row_at s 1) j) (word_at (row_at s 2) k) (word_at (row_at s 3) m)

-- the state whose columns are p, q, u and v
abbrev pub columns : List ℕ → List ℕ → List ℕ → List ℕ → State
columns p q u v =
    rows
    (row (word_at p 0) (word_at q 0) (word_at u 0) (word_at v 0))
    (row (word_at p 1) (word_at q 1) (word_at u 1) (word_at v 1))
    (row (word_at p 2) (word_at q 2) (word_at u 2) (word_at v 2))
    (row (word_at p 3) (word_at q 3) (word_at u 3) (word_at v 3))

-- the state whose diagonals are p, q, u and v
abbrev pub diagonals : List ℕ → List ℕ → List ℕ → List ℕ → State
diagonals p q u v =
    rows
    (row (word_at p 0) (word_at q 0) (word_at u 0) (word_at v 0))
    (row (word_at v 1) (word_at p 1) (word_at q 1) (word_at u 1))
    (row (word_at u 2) (word_at v 2) (word_at p 2) (word_at q 2))
    (row (word_at q 3) (word_at u 3) (word_at v 3) (word_at p 3))

-- f on the columns (0,4,8,12), (1,5,9,13), (2,6,10,14), (3,7,11,15)
unfoldable pub on_columns : (ℕ → ℕ → ℕ → ℕ → List ℕ) → State → State
on_columns f s = columns (across f s 0 0 0 0) (across f s 1 1 1 1) (across f s 2 2 2 2) (across f s 3 3 3 3)

-- f on the diagonals (0,5,10,15), (1,6,11,12), (2,7,8,13), (3,4,9,14)
unfoldable pub on_diagonals : (ℕ → ℕ → ℕ → ℕ → List ℕ) → State → State
on_diagonals f s = diagonals (across f s 0 1 2 3) (across f s 1 2 3 0) (across f s 2 3 0 1) (across f s 3 0 1 2)

-- one round F applies G to the columns, then to the diagonals
unfoldable pub f_of : Width → State → State
f_of w s = on_diagonals (g_of w) (on_columns (g_of w) s)

-- P is F repeated l times
unfoldable pub p_of : Width → ℕ → State → State
p_of w zero s = s
p_of w (suc l) s = f_of w (p_of w l s)

-- constants u0 to u15 are two rounds F of the state 0, 1, ..., 15
unfoldable pub constants : Width → State
constants w = p_of w 2 (rows (row 0 1 2 3) (row 4 5 6 7) (row 8 9 10 11) (row 12 13 14 15))

-- ---- Sealing, step by step

-- the key xored into s12..s15; k and n are the four words of the key and of the nonce
unfoldable pub keyed : List ℕ → State → State
keyed k s = rows (row_at s 0) (row_at s 1) (row_at s 2) (xor_row (row_at s 3) k)

-- 1. Start: s0..s3 nonce, s4..s7 key, s8..s15 = u8..u15. Then s12, s13, s14, s15 are xored with word width, l, 1, t.
-- Apply P. Xor the key into s12..s15.
unfoldable pub start : Width → ℕ → ℕ → List ℕ → List ℕ → State
start w l t k n = keyed k (p_of w l (rows n k (row_at (constants w) 2) (xor_row (row_at (constants w) 3) (row (bits w) l 1 t))))

-- 2. A part of length 0 adds no block. A part of length n > 0 has floor(n/R) full blocks and then always one padded block.
unfoldable pub block_count : ℕ → ℕ → ℕ
block_count R zero = 0
block_count R (suc n) = suc n / R + 1

-- 4. Padding of k left bytes: the k bytes, then zeros up to R; xor 01 into byte k and 80 (hexadecimal) into byte R-1.
abbrev pub xor_at : List ℕ → ℕ → ℕ → List ℕ
xor_at l i v = set l i (bit_xor (get_or l i 0) v)

unfoldable pub padded : ℕ → List ℕ → List ℕ
padded R left = xor_at (xor_at (left ++ replicate (R - length left) 0) (length left) 0x01) (R - 1) 0x80

-- block i of a part: its i'th run of R bytes, padded where fewer are left
unfoldable pub block : ℕ → List ℕ → ℕ → List ℕ
block R d i = cond (ltb (length (run R i d)) R) (padded R (run R i d)) (run R i d)

-- a block xored into s0..s11
unfoldable pub xor_block : Width → State → List ℕ → State
xor_block w s b =
    rows
    (xor_row (row_at s 0) (row_of w (run (row_bytes w) 0 b)))
    (xor_row (row_at s 1) (row_of w (run (row_bytes w) 1 b)))
    (xor_row (row_at s 2) (row_of w (run (row_bytes w) 2 b)))
    (row_at s 3)

-- the bytes of s0..s11
unfoldable pub rate_of : Width → State → List ℕ
rate_of w s = bytes_of_row w (row_at s 0) ++ (bytes_of_row w (row_at s 1) ++ bytes_of_row w (row_at s 2))

-- 3. For each block: xor the mark into s15, apply P, ...
unfoldable pub marked : ℕ → State → State
marked m s = set s 3 (set (row_at s 3) 3 (bit_xor (word_at (row_at s 3) 3) m))

unfoldable pub entered : Width → ℕ → ℕ → State → State
entered w l m s = p_of w l (marked m s)

-- ... xor the block into s0..s11: the state after the first i blocks of a part d with the mark m
unfoldable pub after_blocks : Width → ℕ → ℕ → State → List ℕ → ℕ → State
after_blocks w l m s d zero = s
after_blocks w l m s d (suc i) = xor_block w (entered w l m (after_blocks w l m s d i)) (block (rate w) d i)

unfoldable pub after_part : Width → ℕ → ℕ → State → List ℕ → State
after_part w l m s d = after_blocks w l m s d (block_count (rate w) (length d))

-- For body blocks the ciphertext is the new s0..s11; of the padded block only the n mod R first bytes are kept.
unfoldable pub cipher_blocks : Width → ℕ → State → List ℕ → ℕ → List ℕ
cipher_blocks w l s d zero = []
cipher_blocks w l s d (suc i) = cipher_blocks w l s d i ++ take (length (run (rate w) i d)) (rate_of w (after_blocks w l body_mark s d (suc i)))

unfoldable pub ciphertext : Width → ℕ → State → List ℕ → List ℕ
ciphertext w l s d = cipher_blocks w l s d (block_count (rate w) (length d))

-- 5. Finish: xor 08 into s15, P, key into s12..s15, P, key into s12..s15. The tag is s12..s15: the first t bits of them.
unfoldable pub finished : Width → ℕ → List ℕ → State → State
finished w l k s = keyed k (p_of w l (keyed k (p_of w l (marked tag_mark s))))

unfoldable pub tag_of : Width → ℕ → ℕ → List ℕ → State → List ℕ
tag_of w l t k s = take (t / 8) (bytes_of_row w (row_at (finished w l k s) 3))

module _ (w : Width) (l t : ℕ) (key nonce header : List ℕ) where
  -- the state where the body begins
  unfoldable pub before_body : State
  before_body = after_part w l header_mark (start w l t (row_of w key) (row_of w nonce)) header

  unfoldable pub tag : List ℕ → List ℕ → List ℕ
  tag body trailer = tag_of w l t (row_of w key) (after_part w l trailer_mark (after_part w l body_mark before_body body) trailer)

  -- the sealed text is ciphertext followed by tag
  unfoldable pub sealed : List ℕ → List ℕ → List ℕ
  sealed body trailer = ciphertext w l before_body body ++ tag body trailer

-- ---- Opening
-- Opening recovers each body byte as ciphertext xor the rate byte after P, and the state takes in the recovered message with its padding.
unfoldable pub message_blocks : Width → ℕ → State → List ℕ → ℕ → List ℕ
message_blocks w l s c zero = []
message_blocks w l s c (suc i) =
    let m = message_blocks w l s c i in
    let z = rate_of w (entered w l body_mark (after_blocks w l body_mark s m i)) in
    m ++ xors (take (length (run (rate w) i c)) z) (run (rate w) i c)

unfoldable pub message : Width → ℕ → State → List ℕ → List ℕ
message w l s c = message_blocks w l s c (block_count (rate w) (length c))

-- two texts are the same
unfoldable pub same : List ℕ → List ℕ → Bool
same [] [] = true
same [] (y ∷ b) = false
same (x ∷ a) [] = false
same (x ∷ a) (y ∷ b) = eqb x y && same a b

-- the ciphertext and the tag of a sealed text
abbrev pub body_part : ℕ → List ℕ → List ℕ
body_part t text = take (length text - t / 8) text

abbrev pub tag_part : ℕ → List ℕ → List ℕ
tag_part t text = drop (length text - t / 8) text

module _ (w : Width) (l t : ℕ) (key nonce header : List ℕ) where
  -- the message that a sealed text would be of
  unfoldable pub recovered : List ℕ → List ℕ
  recovered text = message w l (before_body w l t key nonce header) (body_part t text)

  -- that message where its tag is the text's, and else none
  unfoldable pub opened : List ℕ → List ℕ → Option (List ℕ)
  opened text trailer = cond (same (tag_part t text) (tag w l t key nonce header (recovered text) trailer)) (some (recovered text)) none
