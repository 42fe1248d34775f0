-- A sealing with each P counted is the sealing, and P runs in it as often as the formula says, at every width and for every length.
-- Assumes nothing.
use mathlib.Core.Path.{◌≡◌, refl, sym, ap, ap₂, ◌∙◌}
use mathlib.Core.Bool.{Bool, cond}
use mathlib.Core.List.{List, [], ◌++◌, append-nil, append_assoc}
use Prim.Native.Nat.{ℕ, zero, suc, ◌+◌, ◌-◌, ◌/◌}
use native.Mathlib.Omega.{arith}
use borrow.Author.Tests.{ne_eqb}
use lib.ListN.{length, take}
use lib.Seq.{length-take-le}
use Rattle.norx.specs.Norx.{Width, rate, run, State, row_at, row_of, bytes_of_row, header_mark, body_mark, trailer_mark, p_of, marked, block_count, block, xor_block, rate_of, entered, after_blocks, after_part, cipher_blocks, ciphertext, start, finished, tag_of, before_body, tag, sealed, body_part, recovered}
use Rattle.norx.proofs.Messages.{length-message}
use Rattle.norx.specs.Runs.{Counted, ran, changed, written, counted_start, counted_block, counted_blocks, counted_part, counted_body_blocks, counted_body, counted_finish, counted, counted_text, counted_runs, part_runs, sealing_runs, CountsSealing}

-- ---- the blocks of a part

module _ (w : Width) (l m : ℕ) (c : Counted) (d : List ℕ) where
  blocks_state : (i : ℕ) → (counted_blocks w l m c d i).state ≡ after_blocks w l m c.state d i
  unfolding counted_blocks counted_block ran changed after_blocks entered
  blocks_state zero = refl
  blocks_state (suc i) = ap (λ (s : State). xor_block w (p_of w l (marked m s)) (block (rate w) d i)) (blocks_state i)

  blocks_text : (i : ℕ) → (counted_blocks w l m c d i).text ≡ c.text
  unfolding counted_blocks counted_block ran changed
  blocks_text zero = refl
  blocks_text (suc i) = blocks_text i

  blocks_runs : (i : ℕ) → (counted_blocks w l m c d i).runs ≡ c.runs + i
  unfolding counted_blocks counted_block ran changed
  blocks_runs zero = omega arith
  blocks_runs (suc i) = omega (arith, blocks_runs i)

-- ---- the blocks of the body, which are written too

module _ (w : Width) (l : ℕ) (c : Counted) (d : List ℕ) where
  body_state : (i : ℕ) → (counted_body_blocks w l c d i).state ≡ after_blocks w l body_mark c.state d i
  unfolding counted_body_blocks counted_block written ran changed after_blocks entered
  body_state zero = refl
  body_state (suc i) = ap (λ (s : State). xor_block w (p_of w l (marked body_mark s)) (block (rate w) d i)) (body_state i)

  body_text : (i : ℕ) → (counted_body_blocks w l c d i).text ≡ c.text ++ cipher_blocks w l c.state d i
  unfolding counted_body_blocks counted_block written ran changed cipher_blocks after_blocks entered
  body_text zero = sym (append-nil c.text)
  body_text (suc i) =
      let n = length (run (rate w) i d) in
      let s : State = after_blocks w l body_mark c.state d (suc i) in
      ap₂ (λ (x : List ℕ) (y : State). x ++ take n (rate_of w y)) (body_text i) (body_state (suc i))
      ∙ append_assoc c.text (cipher_blocks w l c.state d i) (take n (rate_of w s))

  body_runs : (i : ℕ) → (counted_body_blocks w l c d i).runs ≡ c.runs + i
  unfolding counted_body_blocks counted_block written ran changed
  body_runs zero = omega arith
  body_runs (suc i) = omega (arith, body_runs i)

-- ---- a part has as many blocks as the formula says

pub blocks_by_formula : (R n : ℕ) → block_count R n ≡ part_runs R n
unfolding block_count part_runs
blocks_by_formula R zero = refl
blocks_by_formula R (suc n) = sym (ap (λ (b : Bool). cond b 0 (suc n / R + 1)) (ne_eqb (suc n) 0 (λ e. omega arith)))

-- ---- a whole sealing

module _ (w : Width) (l t : ℕ) (key nonce header body trailer : List ℕ) where
  abbrev k : List ℕ
  k = row_of w key

  abbrev fresh : Counted
  fresh = counted_start w l t k (row_of w nonce)

  abbrev headed : Counted
  headed = counted_part w l header_mark fresh header

  abbrev bodied : Counted
  bodied = counted_body w l headed body

  abbrev trailed : Counted
  trailed = counted_part w l trailer_mark bodied trailer

  headed_state : headed.state ≡ before_body w l t key nonce header
  unfolding counted_part counted_start ran changed before_body after_part start
  headed_state = blocks_state w l header_mark fresh header (block_count (rate w) (length header))

  bodied_state : bodied.state ≡ after_part w l body_mark (before_body w l t key nonce header) body
  unfolding counted_body after_part
  bodied_state =
      body_state w l headed body (block_count (rate w) (length body))
      ∙ ap (λ (s : State). after_blocks w l body_mark s body (block_count (rate w) (length body))) headed_state

  trailed_state : trailed.state ≡ after_part w l trailer_mark (after_part w l body_mark (before_body w l t key nonce header) body) trailer
  unfolding counted_part after_part
  trailed_state =
      blocks_state w l trailer_mark bodied trailer (block_count (rate w) (length trailer))
      ∙ ap (λ (s : State). after_blocks w l trailer_mark s trailer (block_count (rate w) (length trailer))) bodied_state

  headed_text : headed.text ≡ []
  unfolding counted_part counted_start ran changed
  headed_text = blocks_text w l header_mark fresh header (block_count (rate w) (length header))

  bodied_text : bodied.text ≡ ciphertext w l (before_body w l t key nonce header) body
  unfolding counted_body ciphertext
  bodied_text =
      body_text w l headed body (block_count (rate w) (length body))
      ∙ ap₂ (λ (x : List ℕ) (s : State). x ++ cipher_blocks w l s body (block_count (rate w) (length body))) headed_text headed_state

  trailed_text : trailed.text ≡ ciphertext w l (before_body w l t key nonce header) body
  unfolding counted_part
  trailed_text = blocks_text w l trailer_mark bodied trailer (block_count (rate w) (length trailer)) ∙ bodied_text

  whole_text : counted_text w l t key nonce header body trailer ≡ sealed w l t key nonce header body trailer
  unfolding counted_text counted counted_finish ran changed sealed tag tag_of finished
  whole_text =
      ap₂ (λ (x : List ℕ) (s : State). x ++ take (t / 8) (bytes_of_row w (row_at (finished w l k s) 3))) trailed_text trailed_state

  whole_runs : counted_runs w l t key nonce header body trailer ≡ sealing_runs w (length header) (length body) (length trailer)
  unfolding counted_runs counted counted_finish counted_part counted_body counted_start ran changed
  whole_runs =
      omega (
        arith,
        blocks_runs w l header_mark fresh header (block_count (rate w) (length header)),
        body_runs w l headed body (block_count (rate w) (length body)),
        blocks_runs w l trailer_mark bodied trailer (block_count (rate w) (length trailer)),
        blocks_by_formula (rate w) (length header),
        blocks_by_formula (rate w) (length body),
        blocks_by_formula (rate w) (length trailer),
      )

pub counts_sealing : (w : Width) → CountsSealing w
counts_sealing w = record { same_text = whole_text w; by_formula = whole_runs w }

-- the message that a sealed text would be of is as long as the text less its tag
pub length-recovered : (w : Width) (l t : ℕ) (key nonce header text : List ℕ) → length (recovered w l t key nonce header text) ≡ length text - t / 8
unfolding recovered
length-recovered w l t key nonce header text =
    length-message w l (before_body w l t key nonce header) (body_part t text) ∙ length-take-le (length text - t / 8) text (omega arith)
