-- A text by its full blocks and the bytes left, and what each of the two leaves; the laws in proofs/Blocks.antt and proofs/Messages.antt say that they are NORX.
-- Assumes nothing.
use Rattle.std.specs.Prelude.{List, ◌++◌, ℕ, ◌*◌, ◌/◌, length, take, drop}
use Rattle.norx.specs.Norx.{Width, rate, xors, State, body_mark, xor_block, rate_of, padded, entered, after_blocks, cipher_blocks, message_blocks}

-- how many full blocks a text has, and the bytes left after them
abbrev pub fulls : Width → List ℕ → ℕ
fulls w d = length d / rate w

abbrev pub left : Width → List ℕ → List ℕ
left w d = drop (fulls w d * rate w) d

-- ---- The full blocks of a body, sealed and opened

-- what an output then holds: their ciphertext, and behind it what it had
abbrev pub cipher_fulls : Width → ℕ → State → List ℕ → List ℕ → List ℕ
cipher_fulls w l s d out = cipher_blocks w l s d (fulls w d) ++ drop (fulls w d * rate w) out

-- what an output then holds: their message, and behind it what it had
abbrev pub message_fulls : Width → ℕ → State → List ℕ → List ℕ → List ℕ
message_fulls w l s c out = message_blocks w l s c (fulls w c) ++ drop (fulls w c * rate w) out

-- the state once it took in that message
abbrev pub after_message_fulls : Width → ℕ → State → List ℕ → State
after_message_fulls w l s c = after_blocks w l body_mark s (message_blocks w l s c (fulls w c)) (fulls w c)

-- ---- The bytes left, x

-- the state once it took them in with their padding
abbrev pub after_left : Width → ℕ → ℕ → State → List ℕ → State
after_left w l m s x = xor_block w (entered w l m s) (padded (rate w) x)

-- their ciphertext, and the message that they are the ciphertext of
abbrev pub cipher_left : Width → ℕ → State → List ℕ → List ℕ
cipher_left w l s x = take (length x) (rate_of w (after_left w l body_mark s x))

abbrev pub message_left : Width → ℕ → State → List ℕ → List ℕ
message_left w l s x = xors (take (length x) (rate_of w (entered w l body_mark s))) x
