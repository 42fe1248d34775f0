-- The numbers that rule every call. Those of a width, the marks and the tag bits are in Norx.antt, and the front's length in Front.antt.
-- Assumes nothing.
use Rattle.std.specs.Prelude.{Bool, ◌&&◌, ◌||◌, ℕ, suc, ◌-◌, ◌/◌, leb, eqb}
use Rattle.norx.specs.Norx.{Width, word32, word64, tag_bits}
use Rattle.norx.specs.Front.{front_bytes}

-- header and trailer 0 to 65,536 bytes each; body 0 to 16,777,216
abbrev pub longest_header : ℕ
longest_header = 65536

abbrev pub longest_body : ℕ
longest_body = 16777216

abbrev pub longest_trailer : ℕ
longest_trailer = longest_header

-- in a session the note is 0 to 65,520, because the front stands before it
abbrev pub longest_note : ℕ
longest_note = longest_header - front_bytes

-- a segment has 65,536 bytes, and the last of a job 1 to as many; at most 1,048,576 of them
abbrev pub segment_bytes : ℕ
segment_bytes = 65536

abbrev pub most_segments : ℕ
most_segments = 1048576

-- so a job in segments has at most 68,719,476,736 bytes
abbrev pub longest_job : ℕ
longest_job = 68719476736

abbrev pub within : ℕ → ℕ → ℕ → Bool
within header body trailer = leb header longest_header && leb body longest_body && leb trailer longest_trailer

-- rounds are 4 or 6
abbrev pub rounds_ok : ℕ → Bool
rounds_ok l = eqb l 4 || eqb l 6

-- how many rounds the code of P does where l are asked: l, and at 32-bit words one at least
abbrev pub rounds_of : Width → ℕ → ℕ
rounds_of word32 l = suc (l - 1)
rounds_of word64 l = l

-- a key and a nonce have the length of a row
abbrev pub lengths_ok : ℕ → ℕ → ℕ → Bool
lengths_ok row key nonce = eqb key row && eqb nonce row

abbrev pub tag_bytes : Width → ℕ
tag_bytes w = tag_bits w / 8
