-- What follows from a width being one of two.
-- Assumes nothing.
use Rattle.std.specs.Prelude.{◌≡◌, ◌*◌, ◌/◌, ◌%◌, ◌<◌, ◌≤◌, refl}
use Rattle.std.proofs.Common.{arith}
use Rattle.norx.specs.Norx.{Width, word32, word64, bits, word_bytes, row_bytes, tag_bits, r0, r1, r2, r3}

-- the rotations of G are less than the width
pub r0_small : (w : Width) → r0 w % bits w ≡ r0 w
r0_small word32 = refl
r0_small word64 = refl

pub r1_small : (w : Width) → r1 w % bits w ≡ r1 w
r1_small word32 = refl
r1_small word64 = refl

pub r2_small : (w : Width) → r2 w % bits w ≡ r2 w
r2_small word32 = refl
r2_small word64 = refl

pub r3_small : (w : Width) → r3 w % bits w ≡ r3 w
r3_small word32 = refl
r3_small word64 = refl

-- a word has four bytes or eight
pub some_bytes : (w : Width) → 4 ≤ word_bytes w
some_bytes word32 = omega arith
some_bytes word64 = omega arith

pub few_bytes : (w : Width) → word_bytes w ≤ 8
few_bytes word32 = omega arith
few_bytes word64 = omega arith

-- a tag is a row
pub tag_is_row : (w : Width) → tag_bits w / 8 ≡ row_bytes w
tag_is_row word32 = refl
tag_is_row word64 = refl

pub tag_is_four_words : (w : Width) → 4 * bits w ≡ tag_bits w
tag_is_four_words word32 = refl
tag_is_four_words word64 = refl
