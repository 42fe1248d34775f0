-- u8 to u15 as a table: the two rounds of 0, 1, ..., 15 are computed, once at each width.
-- Assumes nothing.
use mathlib.Core.Path.{◌≡◌, refl}
use mathlib.Core.List.{[], ◌∷◌}
use Rattle.norx.specs.Norx.{word32, word64, row, row_at, ror, h_of, g_of, on_columns, on_diagonals, f_of, p_of, constants}

pub upper32 : row 0xa3d8d930 0x3fa8b72c 0xed84eb49 0xedca4787 ∷ row 0x335463eb 0xf994220b 0xbe0bf5c9 0xd7c49104 ∷ []
    ≡ row_at (constants word32) 2 ∷ row_at (constants word32) 3 ∷ []
unfolding ror h_of g_of on_columns on_diagonals f_of p_of constants
upper32 = refl

pub upper64 : row 0xb15e641748de5e6b 0xaa95e955e10f8410 0x28d1034441a9dd40 0x7f31bbf964e93bf5
    ∷ row 0xb5e9e22493dffb96 0xb980c852479fafbd 0xda24516bf55eafd4 0x86026ae8536f1501 ∷ []
    ≡ row_at (constants word64) 2 ∷ row_at (constants word64) 3 ∷ []
unfolding ror h_of g_of on_columns on_diagonals f_of p_of constants
upper64 = refl
