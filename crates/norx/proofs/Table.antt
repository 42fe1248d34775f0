-- The worked numbers of the requirements that are marked (P), as one table.
-- Assumes nothing.
use mathlib.Core.Path.{◌≡◌, refl}
use mathlib.Core.List.{List, [], ◌∷◌, ◌++◌, map}
use Prim.Native.Nat.{ℕ, zero, suc, ◌^◌}
use lib.ListN.{replicate}
use Rattle.norx.specs.Norx.{word32, word64, bytes_of, ror, h_of, g_of, padded, block_count}
use Rattle.norx.specs.Front.{eight_bytes, front}

-- n left bytes, of which none is zero and no two are alike: 1, 2, .., n
abbrev up_to : ℕ → List ℕ
up_to zero = []
up_to (suc n) = up_to n ++ (suc n ∷ [])

pub record Numbers : Type 0 where
  pub h_of_1_1 : h_of word32 1 1 ≡ 2
  pub h_of_3_1 : h_of word32 3 1 ≡ 0
  pub h_of_5_6 : h_of word32 5 6 ≡ 11
  pub h_of_the_top_bit : h_of word32 (2 ^ 31) (2 ^ 31) ≡ 0
  pub rotated_32 : ror word32 31 1 ≡ 2
  pub rotated_64 : ror word64 8 1 ≡ 2 ^ 56
  pub g_of_1_0_0_0 : g_of word32 1 0 0 0 ≡ 0x0000_2001 ∷ 0x4202_4200 ∷ 0x2101_0100 ∷ 0x2001_0100 ∷ []
  pub padding_of_0 : padded 48 [] ≡ 0x01 ∷ (replicate 46 0 ++ (0x80 ∷ []))
  pub padding_of_46 : padded 48 (up_to 46) ≡ up_to 46 ++ (0x01 ∷ 0x80 ∷ [])
  pub padding_of_47 : padded 48 (up_to 47) ≡ up_to 47 ++ (0x81 ∷ [])
  pub revision_258 : eight_bytes 258 ≡ 0x02 ∷ 0x01 ∷ 0 ∷ 0 ∷ 0 ∷ 0 ∷ 0 ∷ 0 ∷ []
  pub job_7_revision_258 : front 7 258 ≡ 0x07 ∷ 0 ∷ 0 ∷ 0 ∷ 0 ∷ 0 ∷ 0 ∷ 0 ∷ 0x02 ∷ 0x01 ∷ 0 ∷ 0 ∷ 0 ∷ 0 ∷ 0 ∷ 0 ∷ []
  pub block_counts : map (block_count 48) (0 ∷ 1 ∷ 47 ∷ 48 ∷ 96 ∷ []) ≡ 0 ∷ 1 ∷ 1 ∷ 2 ∷ 3 ∷ []

pub numbers : Numbers
unfolding bytes_of ror h_of g_of padded block_count eight_bytes front
numbers = record {
  h_of_1_1 = refl;
  h_of_3_1 = refl;
  h_of_5_6 = refl;
  h_of_the_top_bit = refl;
  rotated_32 = refl;
  rotated_64 = refl;
  g_of_1_0_0_0 = refl;
  padding_of_0 = refl;
  padding_of_46 = refl;
  padding_of_47 = refl;
  revision_258 = refl;
  job_7_revision_258 = refl;
  block_counts = refl;
}
