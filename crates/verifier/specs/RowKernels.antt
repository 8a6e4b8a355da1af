-- The factor of a column's weight at u_0 to u_n_stack that its starting row decides: the eq kernel of the row bits past n_lift and their challenges.
use Rattle.std.specs.Prelude.{List, ℕ, ◌+◌, ◌-◌, ◌/◌, ◌^◌, min}
use Rattle.algebra.specs.Multilinear.{cube_factor}
use Rattle.field.specs.Element.{Elem, F, words_of}
use Rattle.tables.specs.Points.{coordinates}
use Rattle.layout.specs.Placing.{row_of}
use Rattle.verifier.specs.declared.column_weights.UpperWeight.{UpperWeight}

-- where a column of log height h that starts at cell s stands among windows of its own length; its row bits past n_lift are this number's
unfoldable pub spot_of : ℕ → ℕ → ℕ → ℕ → ℕ
spot_of l n h s = row_of l n s / 2 ^ l / 2 ^ (h - l)

unfoldable pub row_weight : ℕ → ℕ → ℕ → ℕ → List ℕ → Elem
row_weight l n h s challenges = cube_factor F (coordinates challenges (1 + (h - l)) (n - (h - l))) (spot_of l n h s)

-- of m challenges from index i on and the bits of a spot: the factors from place j on
unfoldable pub bits_from : List ℕ → ℕ → ℕ → ℕ → ℕ → Elem
bits_from challenges i m spot j = cube_factor F (coordinates challenges (i + j) (m - j)) (spot / 2 ^ j)

-- the lowest bits, up to 3, are taken column by column; the factor of the others is kept while they stay
abbrev pub low_bits : ℕ → ℕ → ℕ
low_bits n lift = min 3 (n - lift)

unfoldable pub upper_weight : ℕ → ℕ → ℕ → List ℕ → Elem
upper_weight n lift upper challenges = cube_factor F (coordinates challenges (1 + lift + low_bits n lift) (n - lift - low_bits n lift)) upper

abbrev pub upper_of : ℕ → ℕ → ℕ → List ℕ → UpperWeight
upper_of n lift upper challenges = record { lift = lift; upper = upper; weight = words_of (upper_weight n lift upper challenges) }
