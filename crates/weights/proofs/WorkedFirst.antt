-- First polynomials and openings that can be followed by hand, computed through the definitions: one column of two rows, the same of one cell with the other
-- word between, a column of two blocks with a flag at l_skip 0, and one at l_skip 1. The numbers are what the Rust gives for the same inputs.
use mathlib.Core.Path.{◌≡◌, refl, ◌∙◌, ap}
use mathlib.Core.List.{List, [], ◌∷◌}
use Prim.Native.Nat.{ℕ, suc}
use lib.ListN.{get_or}
use Rattle.algebra.specs.Ring.{pow}
use Rattle.algebra.specs.Sum.{sum}
use Rattle.algebra.specs.Listed.{listed}
use Rattle.algebra.specs.Polynomial.{value}
use Rattle.algebra.specs.Multilinear.{bit_factor, cube_factor, bit, bits}
use Rattle.algebra.specs.Zmod.{class, zadd, zmul, zneg}
use Rattle.algebra.specs.Quadratic.{qadd, qmul, qneg}
use Rattle.field.specs.Element.{Elem, F, words_of, half_elem, neg}
use Rattle.field.specs.Powers.{root}
use Rattle.tables.specs.Small.{el, els, is}
use Rattle.tables.specs.Index.{before}
use Rattle.tables.specs.Lagrange.{lagrange}
use Rattle.tables.specs.SubgroupSum.{subgroup_sum}
use Rattle.tables.specs.Prism.{row_factor, prism}
use Rattle.tables.specs.AtStride.{on_zero, at_stride}
use Rattle.tables.specs.Window.{below, window}
use Rattle.tables.specs.Interpolated.{interpolated}
use Rattle.tables.specs.Product.{product_at}
use Rattle.layout.specs.Placing.{slice_length}
use Rattle.weights.specs.Run.{Run}
use Rattle.weights.specs.ColumnFactor.{raised, lifted_point, column_factor}
use Rattle.weights.specs.LambdaPowers.{if_flagged, plain_power, rotated_power}
use Rattle.weights.specs.Weights.{cell_weight, weights}
use Rattle.weights.specs.StackColumns.{stack_rows}
use Rattle.weights.specs.ColumnValue.{cell, column_value, column_rotated}
use Rattle.weights.specs.FoldedSum.{column_term, folded_sum}
use Rattle.weights.specs.FirstPolynomial.{block_at, first_coefficient, first_polynomial}
use Rattle.weights.specs.TrueClaims.{claims_with, true_before, true_claims}
use Rattle.weights.proofs.WorkedSums.{root_one}

-- one column of log height h from the first row on
abbrev column : ℕ → ℕ → ℕ → ℕ → Elem → List Elem → Elem → Run Elem
column l n h f r0 rs lambda = record {
  skip = l;
  stack = n;
  count = 1;
  start = λ _. 0;
  log = λ _. h;
  flag = λ _. f;
  r0 = r0;
  rs = rs;
  lambda = lambda;
}

-- as words, of a list of m elements
abbrev words_to : ℕ → List Elem → List (List ℕ)
words_to m xs = listed m (λ i. words_of (get_or xs i F.zero))

abbrev short : ℕ → Run Elem
short h = column 1 0 h 0 (el 3) [] (el 5)

abbrev two_rows : Elem → List Elem
two_rows w = first_polynomial F half_elem w (short 1) (els (5 ∷ 6 ∷ []))

abbrev blocks : ℕ → Run Elem
blocks l = column l 1 (suc l) 1 (el 3) (el 2 ∷ []) (el 5)

-- rows 5 and 6, r_0 = 3: 11/4 + 8·Z − 3/4·Z², which is 4 over 1 and −1, and 20 at 3 as the sum folded there is; the opening is 4
abbrev rows_numbers : Elem → List (List ℕ)
rows_numbers w =
    words_of (subgroup_sum F 1 w (two_rows w)) ∷ words_of (value F (two_rows w) (el 3)) ∷ words_of (folded_sum F half_elem w (short 1) (els (5 ∷ 6 ∷ [])) (el 3) [])
    ∷ words_of (get_or (true_claims F half_elem w (short 1) (els (5 ∷ 6 ∷ []))) 0 F.zero) ∷ words_to 3 (two_rows w)

abbrev rows_oracle : List (List ℕ)
rows_oracle = is 4 ∷ is 20 ∷ is 20 ∷ is 4 ∷ is 503316483 ∷ is 8 ∷ is 1509949440 ∷ []

-- the cell 5 with 6 between: 11/4 + 5/2·Z − 1/4·Z²; with 0 between: 5/4 + 5/2·Z + 5/4·Z²; both sum to 5, which is the opening
abbrev between_numbers : Elem → List (List ℕ)
between_numbers w =
    words_of (get_or (true_claims F half_elem w (short 0) (els (5 ∷ 6 ∷ []))) 0 F.zero)
    ∷ words_of (subgroup_sum F 1 w (first_polynomial F half_elem w (short 0) (els (5 ∷ 6 ∷ []))))
    ∷ words_of (subgroup_sum F 1 w (first_polynomial F half_elem w (short 0) (els (5 ∷ 0 ∷ []))))
    ∷ words_of (first_coefficient F half_elem w (short 0) (els (5 ∷ 6 ∷ [])) 0) ∷ words_of (first_coefficient F half_elem w (short 0) (els (5 ∷ 6 ∷ [])) 1)
    ∷ words_of (first_coefficient F half_elem w (short 0) (els (5 ∷ 6 ∷ [])) 2) ∷ words_to 3 (first_polynomial F half_elem w (short 0) (els (5 ∷ 0 ∷ [])))

abbrev between_oracle : List (List ℕ)
between_oracle = is 5 ∷ is 5 ∷ is 5 ∷ is 503316483 ∷ is 1006632963 ∷ is 503316480 ∷ is 1509949442 ∷ is 1006632963 ∷ is 1509949442 ∷ []

-- a flagged column of two blocks: at l_skip 0 the rows 4 and 10 with r (7, 8), at l_skip 1 the rows 1 to 4 with r (3, 2); lambda 5
abbrev flat_run : Run Elem
flat_run = column 0 1 1 1 (el 7) (el 8 ∷ []) (el 5)

abbrev flat_numbers : Elem → List (List ℕ)
flat_numbers w =
    words_to 1 (first_polynomial F half_elem w flat_run (els (4 ∷ 10 ∷ [])))

abbrev flat_claims : Elem → List (List ℕ)
flat_claims w = words_to 2 (true_claims F half_elem w flat_run (els (4 ∷ 10 ∷ [])))

abbrev block_numbers : Elem → List (List ℕ)
block_numbers w =
    words_of (get_or (true_claims F half_elem w (blocks 1) (els (1 ∷ 2 ∷ 3 ∷ 4 ∷ []))) 0 F.zero)
    ∷ words_of (get_or (true_claims F half_elem w (blocks 1) (els (1 ∷ 2 ∷ 3 ∷ 4 ∷ []))) 1 F.zero)
    ∷ words_to 3 (first_polynomial F half_elem w (blocks 1) (els (1 ∷ 2 ∷ 3 ∷ 4 ∷ [])))

abbrev all : Elem → Elem → List (List (List ℕ))
all one minus = rows_numbers minus ∷ between_numbers minus ∷ flat_numbers one ∷ flat_claims one ∷ block_numbers minus ∷ []

computed : all F.one (neg F.one)
    ≡ rows_oracle ∷ between_oracle ∷ (is 2013265783 ∷ []) ∷ (is 52 ∷ is 2013265883 ∷ []) ∷ (is 4 ∷ is 13 ∷ is 1006632992 ∷ is 1006632941 ∷ is 3 ∷ []) ∷ []
unfolding class zadd zmul zneg qadd qmul qneg words_of pow sum value bit_factor cube_factor bit bits before lagrange subgroup_sum row_factor prism on_zero at_stride below window
    interpolated product_at slice_length raised lifted_point column_factor if_flagged plain_power rotated_power cell_weight weights stack_rows cell column_value column_rotated column_term
    folded_sum block_at first_coefficient first_polynomial claims_with true_before true_claims listed
computed = refl

abbrev at : ℕ → List (List (List ℕ)) → List (List ℕ)
at i xs = get_or xs i []

pub two_rows_lem : rows_numbers (root 1) ≡ rows_oracle
two_rows_lem = ap rows_numbers root_one ∙ ap (at 0) computed

pub words_between : between_numbers (root 1) ≡ between_oracle
words_between = ap between_numbers root_one ∙ ap (at 1) computed

pub flat_column : (flat_numbers F.one ≡ is 2013265783 ∷ []) × (flat_claims F.one ≡ is 52 ∷ is 2013265883 ∷ [])
flat_column = (ap (at 2) computed, ap (at 3) computed)

pub two_blocks : block_numbers (root 1) ≡ is 4 ∷ is 13 ∷ is 1006632992 ∷ is 1006632941 ∷ is 3 ∷ []
two_blocks = ap block_numbers root_one ∙ ap (at 4) computed
