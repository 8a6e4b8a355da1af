-- Two worked runs, computed through the definitions. The numbers are what the Rust gives for the same inputs.
-- First: l_skip 1, n_stack 2, two commitments; of the first a column of 4 rows without flag and a short one of 1 row with it, of the second a column of
-- 8 rows with it. Second: l_skip 2, n_stack 0, one short column of 2 rows with a flag.
use mathlib.Core.Path.{◌≡◌, refl, sym, ◌∙◌, ap}
use mathlib.Core.List.{List, [], ◌∷◌}
use Prim.Native.Nat.{ℕ}
use native.Mathlib.Fin
use lib.Dec.{lit<}
use lib.ListN.{get_or}
use Rattle.algebra.specs.Ring.{pow, num}
use Rattle.algebra.specs.Sum.{sum}
use Rattle.algebra.specs.Polynomial.{value}
use Rattle.algebra.specs.Multilinear.{bit_factor, cube_factor, bit, bits}
use Rattle.algebra.specs.Zmod.{class, zadd, zmul, zneg}
use Rattle.algebra.specs.Quadratic.{qadd, qmul, qneg}
use Rattle.algebra.proofs.Powers.{squared, squared_is}
use Rattle.field.specs.Word.{Fp, word_of}
use Rattle.field.specs.Element.{Elem, F, elem_of, words_of, from_word, half_elem, neg}
use Rattle.field.specs.Powers.{generator, root}
use Rattle.field.proofs.Embedding.{root_half}
use Rattle.tables.specs.Index.{before}
use Rattle.tables.specs.Lagrange.{lagrange}
use Rattle.tables.specs.SubgroupSum.{subgroup_sum}
use Rattle.tables.specs.Prism.{row_factor, prism}
use Rattle.tables.specs.AtStride.{on_zero, at_stride}
use Rattle.tables.specs.Window.{below, window}
use Rattle.layout.specs.Placing.{slice_length}
use Rattle.weights.specs.Run.{Run}
use Rattle.weights.specs.ColumnFactor.{raised, lifted_point, column_factor}
use Rattle.weights.specs.LambdaPowers.{claims_of, claims_before, if_flagged, plain_power, rotated_power, weighted_claims}
use Rattle.weights.specs.Weights.{cell_weight, weights}
use Rattle.weights.specs.StackColumns.{stack_rows, true_opening}
use Rattle.weights.specs.ColumnValue.{cell, column_value, column_rotated}
use Rattle.weights.specs.FoldedSum.{column_term, folded_sum, honest}
use Rattle.weights.specs.FinalSum.{final_sum}

abbrev element : ℕ → ℕ → ℕ → ℕ → Elem
element a b c d = elem_of (a ∷ b ∷ c ∷ d ∷ [])

abbrev u₀ : Elem
u₀ = element 31 37 0 0

abbrev u₁ : Elem
u₁ = element 41 0 43 0

abbrev u₂ : Elem
u₂ = element 47 1 0 53

abbrev first : Run Elem
first = record {
  skip = 1;
  stack = 2;
  count = 3;
  start = λ k. get_or (0 ∷ 4 ∷ 8 ∷ []) k 0;
  log = λ k. get_or (2 ∷ 0 ∷ 3 ∷ []) k 0;
  flag = λ k. get_or (0 ∷ 1 ∷ 1 ∷ []) k 0;
  r0 = element 2 3 5 7;
  rs = element 11 13 0 1 ∷ element 17 0 19 0 ∷ [];
  lambda = element 23 0 0 29;
}

-- both stack columns, 8 rows each
abbrev first_cells : ℕ → Elem
first_cells i = from_word (word_of (get_or (1 ∷ 2 ∷ 3 ∷ 4 ∷ 5 ∷ 0 ∷ 0 ∷ 0 ∷ 6 ∷ 7 ∷ 8 ∷ 9 ∷ 10 ∷ 11 ∷ 12 ∷ 13 ∷ []) i 0))

abbrev first_claims : ℕ → Elem
first_claims i =
    get_or (element 1006632983 1006632985 1006632958 1006632959 ∷ element 5 0 0 0 ∷ element 5 0 0 0
    ∷ element 1006633056 1006632985 1006633034 1006632959 ∷ element 1006847073 1006759401 1006724082 1006650359 ∷ []) i F.zero

-- the first polynomial's coefficients
abbrev first_coefficients : List Elem
first_coefficients =
    element 1214425312 1042140784 1497641489 1904505999 ∷ element 861714171 1657798145 486127207 684151775
    ∷ element 1700878238 996779296 567537938 25566603 ∷ []

-- the true claims; the two sides of number 13; the value at u₀ and the weighted sum folded there; both pairs; openings and final sum. Over a generator
-- of order 2
abbrev first_numbers : Elem → List (List ℕ)
first_numbers w =
    words_of (column_value F half_elem w first first_cells 0) ∷ words_of (column_value F half_elem w first first_cells 1)
    ∷ words_of (column_rotated F half_elem w first first_cells 1) ∷ words_of (column_value F half_elem w first first_cells 2)
    ∷ words_of (column_rotated F half_elem w first first_cells 2)
    ∷ words_of (weighted_claims F first first_claims) ∷ words_of (subgroup_sum F 1 w first_coefficients)
    ∷ words_of (value F first_coefficients u₀) ∷ words_of (folded_sum F half_elem w first first_cells u₀ [])
    ∷ words_of (honest F half_elem w first first_cells u₀ [] F.one) ∷ words_of (honest F half_elem w first first_cells u₀ [] (num F 2))
    ∷ words_of (honest F half_elem w first first_cells u₀ (u₁ ∷ []) F.one) ∷ words_of (honest F half_elem w first first_cells u₀ (u₁ ∷ []) (num F 2))
    ∷ words_of (true_opening F half_elem w first first_cells u₀ (u₁ ∷ u₂ ∷ []) 0) ∷ words_of (true_opening F half_elem w first first_cells u₀ (u₁ ∷ u₂ ∷ []) 1)
    ∷ words_of (final_sum F half_elem w first u₀ (u₁ ∷ u₂ ∷ []) (true_opening F half_elem w first first_cells u₀ (u₁ ∷ u₂ ∷ []))) ∷ []

abbrev first_oracle : List (List ℕ)
first_oracle =
    (1006632983 ∷ 1006632985 ∷ 1006632958 ∷ 1006632959 ∷ []) ∷ (5 ∷ 0 ∷ 0 ∷ 0 ∷ []) ∷ (5 ∷ 0 ∷ 0 ∷ 0 ∷ [])
    ∷ (1006633056 ∷ 1006632985 ∷ 1006633034 ∷ 1006632959 ∷ []) ∷ (1006847073 ∷ 1006759401 ∷ 1006724082 ∷ 1006650359 ∷ [])
    ∷ (1804075258 ∷ 51308318 ∷ 103827012 ∷ 1846879283 ∷ []) ∷ (1804075258 ∷ 51308318 ∷ 103827012 ∷ 1846879283 ∷ [])
    ∷ (1275514991 ∷ 1942736645 ∷ 1919427014 ∷ 190454365 ∷ []) ∷ (1275514991 ∷ 1942736645 ∷ 1919427014 ∷ 190454365 ∷ [])
    ∷ (1985653294 ∷ 1863700773 ∷ 401960813 ∷ 1405990567 ∷ []) ∷ (760091557 ∷ 968861166 ∷ 45681421 ∷ 1439855215 ∷ [])
    ∷ (1410799169 ∷ 1092893010 ∷ 1912075466 ∷ 1364866563 ∷ []) ∷ (1665501886 ∷ 643178159 ∷ 1152661952 ∷ 507017104 ∷ [])
    ∷ (2010922326 ∷ 2011033946 ∷ 2010777721 ∷ 1006269288 ∷ []) ∷ (261 ∷ 1006632946 ∷ 86 ∷ 212 ∷ [])
    ∷ (391945843 ∷ 1397463391 ∷ 1742118234 ∷ 1488422720 ∷ []) ∷ []

abbrev second : Run Elem
second = record {
  skip = 2;
  stack = 0;
  count = 1;
  start = λ _. 0;
  log = λ _. 1;
  flag = λ _. 1;
  r0 = element 2 3 5 7;
  rs = [];
  lambda = element 23 0 0 29;
}

abbrev second_cells : ℕ → Elem
second_cells i = from_word (word_of (get_or (1 ∷ 0 ∷ 2 ∷ 0 ∷ []) i 0))

-- the true claims, the weighted claims, the opening and the final sum, over a generator of order 4
abbrev second_numbers : Elem → List (List ℕ)
second_numbers w =
    words_of (column_value F half_elem w second second_cells 0) ∷ words_of (column_rotated F half_elem w second second_cells 0)
    ∷ words_of (weighted_claims F second (λ i. get_or (element 2013265552 2013265530 2013265637 2013265892 ∷ element 372 391 284 29 ∷ []) i F.zero))
    ∷ words_of (true_opening F half_elem w second second_cells u₀ [] 0)
    ∷ words_of (final_sum F half_elem w second u₀ [] (true_opening F half_elem w second second_cells u₀ [])) ∷ []

abbrev second_oracle : List (List ℕ)
second_oracle =
    (2013265552 ∷ 2013265530 ∷ 2013265637 ∷ 2013265892 ∷ []) ∷ (372 ∷ 391 ∷ 284 ∷ 29 ∷ []) ∷ (132916 ∷ 99198 ∷ 15499 ∷ 11426 ∷ []) ∷ (2013259187 ∷ 1006608004 ∷ 1006602158 ∷ 503303817 ∷ [])
    ∷ (1337397464 ∷ 1315126337 ∷ 893746924 ∷ 259325102 ∷ []) ∷ []

-- the generators of order 2 and 4
pub root_one : root 1 ≡ neg F.one
unfolding pow
root_one = sym (F.mul_one (root 1)) ∙ root_half 0 (lit< tt)

squared_25 : squared Fp 25 (word_of 440564289) ≡ word_of 1728404513
unfolding class zmul
squared_25 = Fin.val_path refl

root_two : root 2 ≡ from_word (word_of 1728404513)
unfolding generator
root_two = ap (λ x. from_word x) (sym (squared_is Fp 25 (word_of 440564289)) ∙ squared_25)

computed : ◌≡◌ {A = List (List ℕ) × List (List ℕ)} (first_numbers (neg F.one), second_numbers (from_word (word_of 1728404513))) (first_oracle, second_oracle)
unfolding class zadd zmul zneg qadd qmul qneg elem_of words_of pow num sum value bit_factor cube_factor bit bits before lagrange subgroup_sum row_factor prism
    on_zero at_stride below window slice_length raised lifted_point column_factor claims_of claims_before if_flagged plain_power rotated_power weighted_claims
    cell_weight weights stack_rows true_opening cell column_value column_rotated column_term folded_sum honest final_sum
computed = refl

pub first_run : first_numbers (root 1) ≡ first_oracle
first_run = ap first_numbers root_one ∙ ap (λ (x : List (List ℕ) × List (List ℕ)). x.0) computed

pub second_run : second_numbers (root 2) ≡ second_oracle
second_run = ap second_numbers root_two ∙ ap (λ (x : List (List ℕ) × List (List ℕ)). x.1) computed
