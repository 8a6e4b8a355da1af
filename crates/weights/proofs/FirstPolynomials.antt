-- The honest first polynomial has the weighted sum folded at z for its value at z, is the only one of its length, and sums over the subgroup to the weighted claims.
use mathlib.Core.Path.{◌≡◌, sym, ◌∙◌, ap, ap₂}
use mathlib.Core.List.{List, [], ◌∷◌}
use Prim.Native.Nat.{ℕ, suc, ◌+◌, ◌*◌, ◌-◌, ◌^◌, ◌<◌, ◌≤◌}
use native.Mathlib.Nat
use native.Mathlib.Omega.{arith}
use lib.ListN.{length}
use Rattle.algebra.specs.Ring.{Ring, Domain, pow}
use Rattle.algebra.specs.Sum.{sum}
use Rattle.algebra.specs.Listed.{listed}
use Rattle.algebra.specs.Polynomial.{value, All, Distinct}
use Rattle.algebra.proofs.Lists.{length-listed}
use Rattle.algebra.proofs.Sums.{sum_cong, sum-mul-right, sum_swap}
use Rattle.algebra.proofs.Polynomials.{same_of_points}
use Rattle.tables.specs.Root.{Skip}
use Rattle.tables.specs.SubgroupSum.{subgroup_sum}
use Rattle.tables.specs.FoldPle.{fold_ple}
use Rattle.tables.specs.FoldMany.{fold_many}
use Rattle.tables.proofs.PolynomialValues.{value-listed}
use Rattle.weights.specs.Run.{Run, stack_of}
use Rattle.weights.specs.Weights.{weights}
use Rattle.weights.specs.StackColumns.{stack_rows, folded_column}
use Rattle.weights.specs.FoldedSum.{folded_sum}
use Rattle.weights.specs.LambdaPowers.{claims_before, weighted_claims}
use Rattle.weights.specs.ColumnValue.{column_value, column_rotated}
use Rattle.weights.specs.Fits.{Planned}
use Rattle.weights.proofs.RoundSums.{pair_sum}
use Rattle.weights.proofs.HonestQuadratics.{folded_sum-tables}
use Rattle.weights.proofs.FirstRound.{first_round}
use Rattle.tables.specs.Product.{product_at}
use Rattle.tables.proofs.Interpolations.{interpolated-value}
use Rattle.tables.proofs.Products.{product_value}
use Rattle.weights.specs.FirstPolynomial.{block_at, first_coefficient, first_polynomial}

module _ {A : Type 0} (R : Ring A) where
  infixl 70 ◌⊗◌
  open R use {mul as ◌⊗◌}

  -- the value of a sum of polynomials
  pub value_of_sum : (n m : ℕ) (f : ℕ → ℕ → A) (z : A) → value R (listed n (λ j. sum R m (λ k. f k j))) z ≡ sum R m (λ k. value R (listed n (f k)) z)
  value_of_sum n m f z =
      value-listed R n _ z
      ∙ sum_cong R n (λ j. sym (sum-mul-right R m (pow R z j) (λ k. f k j)))
      ∙ sum_swap R n m (λ j k. f k j ⊗ pow R z j)
      ∙ sum_cong R m (λ k. sym (value-listed R n (f k) z))

module _ {A : Type 0} (R : Ring A) (half w : A) (run : Run A) (cells : ℕ → A) where
  infixl 70 ◌⊗◌
  open R use {mul as ◌⊗◌}

  abbrev N : ℕ
  N = 2 ^ run.skip

  pub length_is : 2 ^ (run.skip + 1) - 1 ≡ 2 * N - 1
  length_is = ap (λ n. n - 1) (ap (λ n. 2 ^ n) {x = run.skip + 1} {y = suc run.skip} (omega arith) ∙ Nat.pow-succ' 2 run.skip)

  -- a block's polynomial has the value that the fold leaves of it
  block-value : (v : ℕ → A) (y : ℕ) (z : A) → value R (listed N (block_at R half w run cells v y)) z ≡ fold_ple R half run.skip w v z y
  unfolding block_at fold_ple
  block-value v y z = interpolated-value R half run.skip w (λ i. v (i + N * y)) z

  pub first_length : length (first_polynomial R half w run cells) ≡ 2 ^ (run.skip + 1) - 1
  unfolding first_polynomial
  first_length = length-listed (2 ^ (run.skip + 1) - 1) (first_coefficient R half w run cells)

  -- at every z, of any ring
  pub first_value : (z : A) → value R (first_polynomial R half w run cells) z ≡ folded_sum R half w run cells z []
  unfolding first_polynomial first_coefficient pair_sum folded_column fold_many
  first_value z =
      ap (λ n. value R (listed n (first_coefficient R half w run cells)) z) length_is
      ∙ value_of_sum R (2 * N - 1) run.count (λ k j. sum R (2 ^ run.stack) (λ y. term k y j)) z
      ∙ sum_cong R run.count (λ k.
      value_of_sum R (2 * N - 1) (2 ^ run.stack) (λ y j. term k y j) z
      ∙ sum_cong R (2 ^ run.stack) (λ y.
      product_value R N (a k y) (b k y) z ∙ ap₂ ◌⊗◌ (block-value (weights R half w run k) y z) (block-value (stack_rows run cells (stack_of run k)) y z))
      ∙ ap (λ n. sum R (2 ^ n) (λ y. fold_ple R half run.skip w (weights R half w run k) z y ⊗ fold_ple R half run.skip w (stack_rows run cells (stack_of run k)) z y)) (sym (Nat.sub-zero run.stack)))
      ∙ sym (folded_sum-tables R half w run cells z [])
    where
      a : ℕ → ℕ → ℕ → A
      a k y = block_at R half w run cells (weights R half w run k) y

      b : ℕ → ℕ → ℕ → A
      b k y = block_at R half w run cells (stack_rows run cells (stack_of run k)) y

      term : ℕ → ℕ → ℕ → A
      term k y j = product_at R N (a k y) (b k y) j

  -- no other list of so many coefficients has these values at so many distinct points
  pub first_only_at : Domain R → (cs rs : List A) → length cs ≡ 2 ^ (run.skip + 1) - 1 → length cs ≤ length rs → Distinct rs
      → All (λ z. value R cs z ≡ folded_sum R half w run cells z []) rs → cs ≡ first_polynomial R half w run cells
  first_only_at domain cs rs l m d h =
      same_of_points R domain cs (first_polynomial R half w run cells) rs (l ∙ sym first_length) m d (agree rs h)
    where
      agree : (rs : List A) → All (λ z. value R cs z ≡ folded_sum R half w run cells z []) rs → All (λ z. value R cs z ≡ value R (first_polynomial R half w run cells) z) rs
      agree [] a = tt
      agree (r ∷ rs) (e, a) = (e ∙ sym (first_value r), agree rs a)

module _ {A : Type 0} {R : Ring A} {half w : A} (run : Run A) (skip : Skip R half run.skip w) (planned : Planned run) (cells : ℕ → A) where
  -- the sum over the subgroup
  pub first_sum_lem : (claims : ℕ → A) → ((k : ℕ) → k < run.count → claims (claims_before run k) ≡ column_value R half w run cells k)
      → ((k : ℕ) → k < run.count → 0 < run.flag k → claims (claims_before run k + 1) ≡ column_rotated R half w run cells k)
      → subgroup_sum R run.skip w (first_polynomial R half w run cells) ≡ weighted_claims R run claims
  unfolding subgroup_sum
  first_sum_lem claims plain rotated =
      sum_cong R (2 ^ run.skip) (λ i. first_value R half w run cells (pow R w i)) ∙ first_round run skip planned cells claims plain rotated
