-- The weighted sum by folded tables, and the honest quadratics: at 0 plus at 1 the sum folded so far, at a challenge the sum folded once more, and
-- fixed by the values at 0, 1, 2.
use mathlib.Core.Path.{◌≡◌, refl, sym, ◌∙◌, ap, ap₂, fun_ext}
use mathlib.Core.List.{List, [], ◌∷◌, ◌++◌}
use Prim.Native.Nat.{ℕ, suc, ◌-◌, ◌^◌, ◌<◌}
use native.Mathlib.Nat.{pow-succ'}
use native.Mathlib.Omega.{arith}
use lib.ListN.{length, length-append}
use Rattle.algebra.specs.Ring.{Ring, num}
use Rattle.algebra.specs.Polynomial.{Degree}
use Rattle.algebra.proofs.Sums.{sum_cong, sum_cong_below}
use Rattle.algebra.proofs.Degrees.{degree_same}
use Rattle.tables.specs.FoldPle.{fold_ple}
use Rattle.tables.specs.FoldMany.{fold_many}
use Rattle.tables.specs.Quadratic.{quadratic}
use Rattle.tables.proofs.Quadratics.{quadratic_degree}
use Rattle.tables.proofs.PrismFolds.{prism_fold}
use Rattle.tables.proofs.RepeatedFolds.{fold_many_snoc, fold_many_all, prism-corner}
use Rattle.weights.specs.Run.{Run, stack_of}
use Rattle.weights.specs.Weights.{weights}
use Rattle.weights.specs.StackColumns.{stack_rows, folded_column, true_opening}
use Rattle.weights.specs.FoldedSum.{column_term, folded_sum, honest}
use Rattle.weights.proofs.RoundSums.{pair_sum, round_sum, round_sum-claim, round_sum-quadratic}

module _ {A : Type 0} (R : Ring A) (half w : A) (run : Run A) where
  -- the weights of column k after the folds at u and us
  abbrev pub folded_weights : A → List A → ℕ → ℕ → A
  folded_weights u us k = fold_many R (fold_ple R half run.skip w (weights R half w run k) u) us

module _ {A : Type 0} (R : Ring A) (half w : A) (run : Run A) (cells : ℕ → A) (u : A) where
  infixl 60 ◌⊕◌
  infixl 70 ◌⊗◌
  open R use {zero as 𝟘, one as 𝟙, add as ◌⊕◌, mul as ◌⊗◌}

  -- the stack column of column k after the same folds
  abbrev values : List A → ℕ → ℕ → A
  values us k = folded_column R half w run cells u us (stack_of run k)

  -- an opening is what all folds leave
  pub true_opening-folded : (us : List A) (c : ℕ) → true_opening R half w run cells u us c ≡ folded_column R half w run cells u us c 0
  unfolding true_opening folded_column
  true_opening-folded us c = prism_fold R half run.skip w (stack_rows run cells c) u us ∙ sym (fold_many_all R _ us)

  pub folded_sum-tables : (us : List A)
      → folded_sum R half w run cells u us ≡ pair_sum R run.count (2 ^ (run.stack - length us)) (folded_weights R half w run u us) (values us)
  unfolding folded_sum column_term pair_sum folded_column
  folded_sum-tables us =
      sum_cong R run.count (λ k.
      sum_cong_below R (2 ^ (run.stack - length us)) (λ y h.
      ap₂ ◌⊗◌ (prism-corner R half run.skip w (weights R half w run k) u us (run.stack - length us) y h)
      (prism-corner R half run.skip w (stack_rows run cells (stack_of run k)) u us (run.stack - length us) y h)))

  pub honest-tables : (us : List A) (x : A) → honest R half w run cells u us x
      ≡ round_sum R run.count (2 ^ (run.stack - suc (length us))) (folded_weights R half w run u us) (values us) x
  unfolding honest round_sum folded_column
  honest-tables us x =
      folded_sum-tables (us ++ (x ∷ []))
      ∙ ap (λ j. pair_sum R run.count (2 ^ (run.stack - j)) (folded_weights R half w run u (us ++ (x ∷ []))) (values (us ++ (x ∷ []))))
      {x = length (us ++ (x ∷ []))} {y = suc (length us)} (omega (arith, length-append us (x ∷ [])))
      ∙ ap₂ (λ a b. pair_sum R run.count (2 ^ (run.stack - suc (length us))) a b)
      (fun_ext (λ k. fold_many_snoc R (fold_ple R half run.skip w (weights R half w run k) u) us x))
      (fun_ext (λ k. fold_many_snoc R (fold_ple R half run.skip w (stack_rows run cells (stack_of run k)) u) us x))

  -- at a challenge it is the sum folded once more
  pub honest_next : (us : List A) (x : A) → honest R half w run cells u us x ≡ folded_sum R half w run cells u (us ++ (x ∷ []))
  unfolding honest
  honest_next us x = refl

  pub honest-sum : (us : List A) → length us < run.stack
      → honest R half w run cells u us 𝟘 ⊕ honest R half w run cells u us 𝟙 ≡ folded_sum R half w run cells u us
  honest-sum us h =
      ap₂ ◌⊕◌ (honest-tables us 𝟘) (honest-tables us 𝟙)
      ∙ round_sum-claim R run.count (2 ^ (run.stack - suc (length us))) (folded_weights R half w run u us) (values us)
      ∙ ap (λ n. pair_sum R run.count n (folded_weights R half w run u us) (values us))
      (sym (pow-succ' 2 (run.stack - suc (length us))) ∙ ap (λ j. 2 ^ j) {x = suc (run.stack - suc (length us))} {y = run.stack - length us} (omega arith))
      ∙ sym (folded_sum-tables us)

  pub honest-quadratic : half ⊗ num R 2 ≡ 𝟙 → (us : List A) (x : A) → honest R half w run cells u us x
      ≡ quadratic R half (honest R half w run cells u us 𝟘) (honest R half w run cells u us 𝟙) (honest R half w run cells u us (num R 2)) x
  honest-quadratic half_two us x =
      honest-tables us x
      ∙ round_sum-quadratic R half half_two run.count (2 ^ (run.stack - suc (length us))) (folded_weights R half w run u us) (values us) x
      ∙ sym (λ i. quadratic R half (honest-tables us 𝟘 i) (honest-tables us 𝟙 i) (honest-tables us (num R 2) i) x)

  pub honest_degree : half ⊗ num R 2 ≡ 𝟙 → (us : List A) → Degree R 2 (honest R half w run cells u us)
  honest_degree half_two us = degree_same R 2 _ _ (honest-quadratic half_two us) (quadratic_degree R half half_two _ _ _)
