-- The weighted sum folded so far as the true values of the game: of degree 2·(2^l_skip − 1) in u_0, and a quadratic in each later challenge.
use mathlib.Core.Path.{◌≡◌, sym, ◌∙◌, ap, subst, fun_ext}
use mathlib.Core.List.{List, [], ◌∷◌, ◌++◌, append-nil, append_assoc}
use Prim.Native.Nat.{ℕ, zero, suc, ◌+◌, ◌-◌, ◌*◌, ◌^◌}
use native.Mathlib.Nat
use native.Mathlib.Omega.{arith}
use lib.ListN.{length, length-append}
use Rattle.algebra.specs.Ring.{Ring, num}
use Rattle.algebra.specs.Polynomial.{Degree}
use Rattle.algebra.proofs.Powers.{two_pow-pos}
use Rattle.weights.specs.Run.{Run}
use Rattle.weights.specs.FoldedSum.{folded_sum, honest}
use Rattle.weights.specs.FirstPolynomial.{first_polynomial}
use Rattle.weights.proofs.FirstPolynomials.{length_is, first_length, first_value}
use Rattle.weights.proofs.HonestQuadratics.{honest-sum, honest_degree}
use Rattle.reduction.proofs.Game.{TrueValues}

module _ {A : Type 0} (R : Ring A) (half w : A) where
  module _ (run : Run A) (cells : ℕ → A) where
    -- in u_0: the honest first polynomial
    pub first_degree : Degree R ((2 ^ run.skip - 1) + (2 ^ run.skip - 1)) (λ u. folded_sum R half w run cells u [])
    first_degree = (
      first_polynomial R half w run cells,
      first_length R half w run cells ∙ length_is R half w run cells
          ∙ (let e : 2 * 2 ^ run.skip - 1 ≡ suc ((2 ^ run.skip - 1) + (2 ^ run.skip - 1)) = omega (arith, two_pow-pos run.skip) in e),
      λ u. sym (first_value R half w run cells u),
    )

    module _ (half_two : R.mul half (num R 2) ≡ R.one) (u : A) where
      -- in the later challenges, after those in vs
      pub true-from : (n : ℕ) (vs : List A) → length vs + n ≡ run.stack → TrueValues R n (λ v. folded_sum R half w run cells u (vs ++ v))
      unfolding honest
      true-from zero vs e = tt
      true-from (suc n) vs e = (
        honest_degree R half w run cells u half_two vs,
        honest-sum R half w run cells u vs (omega arith) ∙ ap (folded_sum R half w run cells u) (sym (append-nil vs)),
        λ x. subst (TrueValues R n) (fun_ext (λ v. ap (folded_sum R half w run cells u) (append_assoc vs (x ∷ []) v)))
            (true-from n (vs ++ (x ∷ [])) (let k : length (vs ++ (x ∷ [])) ≡ length vs + 1 = length-append vs (x ∷ []) in omega arith)),
      )

      pub true-values : TrueValues R run.stack (folded_sum R half w run cells u)
      true-values = true-from run.stack [] (Nat.zero-add run.stack)
