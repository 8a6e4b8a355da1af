-- The two sides of 14 by what they read: the pairs and challenges of the rounds, and the openings of the stack columns.
use mathlib.Core.Path.{◌≡◌, refl, ap}
use mathlib.Core.List.{List}
use Prim.Native.Nat.{ℕ, zero, suc, ◌<◌}
use native.Mathlib.Omega.{arith}
use Rattle.algebra.specs.Ring.{Ring}
use Rattle.algebra.proofs.Sums.{sum_cong_below}
use Rattle.field.specs.Element.{Elem, F, half_elem, ◌⊗◌}
use Rattle.field.specs.Powers.{root}
use Rattle.tables.specs.Prism.{prism}
use Rattle.weights.specs.Run.{stack_of}
use Rattle.weights.specs.Weights.{weights}
use Rattle.weights.specs.FinalSum.{final_sum}
use Rattle.weights.specs.Carried.{sent, carried}
use Rattle.weights.specs.AtField.{final_sum_f}
use Rattle.prover.specs.Given.{Given, run, stacked}
use Rattle.reduction.proofs.Stands.{Laid}

module _ {A : Type 0} (R : Ring A) (half : A) (claim : A) {p q u p' q' u' : ℕ → A} where
  pub carried_cong : (n : ℕ) → ((j : ℕ) → j < n → p j ≡ p' j) → ((j : ℕ) → j < n → q j ≡ q' j) → ((j : ℕ) → j < n → u j ≡ u' j)
      → carried R half claim p q u n ≡ carried R half claim p' q' u' n
  unfolding carried
  carried_cong zero e f h = refl
  carried_cong (suc n) e f h = λ i.
      sent R half (carried_cong n (λ j s. e j (omega arith)) (λ j s. f j (omega arith)) (λ j s. h j (omega arith)) i) (e n (omega arith) i) (f n (omega arith) i)
      (h n (omega arith) i)

-- the last sum reads the openings of the stack columns that there are
pub final_sum_cong : (g : Given) → Laid g → (u : Elem) (us : List Elem) {f h : ℕ → Elem} → ((c : ℕ) → c < stacked g → f c ≡ h c)
    → final_sum_f (run g) u us f ≡ final_sum_f (run g) u us h
unfolding final_sum
final_sum_cong g laid u us e =
    sum_cong_below F (run g).count (λ k s.
    ap (λ x. prism F half_elem g.skip (root g.skip) (weights F half_elem (root g.skip) (run g) k) u us ⊗ x) (e (stack_of (run g) k) (laid.inside k s)))
