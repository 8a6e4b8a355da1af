-- The coefficients that the algorithm adds up are those of the honest first polynomial: both have the same values everywhere.
use mathlib.Core.Path.{◌≡◌, refl, sym, ◌∙◌, ap, ap₂, subst}
use mathlib.Core.List.{[], ◌∷◌}
use Prim.Native.Nat.{ℕ, suc, ◌+◌, ◌*◌, ◌-◌, ◌^◌, ◌<◌, ◌≤◌}
use native.Mathlib.Omega.{arith}
use lib.ListN.{get_or}
use Rattle.algebra.specs.Ring.{Ring, sub, pow}
use Rattle.algebra.specs.Sum.{sum}
use Rattle.algebra.specs.Listed.{listed}
use Rattle.algebra.specs.Polynomial.{value}
use Rattle.algebra.proofs.Lists.{length-listed, get_d_listed}
use Rattle.algebra.proofs.Expression.{◌:+◌, ◌:*◌, ◌:=◌}
use Rattle.algebra.proofs.Solver.{solve}
use Rattle.algebra.proofs.Sums.{sum_cong, sum_cong_below, sum-add, sum-mul}
use Rattle.field.specs.Element.{Elem, F, half_elem}
use Rattle.field.specs.Powers.{root}
use Rattle.tables.specs.Root.{Skip}
use Rattle.tables.specs.EqUni.{eq_uni}
use Rattle.tables.specs.InUni.{in_uni}
use Rattle.tables.proofs.FieldSkip.{field_skip}
use Rattle.tables.proofs.PolynomialValues.{value-listed}
use Rattle.weights.specs.Run.{Run}
use Rattle.weights.specs.FoldedSum.{folded_sum}
use Rattle.weights.specs.Fits.{Planned}
use Rattle.tables.specs.Interpolated.{interpolated}
use Rattle.tables.specs.Geometric.{geometric}
use Rattle.tables.proofs.Interpolations.{interpolated-value}
use Rattle.tables.proofs.Products.{product_value}
use Rattle.tables.proofs.KernelValues.{geometric-value}
use Rattle.weights.specs.FirstPolynomial.{first_coefficient, first_polynomial}
use Rattle.weights.specs.Parts.{class_rows, flagged_rows, rotated_rows, at_order, kernel_at, through, wrap, kernel_product, parts_coefficient}
use Rattle.weights.proofs.FirstPolynomials.{length_is, value_of_sum}
use Rattle.weights.proofs.PartSums.{first_parts}
use Rattle.weights.proofs.OnlyFirst.{first_only}

module _ {A : Type 0} (R : Ring A) where
  infixl 60 ◌⊕◌
  infixl 70 ◌⊗◌
  open R use {add as ◌⊕◌, mul as ◌⊗◌, mul_assoc}

  pub value-plus : (n : ℕ) (f g : ℕ → A) (z : A) → value R (listed n (λ j. f j ⊕ g j)) z ≡ value R (listed n f) z ⊕ value R (listed n g) z
  value-plus n f g z =
      value-listed R n _ z ∙ sum_cong R n (λ k. solve R (f k ∷ g k ∷ pow R z k ∷ []) (λ f g z. (f :+ g) :* z := f :* z :+ g :* z) refl)
      ∙ sum-add R n (λ k. f k ⊗ pow R z k) (λ k. g k ⊗ pow R z k) ∙ ap₂ ◌⊕◌ (sym (value-listed R n f z)) (sym (value-listed R n g z))

  pub value_times : (n : ℕ) (c : A) (f : ℕ → A) (z : A) → value R (listed n (λ j. c ⊗ f j)) z ≡ c ⊗ value R (listed n f) z
  value_times n c f z =
      value-listed R n _ z ∙ sum_cong R n (λ k. mul_assoc c (f k) (pow R z k)) ∙ sum-mul R n c (λ k. f k ⊗ pow R z k) ∙ ap (λ x. c ⊗ x) (sym (value-listed R n f z))

module _ {A : Type 0} {R : Ring A} {half w : A} (run : Run A) (skip : Skip R half run.skip w) (cells : ℕ → A) (z : A) where
  infixl 60 ◌⊕◌
  infixl 70 ◌⊗◌
  open R use {one as 𝟙, add as ◌⊕◌, mul as ◌⊗◌}

  abbrev s : ℕ
  s = run.skip

  abbrev n : ℕ
  n = 2 * 2 ^ s - 1

  kernel-value : (o : ℕ) → o ≤ s → (y : A) → value R (listed (2 ^ s) (geometric R half s o y)) z ≡ kernel_at R half w run cells o y z
  unfolding kernel_at
  kernel-value o h y =
      subst (λ m. value R (listed (2 ^ m) (geometric R half m o y)) z ≡ in_uni R half o (s - o) w z ⊗ eq_uni R half o (pow R w (2 ^ (s - o))) z y) split
      (geometric-value o (s - o) (subst (λ m. Skip R half m w) (sym split) skip) y z)
    where
      split : o + (s - o) ≡ s
      split = omega arith

  product_at_lem : (o : ℕ) → o ≤ s → (y : A) (v : ℕ → A) → value R (listed n (kernel_product R half w run cells o y v)) z ≡ kernel_at R half w run cells o y z ⊗ through R half w run cells v z
  unfolding kernel_product through
  product_at_lem o h y v =
      product_value R (2 ^ s) (geometric R half s o y) (interpolated R half s w v) z ∙ ap₂ ◌⊗◌ (kernel-value o h y) (interpolated-value R half s w v z)

  pub parts_value : Planned run → value R (listed n (parts_coefficient R half w run cells)) z ≡ folded_sum R half w run cells z []
  unfolding parts_coefficient
  parts_value planned =
      value-plus R n (λ j. sum R (suc s) (λ o. a o j ⊕ run.lambda ⊗ b o j)) (λ j. run.lambda ⊗ wrap R half w run cells ⊗ c j) z
      ∙ ap₂ ◌⊕◌
      (value_of_sum R n (suc s) (λ o j. a o j ⊕ run.lambda ⊗ b o j) z
      ∙ sum_cong_below R (suc s) (λ o h.
      value-plus R n (a o) (λ j. run.lambda ⊗ b o j) z
      ∙ ap₂ ◌⊕◌ (product_at_lem o (omega arith) _ _) (value_times R n run.lambda (b o) z ∙ ap (λ x. run.lambda ⊗ x) (product_at_lem o (omega arith) _ _))))
      (value_times R n (run.lambda ⊗ wrap R half w run cells) c z ∙ ap (λ x. run.lambda ⊗ wrap R half w run cells ⊗ x) (product_at_lem s (omega arith) _ _))
      ∙ sym (first_parts R half w run cells z skip planned)
    where
      a : ℕ → ℕ → A
      a o = kernel_product R half w run cells o (at_order R half w run cells o run.r0) (class_rows R run cells o)

      b : ℕ → ℕ → A
      b o = kernel_product R half w run cells o (at_order R half w run cells o w ⊗ at_order R half w run cells o run.r0) (flagged_rows R run cells o)

      c : ℕ → A
      c = kernel_product R half w run cells s 𝟙 (λ i. sub R (rotated_rows R run cells i) (flagged_rows R run cells s i))

-- at the field, coefficient by coefficient
pub parts_coefficient_lem : (run : Run Elem) (cells : ℕ → Elem) → Planned run → (j : ℕ) → j < 2 * 2 ^ run.skip - 1
    → parts_coefficient F half_elem (root run.skip) run cells j ≡ first_coefficient F half_elem (root run.skip) run cells j
unfolding first_polynomial
parts_coefficient_lem run cells planned j h =
    sym (get_d_listed n p j F.zero h) ∙ ap (λ l. get_or l j F.zero) same ∙ ap (λ m. get_or (listed m f) j F.zero) (length_is F half_elem (root run.skip) run cells)
    ∙ get_d_listed n f j F.zero h
  where
    n : ℕ
    n = 2 * 2 ^ run.skip - 1

    limit : run.skip ≤ 10
    limit = planned.limit

    p : ℕ → Elem
    p = parts_coefficient F half_elem (root run.skip) run cells

    f : ℕ → Elem
    f = first_coefficient F half_elem (root run.skip) run cells

    same : listed n p ≡ first_polynomial F half_elem (root run.skip) run cells
    same =
        first_only run cells limit (listed n p) (length-listed n p ∙ sym (length_is F half_elem (root run.skip) run cells))
        (λ z. parts_value run (field_skip run.skip (omega arith)) cells z planned)
