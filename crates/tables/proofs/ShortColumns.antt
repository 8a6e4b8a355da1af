-- Short columns: 2^h rows at stride 2^d in the 2^(h+d) rows of the skip subgroup have the Lagrange basis of the raised generator, times in_uni.
use mathlib.Core.Path.{◌≡◌, sym, ◌∙◌, ap, ap₂}
use Prim.Native.Nat.{ℕ, ◌+◌, ◌*◌, ◌^◌, ◌≤◌}
use native.Mathlib.Nat
use Rattle.algebra.specs.Ring.{Ring, pow}
use Rattle.algebra.specs.Sum.{product}
use Rattle.algebra.proofs.Powers.{two_pow-add, pow-mul, pow-pow, pow_is_one, pow-inverse, inverse_unique}
use Rattle.tables.specs.Root.{Skip}
use Rattle.tables.specs.Lagrange.{lagrange}
use Rattle.tables.specs.InUni.{in_uni}
use Rattle.tables.proofs.Roots.{root_power, root-inverse, inverse, mul-inverse, skip_raise, skip_comm}
use Rattle.tables.proofs.GeometricSums.{mean, mean-add}
use Rattle.tables.proofs.LagrangeBasis.{lagrange-mean, lagrange_first, lagrange-product}

module _ {A : Type 0} {R : Ring A} {half w : A} (h d : ℕ) (skip : Skip R half (h + d) w) where
  infixl 60 ◌⊕◌
  infixl 70 ◌⊗◌
  open R use {one as 𝟙, add as ◌⊕◌, mul as ◌⊗◌, mul_comm, mul_one}

  -- the generators of the column's rows, and of the rows between
  pub skip_rows : Skip R half h (pow R w (2 ^ d))
  skip_rows = skip_raise h d skip

  skip_between : Skip R half d (pow R w (2 ^ h))
  skip_between = skip_raise d h (skip_comm h d skip)

  -- 1/w
  abbrev v : A
  v = inverse R (h + d) w

  w-v : w ⊗ v ≡ 𝟙
  w-v = mul-inverse R (h + d) w skip.root

  raised-inverse : inverse R h (pow R w (2 ^ d)) ≡ pow R v (2 ^ d)
  raised-inverse =
      inverse_unique R (inverse R h (pow R w (2 ^ d))) (pow R v (2 ^ d)) (pow R w (2 ^ d))
      (mul_comm _ _ ∙ mul-inverse R h (pow R w (2 ^ d)) skip_rows.root) (pow-inverse R w v (2 ^ d) w-v)

  turns_once : (t : ℕ) → pow R (pow R v (t * 2 ^ d)) (2 ^ h) ≡ 𝟙
  turns_once t =
      pow-pow R v (t * 2 ^ d) (2 ^ h)
      ∙ ap (pow R v) (Nat.mul_assoc t (2 ^ d) (2 ^ h) ∙ ap (λ n. t * n) (Nat.mul_comm (2 ^ d) (2 ^ h) ∙ sym (two_pow-add h d)) ∙ Nat.mul_comm t (2 ^ (h + d)))
      ∙ pow_is_one R v (2 ^ (h + d)) t (root_power R (h + d) v (root-inverse R (h + d) w v w-v skip.root))

  pub lagrange-short : (t : ℕ) (z : A) → t ≤ 2 ^ h → lagrange R half (h + d) w (t * 2 ^ d) z ≡ lagrange R half h (pow R w (2 ^ d)) t z ⊗ in_uni R half h d w z
  unfolding in_uni
  lagrange-short t z small =
      lagrange-mean skip (t * 2 ^ d) z (rw (two_pow-add h d) (Nat.mul-le-mul_right (2 ^ d) small))
      ∙ mean-add R half h d (z ⊗ pow R v (t * 2 ^ d))
      ∙ ap₂ ◌⊗◌
      (ap (λ x. mean R half h (z ⊗ x)) (ap (pow R v) (Nat.mul_comm t (2 ^ d)) ∙ sym (pow-pow R v (2 ^ d) t) ∙ ap (λ x. pow R x t) (sym raised-inverse))
      ∙ sym (lagrange-mean skip_rows t z small))
      (ap (mean R half d) (pow-mul R z (pow R v (t * 2 ^ d)) (2 ^ h) ∙ ap (λ x. pow R z (2 ^ h) ⊗ x) (turns_once t) ∙ mul_one _)
      ∙ sym (lagrange_first skip_between (pow R z (2 ^ h))))

  -- what `eval_in_uni` computes
  pub in_uni-product : (z : A) → in_uni R half h d w z ≡ pow R half d ⊗ product R d (λ i. 𝟙 ⊕ pow R (pow R z (2 ^ h)) (2 ^ i))
  unfolding in_uni
  in_uni-product z = lagrange-product skip_between (pow R z (2 ^ h))
