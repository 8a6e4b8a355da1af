-- A pass of the transform does one doubling of the sums, as one formula and as two; none is the table itself, all are the transform, which is interpolation.
use mathlib.Core.Path.{◌≡◌, refl, sym, ◌∙◌, ap, ap₂}
use mathlib.Core.List.{[], ◌∷◌}
use Prim.Native.Nat.{ℕ, suc, ◌+◌, ◌*◌, ◌-◌, ◌/◌, ◌%◌, ◌^◌, ◌<◌}
use native.Mathlib.Nat
use native.Mathlib.Omega.{arith}
use Rattle.algebra.specs.Ring.{Ring, pow}
use Rattle.algebra.specs.Sum.{sum}
use Rattle.algebra.proofs.Expression.{◌:*◌, ◌:=◌}
use Rattle.algebra.proofs.Solver.{solve}
use Rattle.algebra.proofs.Sums.{sum_cong, sum-mul, sum_single, sum_lowest}
use Rattle.algebra.proofs.Powers.{two_pow-pos, two_pow-add, pow-add, pow-pow, pow_is_one}
use Rattle.tables.proofs.Indices.{grid_mod, grid_div}
use Rattle.tables.specs.Passes.{source, of_order, pass, passed, transformed}

-- i modulo twice m
pub mod_twice : (m i : ℕ) → i % (m * 2) ≡ i % m + m * (i / m % 2)
mod_twice m i =
    let q : ℕ = i / (m * 2) in
    let a : i / m / 2 ≡ i / (m * 2) = Nat.div-div-eq-div-mul i m 2 in
    omega (arith, a, Nat.mod-add-div i m, Nat.mod-add-div i (m * 2), ap (λ k. m * k) (sym (Nat.mod-add-div (i / m) 2)), Nat.mul-add m (i / m % 2) (2 * (i / m / 2)), sym (Nat.mul_assoc m 2 (i / m / 2)), ap (λ k. m * 2 * k) a)

module _ (l s : ℕ) (lt : s < l) where
  -- the distances before and after
  pub twice : 2 ^ (l - s) ≡ 2 * 2 ^ (l - suc s)
  twice = ap (λ k. 2 ^ k) {x = l - s} {y = suc (l - suc s)} (omega arith) ∙ Nat.pow-succ' 2 (l - suc s)

  pub half_way : 2 ^ (l - 1) ≡ 2 ^ s * 2 ^ (l - suc s)
  half_way = ap (λ k. 2 ^ k) {x = l - 1} {y = s + (l - suc s)} (omega arith) ∙ two_pow-add s (l - suc s)

module _ {A : Type 0} (R : Ring A) (l : ℕ) (u : A) where
  infixl 60 ◌⊕◌
  infixl 70 ◌⊗◌
  open R use {one as 𝟙, add as ◌⊕◌, mul as ◌⊗◌, neg, mul_one}

  pub passed_none : (v : ℕ → A) (i : ℕ) → i < 2 ^ l → passed R l u 0 v i ≡ v i
  unfolding passed pow
  passed_none v i h =
      sum_single R _
      ∙ ap₂ (λ n e. v n ⊗ pow R (of_order R l u 0) e) {x = i / 1 + 2 ^ (l - 0) * 0} {y = i} {u = 0 * (i % 1)} {v = 0} (omega (arith, Nat.div-one i, Nat.mul-zero (2 ^ (l - 0)))) (Nat.zero-mul (i % 1))
      ∙ mul_one (v i)

  pub passed_all : (v : ℕ → A) (k : ℕ) → k < 2 ^ l → passed R l u l v k ≡ transformed R l u v k
  unfolding passed transformed pow
  passed_all v k h =
      sum_cong R (2 ^ l) (λ j.
      ap₂ (λ n e. v n ⊗ pow R (of_order R l u l) e) (ap₂ (λ a b. a + b * j) (Nat.div-eq_of_lt h) (ap (λ n. 2 ^ n) {x = l - l} {y = 0} (omega arith)) ∙ omega (arith, Nat.one-mul j)) (ap (λ n. j * n) (Nat.mod-eq_of_lt h))
      ∙ ap (λ x. v j ⊗ pow R x (j * k)) (ap (λ n. pow R u (2 ^ n)) {x = l - l} {y = 0} (omega arith) ∙ mul_one u))

  module _ (root : pow R u (2 ^ l) ≡ 𝟙) (s : ℕ) (lt : s < l) where
    abbrev U : A
    U = of_order R l u (suc s)

    abbrev U' : A
    U' = of_order R l u s

    squared : U' ≡ pow R U 2
    squared = ap (pow R u) (twice l s lt ∙ Nat.mul_comm 2 _) ∙ sym (pow-pow R u (2 ^ (l - suc s)) 2)

    full_turn : pow R U' (2 ^ s) ≡ 𝟙
    full_turn = pow-pow R u (2 ^ (l - s)) (2 ^ s) ∙ ap (pow R u) (sym (two_pow-add (l - s) s) ∙ ap (λ k. 2 ^ k) {x = l - s + s} {y = l} (omega arith)) ∙ root

    -- the exponent counts modulo 2^s
    turned : (j i : ℕ) → pow R U' (j * (i % 2 ^ suc s)) ≡ pow R U' (j * (i % 2 ^ s))
    turned j i =
        ap (pow R U') (ap (λ k. j * k) (ap (λ n. i % n) (Nat.pow-suc 2 s) ∙ mod_twice (2 ^ s) i) ∙ Nat.mul-add j (i % 2 ^ s) (2 ^ s * (i / 2 ^ s % 2)) ∙ ap (λ k. j * (i % 2 ^ s) + k) (Nat.mul_left_comm j (2 ^ s) (i / 2 ^ s % 2)))
        ∙ pow-add R U' (j * (i % 2 ^ s)) (2 ^ s * (j * (i / 2 ^ s % 2)))
        ∙ ap (λ x. pow R U' (j * (i % 2 ^ s)) ⊗ x) (pow_is_one R U' (2 ^ s) (j * (i / 2 ^ s % 2)) full_turn) ∙ mul_one _

    even_power : (j k : ℕ) → pow R U (2 * j * k) ≡ pow R U' (j * k)
    even_power j k = ap (pow R U) (Nat.mul_assoc 2 j k) ∙ sym (pow-pow R U 2 (j * k)) ∙ ap (λ x. pow R x (j * k)) (sym squared)

    module _ (v : ℕ → A) (i : ℕ) where
      first_part : passed R l u s v (source s i) ≡ sum R (2 ^ s) (λ j. v (i / 2 ^ suc s + 2 ^ (l - s) * j) ⊗ pow R U' (j * (i % 2 ^ s)))
      unfolding passed source
      first_part =
          sum_cong R (2 ^ s) (λ j.
          ap₂ (λ p k. v (p + 2 ^ (l - s) * j) ⊗ pow R U' (j * k)) (grid_div (2 ^ s) (i % 2 ^ s) (i / 2 ^ suc s) (Nat.mod-lt i (two_pow-pos s))) (grid_mod (2 ^ s) (i % 2 ^ s) (i / 2 ^ suc s) (Nat.mod-lt i (two_pow-pos s))))

      further : source s i + 2 ^ (l - 1) ≡ i % 2 ^ s + 2 ^ s * (i / 2 ^ suc s + 2 ^ (l - suc s))
      unfolding source
      further = ap (λ n. i % 2 ^ s + 2 ^ s * (i / 2 ^ suc s) + n) (half_way l s lt) ∙ omega (arith, Nat.mul-add (2 ^ s) (i / 2 ^ suc s) (2 ^ (l - suc s)))

      second-part : passed R l u s v (source s i + 2 ^ (l - 1)) ≡ sum R (2 ^ s) (λ j. v (i / 2 ^ suc s + 2 ^ (l - suc s) + 2 ^ (l - s) * j) ⊗ pow R U' (j * (i % 2 ^ s)))
      unfolding passed
      second-part =
          ap (passed R l u s v) further
          ∙ sum_cong R (2 ^ s) (λ j.
          ap₂ (λ p k. v (p + 2 ^ (l - s) * j) ⊗ pow R U' (j * k)) (grid_div (2 ^ s) (i % 2 ^ s) (i / 2 ^ suc s + 2 ^ (l - suc s)) (Nat.mod-lt i (two_pow-pos s))) (grid_mod (2 ^ s) (i % 2 ^ s) (i / 2 ^ suc s + 2 ^ (l - suc s)) (Nat.mod-lt i (two_pow-pos s))))

      both_parts : passed R l u (suc s) v i ≡ sum R (2 ^ suc s) (λ j. v (i / 2 ^ suc s + 2 ^ (l - suc s) * j) ⊗ pow R U (j * (i % 2 ^ suc s)))
      unfolding passed
      both_parts = refl

      -- one pass more
      pub pass-passed : pass R l u s (passed R l u s v) i ≡ passed R l u (suc s) v i
      unfolding pass
      pass-passed = sym (both_parts ∙ sum_lowest R s term ∙ ap₂ ◌⊕◌ (sum_cong R (2 ^ s) even ∙ sym first_part) (sum_cong R (2 ^ s) odd ∙ sum-mul R (2 ^ s) (pow R U k) _ ∙ ap (λ x. pow R U k ⊗ x) (sym second-part)))
        where
          p : ℕ
          p = i / 2 ^ suc s

          k : ℕ
          k = i % 2 ^ suc s

          D : ℕ
          D = 2 ^ (l - suc s)

          term : ℕ → A
          term j = v (p + D * j) ⊗ pow R U (j * k)

          there : (j : ℕ) → D * (2 * j) ≡ 2 ^ (l - s) * j
          there j = sym (Nat.mul_assoc D 2 j) ∙ ap (λ n. n * j) (Nat.mul_comm D 2 ∙ sym (twice l s lt))

          even : (j : ℕ) → term (2 * j) ≡ v (p + 2 ^ (l - s) * j) ⊗ pow R U' (j * (i % 2 ^ s))
          even j = ap₂ (λ n x. v (p + n) ⊗ x) (there j) (even_power j k ∙ turned j i)

          odd : (j : ℕ) → term (2 * j + 1) ≡ pow R U k ⊗ (v (p + D + 2 ^ (l - s) * j) ⊗ pow R U' (j * (i % 2 ^ s)))
          odd j =
              ap₂ (λ n x. v n ⊗ x) (ap (λ n. p + n) (Nat.mul-add D (2 * j) 1) ∙ omega (arith, there j, Nat.mul-one D))
              (ap (pow R U) (Nat.add-mul (2 * j) 1 k ∙ ap (λ n. 2 * j * k + n) (Nat.one-mul k)) ∙ pow-add R U (2 * j * k) k ∙ ap (λ x. x ⊗ pow R U k) (even_power j k ∙ turned j i))
              ∙ solve R (v (p + D + 2 ^ (l - s) * j) ∷ pow R U' (j * (i % 2 ^ s)) ∷ pow R U k ∷ []) (λ v x y. v :* (x :* y) := y :* (v :* x)) refl
