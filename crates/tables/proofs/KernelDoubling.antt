-- The Lagrange kernels L_j(u) of all powers by doubling: after s steps entry j is the mean of the powers of (u·w^(−j))^(2^(l − s)) over order 2^s,
-- and the entries j and 2^s + j of the next step differ in a sign only.
use mathlib.Core.Path.{◌≡◌, refl, sym, ◌∙◌, ap, ap₂, subst}
use mathlib.Core.List.{[], ◌∷◌}
use Prim.Native.Nat.{ℕ, suc, ◌+◌, ◌-◌, ◌^◌, ◌<◌, ◌≤◌}
use native.Mathlib.Nat
use native.Mathlib.Omega.{arith}
use Rattle.algebra.specs.Ring.{Ring, pow}
use Rattle.algebra.specs.Sum.{sum}
use Rattle.algebra.proofs.Expression.{:0, :1, ◌:+◌, ◌:-◌, ◌:*◌, :neg, ◌:=◌}
use Rattle.algebra.proofs.Solver.{solve}
use Rattle.algebra.proofs.RingLaws as Laws
use Rattle.algebra.proofs.Powers.{two_pow-add, pow-add, pow-mul, pow-pow, pow_swap, pow_back, pow-inverse}
use Rattle.tables.specs.Root.{IsRoot, Skip}
use Rattle.tables.specs.Lagrange.{lagrange}
use Rattle.tables.proofs.Roots.{root_power, root_raise, root-inverse, inverse, mul-inverse}
use Rattle.tables.proofs.GeometricSums.{geo, geo-zero, mean, mean-add}
use Rattle.tables.proofs.LagrangeBasis.{lagrange-mean}

module _ {A : Type 0} (R : Ring A) (half : A) where
  infixl 60 ◌⊕◌ ◌⊖◌
  infixl 70 ◌⊗◌
  open R use {one as 𝟙, add as ◌⊕◌, mul as ◌⊗◌, neg, mul_one}

  abbrev ◌⊖◌ : A → A → A
  a ⊖ b = a ⊕ neg b

  mean_first : (y : A) → mean R half 1 y ≡ half ⊗ (𝟙 ⊕ y)
  unfolding mean geo sum pow
  mean_first y = solve R (half ∷ y ∷ []) (λ h y. h :* :1 :* (:0 :+ :1 :+ y :* :1) := h :* (:1 :+ y)) refl

  -- one factor more
  mean_next : (s : ℕ) (y m : A) → mean R half s (pow R y 2) ≡ m → mean R half (suc s) y ≡ half ⊗ m ⊕ half ⊗ m ⊗ y
  mean_next s y m e =
      ap (λ n. mean R half n y) {x = suc s} {y = 1 + s} (omega arith) ∙ mean-add R half 1 s y ∙ ap₂ ◌⊗◌ (mean_first y) e
      ∙ solve R (half ∷ y ∷ m ∷ []) (λ h y m. h :* (:1 :+ y) :* m := h :* m :+ h :* m :* y) refl

  -- the kernels after s steps
  unfoldable pub kernel : ℕ → A → ℕ → A → ℕ → A
  kernel l v s u j = mean R half s (pow R (u ⊗ pow R v j) (2 ^ (l - s)))

  pub kernel_start : (l : ℕ) (v u : A) (j : ℕ) → kernel l v 0 u j ≡ 𝟙
  unfolding kernel mean pow
  kernel_start l v u j = ap (λ x. 𝟙 ⊗ x) (geo-zero R _) ∙ mul_one 𝟙

  -- s + 1 + d steps in all
  module _ (s d : ℕ) (v u : A) where
    abbrev l : ℕ
    l = s + suc d

    power : ℕ → A
    power j = pow R (u ⊗ pow R v j) (2 ^ d)

    halved : (j : ℕ) → pow R (power j) 2 ≡ pow R (u ⊗ pow R v j) (2 ^ (l - s))
    unfolding power
    halved j = pow-pow R (u ⊗ pow R v j) (2 ^ d) 2 ∙ ap (pow R (u ⊗ pow R v j)) (sym (Nat.pow-suc 2 d) ∙ ap (λ n. 2 ^ n) {x = suc d} {y = l - s} (omega arith))

    at_next : (j : ℕ) → kernel l v (suc s) u j ≡ mean R half (suc s) (power j)
    unfolding kernel power
    at_next j = ap (λ n. mean R half (suc s) (pow R (u ⊗ pow R v j) (2 ^ n))) {x = l - suc s} {y = d} (omega arith)

    kernel_low : (j : ℕ) → kernel l v (suc s) u j ≡ half ⊗ kernel l v s u j ⊕ half ⊗ kernel l v s u j ⊗ power j
    unfolding kernel
    kernel_low j = at_next j ∙ mean_next s (power j) (mean R half s (pow R (u ⊗ pow R v j) (2 ^ (l - s)))) (ap (mean R half s) (halved j))

    -- half a turn further, the sign changes
    module _ (root : IsRoot R l v) where
      half_turn : pow R (pow R v (2 ^ s)) (2 ^ d) ≡ neg 𝟙
      half_turn =
          pow-pow R v (2 ^ s) (2 ^ d) ∙ ap (pow R v) (sym (two_pow-add s d))
          ∙ subst (λ n. IsRoot R n v) {x = l} {y = suc (s + d)} (Nat.add-suc s d) root

      power_turned : (j : ℕ) → power (2 ^ s + j) ≡ neg (power j)
      unfolding power
      power_turned j =
          ap (λ x. pow R (u ⊗ x) (2 ^ d)) (pow-add R v (2 ^ s) j)
          ∙ ap (λ x. pow R x (2 ^ d)) (Laws.mul_left_comm R u (pow R v (2 ^ s)) (pow R v j)) ∙ pow-mul R (pow R v (2 ^ s)) (u ⊗ pow R v j) (2 ^ d)
          ∙ ap (λ x. x ⊗ pow R (u ⊗ pow R v j) (2 ^ d)) half_turn
          ∙ solve R (pow R (u ⊗ pow R v j) (2 ^ d) ∷ []) (λ y. :neg :1 :* y := :neg y) refl

      kernel-high : (j : ℕ) → kernel l v (suc s) u (2 ^ s + j) ≡ half ⊗ kernel l v s u j ⊖ half ⊗ kernel l v s u j ⊗ power j
      unfolding kernel pow
      kernel-high j =
          at_next (2 ^ s + j) ∙ ap (mean R half (suc s)) (power_turned j)
          ∙ mean_next s (neg (power j)) (mean R half s (pow R (u ⊗ pow R v j) (2 ^ (l - s))))
          (ap (mean R half s) (solve R (power j ∷ []) (λ y. :neg y :* (:neg y :* :1) := y :* (y :* :1)) refl ∙ halved j))
          ∙ solve R (half ∷ mean R half s (pow R (u ⊗ pow R v j) (2 ^ (l - s))) ∷ power j ∷ []) (λ h m y. h :* m :+ h :* m :* :neg y := h :* m :- h :* m :* y) refl

module _ {A : Type 0} {R : Ring A} {half w : A} (l : ℕ) (skip : Skip R half l w) where
  infixl 60 ◌⊕◌
  infixl 70 ◌⊗◌
  open R use {one as 𝟙, add as ◌⊕◌, mul as ◌⊗◌, neg, mul_comm, mul_one}

  abbrev pub v : A
  v = inverse R l w

  w-v : w ⊗ v ≡ 𝟙
  w-v = mul-inverse R l w skip.root

  -- entry j after s steps, and its factor in the next: by the generator a of order 2^(s + 1)
  abbrev pub entry : ℕ → A → ℕ → A
  entry s u j = kernel R half l v s u j

  pub entry_end : (u : A) (j : ℕ) → j ≤ 2 ^ l → entry l u j ≡ lagrange R half l w j u
  unfolding kernel pow
  entry_end u j h =
      ap (λ n. mean R half l (pow R (u ⊗ pow R v j) (2 ^ n))) {x = l - l} {y = 0} (omega arith) ∙ ap (mean R half l) (mul_one _) ∙ sym (lagrange-mean skip j u h)

  module _ (s d : ℕ) (split : s + suc d ≡ l) (a u : A) (raised : pow R w (2 ^ d) ≡ a) where
    abbrev factor : ℕ → A
    factor j = pow R a (2 ^ suc s - j) ⊗ pow R u (2 ^ d)

    a-root : IsRoot R (suc s) a
    a-root =
        subst (IsRoot R (suc s)) raised
        (root_raise R (suc s) d w (subst (λ n. IsRoot R n w) {x = l} {y = suc s + d} (omega arith) skip.root))

    a-inverse : a ⊗ pow R v (2 ^ d) ≡ 𝟙
    a-inverse = ap (λ x. x ⊗ pow R v (2 ^ d)) (sym raised) ∙ pow-inverse R w v (2 ^ d) w-v

    factor_is : (j : ℕ) → j < 2 ^ s → power R half s d v u j ≡ factor j
    unfolding power
    factor_is j h =
        pow-mul R u (pow R v j) (2 ^ d) ∙ mul_comm _ _
        ∙ ap (λ x. x ⊗ pow R u (2 ^ d))
        (pow_swap R v j (2 ^ d) ∙ sym (pow_back R a (pow R v (2 ^ d)) (2 ^ suc s) j a-inverse (root_power R (suc s) a a-root) (omega (arith, Nat.two-pow-succ s))))

    pub entry_low : (j : ℕ) → j < 2 ^ s → entry (suc s) u j ≡ half ⊗ entry s u j ⊕ half ⊗ entry s u j ⊗ factor j
    entry_low j h =
        ap (λ n. kernel R half n v (suc s) u j) (sym split) ∙ kernel_low R half s d v u j
        ∙ ap₂ (λ k y. half ⊗ k ⊕ half ⊗ k ⊗ y) (ap (λ n. kernel R half n v s u j) split) (factor_is j h)

    pub entry-high : (j : ℕ) → j < 2 ^ s → entry (suc s) u (2 ^ s + j) ≡ half ⊗ entry s u j ⊕ neg (half ⊗ entry s u j ⊗ factor j)
    entry-high j h =
        ap (λ n. kernel R half n v (suc s) u (2 ^ s + j)) (sym split)
        ∙ kernel-high R half s d v u (subst (λ n. IsRoot R n v) (sym split) (root-inverse R l w v w-v skip.root)) j
        ∙ ap₂ (λ k y. half ⊗ k ⊕ neg (half ⊗ k ⊗ y)) (ap (λ n. kernel R half n v s u j) split) (factor_is j h)
