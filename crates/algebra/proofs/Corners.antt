-- Corners of the cube: a point of bits picks one entry of a table. And folding at 0 and at 1, and of sums and multiples of tables.
use mathlib.Core.Path.{◌≡◌, refl, ◌∙◌, ap, ap₂}
use mathlib.Core.Logic.{◌≢◌}
use mathlib.Core.List.{List, [], ◌∷◌}
use Prim.Native.Nat.{ℕ, zero, suc, ◌+◌, ◌*◌, ◌^◌, ◌/◌, ◌%◌, ◌<◌}
use native.Mathlib.Nat.{pow-succ'}
use native.Mathlib.Decide.{ℕ_discrete}
use native.Mathlib.Omega.{arith}
use lib.ListN.{length}
use Rattle.algebra.specs.Ring.{Ring}
use Rattle.algebra.specs.Sum.{sum}
use Rattle.algebra.specs.Multilinear.{bit_factor, cube_factor, mle, line, fold_mle, bit, bits}
use Rattle.algebra.proofs.RingLaws as Laws
use Rattle.algebra.proofs.Expression.{:0, :1, ◌:+◌, ◌:-◌, ◌:*◌, ◌:=◌}
use Rattle.algebra.proofs.Solver.{solve}
use Rattle.algebra.proofs.Sums.{sum_cong, sum_delta, sum-zero}
use Rattle.algebra.proofs.Multilinears.{line-zero, line_one}

module _ {A : Type 0} (R : Ring A) where
  infixl 60 ◌⊕◌
  infixl 70 ◌⊗◌
  open R use {zero as 𝟘, one as 𝟙, add as ◌⊕◌, mul as ◌⊗◌, mul_comm, mul_one}

  pub length-bits : (n y : ℕ) → length (bits R n y) ≡ n
  unfolding bits
  length-bits zero y = refl
  length-bits (suc n) y = ap suc (length-bits n (y / 2))

  bit_factor_same : (b : ℕ) → bit_factor R (bit R b) b ≡ 𝟙
  unfolding bit_factor bit
  bit_factor_same zero = solve R [] (:1 :- :0 := :1) refl
  bit_factor_same (suc b) = refl

  bit_factor_other : (b c : ℕ) → b < 2 → c < 2 → c ≢ b → bit_factor R (bit R b) c ≡ 𝟘
  unfolding bit_factor bit
  bit_factor_other zero zero h k ne = absurd (ne refl)
  bit_factor_other zero (suc c) h k ne = refl
  bit_factor_other (suc b) zero h k ne = solve R [] (:1 :- :1 := :0) refl
  bit_factor_other (suc b) (suc c) h k ne = absurd (ne (omega arith))

  -- the eq table of a corner: 1 at its own index, 0 elsewhere
  pub cube_factor-corner_same : (n y : ℕ) → cube_factor R (bits R n y) y ≡ 𝟙
  unfolding cube_factor bits
  cube_factor-corner_same zero y = refl
  cube_factor-corner_same (suc n) y = ap₂ ◌⊗◌ (bit_factor_same (y % 2)) (cube_factor-corner_same n (y / 2)) ∙ mul_one 𝟙

  pub cube_factor-corner_other : (n y i : ℕ) → y < 2 ^ n → i < 2 ^ n → i ≢ y → cube_factor R (bits R n y) i ≡ 𝟘
  unfolding cube_factor bits
  cube_factor-corner_other zero y i h k ne = absurd (ne (omega arith))
  cube_factor-corner_other (suc n) y i h k ne =
      parts (ℕ_discrete (i % 2) (y % 2)) (cube_factor-corner_other n (y / 2) (i / 2) (omega (arith, pow-succ' 2 n)) (omega (arith, pow-succ' 2 n)))
    where
      parts : Dec (i % 2 ≡ y % 2) → (i / 2 ≢ y / 2 → cube_factor R (bits R n (y / 2)) (i / 2) ≡ 𝟘) → cube_factor R (bits R (suc n) y) i ≡ 𝟘
      parts (yes e) ih = ap (λ f. bit_factor R (bit R (y % 2)) (i % 2) ⊗ f) (ih (λ d. ne (omega arith))) ∙ Laws.mul-zero R _
      parts (no d) ih =
          ap (λ f. f ⊗ cube_factor R (bits R n (y / 2)) (i / 2)) (bit_factor_other (y % 2) (i % 2) (omega arith) (omega arith) d) ∙ Laws.zero-mul R _

  -- at a corner the polynomial has the table's entry
  pub mle-corner : (t : ℕ → A) (n y : ℕ) → y < 2 ^ n → mle R t (bits R n y) ≡ t y
  unfolding mle
  mle-corner t n y h =
      ap (λ m. sum R (2 ^ m) (λ i. t i ⊗ cube_factor R (bits R n y) i)) (length-bits n y)
      ∙ sum_delta R (2 ^ n) (λ i. t i ⊗ cube_factor R (bits R n y) i) y h
      (λ i k ne. ap (λ f. t i ⊗ f) (cube_factor-corner_other n y i h k ne) ∙ Laws.mul-zero R (t i))
      ∙ ap (λ f. t y ⊗ f) (cube_factor-corner_same n y) ∙ mul_one (t y)

  pub mle-zero : (xs : List A) → mle R (λ _. 𝟘) xs ≡ 𝟘
  unfolding mle
  mle-zero xs = sum_cong R (2 ^ length xs) (λ i. Laws.zero-mul R (cube_factor R xs i)) ∙ sum-zero R (2 ^ length xs)

  -- each table is the polynomial of the other's
  pub mle-cube_factor_comm : (xs ys : List A) → length xs ≡ length ys → mle R (cube_factor R ys) xs ≡ mle R (cube_factor R xs) ys
  unfolding mle
  mle-cube_factor_comm xs ys e = ap (λ n. sum R (2 ^ n) (λ i. cube_factor R ys i ⊗ cube_factor R xs i)) e ∙ sum_cong R (2 ^ length ys) (λ i. mul_comm _ _)

  pub fold_mle-zero : (t : ℕ → A) (y : ℕ) → fold_mle R t 𝟘 y ≡ t (2 * y)
  unfolding fold_mle
  fold_mle-zero t y = line-zero R _ _

  pub fold_mle_one : (t : ℕ → A) (y : ℕ) → fold_mle R t 𝟙 y ≡ t (2 * y + 1)
  unfolding fold_mle
  fold_mle_one t y = line_one R _ _

  pub fold_mle-add : (s t : ℕ → A) (u : A) (y : ℕ) → fold_mle R (λ i. s i ⊕ t i) u y ≡ fold_mle R s u y ⊕ fold_mle R t u y
  unfolding fold_mle line
  fold_mle-add s t u y =
      solve R (s (2 * y) ∷ s (2 * y + 1) ∷ t (2 * y) ∷ t (2 * y + 1) ∷ u ∷ [])
      (λ a b c d u. a :+ c :+ (b :+ d :- (a :+ c)) :* u := a :+ (b :- a) :* u :+ (c :+ (d :- c) :* u)) refl

  pub fold_mle-mul : (c : A) (t : ℕ → A) (u : A) (y : ℕ) → fold_mle R (λ i. c ⊗ t i) u y ≡ c ⊗ fold_mle R t u y
  unfolding fold_mle line
  fold_mle-mul c t u y = solve R (c ∷ t (2 * y) ∷ t (2 * y + 1) ∷ u ∷ []) (λ c a b u. c :* a :+ (c :* b :- c :* a) :* u := c :* (a :+ (b :- a) :* u)) refl
