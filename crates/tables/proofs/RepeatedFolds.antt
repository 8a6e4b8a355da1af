-- Folds one after the other: the polynomial at the challenges, and what becomes of a placed table. What the work buffers hold.
use mathlib.Core.Path.{◌≡◌, refl, sym, ◌∙◌, ap, ap₂}
use mathlib.Core.List.{List, [], ◌∷◌, ◌++◌}
use Prim.Native.Nat.{ℕ, suc, ◌*◌, ◌^◌, ◌/◌, ◌%◌, ◌<◌}
use native.Mathlib.Nat
use native.Mathlib.Nat.{pow-succ'}
use lib.ListN.{length}
use Rattle.algebra.specs.Ring.{Ring}
use Rattle.algebra.specs.Multilinear.{bit_factor, cube_factor, mle, fold_mle, bits}
use Rattle.algebra.proofs.RingLaws as Laws
use Rattle.algebra.proofs.Multilinears.{mle_nil, mle_fold}
use Rattle.tables.specs.FoldMany.{fold_many}
use Rattle.tables.specs.FoldPle.{fold_ple}
use Rattle.tables.specs.Prism.{prism}
use Rattle.tables.specs.Window.{window}
use Rattle.algebra.proofs.Corners.{mle-corner}
use Rattle.tables.proofs.PrismFolds.{prism_fold}
use Rattle.tables.proofs.WindowFolds.{fold_mle-window, fold_mle_single}

module _ {A : Type 0} (R : Ring A) where
  infixl 70 ◌⊗◌
  open R use {mul as ◌⊗◌, mul_assoc, mul_comm}

  pub fold_many_nil : (t : ℕ → A) → fold_many R t [] ≡ t
  unfolding fold_many
  fold_many_nil t = refl

  -- one more fold
  pub fold_many_snoc : (t : ℕ → A) (us : List A) (u : A) → fold_many R t (us ++ (u ∷ [])) ≡ fold_mle R (fold_many R t us) u
  unfolding fold_many
  fold_many_snoc t [] u = refl
  fold_many_snoc t (x ∷ us) u = fold_many_snoc (fold_mle R t x) us u

  pub mle-fold_many : (t : ℕ → A) (us xs : List A) → mle R t (us ++ xs) ≡ mle R (fold_many R t us) xs
  unfolding fold_many
  mle-fold_many t [] xs = refl
  mle-fold_many t (u ∷ us) xs = mle_fold R t u (us ++ xs) ∙ mle-fold_many (fold_mle R t u) us xs

  -- entry y after the folds is the polynomial at the challenges and the bits of y
  pub fold_many-corner : (t : ℕ → A) (us : List A) (m y : ℕ) → y < 2 ^ m → mle R t (us ++ bits R m y) ≡ fold_many R t us y
  fold_many-corner t us m y h = mle-fold_many t us (bits R m y) ∙ mle-corner R (fold_many R t us) m y h

  -- at all challenges
  pub fold_many_all : (t : ℕ → A) (us : List A) → fold_many R t us 0 ≡ mle R t us
  unfolding fold_many
  fold_many_all t [] = sym (mle_nil R t)
  fold_many_all t (u ∷ us) = fold_many_all (fold_mle R t u) us ∙ sym (mle_fold R t u us)

  -- the same for rows folded at z first
  pub prism-corner : (half : A) (l : ℕ) (w : A) (v : ℕ → A) (z : A) (us : List A) (m y : ℕ) → y < 2 ^ m
      → prism R half l w v z (us ++ bits R m y) ≡ fold_many R (fold_ple R half l w v z) us y
  prism-corner half l w v z us m y h = prism_fold R half l w v z (us ++ bits R m y) ∙ fold_many-corner (fold_ple R half l w v z) us m y h

  -- while the window is longer than one entry
  pub fold_many-window : (us : List A) (b n : ℕ) (f : ℕ → A)
      → fold_many R (window R (2 ^ length us * b) (2 ^ length us * n) f) us ≡ window R b n (fold_many R f us)
  unfolding fold_many
  fold_many-window [] b n f = ap₂ (λ x y. window R x y f) (Nat.one-mul b) (Nat.one-mul n)
  fold_many-window (u ∷ us) b n f =
      ap (λ t. fold_many R t us)
      (ap₂ (λ x y. fold_mle R (window R x y f) u) (twice b) (twice n) ∙ fold_mle-window R (2 ^ length us * b) (2 ^ length us * n) f u)
      ∙ fold_many-window us b n (fold_mle R f u)
    where
      twice : (k : ℕ) → 2 ^ suc (length us) * k ≡ 2 * (2 ^ length us * k)
      twice k = ap (λ n. n * k) (pow-succ' 2 (length us)) ∙ Nat.mul_assoc 2 (2 ^ length us) k

  -- once it is one entry: the column's weight is the eq factor of its place's low bits
  pub fold_many_single : (us : List A) (b : ℕ) (a : A) → fold_many R (window R b 1 (λ _. a)) us ≡ window R (b / 2 ^ length us) 1 (λ _. cube_factor R us b ⊗ a)
  unfolding fold_many cube_factor
  fold_many_single [] b a = ap₂ (λ n x. window R n 1 (λ _. x)) (sym (Nat.div-one b)) (sym (Laws.one_mul R a))
  fold_many_single (u ∷ us) b a =
      ap (λ t. fold_many R t us) (fold_mle_single R b a u) ∙ fold_many_single us (b / 2) (bit_factor R u (b % 2) ⊗ a)
      ∙ ap₂ (λ n x. window R n 1 (λ _. x)) (Nat.div-div-eq-div-mul b 2 (2 ^ length us) ∙ ap (λ k. b / k) (sym (pow-succ' 2 (length us))))
      (sym (mul_assoc _ _ _) ∙ ap (λ x. x ⊗ a) (mul_comm _ _))
