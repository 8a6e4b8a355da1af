-- Folds of a placed table: whole blocks fold to the window of the folded table, one entry to one entry times the factor of its lowest bit.
use mathlib.Core.Path.{◌≡◌, refl, sym, ◌∙◌, ap, ap₂, fun_ext}
use mathlib.Core.List.{List, [], ◌∷◌, ◌++◌}
use Prim.Native.Nat.{ℕ, zero, suc, ◌+◌, ◌*◌, ◌^◌, ◌/◌, ◌%◌, ◌<◌}
use native.Mathlib.Nat
use native.Mathlib.Omega.{arith}
use lib.ListN.{length}
use Rattle.algebra.specs.Ring.{Ring}
use Rattle.algebra.specs.Sum.{sum}
use Rattle.algebra.specs.Multilinear.{bit_factor, cube_factor, mle, line, fold_mle}
use Rattle.algebra.proofs.RingLaws as Laws
use Rattle.algebra.proofs.Expression.{:0, :1, ◌:+◌, ◌:-◌, ◌:*◌, ◌:=◌}
use Rattle.algebra.proofs.Solver.{solve}
use Rattle.algebra.proofs.Sums.{sum_cong_below, sum_none}
use Rattle.algebra.proofs.Multilinears.{mle_cong, mle_append}
use Rattle.tables.specs.Lagrange.{lagrange}
use Rattle.tables.specs.FoldPle.{fold_ple}
use Rattle.tables.specs.Prism.{prism}
use Rattle.tables.specs.Window.{below, window}
use Rattle.algebra.proofs.Corners.{mle-zero}
use Rattle.tables.proofs.PrismFolds.{prism_fold}
use Rattle.tables.proofs.Windows.{window-map, window_cong, window-block, window-window, sum-window}

module _ {A : Type 0} (R : Ring A) where
  infixl 70 ◌⊗◌
  open R use {mul as ◌⊗◌}

  pub fold_mle-window : (b n : ℕ) (f : ℕ → A) (u : A) → fold_mle R (window R (2 * b) (2 * n) f) u ≡ window R b n (fold_mle R f u)
  unfolding fold_mle line
  fold_mle-window b n f u = fun_ext (λ y.
      ap₂ (λ p q. line R p q u)
      (ap (window R (2 * b) (2 * n) f) (sym (Nat.zero-add (2 * y))) ∙ window-block R 2 b n f 0 y (omega arith))
      (ap (window R (2 * b) (2 * n) f) (Nat.add_comm (2 * y) 1) ∙ window-block R 2 b n f 1 y (omega arith))
      ∙ window-map R b n (λ g. line R (g 0) (g 1) u) (solve R (u ∷ []) (λ u. :0 :+ (:0 :- :0) :* u := :0) refl) (λ t k. f (k + 2 * t)) y
      ∙ ap (λ g. window R b n g y) (fun_ext (λ t. ap₂ (λ p q. line R (f p) (f q) u) (Nat.zero-add (2 * t)) (Nat.add_comm 1 (2 * t)))))

  -- one of the two entries
  fold_bit : (c : ℕ) (a u : A) → c < 2 → fold_mle R (window R c 1 (λ _. a)) u 0 ≡ bit_factor R u c ⊗ a
  unfolding fold_mle line window below bit_factor
  fold_bit zero a u h = solve R (u ∷ a ∷ []) (λ u a. a :+ (:0 :- a) :* u := (:1 :- u) :* a) refl
  fold_bit (suc zero) a u h = solve R (u ∷ a ∷ []) (λ u a. :0 :+ (a :- :0) :* u := u :* a) refl
  fold_bit (suc (suc c)) a u h = absurd (omega arith)

  pub fold_mle_single : (b : ℕ) (a u : A) → fold_mle R (window R b 1 (λ _. a)) u ≡ window R (b / 2) 1 (λ _. bit_factor R u (b % 2) ⊗ a)
  fold_mle_single b a u =
      ap (λ t. fold_mle R t u)
      (ap (λ n. window R n 1 (λ _. a)) {x = b} {y = 2 * (b / 2) + b % 2} (omega arith) ∙ sym (window-window R (2 * (b / 2)) 2 (b % 2) 1 (λ _. a) (omega arith)))
      ∙ fold_mle-window (b / 2) 1 (window R (b % 2) 1 (λ _. a)) u
      ∙ window_cong R (b / 2) 1 _ _ (λ t h. ap (fold_mle R (window R (b % 2) 1 (λ _. a)) u) {x = t} {y = 0} (omega arith) ∙ fold_bit (b % 2) a u (omega arith))

  -- whole blocks: first each block's polynomial, then the window of these values
  pub mle-window : (xs ys : List A) (b n : ℕ) (f : ℕ → A)
      → mle R (window R (2 ^ length xs * b) (2 ^ length xs * n) f) (xs ++ ys) ≡ mle R (window R b n (λ t. mle R (λ i. f (i + 2 ^ length xs * t)) xs)) ys
  mle-window xs ys b n f =
      mle_append R (window R (2 ^ length xs * b) (2 ^ length xs * n) f) xs ys
      ∙ ap (λ t. mle R t ys) (fun_ext (λ y.
      mle_cong R _ (λ i. window R b n (λ t. f (i + 2 ^ length xs * t)) y) xs (λ i h. window-block R (2 ^ length xs) b n f i y h)
      ∙ window-map R b n (λ g. mle R g xs) (mle-zero R xs) (λ t i. f (i + 2 ^ length xs * t)) y))

  -- one entry
  pub mle_single : (ys : List A) (b : ℕ) (f : ℕ → A) → b < 2 ^ length ys → mle R (window R b 1 f) ys ≡ f 0 ⊗ cube_factor R ys b
  unfolding mle sum
  mle_single ys b f h =
      sum-window R (2 ^ length ys) b 1 f (cube_factor R ys) (omega arith) ∙ Laws.zero-add R _ ∙ ap (λ k. f 0 ⊗ cube_factor R ys k) (Nat.add-zero b)

  -- the rows of whole blocks, placed at block b, fold to the window of their values
  module _ (half : A) (l : ℕ) (w : A) where
    pub fold_ple-window : (b n : ℕ) (f : ℕ → A) (z : A)
        → fold_ple R half l w (window R (2 ^ l * b) (2 ^ l * n) f) z ≡ window R b n (fold_ple R half l w f z)
    unfolding fold_ple
    fold_ple-window b n f z = fun_ext (λ y.
        sum_cong_below R (2 ^ l) (λ i h. ap (λ x. x ⊗ lagrange R half l w i z) (window-block R (2 ^ l) b n f i y h))
        ∙ window-map R b n (λ g. sum R (2 ^ l) (λ i. g i ⊗ lagrange R half l w i z)) (sum_none R (2 ^ l) _ (λ i _. Laws.zero-mul R _)) (λ t i. f (i + 2 ^ l * t)) y)

    -- 2^(length xs) blocks, placed at a multiple: their own polynomial, times the factor of their place
    pub prism-window : (xs ys : List A) (b : ℕ) (f : ℕ → A) (z : A) → b < 2 ^ length ys
        → prism R half l w (window R (2 ^ l * (2 ^ length xs * b)) (2 ^ l * 2 ^ length xs) f) z (xs ++ ys) ≡ prism R half l w f z xs ⊗ cube_factor R ys b
    prism-window xs ys b f z h =
        prism_fold R half l w _ z (xs ++ ys)
        ∙ ap (λ t. mle R t (xs ++ ys))
        (fold_ple-window (2 ^ length xs * b) (2 ^ length xs) f z
        ∙ ap (λ n. window R (2 ^ length xs * b) n (fold_ple R half l w f z)) (sym (Nat.mul-one (2 ^ length xs))))
        ∙ mle-window xs ys b 1 (fold_ple R half l w f z) ∙ mle_single ys b _ h
        ∙ ap (λ m. m ⊗ cube_factor R ys b)
        (mle_cong R _ _ xs (λ i _. ap (fold_ple R half l w f z) {x = i + 2 ^ length xs * 0} {y = i} (omega arith))
        ∙ sym (prism_fold R half l w f z xs))
