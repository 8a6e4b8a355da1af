-- A table placed in a longer one: where it is zero, what is placed inside, blocks of it, and sums against it.
use mathlib.Core.Path.{◌≡◌, refl, sym, ◌∙◌, ap, ap₂, fun_ext}
use mathlib.Core.Logic.{◌⊎◌, inl, inr}
use Prim.Native.Nat.{ℕ, zero, suc, ◌+◌, ◌*◌, ◌-◌, ◌<◌, ◌≤◌}
use native.Mathlib.Nat
use native.Mathlib.Omega.{arith}
use Rattle.algebra.specs.Ring.{Ring}
use Rattle.algebra.specs.Sum.{sum}
use Rattle.algebra.proofs.RingLaws as Laws
use Rattle.algebra.proofs.Sums.{sum_cong_below, sum_none, sum_split}
use Rattle.tables.specs.Window.{below, window}

-- where i lies, to the window of n from b
pub data Place (b n i : ℕ) : Type 0 where
  early : i < b → Place b n i
  inside : (t : ℕ) → t < n → i ≡ b + t → Place b n i
  late : b + n ≤ i → Place b n i

pub place : (b n i : ℕ) → Place b n i
place b n i = first (Nat.eq-zero-or-pos (b - i))
  where
    second : b ≤ i → (i - b + 1 - n ≡ 0) ⊎ (0 < i - b + 1 - n) → Place b n i
    second h (inl e) = inside (i - b) (omega arith) (omega arith)
    second h (inr p) = late (omega arith)

    first : (b - i ≡ 0) ⊎ (0 < b - i) → Place b n i
    first (inl e) = second (omega arith) (Nat.eq-zero-or-pos (i - b + 1 - n))
    first (inr p) = early (omega arith)

module _ {A : Type 0} (R : Ring A) where
  infixl 60 ◌⊕◌
  infixl 70 ◌⊗◌
  open R use {zero as 𝟘, add as ◌⊕◌, mul as ◌⊗◌, add_zero}

  below_in : (n : ℕ) (f : ℕ → A) (t : ℕ) → t < n → below R n f t ≡ f t
  unfolding below
  below_in zero f t h = absurd (omega arith)
  below_in (suc n) f zero h = refl
  below_in (suc n) f (suc t) h = below_in n (λ k. f (suc k)) t (omega arith)

  below_out : (n : ℕ) (f : ℕ → A) (t : ℕ) → n ≤ t → below R n f t ≡ 𝟘
  unfolding below
  below_out zero f t h = refl
  below_out (suc n) f zero h = absurd (omega arith)
  below_out (suc n) f (suc t) h = below_out n (λ k. f (suc k)) t (omega arith)

  pub window_in : (b n : ℕ) (f : ℕ → A) (t : ℕ) → t < n → window R b n f (b + t) ≡ f t
  unfolding window
  window_in zero n f t h = ap (below R n f) (Nat.zero-add t) ∙ below_in n f t h
  window_in (suc b) n f t h = ap (window R (suc b) n f) (Nat.suc-add b t) ∙ window_in b n f t h

  pub window_early : (b n : ℕ) (f : ℕ → A) (i : ℕ) → i < b → window R b n f i ≡ 𝟘
  unfolding window
  window_early zero n f i h = absurd (omega arith)
  window_early (suc b) n f zero h = refl
  window_early (suc b) n f (suc i) h = window_early b n f i (omega arith)

  pub window_late : (b n : ℕ) (f : ℕ → A) (i : ℕ) → b + n ≤ i → window R b n f i ≡ 𝟘
  unfolding window
  window_late zero n f i h = below_out n f i (omega arith)
  window_late (suc b) n f zero h = absurd (omega arith)
  window_late (suc b) n f (suc i) h = window_late b n f i (omega arith)

  -- what keeps zero goes inside: sums, lines, folds of the entries
  pub window-map : (b n : ℕ) (F : (ℕ → A) → A) → F (λ _. 𝟘) ≡ 𝟘 → (f : ℕ → ℕ → A) (i : ℕ) → F (λ k. window R b n (λ t. f t k) i) ≡ window R b n (λ t. F (f t)) i
  window-map b n F zeros f i = at (place b n i)
    where
      at : Place b n i → F (λ k. window R b n (λ t. f t k) i) ≡ window R b n (λ t. F (f t)) i
      at (early h) = ap F (fun_ext (λ k. window_early b n (λ t. f t k) i h)) ∙ zeros ∙ sym (window_early b n (λ t. F (f t)) i h)
      at (inside t h e) =
          ap F (fun_ext (λ k. ap (window R b n (λ t. f t k)) e ∙ window_in b n (λ t. f t k) t h))
          ∙ sym (ap (window R b n (λ t. F (f t))) e ∙ window_in b n (λ t. F (f t)) t h)
      at (late h) = ap F (fun_ext (λ k. window_late b n (λ t. f t k) i h)) ∙ zeros ∙ sym (window_late b n (λ t. F (f t)) i h)

  -- only the entries below n count
  pub window_cong : (b n : ℕ) (f g : ℕ → A) → ((t : ℕ) → t < n → f t ≡ g t) → window R b n f ≡ window R b n g
  window_cong b n f g h = fun_ext (λ i. at i (place b n i))
    where
      at : (i : ℕ) → Place b n i → window R b n f i ≡ window R b n g i
      at i (early s) = window_early b n f i s ∙ sym (window_early b n g i s)
      at i (inside t s e) = ap (window R b n f) e ∙ window_in b n f t s ∙ h t s ∙ sym (ap (window R b n g) e ∙ window_in b n g t s)
      at i (late s) = window_late b n f i s ∙ sym (window_late b n g i s)

  -- entry i of each block of N, where the window is made of whole blocks
  pub window-block : (N b n : ℕ) (f : ℕ → A) (i y : ℕ) → i < N → window R (N * b) (N * n) f (i + N * y) ≡ window R b n (λ t. f (i + N * t)) y
  window-block N b n f i y s = at (place b n y)
    where
      at : Place b n y → window R (N * b) (N * n) f (i + N * y) ≡ window R b n (λ t. f (i + N * t)) y
      at (early h) = window_early (N * b) (N * n) f (i + N * y) (omega (arith, Nat.mul-le-mul_left N h, Nat.mul-suc N y)) ∙ sym (window_early b n _ y h)
      at (inside t h e) =
          ap (window R (N * b) (N * n) f) {x = i + N * y} {y = N * b + (i + N * t)} (omega (arith, ap (λ k. N * k) e, Nat.mul-add N b t))
          ∙ window_in (N * b) (N * n) f (i + N * t) (omega (arith, Nat.mul-le-mul_left N h, Nat.mul-suc N t))
          ∙ sym (ap (window R b n (λ t. f (i + N * t))) e ∙ window_in b n (λ t. f (i + N * t)) t h)
      at (late h) = window_late (N * b) (N * n) f (i + N * y) (omega (arith, Nat.mul-le-mul_left N h, Nat.mul-add N b n)) ∙ sym (window_late b n _ y h)

  window_shift : (b c n : ℕ) (f : ℕ → A) (i : ℕ) → window R (b + c) n f (b + i) ≡ window R c n f i
  unfolding window
  window_shift zero c n f i = ap₂ (λ p q. window R p n f q) (Nat.zero-add c) (Nat.zero-add i)
  window_shift (suc b) c n f i = ap₂ (λ p q. window R p n f q) (Nat.suc-add b c) (Nat.suc-add b i) ∙ window_shift b c n f i

  -- a window in a window
  pub window-window : (b n c m : ℕ) (f : ℕ → A) → c + m ≤ n → window R b n (window R c m f) ≡ window R (b + c) m f
  window-window b n c m f h = fun_ext (λ i. at i (place b n i))
    where
      at : (i : ℕ) → Place b n i → window R b n (window R c m f) i ≡ window R (b + c) m f i
      at i (early s) = window_early b n _ i s ∙ sym (window_early (b + c) m f i (omega arith))
      at i (inside t s e) = ap (window R b n (window R c m f)) e ∙ window_in b n (window R c m f) t s ∙ sym (ap (window R (b + c) m f) e ∙ window_shift b c m f t)
      at i (late s) = window_late b n _ i s ∙ sym (window_late (b + c) m f i (omega arith))

  -- a sum against a window is one over its entries
  pub sum-window : (n b m : ℕ) (f g : ℕ → A) → b + m ≤ n → sum R n (λ i. window R b m f i ⊗ g i) ≡ sum R m (λ t. f t ⊗ g (b + t))
  sum-window n b m f g h =
      ap (λ k. sum R k term) (sym (Nat.add-sub_of_le h)) ∙ sum_split R (b + m) (n - (b + m)) term
      ∙ ap₂ ◌⊕◌
      (sum_split R b m term
      ∙ ap₂ ◌⊕◌ (sum_none R b term (λ i s. gone i (window_early b m f i s))) (sum_cong_below R m (λ t s. ap (λ x. x ⊗ g (b + t)) (window_in b m f t s)))
      ∙ Laws.zero-add R _)
      (sum_none R (n - (b + m)) (λ i. term (b + m + i)) (λ i _. gone (b + m + i) (window_late b m f (b + m + i) (omega arith))))
      ∙ add_zero _
    where
      term : ℕ → A
      term i = window R b m f i ⊗ g i

      gone : (i : ℕ) → window R b m f i ≡ 𝟘 → term i ≡ 𝟘
      gone i e = ap (λ x. x ⊗ g i) e ∙ Laws.zero-mul R _
