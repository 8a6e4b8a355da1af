-- Folding a table that is zero outside an aligned window of 2^m entries: the window's table is folded while it is longer than one entry, then the
-- entry takes one factor a fold, by one bit of its place. The explicit form after any number of folds.
use mathlib.Core.Path.{◌≡◌, refl, sym, ◌∙◌, ap, ap₂, fun_ext}
use mathlib.Core.Logic.{◌⊎◌, inl, inr}
use mathlib.Core.List.{List, [], ◌∷◌, ◌++◌}
use Prim.Native.Nat.{ℕ, zero, suc, ◌+◌, ◌*◌, ◌-◌, ◌/◌, ◌%◌, ◌^◌, ◌<◌}
use native.Mathlib.Nat
use native.Mathlib.Nat.{pow-succ'}
use native.Mathlib.Omega.{arith}
use lib.ListN.{length, take, drop, take-append-drop, length-drop, drop_of_length-le}
use lib.Seq.{take_all, length-take-le}
use Rattle.algebra.specs.Ring.{Ring}
use Rattle.algebra.specs.Multilinear.{bit_factor, cube_factor, fold_mle}
use Rattle.algebra.proofs.RingLaws as Laws
use Rattle.algebra.proofs.Powers.{two_pow-pos, two_pow-add}
use Rattle.algebra.proofs.Multilinears.{cube_factor_nil}
use Rattle.tables.specs.FoldMany.{fold_many}
use Rattle.tables.specs.Window.{window}
use Rattle.algebra.proofs.Corners.{fold_mle-add, fold_mle-mul}
use Rattle.tables.proofs.Windows.{window_cong}
use Rattle.tables.proofs.RepeatedFolds.{fold_many-window, fold_many_single}

-- where the window starts after j folds
pub window_start : (m b j : ℕ) → 2 ^ (m - j) * (b / 2 ^ (j - m)) ≡ 2 ^ m * b / 2 ^ j
window_start m b zero =
    rw (Nat.sub-zero m, Nat.zero-sub m) (ap (λ k. 2 ^ m * k) (Nat.div-one b) ∙ sym (Nat.div-one (2 ^ m * b)))
window_start zero b (suc j) =
    rw (Nat.zero-sub (suc j), Nat.sub-zero (suc j)) (Nat.one-mul (b / 2 ^ suc j) ∙ ap (λ k. k / 2 ^ suc j) (sym (Nat.one-mul b)))
window_start (suc m) b (suc j) =
    rw (Nat.suc-sub-suc m j, Nat.suc-sub-suc j m)
    (window_start m b j ∙ sym (Nat.mul-div-mul_left (2 ^ m * b) (2 ^ j) (two_pow-pos 1))
    ∙ ap₂ ◌/◌ (sym (Nat.mul_assoc 2 (2 ^ m) b) ∙ ap (λ k. k * b) (sym (pow-succ' 2 m))) (sym (pow-succ' 2 j)))

module _ {A : Type 0} (R : Ring A) where
  infixl 60 ◌⊕◌
  infixl 70 ◌⊗◌
  open R use {add as ◌⊕◌, mul as ◌⊗◌, mul_one, mul_assoc}

  pub fold_many_append : (t : ℕ → A) (us vs : List A) → fold_many R t (us ++ vs) ≡ fold_many R (fold_many R t us) vs
  unfolding fold_many
  fold_many_append t [] vs = refl
  fold_many_append t (u ∷ us) vs = fold_many_append (fold_mle R t u) us vs

  pub fold_many_linear : (a b : A) (s t : ℕ → A) (us : List A)
      → fold_many R (λ x. a ⊗ s x ⊕ b ⊗ t x) us ≡ (λ x. a ⊗ fold_many R s us x ⊕ b ⊗ fold_many R t us x)
  unfolding fold_many
  fold_many_linear a b s t [] = refl
  fold_many_linear a b s t (u ∷ us) =
      ap (λ f. fold_many R f us) (fun_ext (λ y.
      fold_mle-add R (λ x. a ⊗ s x) (λ x. b ⊗ t x) u y ∙ ap₂ ◌⊕◌ (fold_mle-mul R a s u y) (fold_mle-mul R b t u y)))
      ∙ fold_many_linear a b (fold_mle R s u) (fold_mle R t u) us

  -- one coordinate more at the top: one factor, by one bit
  pub cube_factor_snoc : (us : List A) (u : A) (i : ℕ) → cube_factor R (us ++ (u ∷ [])) i ≡ cube_factor R us i ⊗ bit_factor R u (i / 2 ^ length us % 2)
  unfolding cube_factor
  cube_factor_snoc [] u i = mul_one _ ∙ ap (λ q. bit_factor R u (q % 2)) (sym (Nat.div-one i)) ∙ sym (Laws.one_mul R _)
  cube_factor_snoc (x ∷ us) u i =
      ap (λ f. bit_factor R x (i % 2) ⊗ f)
      (cube_factor_snoc us u (i / 2)
      ∙ ap (λ q. cube_factor R us (i / 2) ⊗ bit_factor R u (q % 2))
      (Nat.div-div-eq-div-mul i 2 (2 ^ length us) ∙ ap (λ k. i / k) (sym (pow-succ' 2 (length us)))))
      ∙ sym (mul_assoc _ _ _)

  pub fold_many_aligned : (us : List A) (m b : ℕ) (f : ℕ → A)
      → fold_many R (window R (2 ^ m * b) (2 ^ m) f) us
      ≡ window R (2 ^ m * b / 2 ^ length us) (2 ^ (m - length us)) (λ x. cube_factor R (drop m us) b ⊗ fold_many R f (take m us) x)
  fold_many_aligned us m b f = side (Nat.eq-zero-or-pos (m - length us))
    where
      side : (m - length us ≡ 0) ⊎ (0 < m - length us)
          → fold_many R (window R (2 ^ m * b) (2 ^ m) f) us
          ≡ window R (2 ^ m * b / 2 ^ length us) (2 ^ (m - length us)) (λ x. cube_factor R (drop m us) b ⊗ fold_many R f (take m us) x)
      side (inl e) =
          let j : length (take m us) ≡ m = length-take-le m us (omega arith) in
          ap (fold_many R (window R (2 ^ m * b) (2 ^ m) f)) (sym (take-append-drop m us)) ∙ fold_many_append _ (take m us) (drop m us)
          ∙ ap (λ t. fold_many R t (drop m us))
          (ap₂ (λ p q. fold_many R (window R p q f) (take m us)) (ap (λ i. 2 ^ i * b) (sym j)) (ap (λ i. 2 ^ i) (sym j) ∙ sym (Nat.mul-one _))
          ∙ fold_many-window R (take m us) b 1 f
          ∙ window_cong R b 1 (fold_many R f (take m us)) (λ _. fold_many R f (take m us) 0) (λ t h. ap (fold_many R f (take m us)) {x = t} {y = 0} (omega arith)))
          ∙ fold_many_single R (drop m us) b (fold_many R f (take m us) 0)
          ∙ ap₂ (λ p q. window R p (2 ^ q) (λ _. cube_factor R (drop m us) b ⊗ fold_many R f (take m us) 0)) place (sym e)
          ∙ window_cong R (2 ^ m * b / 2 ^ length us) (2 ^ (m - length us)) _ _ (λ t h.
          ap (λ i. cube_factor R (drop m us) b ⊗ fold_many R f (take m us) i) {x = 0} {y = t} (first t (rw e at h)))
        where
          place : b / 2 ^ length (drop m us) ≡ 2 ^ m * b / 2 ^ length us
          place =
              ap (λ i. b / 2 ^ i) (length-drop m us) ∙ sym (Nat.one-mul _) ∙ ap (λ i. 2 ^ i * (b / 2 ^ (length us - m))) (sym e)
              ∙ window_start m b (length us)

          first : (t : ℕ) → t < 1 → 0 ≡ t
          first t h = omega arith
      side (inr p) =
          ap₂ (λ i n. fold_many R (window R i n f) us) (sym whole) (sym split)
          ∙ fold_many-window R us (2 ^ (m - length us) * b) (2 ^ (m - length us)) f
          ∙ ap₂ (λ i g. window R i (2 ^ (m - length us)) g)
          (sym (Nat.mul-div_cancel_left (2 ^ (m - length us) * b) (two_pow-pos (length us))) ∙ ap (λ k. k / 2 ^ length us) whole)
          (fun_ext (λ x.
          sym (Laws.one_mul R _)
          ∙ ap₂ (λ c us'. c ⊗ fold_many R f us' x)
          (sym (ap (λ vs. cube_factor R vs b) (drop_of_length-le us {i = m} (omega arith)) ∙ cube_factor_nil R b)) (sym (take_all m us (omega arith)))))
        where
          split : 2 ^ length us * 2 ^ (m - length us) ≡ 2 ^ m
          split = sym (two_pow-add (length us) (m - length us)) ∙ ap (λ i. 2 ^ i) {x = length us + (m - length us)} {y = m} (omega arith)

          whole : 2 ^ length us * (2 ^ (m - length us) * b) ≡ 2 ^ m * b
          whole = sym (Nat.mul_assoc (2 ^ length us) (2 ^ (m - length us)) b) ∙ ap (λ k. k * b) split
