-- What the three steps make together: transform, spread and multiply, and 1/N² put into the factor, are the product of the kernel and the interpolated polynomial.
use Rattle.std.proofs.Common.{◌≡◌, ℕ, suc, ◌+◌, ◌-◌, ◌*◌, ◌^◌, ◌<◌, ◌≤◌, List, [], ◌∷◌, ◌++◌, length, take, drop, sym, refl, ap, ◌∙◌, ap₂, arith, length-append, length-drop, length-take-le}
use native.Mathlib.Decide.{dec_lt}
use Rattle.algebra.specs.Ring.{Ring, pow}
use Rattle.algebra.proofs.RingLaws as Laws
use Rattle.algebra.proofs.Expression.{◌:*◌, ◌:=◌}
use Rattle.algebra.proofs.Solver.{solve}
use Rattle.algebra.proofs.Sums.{sum_cong, sum-mul}
use Rattle.algebra.proofs.Powers.{two_pow-add, pow-add}
use Rattle.field.specs.Element.{Elem, F, ◌⊕◌, ◌⊗◌, half_elem, elem_of, words_of}
use Rattle.field.specs.Powers.{root}
use Rattle.field.specs.Slice.{elem_at}
use Rattle.field.proofs.Elements.{elem_of_words}
use Rattle.tables.specs.Window.{below}
use Rattle.tables.specs.Product.{product_at}
use Rattle.tables.specs.Interpolated.{interpolated}
use Rattle.tables.specs.Geometric.{geometric, tail}
use Rattle.tables.proofs.Roots.{inverse}
use Rattle.tables.proofs.FieldSkip.{field_skip}
use Rattle.tables.proofs.Products.{below_in, below_out}
use Rattle.tables.proofs.Butterflies.{interpolated-transformed}
use Rattle.tables.proofs.Shifts.{shifted_cong}
use Rattle.tables.proofs.GeometricProducts.{product-shifted, geometric-product}
use Rattle.prover.specs.Gained.{Table, Gained}
use Rattle.prover.specs.Transforms.{spread_f, product_f, transformed_f, kernel_product_f}
use Rattle.prover.proofs.ElementTables.{table_entry}

module _ {A : Type 0} (R : Ring A) where
  infixl 70 ◌⊗ᴿ◌
  open R use {mul as ◌⊗ᴿ◌}

  -- only the coefficients below n count
  pub product_cong : (n : ℕ) (f : ℕ → A) {g h : ℕ → A} (j : ℕ) → ((i : ℕ) → i < n → g i ≡ h i) → product_at R n f g j ≡ product_at R n f h j
  product_cong n f {g} {h} j e =
      product-shifted R n f g j
      ∙ sum_cong R n (λ i. ap (λ x. f i ⊗ᴿ x) (shifted_cong R i (below R n g) (below R n h) j (λ k _. same k)))
      ∙ sym (product-shifted R n f h j)
    where
      same : (k : ℕ) → below R n g k ≡ below R n h k
      same k = elim (dec_lt k n) [
        | yes l ↦ below_in R n g k l ∙ e k l ∙ sym (below_in R n h k l)
        | no l ↦ below_out R n g k (omega arith) ∙ sym (below_out R n h k (omega arith))
      ]

  -- a factor of the second goes out
  pub product-factor : (n : ℕ) (c : A) (f g : ℕ → A) (j : ℕ) → product_at R n f (λ i. c ⊗ᴿ g i) j ≡ c ⊗ᴿ product_at R n f g j
  unfolding product_at
  product-factor n c f g j =
      sum_cong R (suc j) (λ a. ap (λ x. below R n f a ⊗ᴿ x) (factor n c g (j - a)) ∙ solve R (below R n f a ∷ c ∷ below R n g (j - a) ∷ []) (λ f c g. f :* (c :* g) := c :* (f :* g)) refl)
      ∙ sum-mul R (suc j) c (λ a. below R n f a ⊗ᴿ below R n g (j - a))
    where
      factor : (n : ℕ) (c : A) (g : ℕ → A) (k : ℕ) → below R n (λ i. c ⊗ᴿ g i) k ≡ c ⊗ᴿ below R n g k
      factor n c g k = elim (dec_lt k n) [
        | yes l ↦ below_in R n (λ i. c ⊗ᴿ g i) k l ∙ ap (λ x. c ⊗ᴿ x) (sym (below_in R n g k l))
        | no l ↦ below_out R n (λ i. c ⊗ᴿ g i) k (omega arith) ∙ sym (Laws.mul-zero R c) ∙ ap (λ x. c ⊗ᴿ x) (sym (below_out R n g k (omega arith)))
      ]

  -- e_j + R_j looks at e up to j only
  pub tail_cong : (M : ℕ) (y : A) (e f : ℕ → A) (j : ℕ) → ((i : ℕ) → i ≤ j → e i ≡ f i) → tail R M y e j ≡ tail R M y f j
  unfolding tail
  tail_cong M y e f j h = sum_cong R (M - 1) (λ i. ap (λ x. pow R y (M - suc i) ⊗ᴿ x) (shifted_cong R (suc i) e f j h))

-- at the field
pub interpolated_at : (l : ℕ) → l ≤ 10 → (v : ℕ → Elem) (k : ℕ) → interpolated F half_elem l (root l) v k ≡ pow F half_elem l ⊗ transformed_f l v k
unfolding inverse
interpolated_at l fits v k = interpolated-transformed (field_skip l (omega arith)) v k

module _ (l o : ℕ) (fits : l ≤ 10) (le : o ≤ l) (y : Elem) (v : ℕ → Elem) where
  -- the kernel's product with the polynomial of the coefficients a
  whole : (a : ℕ → Elem) (j : ℕ) → product_at F (2 ^ l) (geometric F half_elem l o y) a j ≡ pow F half_elem l ⊗ product_f o y (spread_f l o a) j
  unfolding product_f
  whole a j =
      ap₂ (λ n k. product_at F n (geometric F half_elem k o y) a j) (ap (λ k. 2 ^ k) (sym split) ∙ two_pow-add o (l - o)) (sym split)
      ∙ geometric-product F half_elem o (l - o) y a j ∙ ap (λ k. pow F half_elem k ⊗ product_f o y (spread_f l o a) j) split
    where
      split : o + (l - o) ≡ l
      split = omega arith

  pub kernel-product : (a e : List ℕ) → Table (2 ^ l) (transformed_f l v) a → Table (2 * 2 ^ l) (spread_f l o (elem_at a)) e → (j : ℕ) → j < 2 * 2 ^ l
      → kernel_product_f l o y v j ≡ pow F half_elem (2 * l) ⊗ product_f o y (elem_at e) j
  unfolding kernel_product_f product_f
  kernel-product a e ha he j h =
      product_cong F (2 ^ l) (geometric F half_elem l o y) j (λ i k. interpolated_at l fits v i ∙ ap (λ x. pow F half_elem l ⊗ x) (sym (table_entry ha i k)))
      ∙ product-factor F (2 ^ l) (pow F half_elem l) (geometric F half_elem l o y) (elem_at a) j
      ∙ ap (λ x. pow F half_elem l ⊗ x) (whole (elem_at a) j)
      ∙ sym (F.mul_assoc _ _ _)
      ∙ ap₂ ◌⊗◌ (sym (pow-add F half_elem l l) ∙ ap (pow F half_elem) {x = l + l} {y = 2 * l} (omega arith))
      (ap₂ ◌⊕◌ (sym (table_entry he j h)) (tail_cong F (2 ^ o) y (spread_f l o (elem_at a)) (elem_at e) j (λ i k. sym (table_entry he i (omega arith)))))

  pub gained-product : (a e c old new : List ℕ) (k : Elem) → Table (2 ^ l) (transformed_f l v) a → Table (2 * 2 ^ l) (spread_f l o (elem_at a)) e → c ≡ words_of (pow F half_elem (2 * l) ⊗ k)
      → Gained (2 * 2 ^ l - 1) (elem_of c) (product_f o y (elem_at e)) old new → Gained (2 * 2 ^ l - 1) k (kernel_product_f l o y v) old new
  gained-product a e c old new k ha he ec g =
      record {
        size = g.size;
        entries = λ i h. g.entries i h ∙ ap (λ x. words_of (elem_at old i ⊕ x)) (same i (omega arith));
      }
    where
      same : (i : ℕ) → i < 2 * 2 ^ l → elem_of c ⊗ product_f o y (elem_at e) i ≡ k ⊗ kernel_product_f l o y v i
      same i h =
          ap (λ x. x ⊗ product_f o y (elem_at e) i) (elem_of_words _ ec)
          ∙ solve F (pow F half_elem (2 * l) ∷ k ∷ product_f o y (elem_at e) i ∷ []) (λ h k p. h :* k :* p := k :* (h :* p)) refl
          ∙ ap (λ x. k ⊗ x) (sym (kernel-product a e ha he i h))

-- the first half of a slice of 2N elements, lent and given back
module _ (l : ℕ) {rows : ℕ} (e : List ℕ) (size : length e ≡ 4 * (2 * 2 ^ l)) (er : rows ≡ 2 ^ l) where
  pub half_there : length (take (4 * rows) e) ≡ 4 * 2 ^ l
  half_there = length-take-le (4 * rows) e (omega arith) ∙ ap (λ n. 4 * n) er

  pub half_back : (b : List ℕ) → length b ≡ 4 * 2 ^ l → length (b ++ drop (4 * rows) e) ≡ 4 * (2 * 2 ^ l)
  half_back b h = length-append b (drop (4 * rows) e) ∙ omega (arith, length-drop (4 * rows) e)
