-- The turns of the product with the kernel, downward: the tail at j, and the entries from j on.
use Rattle.std.proofs.Common.{◌≡◌, ℕ, suc, ◌+◌, ◌-◌, ◌*◌, ◌^◌, ◌<◌, ◌≤◌, List, length, sym, refl, ap, ◌∙◌, ap₂, add-one, arith}
use native.Mathlib.Nat
use native.Mathlib.Decide.{dec_lt, ℕ_discrete}
use Rattle.algebra.specs.Ring.{pow}
use Rattle.algebra.proofs.Powers.{two_pow-pos}
use Rattle.field.specs.Canonical.{Canonical}
use Rattle.field.specs.Element.{Elem, F, ◌⊕◌, ◌⊖◌, ◌⊗◌, elem_of, words_of}
use Rattle.field.specs.Slice.{elem_at, words_at, put}
use Rattle.field.proofs.Elements.{elem_of_words}
use Rattle.field.proofs.ElementWords.{elem_of_words_at, words_same, words_other}
use Rattle.field.proofs.Slices.{length-put}
use Rattle.tables.specs.Window.{below}
use Rattle.tables.specs.Shifted.{shifted}
use Rattle.tables.specs.Geometric.{tail}
use Rattle.tables.proofs.Products.{below_in, below_out}
use Rattle.tables.proofs.GeometricProducts.{tail_step, tail_late}
use Rattle.prover.specs.Gained.{Elements, Gained}
use Rattle.prover.specs.Transforms.{product_f}
use Rattle.prover.proofs.Numbers.{four}
use Rattle.prover.proofs.ColumnBlocks.{zero_words}
use Rattle.prover.proofs.KernelProducts.{tail_cong}

-- after the turns from the top down to j
pub record Multiplied (n o : ℕ) (y k : Elem) (e old : List ℕ) (r : List ℕ) (j : ℕ) (new : List ℕ) : Type 0 where
  pub bound : j ≤ n
  pub size : length new ≡ length old
  pub state : r ≡ words_of (tail F (2 ^ o) y (elem_at e) j)
  pub rest : (i : ℕ) → i < j → words_at new i ≡ words_at old i
  pub entries : (i : ℕ) → j ≤ i → i < n → words_at new i ≡ words_of (elem_at old i ⊕ k ⊗ product_f o y (elem_at e) i)

-- above the top there is nothing
top_tail : (l o : ℕ) (y : Elem) (e : List ℕ) → o ≤ l → ((i : ℕ) → 2 * 2 ^ l - 2 ^ o ≤ i → i < 2 * 2 ^ l → elem_at e i ≡ F.zero) → tail F (2 ^ o) y (elem_at e) (2 * 2 ^ l - 1) ≡ F.zero
top_tail l o y e le ends =
    tail_cong F (2 ^ o) y (elem_at e) (below F n (elem_at e)) (n - 1) (λ i h. sym (below_in F n (elem_at e) i (omega (arith, two_pow-pos l))))
    ∙ tail_late F (2 ^ o) (n - 2 ^ o) y (below F n (elem_at e)) (n - 1) (λ i h. at i h (dec_lt i n)) (omega (arith, Nat.pow-le-pow_right {n = 2} (omega arith) le))
  where
    n : ℕ
    n = 2 * 2 ^ l

    at : (i : ℕ) → n - 2 ^ o ≤ i → Dec (i < n) → below F n (elem_at e) i ≡ F.zero
    at i h (yes k) = below_in F n (elem_at e) i k ∙ ends i h k
    at i h (no k) = below_out F n (elem_at e) i (omega arith)

pub multiplied_start : (l o : ℕ) (y k : Elem) (e old : List ℕ) {j rows : ℕ} → o ≤ l → ((i : ℕ) → 2 * 2 ^ l - 2 ^ o ≤ i → i < 2 * 2 ^ l → elem_at e i ≡ F.zero) → rows ≡ 2 ^ l → j ≡ 2 * rows - 1
    → Multiplied (2 * 2 ^ l - 1) o y k e old (four 0 0 0 0) j old
multiplied_start l o y k e old {j} {rows} le ends er ej =
    record {
      bound = omega arith;
      size = refl;
      state = zero_words ∙ ap words_of (sym (top_tail l o y e le ends) ∙ ap (tail F (2 ^ o) y (elem_at e)) {x = 2 * 2 ^ l - 1} {y = j} (omega arith));
      rest = λ i h. refl;
      entries = λ i g h. absurd (omega arith);
    }

-- what a turn reads
module _ {n o : ℕ} {y k : Elem} {e old r : List ℕ} {j : ℕ} {b : List ℕ} (c : Multiplied n o y k e old r j b) where
  pub old_canonical : {i : ℕ} {was : List ℕ} → Elements n old → i < j → was ≡ words_at b i → Canonical was
  old_canonical {i} h lt ew = rw (ew ∙ c.rest i lt) (h.canonical i (let g : j ≤ n = c.bound in omega arith))

pub multiplied_turn : (n o : ℕ) (yw kw e old : List ℕ) (r : List ℕ) (j : ℕ) (b : List ℕ) {order i : ℕ} {p s t power x m next d was g new : List ℕ}
    → Multiplied n o (elem_of yw) (elem_of kw) e old r j b → 0 < j → length old ≡ 4 * n → order ≡ 2 ^ o
    → p ≡ words_of (shifted F order (elem_at e) (i + 1)) → s ≡ words_of (elem_of r ⊕ elem_of p) → t ≡ words_of (elem_of yw ⊗ elem_of s) → i ≡ j - 1 → x ≡ words_at e i
    → power ≡ words_of (pow F (elem_of yw) (2 ^ o)) → m ≡ words_of (elem_of power ⊗ elem_of x) → next ≡ words_of (elem_of t ⊖ elem_of m) → was ≡ words_at b i → d ≡ words_of (elem_of x ⊕ elem_of next)
    → g ≡ words_of (elem_of was ⊕ elem_of kw ⊗ elem_of d) → new ≡ put b i (elem_of g)
    → Multiplied n o (elem_of yw) (elem_of kw) e old next i new
unfolding product_f
multiplied_turn n o yw kw e old r j b {order} {i} {p} {s} {t} {power} {x} {m} {next} {d} {was} {g} {new} c pos room eo ep es et ei ex epow em enext ewas ed eg en =
    record {
      bound = let h : j ≤ n = c.bound in omega arith;
      size = ap length en ∙ length-put b i (elem_of g) ∙ c.size;
      state = enext ∙ ap words_of tailed;
      rest = λ q h. ap (λ z. words_at z q) en ∙ words_other b i q (elem_of g) (λ f. omega arith) ∙ c.rest q (omega arith);
      entries = λ q g h. at q g h (ℕ_discrete q i);
    }
  where
    y : Elem
    y = elem_of yw

    k : Elem
    k = elem_of kw

    up : suc i ≡ j
    up = omega arith

    here : elem_of x ≡ elem_at e i
    here = ap elem_of ex ∙ elem_of_words_at e i

    tailed : elem_of t ⊖ elem_of m ≡ tail F (2 ^ o) y (elem_at e) i
    tailed =
        ap₂ ◌⊖◌
        (elem_of_words _ et
        ∙ ap (λ v. y ⊗ v)
        (elem_of_words _ es
        ∙ ap₂ ◌⊕◌ (elem_of_words _ c.state ∙ ap (tail F (2 ^ o) y (elem_at e)) (sym up)) (elem_of_words _ ep ∙ ap₂ (λ w v. shifted F w (elem_at e) v) eo (add-one i))))
        (elem_of_words _ em ∙ ap₂ ◌⊗◌ (elem_of_words _ epow) here)
        ∙ sym (tail_step F (2 ^ o) y (elem_at e) i (two_pow-pos o))

    gained : elem_of g ≡ elem_at old i ⊕ k ⊗ (elem_at e i ⊕ tail F (2 ^ o) y (elem_at e) i)
    gained =
        elem_of_words _ eg
        ∙ ap₂ (λ u v. u ⊕ k ⊗ v) (ap elem_of (ewas ∙ c.rest i (omega arith)) ∙ elem_of_words_at old i) (elem_of_words _ ed ∙ ap₂ ◌⊕◌ here (elem_of_words _ enext ∙ tailed))

    at : (q : ℕ) → i ≤ q → q < n → Dec (q ≡ i) → words_at new q ≡ words_of (elem_at old q ⊕ k ⊗ (elem_at e q ⊕ tail F (2 ^ o) y (elem_at e) q))
    at q _ h (yes f) =
        ap₂ words_at en f ∙ words_same b i (elem_of g) (let z : length b ≡ length old = c.size in omega arith) ∙ ap words_of gained
        ∙ ap (λ v. words_of (elem_at old v ⊕ k ⊗ (elem_at e v ⊕ tail F (2 ^ o) y (elem_at e) v))) (sym f)
    at q l h (no f) = ap (λ z. words_at z q) en ∙ words_other b i q (elem_of g) f ∙ c.entries q (omega arith) h

pub multiplied_end : {n o : ℕ} {y k : Elem} {e old r : List ℕ} {j : ℕ} {new : List ℕ} → j ≤ 0 → Multiplied n o y k e old r j new → Gained n k (product_f o y (elem_at e)) old new
multiplied_end h c = record { size = c.size; entries = λ i l. c.entries i (omega arith) l }
