-- The turns of a doubling step, over plain variables: after j turns the first j entries are doubled and the others stand.
use mathlib.Core.Path.{◌≡◌, ◌∙◌, ap, subst⁻¹}
use mathlib.Core.List.{List}
use Prim.Native.Nat.{ℕ, ◌+◌, ◌*◌, ◌<◌, ◌≤◌}
use native.Mathlib.Omega.{arith}
use borrow.Author.Count.{below_more}
use lib.ListN.{length}
use Rattle.field.specs.Element.{Elem, elem_of, words_of}
use Rattle.field.specs.Slice.{elem_at, words_at, put}
use Rattle.field.proofs.Slices.{length-put, elem_other}
use Rattle.field.proofs.ElementWords.{words_same, words_other}

pub record Turned (old : List ℕ) (half : ℕ) (low high : ℕ → Elem → Elem) (j : ℕ) (new : List ℕ) : Type 0 where
  pub bound : j ≤ half
  pub kept : length new ≡ length old
  pub lower : (k : ℕ) → k < j → words_at new k ≡ words_of (low k (elem_at old k))
  pub upper : (k : ℕ) → k < j → words_at new (half + k) ≡ words_of (high k (elem_at old k))
  pub rest : (k : ℕ) → j ≤ k → k < half → elem_at new k ≡ elem_at old k

module _ (old : List ℕ) (half : ℕ) (low high : ℕ → Elem → Elem) (j : ℕ) (b : List ℕ) (t : Turned old half low high j b) (lt : j < half) (room : 8 * half ≤ length old) where
  stored : Turned old half low high (j + 1) (put (put b (half + j) (high j (elem_at old j))) j (low j (elem_at old j)))
  stored =
      let hi : Elem = high j (elem_at old j) in
      let lo : Elem = low j (elem_at old j) in
      let b1 : List ℕ = put b (half + j) hi in
      let l1 : length b1 ≡ length b = length-put b (half + j) hi in
      record {
        bound = omega arith;
        kept = length-put b1 j lo ∙ l1 ∙ t.kept;
        lower =
            below_more _ j
            (λ k l. words_other b1 j k lo (λ q. omega arith) ∙ words_other b (half + j) k hi (λ q. omega arith) ∙ t.lower k l)
            (words_same b1 j lo (omega (arith, t.kept)));
        upper =
            below_more _ j
            (λ k l. words_other b1 j (half + k) lo (λ q. omega arith) ∙ words_other b (half + j) (half + k) hi (λ q. omega arith) ∙ t.upper k l)
            (words_other b1 j (half + j) lo (λ q. omega arith) ∙ words_same b (half + j) hi (omega (arith, t.kept)));
        rest = λ k g l. elem_other b1 j k lo (λ q. omega arith) ∙ elem_other b (half + j) k hi (λ q. omega arith) ∙ t.rest k (omega arith) l;
      }

  -- the same, from the words that are stored
  pub turned_turn : (x y : List ℕ) {b1 b2 : List ℕ} → elem_of x ≡ high j (elem_at b j) → elem_of y ≡ low j (elem_at b j) → b1 ≡ put b (half + j) (elem_of x) → b2 ≡ put b1 j (elem_of y)
      → Turned old half low high (j + 1) b2
  turned_turn x y {b1} {b2} ex ey e1 e2 = subst⁻¹ (Turned old half low high (j + 1)) same stored
    where
      here : elem_at b j ≡ elem_at old j
      here = t.rest j (omega arith) lt

      same : b2 ≡ put (put b (half + j) (high j (elem_at old j))) j (low j (elem_at old j))
      same =
          e2 ∙ ap (λ e. put b1 j e) (ey ∙ ap (low j) here)
          ∙ ap (λ l. put l j (low j (elem_at old j))) (e1 ∙ ap (λ e. put b (half + j) e) (ex ∙ ap (high j) here))
