-- Lines through elements that stand in a slice, at 1 and 2; and the factor of a bit.
use Rattle.std.proofs.Common.{◌≡◌, ℕ, ◌+◌, ◌*◌, Bool, true, false, List, [], ◌∷◌, sym, refl, ap, ◌∙◌, ap₂}
use Rattle.algebra.specs.Ring.{num}
use Rattle.algebra.specs.Multilinear.{line, fold_mle}
use Rattle.algebra.proofs.Expression.{con, ◌:+◌, ◌:-◌, ◌:*◌, ◌:=◌}
use Rattle.algebra.proofs.Solver.{solve}
use Rattle.algebra.proofs.Multilinears.{line_one}
use Rattle.field.specs.Element.{Elem, F, ◌⊕◌, ◌⊖◌, ◌⊗◌, elem_of, words_of}
use Rattle.field.specs.Canonical.{Canonical}
use Rattle.field.specs.Slice.{elem_at, words_at, canonical_words}
use Rattle.field.proofs.Elements.{elem_of_words}
use Rattle.field.proofs.Slices.{canonical_below}
use Rattle.field.proofs.ElementWords.{elem_of_words_at}
use Rattle.prover.specs.RoundValues.{one_or_two}
use Rattle.prover.proofs.Writing.{own_words}

-- a line from the difference of its ends
pub line_is : (a b u : Elem) {d r : List ℕ} → d ≡ words_of (b ⊖ a) → r ≡ words_of (a ⊕ elem_of d ⊗ u) → r ≡ words_of (line F a b u)
unfolding line
line_is a b u e f = f ∙ ap (λ x. words_of (a ⊕ x ⊗ u)) (elem_of_words (b ⊖ a) e)

pub line_two_is : (a b : Elem) {d r : List ℕ} → d ≡ words_of (b ⊖ a) → r ≡ words_of (elem_of d ⊕ b) → r ≡ words_of (line F a b (num F 2))
unfolding line
line_two_is a b e f =
    f ∙ ap (λ x. words_of (x ⊕ b)) (elem_of_words (b ⊖ a) e) ∙ ap words_of (solve F (a ∷ b ∷ []) (λ a b. b :- a :+ b := a :+ (b :- a) :* con 2) refl)

-- elements in words below p that stand in a slice
module _ (xs : List ℕ) (h : canonical_words xs ≡ true) where
  pub words_canonical : (i : ℕ) {r : List ℕ} → r ≡ words_at xs i → Canonical r
  unfolding words_at
  words_canonical i e = rw e (record { w0 = canonical_below xs h _; w1 = canonical_below xs h _; w2 = canonical_below xs h _; w3 = canonical_below xs h _ })

  words_stand : (i : ℕ) → words_at xs i ≡ words_of (elem_at xs i)
  words_stand i = own_words xs i (words_canonical i refl)

  pub point_one : (y : ℕ) {two : Bool} {r : List ℕ} → two ≡ false → r ≡ words_at xs (2 * y + 1) → r ≡ words_of (fold_mle F (elem_at xs) (one_or_two two) y)
  unfolding fold_mle one_or_two
  point_one y {two} n e = e ∙ words_stand (2 * y + 1) ∙ ap words_of (sym (line_one F (elem_at xs (2 * y)) (elem_at xs (2 * y + 1)))) ∙ ap (λ b. words_of (fold_mle F (elem_at xs) (one_or_two b) y)) (sym n)

  pub point_two : (y : ℕ) {two : Bool} {lo hi r : List ℕ} → two ≡ true → lo ≡ words_at xs (2 * y) → hi ≡ words_at xs (2 * y + 1) → r ≡ words_of (line F (elem_of lo) (elem_of hi) (num F 2)) → r ≡ words_of (fold_mle F (elem_at xs) (one_or_two two) y)
  unfolding fold_mle one_or_two
  point_two y n e f g =
      g ∙ ap₂ (λ u v. words_of (line F u v (num F 2))) (ap elem_of e ∙ elem_of_words_at xs (2 * y)) (ap elem_of f ∙ elem_of_words_at xs (2 * y + 1))
      ∙ ap (λ b. words_of (fold_mle F (elem_at xs) (one_or_two b) y)) (sym n)
