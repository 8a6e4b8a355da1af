-- The entries of an eq table add up to its starting element.
use mathlib.Core.Path.{◌≡◌, refl, sym, ◌∙◌, ap}
use mathlib.Core.List.{List, [], ◌∷◌}
use Prim.Native.Nat.{ℕ, ◌^◌}
use Rattle.algebra.specs.Ring.{Ring}
use Rattle.algebra.specs.Sum.{sum}
use Rattle.algebra.specs.Multilinear.{cube_factor, line, fold_mle, mle}
use Rattle.algebra.proofs.Expression.{◌:+◌, ◌:-◌, ◌:*◌, ◌:=◌}
use Rattle.algebra.proofs.Solver.{solve}
use Rattle.algebra.proofs.Sums.{sum_cong_below}
use Rattle.algebra.proofs.Multilinears.{mle_nil, mle_cong, mle_fold}
use Rattle.field.specs.Element.{Elem, F, ◌⊗◌}
use Rattle.field.specs.Slice.{elem_at}
use Rattle.field.proofs.ElementWords.{elem_at_words, words_at-elem_words}
use Rattle.tables.specs.Points.{coordinates}
use Rattle.tables.specs.EqTable.{eq_table}
use Rattle.tables.proofs.PointLaws.{coordinates-length}

-- the polynomial through a constant
pub mle_constant : {A : Type 0} (R : Ring A) (c : A) (xs : List A) → mle R (λ i. c) xs ≡ c
unfolding fold_mle line
mle_constant R c [] = mle_nil R (λ i. c)
mle_constant R c (u ∷ xs) =
    mle_fold R (λ i. c) u xs ∙ mle_cong R (fold_mle R (λ i. c) u) (λ i. c) xs (λ i h. solve R (c ∷ u ∷ []) (λ c u. c :+ (c :- c) :* u := c) refl)
    ∙ mle_constant R c xs

pub entries-sum : (start : Elem) (xs : List ℕ) (m : ℕ) → sum F (2 ^ m) (elem_at (eq_table start xs m)) ≡ start
unfolding eq_table mle
entries-sum start xs m =
    sum_cong_below F (2 ^ m) (λ i h. elem_at_words _ i _ (words_at-elem_words (2 ^ m) (λ j. start ⊗ cube_factor F (coordinates xs 0 m) j) i h))
    ∙ ap (λ n. sum F (2 ^ n) (λ i. start ⊗ cube_factor F (coordinates xs 0 m) i)) (sym (coordinates-length xs 0 m)) ∙ mle_constant F start (coordinates xs 0 m)
