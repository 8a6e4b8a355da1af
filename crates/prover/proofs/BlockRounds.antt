-- The blocks of a round's points, one after the other: a column's parts in all of them are its part of the round.
use Rattle.std.proofs.Common.{◌≡◌, ℕ, zero, suc, ◌+◌, ◌-◌, ◌*◌, ◌/◌, ◌^◌, ◌<◌, ◌≤◌, [], ◌∷◌, sym, refl, ap, ◌∙◌, ap₂, arith, le-leb}
use native.Mathlib.Decide.{dec_le}
use borrow.Author.Tests.{lt-leb}
use Rattle.algebra.specs.Sum.{sum}
use Rattle.algebra.specs.Multilinear.{fold_mle}
use Rattle.algebra.proofs.Expression.{:0, ◌:+◌, ◌:*◌, ◌:=◌}
use Rattle.algebra.proofs.Solver.{solve}
use Rattle.algebra.proofs.Sums.{sum_cong, sum-add, sum-mul, sum_split, sum_delta}
use Rattle.field.specs.Element.{Elem, F, ◌⊕◌, ◌⊗◌}
use Rattle.weights.specs.LambdaPowers.{if_flagged}
use Rattle.prover.specs.PointBlocks.{block_points, weight_line, point_sum, column_block}
use Rattle.prover.proofs.ColumnBlocks.{block-long, block-short, block_past}
use Rattle.prover.proofs.WholeRounds.{round_sum, column_round, round_long, round_short}

-- the first B blocks of m points are the first 256·B of them
pub blocks-sum : (f : ℕ → Elem) (m B : ℕ) → sum F B (λ b. sum F (block_points m b) (λ y. f (256 * b + y))) ≡ sum F (m - (m - 256 * B)) f
unfolding sum block_points
blocks-sum f m zero = ap (λ n. sum F n f) {x = 0} {y = m - (m - 256 * 0)} (omega arith)
blocks-sum f m (suc B) = ap (λ u. u ⊕ sum F (block_points m B) (λ y. f (256 * B + y))) (blocks-sum f m B) ∙ by_case (dec_le m (256 * B)) (dec_le 256 (m - 256 * B))
  where
    joined : (n : ℕ) → block_points m B ≡ n → m - (m - 256 * B) ≡ 256 * B → 256 * B + n ≡ m - (m - 256 * suc B) → sum F (m - (m - 256 * B)) f ⊕ sum F (block_points m B) (λ y. f (256 * B + y)) ≡ sum F (m - (m - 256 * suc B)) f
    joined n e d g = ap₂ (λ u v. sum F u f ⊕ sum F v (λ y. f (256 * B + y))) d e ∙ sym (sum_split F (256 * B) n f) ∙ ap (λ u. sum F u f) g

    by_case : Dec (m ≤ 256 * B) → Dec (256 ≤ m - 256 * B) → sum F (m - (m - 256 * B)) f ⊕ sum F (block_points m B) (λ y. f (256 * B + y)) ≡ sum F (m - (m - 256 * suc B)) f
    by_case (yes h) k =
        ap (λ n. sum F (m - (m - 256 * B)) f ⊕ sum F n (λ y. f (256 * B + y))) {x = block_points m B} {y = 0} (rw (lt-leb 256 (m - 256 * B) (omega arith)) (omega arith))
        ∙ F.add_zero _ ∙ ap (λ n. sum F n f) {x = m - (m - 256 * B)} {y = m - (m - 256 * suc B)} (omega arith)
    by_case (no h) (yes k) = joined 256 (rw (le-leb 256 (m - 256 * B) k) refl) (omega arith) (omega arith)
    by_case (no h) (no k) = joined (m - 256 * B) (rw (lt-leb 256 (m - 256 * B) (omega arith)) refl) (omega arith) (omega arith)

-- the sum over all points by the two tables
weighed-both : (flag m : ℕ) (lambda : Elem) (a e t : ℕ → Elem) (x : Elem)
    → sum F m (λ y. fold_mle F a x y ⊗ weight_line flag lambda e t x y) ≡ round_sum m a e x ⊕ if_flagged F flag (lambda ⊗ round_sum m a t x)
unfolding weight_line round_sum if_flagged
weighed-both zero m lambda a e t x =
    sum_cong F m (λ y. solve F (fold_mle F a x y ∷ fold_mle F e x y ∷ []) (λ a e. a :* (e :+ :0) := a :* e) refl) ∙ sym (F.add_zero _)
weighed-both (suc f) m lambda a e t x =
    sum_cong F m (λ y. solve F (fold_mle F a x y ∷ fold_mle F e x y ∷ lambda ∷ fold_mle F t x y ∷ []) (λ a e l t. a :* (e :+ l :* t) := a :* e :+ l :* (a :* t)) refl)
    ∙ sum-add F m (λ y. fold_mle F a x y ⊗ fold_mle F e x y) (λ y. lambda ⊗ (fold_mle F a x y ⊗ fold_mle F t x y))
    ∙ ap (λ u. sum F m (λ y. fold_mle F a x y ⊗ fold_mle F e x y) ⊕ u) (sum-mul F m lambda (λ y. fold_mle F a x y ⊗ fold_mle F t x y))

module _ (l j s h flag : ℕ) (lambda : Elem) (q e t : ℕ → Elem) (B : ℕ) (x : Elem) where
  abbrev part : ℕ → Elem
  part b = column_block l j s h flag lambda q e t b x

  abbrev at : ℕ → Elem
  at y = fold_mle F (λ i. q (s / 2 ^ (l + j - 1) + i)) x y ⊗ weight_line flag lambda e t x y

  long : j ≤ h - l → 2 ^ (h - l - j) ≤ 256 * B → sum F B part ≡ column_round l j s h flag lambda q e t x
  unfolding point_sum
  long k room =
      sum_cong F B (λ b. sym (block-long l j s h flag lambda q e t b x k)) ∙ blocks-sum at (2 ^ (h - l - j)) B
      ∙ ap (λ n. sum F n at) {x = 2 ^ (h - l - j) - (2 ^ (h - l - j) - 256 * B)} {y = 2 ^ (h - l - j)} (omega (arith, room))
      ∙ weighed-both flag (2 ^ (h - l - j)) lambda (λ i. q (s / 2 ^ (l + j - 1) + i)) e t x ∙ round_long l j s h flag lambda q e t x k

  short : h - l < j → 1 ≤ B → sum F B part ≡ column_round l j s h flag lambda q e t x
  short k room =
      sum_delta F B part 0 room (λ b o d. sym (block_past l j s h flag lambda q e t b x k d)) ∙ sym (block-short l j s h flag lambda q e t 0 x k refl) ∙ round_short l j s h flag lambda q e t x k

  pub column-blocks : 1 ≤ B → (j ≤ h - l → 2 ^ (h - l - j) ≤ 256 * B) → sum F B part ≡ column_round l j s h flag lambda q e t x
  column-blocks some room = by_case (dec_le j (h - l))
    where
      by_case : Dec (j ≤ h - l) → sum F B part ≡ column_round l j s h flag lambda q e t x
      by_case (yes k) = long k (room k)
      by_case (no k) = short (omega arith) some
