-- The fold in place: the turns of its loop, what its end leaves, and that packed lists fold as one.
use Rattle.std.proofs.Common.{◌≡◌, ℕ, ◌+◌, ◌*◌, ◌<◌, ◌≤◌, List, [], ◌∷◌, length, sym, ap, ◌∙◌, ap₂, arith}
use mathlib.Core.Path.{subst⁻¹}
use native.Mathlib.Nat
use Rattle.algebra.specs.Multilinear.{line, fold_mle}
use Rattle.field.specs.Element.{Elem, F, elem_of, words_of}
use Rattle.field.specs.Canonical.{Canonical}
use Rattle.field.specs.Slice.{words_at, put}
use Rattle.field.proofs.Elements.{elem_of_words}
use Rattle.field.proofs.ElementWords.{elem_of_words_at}
use Rattle.tables.specs.Window.{below, window}
use Rattle.tables.proofs.Windows.{window_in, window_late}
use Rattle.prover.specs.Words.{CanonicalFrom}
use Rattle.prover.specs.Written.{Written, elems_from}
use Rattle.prover.proofs.Numbers.{elem-zero}
use Rattle.prover.proofs.Writing.{written_turn, written_next, written_end, written_cong}

pub below_in : (n : ℕ) (f : ℕ → Elem) (t : ℕ) → t < n → below F n f t ≡ f t
unfolding window
below_in n f t h = ap (below F n f) (sym (Nat.zero-add t)) ∙ window_in F 0 n f t h

pub below_out : (n : ℕ) (f : ℕ → Elem) (t : ℕ) → n ≤ t → below F n f t ≡ F.zero
unfolding window
below_out n f t h = window_late F 0 n f t (omega arith)

module _ (old : List ℕ) (at half : ℕ) (u : Elem) where
  abbrev pub folded : ℕ → Elem
  folded = fold_mle F (elems_from old at) u

  -- what is read stands as it stood
  pub read_canonical : {y : ℕ} {t r : List ℕ} (j : ℕ) → Written old at y folded t → CanonicalFrom old at (2 * half) → y ≤ j → j < 2 * half → r ≡ words_at t (at + j) → Canonical r
  read_canonical j s h k l e = rw (e ∙ s.after (at + j) (omega arith)) (h j l)

  read_element : {y : ℕ} {t r : List ℕ} (j : ℕ) → Written old at y folded t → y ≤ j → r ≡ words_at t (at + j) → elem_of r ≡ elems_from old at j
  read_element j s k e = ap elem_of (e ∙ s.after (at + j) (omega arith)) ∙ elem_of_words_at old (at + j)

  pub fold_turn_lem : {y : ℕ} {t lo hi e new : List ℕ} → Written old at y folded t → y < half → 4 * (at + 2 * half) ≤ length old
      → lo ≡ words_at t (at + 2 * y) → hi ≡ words_at t (at + (2 * y + 1)) → e ≡ words_of (line F (elem_of lo) (elem_of hi) u) → new ≡ put t (at + y) (elem_of e)
      → Written old at (y + 1) folded new
  unfolding fold_mle
  fold_turn_lem {y} {t} {lo} {hi} s k room f g h n =
      written_turn s (omega arith)
      (elem_of_words _ h ∙ ap₂ (λ a b. line F a b u) (read_element (2 * y) s (omega arith) f) (read_element (2 * y + 1) s (omega arith) g)) n

  -- values first, zeros after
  pub fold_end : {y : ℕ} {t new : List ℕ} → Written old at y folded t → y ≤ half → half ≤ y → Written t (at + half) half (λ i. elem_of (0 ∷ 0 ∷ 0 ∷ 0 ∷ [])) new
      → Written old at (2 * half) (below F half folded) new
  fold_end {y} {t} {new} s k l z =
      subst⁻¹ (λ n. Written old at n (below F half folded) new) {x = 2 * half} {y = half + half} (omega arith)
      (written_next (written_cong (written_end k l s) (λ i h. sym (below_in half folded i h))) z (λ i h. elem-zero ∙ sym (below_out half folded (half + i) (omega arith))))
