-- A column's term of the work buffers' own sum with the round's variable free: its weight and power of lambda, times what the code adds up.
use Rattle.std.proofs.Common.{◌≡◌, ℕ, ◌+◌, ◌-◌, ◌*◌, ◌/◌, ◌%◌, ◌^◌, ◌<◌, ◌≤◌, [], ◌∷◌, sym, refl, ap, ◌∙◌, ap₂, arith, le-leb}
use native.Mathlib.Decide.{dec_lt}
use borrow.Author.Tests.{lt-leb}
use Rattle.algebra.specs.Sum.{sum}
use Rattle.algebra.specs.Multilinear.{bit_factor, line, fold_mle}
use Rattle.algebra.proofs.Expression.{◌:+◌, ◌:*◌, ◌:=◌}
use Rattle.algebra.proofs.Solver.{solve}
use Rattle.algebra.proofs.Sums.{sum_cong, sum-add, sum-mul, sum_single}
use Rattle.field.specs.Element.{Elem, F, ◌⊕◌, ◌⊗◌}
use Rattle.weights.specs.Run.{Run, start_block}
use Rattle.weights.specs.LambdaPowers.{if_flagged, plain_power, rotated_power}
use Rattle.weights.specs.Fits.{Fits}
use Rattle.weights.proofs.PowerWalks.{flagged_powers}
use Rattle.prover.specs.RoundValues.{round_bit}
use Rattle.prover.specs.OwnSum.{Tables, place, own_term, folded_tables}
use Rattle.prover.proofs.Places.{place_is, bit_is, even_place}
use Rattle.prover.proofs.WholeRounds.{round_sum, column_round, round_long, round_short}

-- a table read from an even index on
pub folded_from : (v : ℕ → Elem) (x : Elem) (a b y : ℕ) → a ≡ 2 * b → fold_mle F (λ i. v (a + i)) x y ≡ fold_mle F v x (b + y)
unfolding fold_mle
folded_from v x a b y e =
    ap₂ (λ i j. line F (v i) (v j) x) {x = a + 2 * y} {y = 2 * (b + y)} (omega arith) (omega arith)

module _ (run : Run Elem) (j k : ℕ) (x : Elem) (t : Tables) where
  abbrev l : ℕ
  l = run.skip

  abbrev n : ℕ
  n = run.stack

  abbrev s : ℕ
  s = run.start k

  abbrev h : ℕ
  h = run.log k

  abbrev P : Elem
  P = plain_power F run k

  abbrev Q : Elem
  Q = rotated_power F run k

  abbrev W : Elem
  W = t.weight k

  abbrev part : Elem
  part = column_round l j s h (run.flag k) run.lambda t.values (t.eq h) (t.rot h) x

  -- both lambda powers of the column
  powers : (a b : Elem) → P ⊗ (a ⊕ if_flagged F (run.flag k) (run.lambda ⊗ b)) ≡ P ⊗ a ⊕ Q ⊗ b
  unfolding plain_power rotated_power
  powers a b = flagged_powers (run.flag k) k run.lambda a b

  place_here : j ≤ n → place run j k ≡ s / 2 ^ (l + j)
  unfolding place
  place_here b = sym (place_is l n s j b)

  long : j ≤ h - l → (m : ℕ) (v e r : ℕ → Elem)
      → sum F m (λ y. W ⊗ (P ⊗ fold_mle F e x y ⊕ Q ⊗ fold_mle F r x y) ⊗ fold_mle F v x y)
      ≡ P ⊗ W ⊗ (round_sum m v e x ⊕ if_flagged F (run.flag k) (run.lambda ⊗ round_sum m v r x))
  unfolding round_sum
  long b m v e r =
      sum_cong F m (λ y. solve F (W ∷ P ∷ Q ∷ fold_mle F e x y ∷ fold_mle F r x y ∷ fold_mle F v x y ∷ [])
      (λ w p q a b c. w :* (p :* a :+ q :* b) :* c := (w :* p) :* (c :* a) :+ (w :* q) :* (c :* b)) refl)
      ∙ sum-add F m _ _ ∙ ap₂ ◌⊕◌ (sum-mul F m (W ⊗ P) _) (sum-mul F m (W ⊗ Q) _)
      ∙ solve F (W ∷ P ∷ Q ∷ sum F m (λ y. fold_mle F v x y ⊗ fold_mle F e x y) ∷ sum F m (λ y. fold_mle F v x y ⊗ fold_mle F r x y) ∷ [])
      (λ w p q a b. w :* p :* a :+ w :* q :* b := w :* (p :* a :+ q :* b)) refl
      ∙ ap (λ z. W ⊗ z) (sym (powers _ _))
      ∙ solve F (W ∷ P ∷ (sum F m (λ y. fold_mle F v x y ⊗ fold_mle F e x y) ⊕ if_flagged F (run.flag k) (run.lambda ⊗ sum F m (λ y. fold_mle F v x y ⊗ fold_mle F r x y))) ∷ [])
      (λ w p z. w :* (p :* z) := p :* w :* z) refl

  tall : Fits l n h s → 1 ≤ j → j ≤ n → j ≤ h - l → own_term run j (folded_tables run j x t) k ≡ P ⊗ W ⊗ part
  unfolding own_term folded_tables
  tall f a b c =
      rw (le-leb j (h - l) c)
      (sum_cong F (2 ^ (h - l - j)) (λ y. ap (λ z. W ⊗ (P ⊗ fold_mle F (t.eq h) x y ⊕ Q ⊗ fold_mle F (t.rot h) x y) ⊗ z)
      (ap (λ p. fold_mle F t.values x (p + y)) (place_here b) ∙ sym (folded_from t.values x (s / 2 ^ (l + j - 1)) (s / 2 ^ (l + j)) y (even_place f j a c b))))
      ∙ long c (2 ^ (h - l - j)) (λ i. t.values (s / 2 ^ (l + j - 1) + i)) (t.eq h) (t.rot h)
      ∙ ap (λ z. P ⊗ W ⊗ z) (round_long l j s h (run.flag k) run.lambda t.values (t.eq h) (t.rot h) x c))

  short : 1 ≤ j → j ≤ n → h - l < j → own_term run j (folded_tables run j x t) k ≡ P ⊗ W ⊗ part
  unfolding own_term folded_tables round_bit
  short a b c =
      rw (lt-leb j (h - l) c)
      (ap (λ m. sum F (2 ^ m) (λ y. W ⊗ bit_factor F x (start_block run k / 2 ^ (j - 1) % 2) ⊗ (P ⊗ t.eq h y ⊕ Q ⊗ t.rot h y) ⊗ fold_mle F t.values x (place run j k + y))) {x = h - l - j} {y = 0} (omega arith)
      ∙ sum_single F _
      ∙ ap₂ (λ p z. W ⊗ bit_factor F x z ⊗ (P ⊗ t.eq h 0 ⊕ Q ⊗ t.rot h 0) ⊗ p)
      (ap (λ p. fold_mle F t.values x (p + 0)) (place_here b) ∙ sym (folded_from t.values x (2 * (s / 2 ^ (l + j))) (s / 2 ^ (l + j)) 0 refl))
      (sym (bit_is l n s j a b))
      ∙ ap (λ z. W ⊗ bit_factor F x (s / 2 ^ (l + j - 1) % 2) ⊗ z ⊗ fold_mle F (λ i. t.values (2 * (s / 2 ^ (l + j)) + i)) x 0) (sym (powers (t.eq h 0) (t.rot h 0)))
      ∙ solve F (W ∷ bit_factor F x (s / 2 ^ (l + j - 1) % 2) ∷ P ∷ (t.eq h 0 ⊕ if_flagged F (run.flag k) (run.lambda ⊗ t.rot h 0)) ∷ fold_mle F (λ i. t.values (2 * (s / 2 ^ (l + j)) + i)) x 0 ∷ [])
      (λ w d p e q. w :* d :* (p :* e) :* q := p :* w :* (q :* d :* e)) refl
      ∙ ap (λ z. P ⊗ W ⊗ z) (round_short l j s h (run.flag k) run.lambda t.values (t.eq h) (t.rot h) x c))

  pub own_column : Fits l n h s → 1 ≤ j → j ≤ n → own_term run j (folded_tables run j x t) k ≡ P ⊗ W ⊗ part
  own_column f a b = by (dec_lt (h - l) j)
    where
      by : Dec (h - l < j) → own_term run j (folded_tables run j x t) k ≡ P ⊗ W ⊗ part
      by (yes c) = short a b c
      by (no c) = tall f a b (omega arith)
