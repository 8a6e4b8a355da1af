-- The loop of a block's sum, over plain variables: the products of a turn; and the values past a column's height.
use Rattle.std.proofs.Common.{◌≡◌, ℕ, ◌+◌, ◌*◌, ◌%◌, ◌<◌, List, [], ◌∷◌, get_or, sym, refl, ap, ◌∙◌, ap₂, arith}
use Rattle.tables.proofs.BitFactors.{bit-set}
use Rattle.algebra.specs.Ring.{num}
use Rattle.algebra.specs.Multilinear.{bit_factor, fold_mle}
use Rattle.algebra.proofs.Expression.{:0, :1, con, ◌:+◌, ◌:-◌, ◌:*◌, :neg, ◌:=◌}
use Rattle.algebra.proofs.Solver.{solve}
use Rattle.field.specs.Word.{p}
use Rattle.field.specs.Element.{Elem, F, ◌⊕◌, ◌⊗◌, neg, elem_of, words_of}
use Rattle.field.specs.Canonical.{Below}
use Rattle.field.proofs.Elements.{elem_of_words, canonical_words_lem, product_words}
use Rattle.field.proofs.Residues.{below}
use Rattle.prover.specs.Words.{Words}
use Rattle.prover.specs.RoundValues.{round_bit}
use Rattle.prover.specs.PointBlocks.{times_eleven}
use Rattle.prover.proofs.Numbers.{four, reduced, elem-zero, elem_reduced}

-- the points of pair y
pub pair_inside : {xs : List ℕ} {half y : ℕ} → y < half → Words xs (8 * half) → Words xs (8 * y + 8)
pair_inside h w = let r = w.room in record { room = omega arith; canonical = w.canonical }

pub point-inside : {xs : List ℕ} (from : ℕ) {n y : ℕ} → y < n → Words xs (8 * (from + n)) → Words xs (8 * (from + y) + 8)
point-inside from h w = let r = w.room in record { room = omega arith; canonical = w.canonical }

-- the four products of an element and another whose words that come round stand in v
module _ (a b : Elem) {x w v : List ℕ} (ex : x ≡ words_of a) (ew : w ≡ words_of b) (ev : v ≡ times_eleven (words_of b)) where
  abbrev at : List ℕ → ℕ → ℕ
  at e j = get_or e j 0

  words : Below (at w 0) (at w 1) (at w 2) (at w 3)
  words = canonical_words_lem _ ew

  rounds : Below (at v 0) (at v 1) (at v 2) (at v 3)
  unfolding times_eleven
  rounds = rw ev (record { w0 = below _ _ refl; w1 = below _ _ refl; w2 = below _ _ refl; w3 = omega arith })

  pub row0 : Below (at w 0) (at v 2) (at v 1) (at v 0)
  row0 = record { w0 = words.w0; w1 = rounds.w2; w2 = rounds.w1; w3 = rounds.w0 }

  pub row1 : Below (at w 1) (at w 0) (at v 2) (at v 1)
  row1 = record { w0 = words.w1; w1 = words.w0; w2 = rounds.w2; w3 = rounds.w1 }

  pub row2 : Below (at w 2) (at w 1) (at w 0) (at v 2)
  row2 = record { w0 = words.w2; w1 = words.w1; w2 = words.w0; w3 = rounds.w2 }

  pub row3 : Below (at w 3) (at w 2) (at w 1) (at w 0)
  row3 = record { w0 = words.w3; w1 = words.w2; w2 = words.w1; w3 = words.w0 }

  pub product_is : {x0 x1 x2 x3 : ℕ} → x0 ≡ at x 0 * at w 0 + at x 1 * at v 2 + at x 2 * at v 1 + at x 3 * at v 0
      → x1 ≡ at x 0 * at w 1 + at x 1 * at w 0 + at x 2 * at v 2 + at x 3 * at v 1
      → x2 ≡ at x 0 * at w 2 + at x 1 * at w 1 + at x 2 * at w 0 + at x 3 * at v 2
      → x3 ≡ at x 0 * at w 3 + at x 1 * at w 2 + at x 2 * at w 1 + at x 3 * at w 0
      → elem_of (four x0 x1 x2 x3) ≡ a ⊗ b
  unfolding elem_of times_eleven
  product_is {x0} {x1} {x2} {x3} e0 e1 e2 e3 =
      sym (elem_reduced x0 x1 x2 x3)
      ∙ elem_of_words _ (product_words (at x 0) (at x 1) (at x 2) (at x 3) (at w 0) (at w 1) (at w 2) (at w 3) (at v 0) (at v 1) (at v 2)
      (ap (λ e. at e 0) (ev ∙ ap times_eleven (sym ew))) (ap (λ e. at e 1) (ev ∙ ap times_eleven (sym ew))) (ap (λ e. at e 2) (ev ∙ ap times_eleven (sym ew)))
      (ap (λ n. n % p) e0) (ap (λ n. n % p) e1) (ap (λ n. n % p) e2) (ap (λ n. n % p) e3))
      ∙ ap₂ ◌⊗◌ (elem_of_words a ex) (elem_of_words b ew)

-- past a column's height: the values at 1 and 2 of the line times the factor of the bit
module _ (a : ℕ → Elem) (bit : ℕ) where
  pub bit-zero_one : bit ≡ 0 → four 0 0 0 0 ≡ words_of (round_bit a bit F.one)
  unfolding round_bit bit_factor
  bit-zero_one e =
      reduced 0 0 0 0 refl refl refl refl
      ∙ ap words_of (elem-zero ∙ solve F (fold_mle F a F.one 0 ∷ []) (λ x. :0 := x :* (:1 :- :1)) refl) ∙ ap (λ n. words_of (fold_mle F a F.one 0 ⊗ bit_factor F F.one n)) (sym e)

  pub bit-zero_two : {x r : List ℕ} → bit ≡ 0 → x ≡ words_of (fold_mle F a (num F 2) 0) → r ≡ words_of (neg (elem_of x)) → r ≡ words_of (round_bit a bit (num F 2))
  unfolding round_bit bit_factor
  bit-zero_two e f g =
      g ∙ ap (λ y. words_of (neg y)) (elem_of_words _ f) ∙ ap words_of (solve F (fold_mle F a (num F 2) 0 ∷ []) (λ x. :neg x := x :* (:1 :- con 2)) refl)
      ∙ ap (λ n. words_of (fold_mle F a (num F 2) 0 ⊗ bit_factor F (num F 2) n)) (sym e)

  pub bit_one_one : {r : List ℕ} → (bit ≡ 0 → ⊥) → r ≡ words_of (fold_mle F a F.one 0) → r ≡ words_of (round_bit a bit F.one)
  unfolding round_bit
  bit_one_one n e =
      e ∙ ap words_of (sym (F.mul_one _) ∙ ap (λ x. fold_mle F a F.one 0 ⊗ x) (bit-set F.one bit n))

  pub bit_one_two : {x r : List ℕ} → (bit ≡ 0 → ⊥) → x ≡ words_of (fold_mle F a (num F 2) 0) → r ≡ words_of (elem_of x ⊕ elem_of x) → r ≡ words_of (round_bit a bit (num F 2))
  unfolding round_bit
  bit_one_two n f g =
      g ∙ ap (λ y. words_of (y ⊕ y)) (elem_of_words _ f)
      ∙ ap words_of (solve F (fold_mle F a (num F 2) 0 ∷ []) (λ x. x :+ x := x :* con 2) refl ∙ ap (λ x. fold_mle F a (num F 2) 0 ⊗ x) (bit-set (num F 2) bit n))
