-- The fold at a power of the skip subgroup's root: at the i-th power q_evals holds word i of each row, and nothing else. The polynomial through
-- a row has the row's words at the powers, so this is no rule of its own.
use Rattle.std.proofs.Common.{◌≡◌, ℕ, ◌+◌, ◌*◌, ◌^◌, ◌<◌, ◌≤◌, List, [], ◌∷◌, get_or, sym, ap, ◌∙◌, arith}
use mathlib.Core.Path.{fun_ext}
use Rattle.algebra.specs.Ring.{pow}
use Rattle.algebra.specs.Zmod.{class}
use Rattle.field.specs.Word.{p, word_of}
use Rattle.field.specs.Element.{F, from_word, elem_of, words_of}
use Rattle.field.specs.Powers.{root}
use Rattle.field.specs.Slice.{elem_words, words_at}
use Rattle.field.proofs.Elements.{words_of_elem_of}
use Rattle.field.proofs.ElementWords.{words_at-elem_words}
use Rattle.field.proofs.Slices.{canonical_below}
use Rattle.tables.proofs.FieldSkip.{field_skip}
use Rattle.tables.proofs.PrismFolds.{fold_ple_at_power}
use Rattle.prover.specs.declared.turns.Turn.{Turn}
use Rattle.prover.specs.RowSum.{from_words}
use Rattle.prover.specs.Given.{Given, Work, stacked}
use Rattle.prover.specs.CallNumbers.{uni_number}
use Rattle.prover.specs.Calls.{uni_values, uni_work}
use Rattle.prover.proofs.CallsPassed.{uni_passed}
use Rattle.prover.proofs.CallLaws.{left_new}

word_alone : (x : ℕ) → x < p → words_of (from_word (word_of x)) ≡ x ∷ 0 ∷ 0 ∷ 0 ∷ []
unfolding elem_of class
word_alone x h = words_of_elem_of x 0 0 0 h (omega arith) (omega arith) (omega arith)

-- the values of m rows of 2^l words
pub uni_at_power : (l m : ℕ) (matrices : List ℕ) (i : ℕ) → l ≤ 10 → i < 2 ^ l
    → uni_values l m matrices (pow F (root l) i) ≡ elem_words m (λ y. from_words matrices (i + 2 ^ l * y))
unfolding uni_values
uni_at_power l m matrices i few h = ap (elem_words m) (fun_ext (λ y. fold_ple_at_power (field_skip l (omega arith)) (from_words matrices) i y h))

-- a call that is done at the i-th power
module _ (g : Given) (t : Turn) (matrices u : List ℕ) (w : Work) (done : uni_number g t matrices u w ≡ 0) (i : ℕ) (h : i < 2 ^ g.skip)
    (power : elem_of u ≡ pow F (root g.skip) i) where
  pub fold_at_power : (uni_work g t matrices u w).q ≡ elem_words (stacked g * 2 ^ g.stack) (λ y. from_words matrices (i + 2 ^ g.skip * y))
  unfolding uni_work
  fold_at_power =
      sym (left_new (uni_number g t matrices u w) done _ w.q)
      ∙ ap (uni_values g.skip (stacked g * 2 ^ g.stack) matrices) power
      ∙ uni_at_power g.skip (stacked g * 2 ^ g.stack) matrices i (uni_passed g t matrices u w done).0.listed.laid.shaped.skip h

  -- in words: word i of the row, and three zeros
  pub row_at_power : (y : ℕ) → y < stacked g * 2 ^ g.stack → words_at (uni_work g t matrices u w).q y ≡ get_or matrices (i + 2 ^ g.skip * y) 0 ∷ 0 ∷ 0 ∷ 0 ∷ []
  row_at_power y s =
      ap (λ q. words_at q y) fold_at_power
      ∙ words_at-elem_words (stacked g * 2 ^ g.stack) (λ k. from_words matrices (i + 2 ^ g.skip * k)) y s
      ∙ word_alone (get_or matrices (i + 2 ^ g.skip * y) 0) (canonical_below matrices (uni_passed g t matrices u w done).1.matrices_words (i + 2 ^ g.skip * y))
