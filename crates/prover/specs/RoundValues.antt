-- The values of a round at 1 and 2. Document 01: a pair.
use Rattle.std.specs.Prelude.{◌≡◌, ℕ, Bool, true, false}
use Rattle.algebra.specs.Ring.{num}
use Rattle.algebra.specs.Multilinear.{bit_factor, fold_mle}
use Rattle.field.specs.Element.{Elem, F, ◌⊗◌, words_of}
use Rattle.prover.specs.declared.sumcheck.Evals.{Evals}

-- the line through the two entries left of a table, times the factor of a bit, at x
unfoldable pub round_bit : (ℕ → Elem) → ℕ → Elem → Elem
round_bit a bit x = fold_mle F a x 0 ⊗ bit_factor F x bit

-- the values of f at 1 and 2
pub record Values (f : Elem → Elem) (r : Evals) : Type 0 where
  pub at_one : r.one ≡ words_of (f F.one)
  pub at_two : r.two ≡ words_of (f (num F 2))

-- where the lines are taken
unfoldable pub one_or_two : Bool → Elem
one_or_two false = F.one
one_or_two true = num F 2
