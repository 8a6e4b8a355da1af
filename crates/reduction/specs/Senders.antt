-- Challenges that are drawn one after the other, and a sender who answers them: what the verdict is asked then, and whether it says yes.
use Rattle.std.specs.Prelude.{Bool, false, List, [], ◌∷◌, ℕ, zero, suc, ◌+◌, ◌-◌, ◌^◌, eqb, length, take, get_or}
use Rattle.algebra.specs.Listed.{listed}
use Rattle.algebra.specs.Polynomial.{value}
use Rattle.field.specs.Number.{number_of}
use Rattle.field.specs.Element.{Elem, F, words_of}
use Rattle.field.specs.Slice.{elem_words}
use Rattle.layout.specs.Lists.{first_count}
use Rattle.layout.specs.Placing.{stack_width}
use Rattle.weights.specs.Run.{Run}
use Rattle.weights.specs.RunOf.{run_of}
use Rattle.weights.specs.AtField.{true_opening_f, carried_f}
use Rattle.verifier.specs.Asked.{Asked, asked}
use Rattle.verifier.specs.Verdicts.{verdict}
use Rattle.prover.specs.RowSum.{from_words}
use Rattle.reduction.specs.Verdict.{all_words}

-- What is fixed before lambda is drawn: l_skip and n_stack, the lists, r, the stacked matrices and the claims; and the slice that is lent for the
-- observed values. Each slice by its words.
pub record Instance : Type 0 where
  pub skip : ℕ
  pub stack : ℕ
  pub counts : List ℕ
  pub lists : List ℕ
  pub r : List ℕ
  pub matrices : List ℕ
  pub claims : List ℕ
  pub observed : List ℕ

-- any sender: the first polynomial's coefficients from lambda; a round's pair from lambda, u_0 and the challenges of the rounds before
pub record Sender : Type 0 where
  pub first : Elem → ℕ → Elem
  pub pair : Elem → Elem → List Elem → Elem × Elem

-- round j's pair, rounds counted from 0, when us is drawn: it has seen u_1 to u_j
abbrev pub pair_at : Sender → Elem → Elem → List Elem → ℕ → Elem × Elem
pair_at s lambda u us j = s.pair lambda u (take j us)

-- a 0, b 0, a 1, b 1, .., a (n − 1), b (n − 1)
unfoldable pub alternating : {A : Type 0} → ℕ → (ℕ → A) → (ℕ → A) → List A
alternating zero a b = []
alternating (suc n) a b = a 0 ∷ b 0 ∷ alternating n (λ j. a (suc j)) (λ j. b (suc j))

module _ (t : Instance) where
  abbrev pub run_at : Elem → Run Elem
  run_at lambda = run_of t.skip t.stack (first_count t.counts) t.lists t.r (words_of lambda)

  -- the stacked matrices, cell by cell
  abbrev pub cells : ℕ → Elem
  cells = from_words t.matrices

  module _ (s : Sender) where
    -- what the verdict is asked, with true openings, when lambda, u_0 and u_1 to u_n_stack are drawn
    abbrev pub asked_at : Elem → Elem → List Elem → Asked
    asked_at lambda u us =
        asked t.skip t.stack t.counts t.lists t.r (words_of lambda) (all_words (u ∷ us)) t.claims
        (elem_words (2 ^ (t.skip + 1) - 1) (s.first lambda))
        (all_words (alternating t.stack (λ j. (pair_at s lambda u us j).0) (λ j. (pair_at s lambda u us j).1)))
        (elem_words (stack_width t.skip t.stack (first_count t.counts) t.lists) (true_opening_f (run_at lambda) cells u us)) t.observed

    -- whether the verdict is yes, on lambda, u_0, .., u_n_stack
    unfoldable pub says_yes : List Elem → Bool
    says_yes [] = false
    says_yes (lambda ∷ []) = false
    says_yes (lambda ∷ u ∷ us) = eqb (number_of (verdict (asked_at lambda u us)).answer) 0

    -- the first polynomial that is sent, at x
    abbrev pub first_at : Elem → Elem → Elem
    first_at lambda x = value F (listed (2 ^ (t.skip + 1) - 1) (s.first lambda)) x

    -- the carried claim after u_0 and the rounds at us
    abbrev pub carried_at : Elem → Elem → List Elem → Elem
    carried_at lambda u us =
        carried_f (first_at lambda u) (λ j. (pair_at s lambda u us j).0) (λ j. (pair_at s lambda u us j).1) (λ j. get_or us j F.zero) (length us)
