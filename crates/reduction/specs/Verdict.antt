-- What the verdict is given on a finished list: the same l_skip, n_stack, lists, r, lambda and challenges, the pairs and openings that were returned, and
-- any claims and coefficients, as many as asked.
use Rattle.std.specs.Prelude.{◌≡◌, true, List, [], ◌∷◌, ◌++◌, ℕ, ◌+◌, ◌-◌, ◌*◌, ◌^◌, length, get_or, drop}
use Rattle.field.specs.Element.{Elem, F, words_of}
use Rattle.field.specs.Slice.{canonical_words}
use Rattle.weights.specs.LambdaPowers.{claims_before}
use Rattle.verifier.specs.Asked.{Asked, asked}
use Rattle.prover.specs.Given.{Given, run, columns, stacked}
use Rattle.reduction.specs.Calls.{State}

-- the words of elements, one after the other
unfoldable pub all_words : List Elem → List ℕ
all_words [] = []
all_words (x ∷ xs) = words_of x ++ all_words xs

-- u_0, and the challenges of the later folds
abbrev pub head_of : List Elem → Elem
head_of us = get_or us 0 F.zero

abbrev pub later_of : List Elem → List Elem
later_of us = drop 1 us

-- round j's challenge, rounds counted from 0
abbrev pub challenge_at : List Elem → ℕ → Elem
challenge_at us j = get_or (later_of us) j F.zero

-- claims and coefficients of the asked lengths, in words below p, and a slice of the right length for the observed values
pub record Fitting (g : Given) (claims coefficients observed : List ℕ) : Type 0 where
  pub claims_asked_lem : length claims ≡ 4 * claims_before (run g) (columns g)
  pub claims_words_lem : canonical_words claims ≡ true
  pub coefficients_asked_lem : length coefficients ≡ 4 * (2 ^ (g.skip + 1) - 1)
  pub coefficients_words : canonical_words coefficients ≡ true
  pub observed_asked : length observed ≡ length coefficients + 8 * g.stack + 4 * stacked g

-- with what the list left and the openings that it returned
abbrev pub judged : Given → State → List ℕ → List ℕ → List ℕ → List ℕ → Asked
judged g s openings claims coefficients observed =
    asked g.skip g.stack g.counts g.lists g.r g.lambda (all_words s.challenges) claims coefficients s.pairs openings observed
