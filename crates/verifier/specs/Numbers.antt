-- Document 01's number of a verdict: the lowest that holds.
use Rattle.std.specs.declared.result.Result.TheVariants.{Err}
use Rattle.std.specs.Prelude.{◌≡◌, Result, MatchResult, not, List, ℕ, ◌+◌, ◌-◌, ◌*◌, ◌^◌, length}
use Rattle.field.specs.Slice.{canonical_four}
use Rattle.field.specs.Same.{same}
use Rattle.field.specs.declared.answer.Refusal.{Refusal}
use Rattle.layout.specs.Answers.{answer_of}
use Rattle.layout.specs.Checks.{refuse, or_else, length_number, word_number}
use Rattle.layout.specs.Placing.{stack_width}
use Rattle.layout.specs.Triples.{column_count}
use Rattle.layout.specs.Lists.{first_count, lists_number, lists_length}
use Rattle.weights.specs.LambdaPowers.{claims_before}
use Rattle.verifier.specs.declared.shapes.Shape.{Shape}
use Rattle.verifier.specs.Asked.{Asked}
use Rattle.verifier.specs.Sides.{run, weighted, first_sum, claimed, final_sum}

-- 9: r and the challenges are n_stack + 1 elements, the claims as many as the columns ask, the coefficients 2^(l_skip+1) − 1, the pairs n_stack, the
-- openings one a stack column; the observed values are the last three
unfoldable pub slices_number : ℕ → ℕ → ℕ → ℕ → ℕ → ℕ → ℕ → ℕ → ℕ → ℕ → ℕ → ℕ
slices_number l n stacked claims r challenges claimed coefficients pairs openings observed =
    or_else (length_number r (4 * (n + 1)))
    (or_else (length_number challenges (4 * (n + 1)))
    (or_else (length_number claimed (4 * claims))
    (or_else (length_number coefficients (4 * (2 ^ (l + 1) - 1)))
    (or_else (length_number pairs (8 * n))
    (or_else (length_number openings (4 * stacked)) (length_number observed (coefficients + pairs + openings)))))))

-- 10: of the slices and of lambda
unfoldable pub words_number : List ℕ → List ℕ → List ℕ → List ℕ → List ℕ → List ℕ → List ℕ → ℕ
words_number r lambda challenges claims coefficients pairs openings =
    or_else (word_number r)
    (or_else (refuse 10 (not (canonical_four lambda)))
    (or_else (word_number challenges)
    (or_else (word_number claims) (or_else (word_number coefficients) (or_else (word_number pairs) (word_number openings))))))

-- 1, 2, 4 to 7, 9 and 10
unfoldable pub asked_number : Asked → ℕ
asked_number a =
    or_else (lists_number a.skip a.stack a.counts a.lists)
    (or_else (lists_length a.counts a.lists)
    (or_else
    (slices_number a.skip a.stack (stack_width a.skip a.stack (first_count a.counts) a.lists)
    (claims_before (run a) (column_count a.lists)) (length a.r) (length a.challenges) (length a.claims) (length a.coefficients)
    (length a.pairs) (length a.openings) (length a.observed))
    (words_number a.r a.lambda a.challenges a.claims a.coefficients a.pairs a.openings)))

-- what the checks leave where their number is 0: the matrices of the first commitment and the columns of all
pub record Shaped (a : Asked) (s : Shape) : Type 0 where
  pub number : asked_number a ≡ 0
  pub first : s.first ≡ first_count a.counts
  pub columns : s.columns ≡ column_count a.lists

-- and else the refusal
abbrev pub IsShape : Asked → Result Shape Refusal → Type 0
IsShape a r = MatchResult r (Shaped a) (λ e. answer_of (asked_number a) ≡ Err e)

-- then 13, then 14
unfoldable pub verdict_number : Asked → ℕ
verdict_number a =
    or_else (asked_number a) (or_else (refuse 13 (not (same (weighted a) (first_sum a)))) (refuse 14 (not (same (claimed a) (final_sum a)))))
