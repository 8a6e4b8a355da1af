-- The verdict and what is observed. Both sides of 13 and 14 are returned, those of 14 on a yes too, zeros on 1 to 12; the observed values are
-- coefficients, pairs, openings, on 14 and on a yes.
use Rattle.std.specs.declared.result.Result.TheVariants.{Err}
use Rattle.std.specs.Prelude.{cond, not, ◌||◌, List, ◌++◌, ℕ, eqb}
use Rattle.field.specs.Element.{Elem, F, words_of}
use Rattle.field.specs.Same.{same}
use Rattle.field.specs.declared.answer.Refusal.{Refusal}
use Rattle.layout.specs.Answers.{answer_of}
use Rattle.layout.specs.Checks.{refuse}
use Rattle.verifier.specs.declared.stacked_reduction.Verdict.{Verdict}
use Rattle.verifier.specs.Asked.{Asked}
use Rattle.verifier.specs.Sides.{weighted, first_sum, claimed, final_sum}
use Rattle.verifier.specs.Numbers.{verdict_number}

-- the element that a number gives: `first` on 13, `last` on 14 and on a yes
unfoldable pub side_of : Elem → Elem → ℕ → Elem
side_of first last number = cond (eqb number 13) first (cond (eqb number 14 || eqb number 0) last F.zero)

abbrev pub sides : ℕ → Elem → Elem → Verdict
sides number x y = record { answer = answer_of number; left = words_of x; right = words_of y }

-- zeros on 1 to 12
abbrev pub refused_sides : Refusal → Verdict
refused_sides e = record { answer = Err e; left = words_of F.zero; right = words_of F.zero }

abbrev pub numbered : Asked → ℕ → Verdict
numbered a number = sides number (side_of (weighted a) (claimed a) number) (side_of (first_sum a) (final_sum a) number)

-- 14 or a yes, by the two sides
unfoldable pub last_verdict : Elem → Elem → Verdict
last_verdict x y = sides (refuse 14 (not (same x y))) x y

-- the verdict, and the words in the observed slice after it
unfoldable pub verdict : Asked → Verdict
verdict a = numbered a (verdict_number a)

abbrev pub seen : Asked → ℕ → List ℕ
seen a number = cond (eqb number 14 || eqb number 0) (a.coefficients ++ (a.pairs ++ a.openings)) a.observed

unfoldable pub observed_values : Asked → List ℕ
observed_values a = seen a (verdict_number a)
