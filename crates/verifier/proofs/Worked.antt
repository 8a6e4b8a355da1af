-- Document 01's examples, computed through the definitions: l_skip 0, n_stack 0, one column of one row without flag. Claim 1 and coefficient 2 give 13;
-- claim 2, coefficient 2 and opening 3 give 14; claim 2, coefficient 2 and opening 2 are accepted.
use mathlib.Core.Path.{◌≡◌, refl, sym, ◌∙◌, ap}
use mathlib.Core.List.{List, [], ◌∷◌, ◌++◌}
use Prim.Native.Nat.{ℕ}
use lib.ListN.{get_or}
use Rattle.algebra.specs.Ring.{pow}
use Rattle.algebra.specs.Sum.{sum}
use Rattle.algebra.specs.Listed.{listed}
use Rattle.algebra.specs.Polynomial.{value}
use Rattle.algebra.specs.Multilinear.{cube_factor}
use Rattle.algebra.specs.Zmod.{class, zadd, zmul, zneg}
use Rattle.algebra.specs.Quadratic.{qadd, qmul, qneg}
use Rattle.field.specs.Element.{Elem, F, half_elem, elem_of, words_of}
use Rattle.field.specs.Slice.{elem_at, canonical_words, canonical_four}
use Rattle.field.specs.Same.{same_words}
use Rattle.field.specs.declared.answer.Refusal.TheVariants.{S0Mismatch, FinalSumMismatch}
use Rattle.std.specs.declared.result.Result.TheVariants.{Ok, Err}
use Rattle.field.proofs.Elements.{elem_of_words_of}
use Rattle.field.proofs.Embedding.{root_first}
use Rattle.tables.specs.Index.{before}
use Rattle.tables.specs.Lagrange.{lagrange}
use Rattle.tables.specs.SubgroupSum.{subgroup_sum}
use Rattle.tables.specs.Prism.{row_factor, prism}
use Rattle.tables.specs.AtStride.{on_zero, at_stride}
use Rattle.tables.specs.Window.{below, window}
use Rattle.tables.specs.Points.{coordinates, count}
use Rattle.tables.specs.OnSlices.{value_of}
use Rattle.field.specs.Number.{settled, refusal_of, refusals}
use Rattle.layout.specs.Answers.{answer_of}
use Rattle.layout.specs.Checks.{refuse, or_else, first_of}
use Rattle.layout.specs.Triples.{columns_before}
use Rattle.layout.specs.Placing.{slice_length, round_up, opened, matrix_length, matrix_start}
use Rattle.layout.specs.Refusals.{limits_number, flag_number, columns_in, width_number, column_number, matrix_number, place_number, higher_number, rise_number, laid_number}
use Rattle.layout.specs.Columns.{located}
use Rattle.layout.specs.Lists.{commitment_number, counts_number, width_there, later_number, empty_number, there_number, lists_number, lists_length}
use Rattle.weights.specs.ColumnFactor.{raised, lifted_point, column_factor}
use Rattle.weights.specs.LambdaPowers.{claims_of, claims_before, if_flagged, plain_power, rotated_power, weighted_claims}
use Rattle.weights.specs.Weights.{cell_weight, weights}
use Rattle.weights.specs.FinalSum as FinalSum
use Rattle.weights.specs.Carried.{carried}
use Rattle.verifier.specs.Asked.{Asked, asked}
use Rattle.verifier.specs.Sides.{run, weighted, first_sum, claimed, final_sum}
use Rattle.verifier.specs.Numbers.{slices_number, words_number, asked_number}
use Rattle.verifier.specs.Verdicts.{side_of, sides, verdict, seen, observed_values}
use Rattle.verifier.proofs.VerdictLaws.{past_shape, verdict_by}

-- the words of a small number as an element
abbrev is : ℕ → List ℕ
is n = n ∷ 0 ∷ 0 ∷ 0 ∷ []

-- what is lent for the observed values
abbrev lent : List ℕ
lent = 9 ∷ 9 ∷ 9 ∷ 9 ∷ 9 ∷ 9 ∷ 9 ∷ 9 ∷ []

-- r_0 is 5, lambda 7 and u_0 3
abbrev pub example : ℕ → ℕ → ℕ → Asked
example claim coefficient opening = asked 0 0 (1 ∷ []) (1 ∷ 0 ∷ 0 ∷ []) (is 5) (is 7) (is 3) (is claim) (is coefficient) [] (is opening) lent

-- the sums, over a generator of order 1
abbrev first : Asked → Elem → Elem
first a w = subgroup_sum F 0 w (coordinates a.coefficients 0 (count a.coefficients))

abbrev last : Asked → Elem → Elem
last a w = FinalSum.final_sum F half_elem w (run a) (elem_at a.challenges 0) (coordinates a.challenges 1 0) (elem_at a.openings)

-- the words of the four sides, over a generator of order 1
abbrev side_words : Asked → Elem → List (List ℕ)
side_words a w = words_of (weighted a) ∷ words_of (first a w) ∷ words_of (claimed a) ∷ words_of (last a w) ∷ []

shapes : ◌≡◌ {A = List ℕ} (asked_number (example 1 2 2) ∷ asked_number (example 2 2 3) ∷ asked_number (example 2 2 2) ∷ []) (0 ∷ 0 ∷ 0 ∷ [])
unfolding asked_number lists_number limits_number counts_number commitment_number there_number flag_number columns_in width_number laid_number place_number matrix_number column_number rise_number
    higher_number empty_number width_there later_number lists_length refuse or_else first_of slice_length round_up opened matrix_length matrix_start columns_before located claims_of claims_before
    slices_number words_number canonical_words canonical_four
shapes = refl

computed : ◌≡◌ {A = List (List (List ℕ))} (side_words (example 1 2 2) F.one ∷ side_words (example 2 2 3) F.one ∷ side_words (example 2 2 2) F.one ∷ [])
    ((is 1 ∷ is 2 ∷ is 2 ∷ is 2 ∷ []) ∷ (is 2 ∷ is 2 ∷ is 2 ∷ is 3 ∷ []) ∷ (is 2 ∷ is 2 ∷ is 2 ∷ is 2 ∷ []) ∷ [])
unfolding weighted claimed weighted_claims plain_power rotated_power if_flagged claims_of claims_before carried value_of value subgroup_sum sum pow listed elem_at elem_of words_of class zadd zmul
    zneg qadd qmul qneg located matrix_start columns_before slice_length FinalSum.final_sum prism row_factor lagrange cube_factor weights cell_weight window below at_stride on_zero before
    column_factor raised lifted_point
computed = refl

-- an element by its words
by_words : (x : Elem) (a : List ℕ) → words_of x ≡ a → x ≡ elem_of a
by_words x a e = sym (elem_of_words_of x) ∙ ap elem_of e

-- the verdict of an example, from the words of its sides
module _ (claim coefficient opening : ℕ) (w f c s : List ℕ) (shaped : asked_number (example claim coefficient opening) ≡ 0)
    (e : side_words (example claim coefficient opening) F.one ≡ w ∷ f ∷ c ∷ s ∷ []) where
  abbrev a : Asked
  a = example claim coefficient opening

  abbrev number : ℕ
  number = past_shape (elem_of w) (elem_of f) (elem_of c) (elem_of s)

  side : (i : ℕ) → get_or (side_words a F.one) i [] ≡ get_or (w ∷ f ∷ c ∷ s ∷ []) i []
  side i = ap (λ (l : List (List ℕ)). get_or l i []) e

  pub judged : (verdict (example claim coefficient opening) ≡ sides number (side_of (elem_of w) (elem_of c) number) (side_of (elem_of f) (elem_of s) number))
      × (observed_values (example claim coefficient opening) ≡ seen (example claim coefficient opening) number)
  unfolding first_sum final_sum
  judged =
      verdict_by a (elem_of w) (elem_of f) (elem_of c) (elem_of s) shaped (by_words _ w (side 0)) (ap (first a) root_first ∙ by_words _ f (side 1)) (by_words _ c (side 2))
      (ap (last a) root_first ∙ by_words _ s (side 3))

-- claim 1, coefficient 2
pub thirteen : (verdict (example 1 2 2) ≡ record { answer = Err S0Mismatch; left = is 1; right = is 2 }) × (observed_values (example 1 2 2) ≡ lent)
unfolding refuse or_else same_words side_of answer_of settled refusal_of refusals elem_of words_of class
thirteen = judged 1 2 2 (is 1) (is 2) (is 2) (is 2) (ap (λ (l : List ℕ). get_or l 0 0) shapes) (ap (λ (l : List (List (List ℕ))). get_or l 0 []) computed)

-- claim 2, coefficient 2, opening 3
pub fourteen : (verdict (example 2 2 3) ≡ record { answer = Err FinalSumMismatch; left = is 2; right = is 3 }) × (observed_values (example 2 2 3) ≡ is 2 ++ is 3)
unfolding refuse or_else same_words side_of answer_of settled refusal_of refusals elem_of words_of class
fourteen = judged 2 2 3 (is 2) (is 2) (is 2) (is 3) (ap (λ (l : List ℕ). get_or l 1 0) shapes) (ap (λ (l : List (List (List ℕ))). get_or l 1 []) computed)

-- claim 2, coefficient 2, opening 2
pub accepted : (verdict (example 2 2 2) ≡ record { answer = Ok tt; left = is 2; right = is 2 }) × (observed_values (example 2 2 2) ≡ is 2 ++ is 2)
unfolding refuse or_else same_words side_of answer_of settled refusal_of refusals elem_of words_of class
accepted = judged 2 2 2 (is 2) (is 2) (is 2) (is 2) (ap (λ (l : List ℕ). get_or l 2 0) shapes) (ap (λ (l : List (List (List ℕ))). get_or l 2 []) computed)
