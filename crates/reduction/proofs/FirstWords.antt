-- The words of the honest first polynomial and of the true openings: the values, and the sum over the subgroup, that the polynomial of these coefficients has.
use mathlib.Core.Path.{◌≡◌, ◌∙◌, ap}
use mathlib.Core.List.{List, []}
use Prim.Native.Nat.{ℕ, ◌+◌, ◌<◌}
use native.Mathlib.Omega.{arith}
use Rattle.algebra.specs.Polynomial.{value}
use Rattle.field.specs.Element.{Elem, F, half_elem}
use Rattle.field.specs.Powers.{root}
use Rattle.field.specs.Slice.{elem_at}
use Rattle.tables.specs.Points.{coordinates, count}
use Rattle.tables.specs.OnSlices.{value_of}
use Rattle.weights.specs.LambdaPowers.{claims_before}
use Rattle.weights.specs.FirstPolynomial.{first_polynomial}
use Rattle.weights.specs.AtField.{weighted_claims_f, first_sum_f, folded_sum_f, first_polynomial_f, true_claim_f}
use Rattle.weights.proofs.FieldRuns.{run_skip}
use Rattle.weights.proofs.FirstPolynomials.{first_value, first_sum_lem}
use Rattle.weights.proofs.ClaimCounts.{claims-some, claims-both, claim-inside}
use Rattle.weights.proofs.ClaimLists.{claims-plain, claims-rotated}
use Rattle.prover.specs.RowSum.{from_words}
use Rattle.prover.specs.Given.{Given, run, columns}
use Rattle.prover.specs.FirstCalls.{first_words, claims_words}
use Rattle.reduction.specs.Demand.{ColumnOpenings, HonestFirst}
use Rattle.reduction.proofs.BufferLaws.{elem_at_elem_words, coefficients_are}
use Rattle.reduction.proofs.Stands.{Laid}

module _ (g : Given) (matrices : List ℕ) where
  abbrev cells : ℕ → Elem
  cells = from_words matrices

  abbrev w : Elem
  w = root g.skip

  pub first_coordinates : coordinates (first_words g matrices) 0 (count (first_words g matrices)) ≡ first_polynomial_f (run g) cells
  unfolding first_words first_polynomial
  first_coordinates = coefficients_are _ _

  pub first_values : (z : Elem) → value_of (first_words g matrices) z ≡ folded_sum_f (run g) cells z []
  unfolding value_of
  first_values z = ap (λ cs. value F cs z) first_coordinates ∙ first_value F half_elem w (run g) cells z

  -- the true openings, word by word
  claims_are : (i : ℕ) → i < claims_before (run g) (columns g) → elem_at (claims_words g matrices) i ≡ true_claim_f (run g) cells i
  unfolding claims_words
  claims_are i h = elem_at_elem_words (claims_before (run g) (columns g)) (true_claim_f (run g) cells) i h

  pub column-openings : ColumnOpenings g matrices (claims_words g matrices)
  column-openings =
      record {
        plain = λ k h.
            claims_are (claims_before (run g) k)
            (omega (arith, claim-inside (run g) (columns g) k 0 h (claims-some ((run g).flag k))))
            ∙ claims-plain F half_elem w (run g) cells k h;
        rotated = λ k h f.
            claims_are (claims_before (run g) k + 1) (claim-inside (run g) (columns g) k 1 h (claims-both ((run g).flag k) f))
            ∙ claims-rotated F half_elem w (run g) cells k h f;
      }

  pub first_sums : Laid g → first_sum_f (run g) (coordinates (first_words g matrices) 0 (count (first_words g matrices))) ≡ weighted_claims_f (run g) (elem_at (claims_words g matrices))
  first_sums laid =
      ap (first_sum_f (run g)) first_coordinates
      ∙ first_sum_lem (run g) (run_skip (run g) laid.planned) laid.planned cells (elem_at (claims_words g matrices)) column-openings.plain column-openings.rotated

  pub honest_first_lem : Laid g → (out : List ℕ) → out ≡ first_words g matrices → HonestFirst g matrices out
  unfolding first_words
  honest_first_lem laid out e =
      record {
        words = e;
        values = λ z. ap (λ xs. value_of xs z) e ∙ first_values z;
        over_subgroup = ap (λ xs. first_sum_f (run g) (coordinates xs 0 (count xs))) e ∙ first_sums laid;
        openings = column-openings;
      }
