-- The verdict on a finished list's pairs and openings: no lower number is given, and yes exactly as demand 3 says.
use mathlib.Core.Path.{◌≡◌, sym, ◌∙◌, ap, ap₂}
use mathlib.Core.Logic.{◌⊎◌, ◌↔◌}
use mathlib.Core.Bool.{not}
use mathlib.Core.List.{List, [], ◌∷◌}
use Prim.Native.Nat.{ℕ, suc, ◌+◌, ◌*◌, ◌<◌}
use native.Mathlib.Omega.{arith}
use lib.ListN.{length, take}
use Rattle.algebra.specs.Ring.{num}
use Rattle.field.specs.Element.{Elem, F, half_elem}
use Rattle.field.specs.Slice.{elem_at, elem_words}
use Rattle.field.specs.Slice as Slice
use Rattle.std.specs.declared.result.Result.TheVariants.{Ok}
use Rattle.field.proofs.ElementWords.{length-elem_words}
use Rattle.tables.specs.Points.{coordinates, count}
use Rattle.tables.specs.OnSlices.{value_of}
use Rattle.layout.proofs.Firsts.{or_skip, passed}
use Rattle.weights.specs.Carried.{OneOrTwo}
use Rattle.weights.specs.AtField.{weighted_claims_f, first_sum_f, folded_sum_f, honest_f, true_opening_f, final_sum_f, carried_f}
use Rattle.weights.proofs.RunRounds.{challenge}
use Rattle.weights.proofs.FieldRuns.{field_verdict-honest}
use Rattle.verifier.specs.Asked.{Asked, asked}
use Rattle.verifier.specs.Sides as Sides
use Rattle.verifier.specs.Numbers.{slices_number, words_number, asked_number}
use Rattle.verifier.specs.Verdicts.{verdict}
use Rattle.verifier.proofs.Yes.{yes_exactly}
use Rattle.prover.specs.Given.{Given, run, stacked}
use Rattle.reduction.specs.Verdict.{all_words, Fitting}
use Rattle.reduction.proofs.BufferLaws.{elem_at_elem_words}
use Rattle.reduction.proofs.Stands.{Laid}
use Rattle.reduction.proofs.CallNumbers.{right-length, right_words, Begun}
use Rattle.reduction.proofs.Invariant.{Pairs}
use Rattle.reduction.proofs.ReturnedWords.{length-all_words, canonical_all_words, canonical_elem_words, elem_at_all_words, coordinates_later}
use Rattle.reduction.proofs.CarriedClaims.{carried_cong, final_sum_cong}

module _ (g : Given) (begun : Begun g) (laid : Laid g) (cells : ℕ → Elem) (u : Elem) (us : List Elem) (all : length us ≡ g.stack) (pairs : List ℕ)
    (returned : Pairs g cells u us g.stack pairs) (claims coefficients observed : List ℕ) (fitting : Fitting g claims coefficients observed) where
  abbrev openings : List ℕ
  openings = elem_words (stacked g) (true_opening_f (run g) cells u us)

  abbrev a : Asked
  a = asked g.skip g.stack g.counts g.lists g.r g.lambda (all_words (u ∷ us)) claims coefficients pairs openings observed

  abbrev h : ℕ → Elem → Elem
  h j = honest_f (run g) cells u (take j us)

  challenges_all : length (all_words (u ∷ us)) ≡ 4 * (g.stack + 1)
  challenges_all = length-all_words (u ∷ us) ∙ (let e : 4 * suc (length us) ≡ 4 * (g.stack + 1) = omega arith in e)

  shaped : asked_number a ≡ 0
  unfolding asked_number slices_number words_number Slice.canonical_four
  shaped =
      or_skip _ _ begun.lists
      ∙ or_skip _ _ begun.sizes
      ∙ or_skip _ _
      (or_skip _ _ (right-length _ _ begun.point)
      ∙ or_skip _ _ (right-length _ _ challenges_all)
      ∙ or_skip _ _ (right-length _ _ fitting.claims_asked_lem)
      ∙ or_skip _ _ (right-length _ _ fitting.coefficients_asked_lem)
      ∙ or_skip _ _ (right-length _ _ returned.size)
      ∙ or_skip _ _ (right-length _ _ (length-elem_words (stacked g) _))
      ∙ right-length _ _ (fitting.observed_asked ∙ ap₂ (λ x y. length coefficients + x + y) (sym returned.size) (sym (length-elem_words (stacked g) _))))
      ∙ or_skip _ _ (right_words _ begun.r_words)
      ∙ or_skip _ _ (passed 10 _ (ap not begun.lambda_words))
      ∙ or_skip _ _ (right_words _ (canonical_all_words (u ∷ us)))
      ∙ or_skip _ _ (right_words _ fitting.claims_words_lem)
      ∙ or_skip _ _ (right_words _ fitting.coefficients_words)
      ∙ or_skip _ _ (right_words _ returned.below)
      ∙ right_words _ (canonical_elem_words (stacked g) _)

  first : elem_at (all_words (u ∷ us)) 0 ≡ u
  first = elem_at_all_words (u ∷ us) 0 (omega arith)

  claimed-honest : Sides.claimed a ≡ carried_f (value_of coefficients u) (λ j. h j F.one) (λ j. h j (num F 2)) (challenge F us) g.stack
  unfolding Sides.claimed
  claimed-honest =
      carried_cong F half_elem _ g.stack returned.ones returned.twos (λ j s. later j s) ∙ ap (λ x. carried_f (value_of coefficients x) (λ j. h j F.one) (λ j. h j (num F 2)) (challenge F us) g.stack) first
    where
      later : (j : ℕ) → j < g.stack → elem_at (all_words (u ∷ us)) (1 + j) ≡ challenge F us j
      later j s = ap (elem_at (all_words (u ∷ us))) {x = 1 + j} {y = suc j} (omega arith) ∙ elem_at_all_words (u ∷ us) (suc j) (omega arith)

  final_true : Sides.final_sum a ≡ final_sum_f (run g) u us (true_opening_f (run g) cells u us)
  unfolding Sides.final_sum
  final_true =
      ap₂ (λ x xs. final_sum_f (run g) x xs (elem_at openings)) first (coordinates_later u us g.stack all)
      ∙ final_sum_cong g laid u us (λ c s. elem_at_elem_words (stacked g) (true_opening_f (run g) cells u us) c s)

  pub finished_verdict : ((verdict a).answer ≡ Ok tt)
      ↔ ((weighted_claims_f (run g) (elem_at claims) ≡ first_sum_f (run g) (coordinates coefficients 0 (count coefficients)))
      × ((value_of coefficients u ≡ folded_sum_f (run g) cells u [])
      ⊎ OneOrTwo F (challenge F us) g.stack))
  unfolding Sides.weighted Sides.first_sum
  finished_verdict =
      let v = field_verdict-honest (run g) cells u us all (value_of coefficients u) in (
        λ e. let y = (yes_exactly a).0 e in (y.1, v.0 (sym claimed-honest ∙ y.2 ∙ final_true)),
        λ y. (yes_exactly a).1 (shaped, y.0, claimed-honest ∙ v.1 y.1 ∙ sym final_true),
      )
