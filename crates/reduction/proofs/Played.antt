-- What the verdict is asked when challenges are drawn: its two equations are those of the game.
use mathlib.Core.Path.{◌≡◌, refl, sym, ◌∙◌, ap, ap₂}
use mathlib.Core.Bool.{Bool, true, ◌&&◌}
use mathlib.Core.List.{List, ◌∷◌}
use Prim.Native.Nat.{ℕ, suc, ◌+◌, ◌-◌, ◌*◌, ◌^◌}
use native.Mathlib.Omega.{arith}
use lib.ListN.{length, get_or}
use Rattle.algebra.specs.Ring.{pow}
use Rattle.algebra.specs.Sum.{sum}
use Rattle.algebra.specs.Polynomial.{value}
use Rattle.field.specs.Element.{Elem, F, half_elem, words_of}
use Rattle.field.specs.Powers.{root}
use Rattle.field.specs.Slice.{elem_at}
use Rattle.field.specs.Same.{same}
use Rattle.std.specs.declared.result.Result.TheVariants.{Ok}
use Rattle.field.proofs.FourWords.{and_both, same_true, same_equal}
use Rattle.tables.specs.OnSlices.{value_of}
use Rattle.tables.specs.SubgroupSum.{subgroup_sum}
use Rattle.weights.specs.AtField.{weighted_claims_f, folded_sum_f, true_opening_f, final_sum_f, carried_f}
use Rattle.weights.proofs.RunRounds.{final_sum-true}
use Rattle.layout.proofs.RunLaws.{Listed}
use Rattle.verifier.specs.Asked.{Asked}
use Rattle.verifier.specs.Sides as Sides
use Rattle.verifier.specs.Numbers.{asked_number}
use Rattle.verifier.specs.Verdicts.{verdict}
use Rattle.verifier.proofs.Yes.{yes_exactly}
use Rattle.verifier.proofs.ShapeLaws.{asked_ready}
use Rattle.prover.specs.Given.{Given, given, stacked}
use Rattle.reduction.specs.Verdict.{all_words}
use Rattle.reduction.specs.Senders.{Instance, Sender, pair_at, alternating, run_at, cells, asked_at, first_at, carried_at}
use Rattle.reduction.proofs.InsideStack.{laid_run}
use Rattle.reduction.proofs.BufferLaws.{elem_at_elem_words, coefficients_are}
use Rattle.reduction.proofs.ReturnedWords.{elem_at_all_words, coordinates_later}
use Rattle.reduction.proofs.CarriedClaims.{carried_cong, final_sum_cong}
use Rattle.reduction.proofs.Alternations.{length-alternating, alternating_even, alternating_odd}
use Rattle.reduction.proofs.Game.{won_first, won_whole}
use Rattle.reduction.proofs.FieldGame.{sent_pair, carried_by, won_is}

module _ (t : Instance) where
  -- the sum over the subgroup, the claims and the true values, as the game has them
  abbrev pub over_powers : (Elem → Elem) → Elem
  over_powers f = sum F (2 ^ t.skip) (λ i. f (pow F (root t.skip) i))

  abbrev pub claims_at : Elem → Elem
  claims_at l = weighted_claims_f (run_at t l) (elem_at t.claims)

  abbrev pub true_at : Elem → Elem → List Elem → Elem
  true_at l u us = folded_sum_f (run_at t l) (cells t) u us

  module _ (s : Sender) where
    abbrev pub game : List Elem → Bool
    game = won_whole same sent_pair over_powers claims_at (first_at t s) s.pair true_at

    module _ (l u : Elem) (us : List Elem) (all : length us ≡ t.stack) where
      abbrev a : Asked
      a = asked_at t s l u us

      abbrev g : Given
      g = given t.skip t.stack t.counts t.lists t.r (words_of l)

      abbrev ones : ℕ → Elem
      ones j = (pair_at s l u us j).0

      abbrev twos : ℕ → Elem
      twos j = (pair_at s l u us j).1

      zero_at : elem_at (all_words (u ∷ us)) 0 ≡ u
      zero_at = elem_at_all_words (u ∷ us) 0 (omega arith)

      -- the sides of 13
      weighted_is : Sides.weighted a ≡ claims_at l
      unfolding Sides.weighted
      weighted_is = refl

      first_is : Sides.first_sum a ≡ over_powers (first_at t s l)
      unfolding Sides.first_sum subgroup_sum
      first_is = ap (λ cs. subgroup_sum F t.skip (root t.skip) cs) (coefficients_are (2 ^ (t.skip + 1) - 1) (s.first l))

      -- the sides of 14; round j's pair has seen the challenges of the rounds before it
      carried_is : carried_by (first_at t s l u) (s.pair l u) us ≡ carried_at t s l u us
      carried_is = refl

      claimed_is : carried_at t s l u us ≡ Sides.claimed a
      unfolding Sides.claimed value_of
      claimed_is =
          let n = t.stack in
          ap (carried_f (first_at t s l u) ones twos (λ j. get_or us j F.zero)) all
          ∙ carried_cong F half_elem (first_at t s l u) n
          (λ j h. sym (elem_at_all_words (alternating n ones twos) (2 * j) (omega (arith, length-alternating n ones twos)) ∙ alternating_even n ones twos j F.zero h))
          (λ j h. sym (elem_at_all_words (alternating n ones twos) (2 * j + 1) (omega (arith, length-alternating n ones twos)) ∙ alternating_odd n ones twos j F.zero h))
          (λ j h. sym (ap (elem_at (all_words (u ∷ us))) {x = 1 + j} {y = suc j} (omega arith) ∙ elem_at_all_words (u ∷ us) (suc j) (omega arith)))
          ∙ ap (λ c. carried_f c (λ j. elem_at a.pairs (2 * j)) (λ j. elem_at a.pairs (2 * j + 1)) (λ j. elem_at a.challenges (1 + j)) n)
          (sym (ap₂ (λ cs x. value F cs x) (coefficients_are (2 ^ (t.skip + 1) - 1) (s.first l)) zero_at))

      final_is : Listed t.skip t.stack t.counts t.lists → Sides.final_sum a ≡ true_at l u us
      unfolding Sides.final_sum
      final_is lists =
          ap₂ (λ x xs. final_sum_f (run_at t l) x xs (elem_at a.openings)) zero_at (coordinates_later u us t.stack all)
          ∙ final_sum_cong g (laid_run g lists) u us (λ c h. elem_at_elem_words (stacked g) (true_opening_f (run_at t l) (cells t) u us) c h)
          ∙ final_sum-true F half_elem (root t.skip) (run_at t l) (cells t) u us all

      -- a yes of the verdict is a yes of the game
      pub won_of_yes : (verdict a).answer ≡ Ok tt → game (l ∷ u ∷ us) ≡ true
      unfolding won_whole won_first
      won_of_yes done =
          let y = (yes_exactly a).0 done in
          ap₂ (λ (x y : Bool). x && y) (same_equal (claims_at l) (over_powers (first_at t s l)) (sym weighted_is ∙ y.1 ∙ first_is))
          (won_is (first_at t s l u) (s.pair l u) (true_at l u) us ∙ same_equal _ _ (carried_is ∙ claimed_is ∙ y.2 ∙ final_is (asked_ready a y.0).listed))

      -- and back, where no lower number is given
      pub yes_of_won : asked_number a ≡ 0 → game (l ∷ u ∷ us) ≡ true → (verdict a).answer ≡ Ok tt
      unfolding won_whole won_first
      yes_of_won number e =
          let b = and_both (same (claims_at l) (over_powers (first_at t s l))) _ e in
          (yes_exactly a).1 (
            number,
            weighted_is ∙ same_true _ _ b.0 ∙ sym first_is,
            sym (carried_is ∙ claimed_is) ∙ same_true _ _ (sym (won_is (first_at t s l u) (s.pair l u) (true_at l u) us) ∙ b.1) ∙ sym (final_is (asked_ready a number).listed),
          )
