-- The two worked lies: nothing of them is refused, their claims are false, and the counts lie between the bounds, or meet the upper one.
use mathlib.Core.Path.{◌≡◌, refl, sym, ◌∙◌, ap}
use mathlib.Core.List.{List, [], ◌∷◌}
use mathlib.Core.Bool.{true}
use Prim.Native.Nat.{ℕ, ◌*◌, ◌^◌, ◌≤◌}
use native.Mathlib.Nat.{suc_inj, le_trans, le_of_eq}
use lib.ListN.{length}
use native.Mathlib.Omega.{arith}
use Rattle.algebra.specs.Ring.{pow, num}
use Rattle.algebra.specs.Sum.{sum}
use Rattle.algebra.specs.Listed.{listed}
use Rattle.algebra.specs.Multilinear.{bit_factor, cube_factor, bits}
use Rattle.algebra.specs.Zmod.{class, zadd, zmul, zneg}
use Rattle.algebra.specs.Quadratic.{qadd, qmul, qneg}
use Rattle.algebra.proofs.Counts.{count_all, count_at}
use Rattle.field.specs.Element.{Elem, F, elem_of, words_of}
use Rattle.field.specs.Enumeration.{field_size, how_many_f}
use Rattle.field.specs.Powers.{generator}
use Rattle.field.specs.Slice.{elem_at, canonical_words}
use Rattle.field.proofs.Elements.{elem_of_words_of}
use Rattle.field.proofs.Enumerated.{each_once}
use Rattle.tables.specs.Lagrange.{lagrange}
use Rattle.tables.specs.Prism.{row_factor, prism}
use Rattle.tables.specs.Index.{before}
use Rattle.tables.specs.AtStride.{on_zero, at_stride}
use Rattle.tables.specs.Window.{below, window}
use Rattle.layout.specs.Checks.{refuse, or_else, first_of}
use Rattle.layout.specs.Triples.{columns_before}
use Rattle.layout.specs.Placing.{slice_length, round_up, opened, matrix_length, matrix_start}
use Rattle.layout.specs.Refusals.{limits_number, flag_number, columns_in, width_number, column_number, matrix_number, place_number, higher_number, rise_number, laid_number}
use Rattle.layout.specs.Columns.{located}
use Rattle.layout.specs.Lists.{commitment_number, counts_number, width_there, later_number, empty_number, there_number, lists_number, lists_length}
use Rattle.weights.specs.ColumnFactor.{raised, lifted_point, column_factor}
use Rattle.weights.specs.StackColumns.{stack_rows}
use Rattle.weights.specs.ColumnValue.{cell, column_value}
use Rattle.weights.specs.LambdaPowers.{claims_of, claims_before, if_flagged, plain_power, rotated_power, weighted_claims}
use Rattle.weights.specs.Weights.{cell_weight, weights}
use Rattle.weights.specs.FoldedSum.{column_term, folded_sum}
use Rattle.weights.specs.TrueClaims.{claims_with, true_before, true_claims}
use Rattle.weights.specs.AtField.{true_claim_f}
use Rattle.reduction.specs.Senders.{Sender, says_yes, cells}
use Rattle.reduction.specs.Lies.{columns_of, FalseClaim, WellFormed}
use Rattle.reduction.specs.WorkedLies.{one_too_high, six_and_four}
use Rattle.reduction.specs.Price.{most_yes, WorkedPrices}
use Rattle.reduction.proofs.Played.{claims_at, game}
use Rattle.reduction.proofs.Priced.{price_of_a_lie}
use Rattle.reduction.proofs.Exactly.{exactly}
use Rattle.reduction.proofs.Hopeful.{true_sum, hopeful, right-won}
use Rattle.reduction.proofs.NotVacuous.{not_vacuous}

formed : WellFormed one_too_high
unfolding lists_number limits_number counts_number commitment_number there_number flag_number columns_in width_number laid_number place_number matrix_number column_number
    rise_number higher_number empty_number width_there later_number lists_length refuse or_else first_of slice_length round_up opened matrix_length matrix_start columns_before located
    canonical_words claims_of claims_before
formed = record { lists = refl; sizes = refl; point = refl; point_words = refl; claims_asked_lem = refl; claims_words_lem = refl; observed_asked = refl }

-- the constant coefficient of the true claim
value_is : (true_claim_f (columns_of one_too_high) (cells one_too_high) 0).0.0.0 ≡ 31
unfolding true_claims true_before claims_with column_value cell stack_rows column_factor lifted_point raised row_factor lagrange cube_factor bit_factor listed sum pow elem_at elem_of words_of class zadd zmul zneg qadd qmul qneg generator
    located columns_before matrix_start opened slice_length matrix_length round_up num
value_is = refl

false-claim : FalseClaim one_too_high
unfolding columns_before located elem_at class claims_of claims_before
false-claim = (0, omega arith, λ e. let z : ◌≡◌ {A = ℕ} 32 31 = ap (λ (x : Elem). x.0.0.0) e ∙ value_is in omega arith)

at_most : (s : Sender) → how_many_f 3 (says_yes one_too_high s) ≤ 5 * field_size ^ 2
unfolding columns_before
at_most s = (price_of_a_lie one_too_high s).from_lambda false-claim

tight_formed : WellFormed six_and_four
unfolding lists_number limits_number counts_number commitment_number there_number flag_number columns_in width_number laid_number place_number matrix_number column_number
    rise_number higher_number empty_number width_there later_number lists_length refuse or_else first_of slice_length round_up opened matrix_length matrix_start columns_before located
    canonical_words claims_of claims_before
tight_formed = record { lists = refl; sizes = refl; point = refl; point_words = refl; claims_asked_lem = refl; claims_words_lem = refl; observed_asked = refl }

tight_value : (true_claim_f (columns_of six_and_four) (cells six_and_four) 0).0.0.0 ≡ 5
unfolding true_claims true_before claims_with column_value cell stack_rows column_factor lifted_point raised row_factor lagrange cube_factor bit_factor listed sum pow elem_at elem_of words_of class zadd zmul zneg qadd qmul qneg generator
    located columns_before matrix_start opened slice_length matrix_length round_up num
tight_value = refl

tight_false : FalseClaim six_and_four
unfolding columns_before located elem_at class claims_of claims_before
tight_false = (0, omega arith, λ e. let z : ◌≡◌ {A = ℕ} 6 5 = ap (λ (x : Elem). x.0.0.0) e ∙ tight_value in omega arith)

-- at lambda = 1 the weighted sum of the claims is right, by its words
tight_words : words_of (claims_at six_and_four F.one) ≡ words_of (true_sum six_and_four F.one)
unfolding weighted_claims plain_power rotated_power if_flagged claims_of claims_before folded_sum column_term prism weights cell_weight before window below at_stride on_zero bits
    stack_rows column_factor lifted_point raised row_factor lagrange cube_factor bit_factor listed sum pow elem_at elem_of words_of class zadd zmul zneg qadd qmul qneg generator
    located columns_before matrix_start opened slice_length matrix_length round_up num
tight_words = refl

tight_at_one : claims_at six_and_four F.one ≡ true_sum six_and_four F.one
tight_at_one = sym (elem_of_words_of _) ∙ ap elem_of tight_words ∙ elem_of_words_of _

-- so every u_0 gets a yes there
at_least : field_size ^ 1 ≤ how_many_f 2 (says_yes six_and_four (hopeful six_and_four))
at_least =
    rw (exactly six_and_four (hopeful six_and_four) tight_formed)
    (le_trans (le_of_eq (sym (count_all each_once 1 (λ v. game six_and_four (hopeful six_and_four) (F.one ∷ v)) yes_there)))
    (count_at each_once 1 F.one (game six_and_four (hopeful six_and_four))))
  where
    yes_there : (v : List Elem) → length v ≡ 1 → game six_and_four (hopeful six_and_four) (F.one ∷ v) ≡ true
    yes_there [] k = absurd (omega arith)
    yes_there (u ∷ us) k = right-won six_and_four F.one u us tight_at_one (suc_inj k)

met : how_many_f 2 (says_yes six_and_four (hopeful six_and_four)) ≡ most_yes six_and_four
unfolding columns_before
met =
    let a = at_least in
    let b : how_many_f 2 (says_yes six_and_four (hopeful six_and_four)) ≤ 1 * field_size ^ 1 = (price_of_a_lie six_and_four (hopeful six_and_four)).from_lambda tight_false in
    omega arith

pub worked_prices : WorkedPrices
worked_prices = record {
  lie = false-claim;
  at_most = at_most;
  at_least = (not_vacuous one_too_high formed).some_yes (omega arith);
  tight_lie = tight_false;
  met = (hopeful six_and_four, met);
}
