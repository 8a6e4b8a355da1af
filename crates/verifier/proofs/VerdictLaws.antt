-- The verdict and what is observed, from what the steps computed: refused by the shape, 13, and 14 or a yes.
use mathlib.Core.Path.{◌≡◌, refl, sym, ◌∙◌, ap, ap₂}
use mathlib.Core.Bool.{Bool, true, false, not}
use mathlib.Core.List.{List, [], ◌∷◌, ◌++◌}
use Prim.Native.Nat.{ℕ, ◌+◌, ◌*◌, ◌≤◌}
use native.Mathlib.Omega.{arith}
use borrow.Author.Tests.{ne_eqb, not-true, not-false}
use Rattle.algebra.specs.Zmod.{class}
use Rattle.field.specs.Element.{Elem, F, words_of}
use Rattle.field.specs.Powers.{root}
use Rattle.field.specs.Slice.{elem_at}
use Rattle.field.specs.Same.{same_words, same}
use Rattle.field.specs.declared.answer.Refusal.{Refusal}
use Rattle.std.specs.declared.result.Result.{Result}
use Rattle.field.specs.declared.answer.Refusal.TheVariants.{S0Mismatch, FinalSumMismatch}
use Rattle.std.specs.declared.result.Result.TheVariants.{Ok, Err}
use Rattle.field.specs.Number.{settled, refusal_of, refusals}
use Rattle.field.proofs.Settled.{number_of_refused}
use Rattle.tables.specs.Points.{coordinates, count}
use Rattle.tables.specs.OnSlices.{value_of}
use Rattle.tables.specs.SubgroupSum.{subgroup_sum}
use Rattle.layout.specs.Answers.{answer_of}
use Rattle.layout.specs.Checks.{refuse, or_else}
use Rattle.layout.specs.Lists.{first_count}
use Rattle.layout.proofs.Firsts.{or_skip, or_stop, refused, passed}
use Rattle.weights.specs.AtField.{weighted_claims_f, carried_f, final_sum_f}
use Rattle.weights.specs.RunOf.{run_of}
use Rattle.verifier.specs.declared.stacked_reduction.Verdict.{Verdict}
use Rattle.verifier.specs.Asked.{Asked}
use Rattle.verifier.specs.Sides.{weighted, first_sum, claimed, final_sum}
use Rattle.verifier.specs.Numbers.{asked_number, verdict_number}
use Rattle.verifier.specs.Verdicts.{side_of, sides, refused_sides, numbered, last_verdict, verdict, seen, observed_values}
use Rattle.verifier.proofs.LowNumbers.{asked_low}

-- zeros beside a refusal
pub refused-sides : (e : Refusal) → ◌≡◌ {A = Verdict} (record { answer = Err e; left = 0 ∷ 0 ∷ 0 ∷ 0 ∷ []; right = 0 ∷ 0 ∷ 0 ∷ 0 ∷ [] }) (refused_sides e)
unfolding words_of class
refused-sides e = refl

-- the last two sides, from their words
module _ (x y : Elem) {c s : List ℕ} {b : Bool} (ec : c ≡ words_of x) (es : s ≡ words_of y) (eb : b ≡ same_words c s) where
  tested : same x y ≡ b
  tested = sym (eb ∙ ap₂ same_words ec es)

  pub last_no : b ≡ false → record { answer = Err FinalSumMismatch; left = c; right = s } ≡ last_verdict x y
  unfolding last_verdict refuse answer_of settled refusal_of refusals
  last_no t =
      ap₂ (λ p q. record { answer = Err FinalSumMismatch; left = p; right = q }) ec es ∙ ap (λ t. sides (refuse 14 (not t)) x y) (sym (tested ∙ t))

  pub last_yes : b ≡ true → record { answer = Ok tt; left = c; right = s } ≡ last_verdict x y
  unfolding last_verdict refuse answer_of settled
  last_yes t = ap₂ (λ p q. record { answer = Ok tt; left = p; right = q }) ec es ∙ ap (λ t. sides (refuse 14 (not t)) x y) (sym (tested ∙ t))

-- zeros on 1 to 10
side_none : (x y : Elem) (n : ℕ) → n ≤ 11 → (n ≡ 0 → ⊥) → F.zero ≡ side_of x y n
unfolding side_of
side_none x y n h z = simp (ne_eqb n 13 (λ e. omega arith), ne_eqb n 14 (λ e. omega arith), ne_eqb n 0 z)

-- 14 and a yes return the last two sides, and all is observed
lasts : (p q x y : Elem) (t : Bool) → same x y ≡ t → last_verdict x y ≡ sides (refuse 14 (not t)) (side_of p x (refuse 14 (not t))) (side_of q y (refuse 14 (not t)))
unfolding last_verdict side_of refuse
lasts p q x y true e = ap (λ t. sides (refuse 14 (not t)) x y) e
lasts p q x y false e = ap (λ t. sides (refuse 14 (not t)) x y) e

seen_last : (a : Asked) (t : Bool) → a.coefficients ++ (a.pairs ++ a.openings) ≡ seen a (refuse 14 (not t))
unfolding refuse
seen_last a true = refl
seen_last a false = refl

-- 13, then 14
abbrev pub past_shape : Elem → Elem → Elem → Elem → ℕ
past_shape w f c s = or_else (refuse 13 (not (same w f))) (refuse 14 (not (same c s)))

module _ (a : Asked) where
  seen_none : (n : ℕ) → n ≤ 11 → (n ≡ 0 → ⊥) → a.observed ≡ seen a n
  seen_none n h z = simp (ne_eqb n 14 (λ e. omega arith), ne_eqb n 0 z)

  pub verdict-refused : (e : Refusal) (v : Verdict) → answer_of (asked_number a) ≡ Err e → v ≡ refused_sides e
      → (v ≡ verdict a) × (a.observed ≡ observed_values a)
  unfolding verdict observed_values verdict_number answer_of
  verdict-refused e v refusal ev =
      let z : asked_number a ≡ 0 → ⊥ = number_of_refused tt (asked_number a) refusal in
      let is : asked_number a ≡ verdict_number a = sym (or_stop (asked_number a) _ z) in (
        ev ∙ ap (λ (x : Result (Unit {0}) Refusal). record { answer = x; left = words_of F.zero; right = words_of F.zero }) (sym refusal)
            ∙ ap₂ (sides (asked_number a)) (side_none (weighted a) (claimed a) (asked_number a) (asked_low a) z)
            (side_none (first_sum a) (final_sum a) (asked_number a) (asked_low a) z)
            ∙ ap (numbered a) is,
        seen_none (asked_number a) (asked_low a) z ∙ ap (seen a) is,
      )

  -- past the shape
  module _ (shaped : asked_number a ≡ 0) (first : ℕ) (is_first : first ≡ first_count a.counts) {c s : List ℕ} {b : Bool}
      (ec : (point : List ℕ) → c ≡ words_of (weighted_claims_f (run_of a.skip a.stack first a.lists point a.lambda) (elem_at a.claims)))
      (es : s ≡ words_of (subgroup_sum F a.skip (root a.skip) (coordinates a.coefficients 0 (count a.coefficients)))) (eb : b ≡ same_words c s) where
    left : c ≡ words_of (weighted a)
    unfolding weighted
    left = ec a.r ∙ ap (λ f. words_of (weighted_claims_f (run_of a.skip a.stack f a.lists a.r a.lambda) (elem_at a.claims))) is_first

    right : s ≡ words_of (first_sum a)
    unfolding first_sum
    right = es

    agree : same (weighted a) (first_sum a) ≡ b
    agree = sym (eb ∙ ap₂ same_words left right)

    after : verdict_number a ≡ or_else (refuse 13 (not (same (weighted a) (first_sum a)))) (refuse 14 (not (same (claimed a) (final_sum a))))
    unfolding verdict_number
    after = or_skip (asked_number a) _ shaped

    pub verdict_first : not b ≡ true → (record { answer = Err S0Mismatch; left = c; right = s } ≡ verdict a) × (a.observed ≡ observed_values a)
    unfolding verdict observed_values side_of answer_of settled refusal_of refusals
    verdict_first t = (
      ap₂ (λ p q. record { answer = Err S0Mismatch; left = p; right = q }) left right ∙ ap (numbered a) (sym is),
      ap (seen a) (sym is),
    )
      where
        unequal : refuse 13 (not (same (weighted a) (first_sum a))) ≡ 13
        unequal = refused 13 _ (ap not (agree ∙ not-true b t))

        is : verdict_number a ≡ 13
        is = after ∙ or_stop _ _ (λ z. omega (arith, unequal)) ∙ unequal

    pub verdict_last : not b ≡ false → (v : Verdict) (o : List ℕ)
        → v ≡ last_verdict
        (carried_f (value_of a.coefficients (elem_at a.challenges 0)) (λ j. elem_at a.pairs (2 * j)) (λ j. elem_at a.pairs (2 * j + 1))
        (λ j. elem_at a.challenges (1 + j)) a.stack)
        (final_sum_f (run_of a.skip a.stack first a.lists a.r a.lambda) (elem_at a.challenges 0) (coordinates a.challenges 1 a.stack) (elem_at a.openings))
        → o ≡ a.coefficients ++ (a.pairs ++ a.openings) → (v ≡ verdict a) × (o ≡ observed_values a)
    unfolding verdict observed_values claimed final_sum
    verdict_last t v o ev eo = (ev ∙ ap (last_verdict (claimed a)) sums ∙ last_sides ∙ ap (numbered a) (sym is), eo ∙ last_seen ∙ ap (seen a) (sym is))
      where
        sums : final_sum_f (run_of a.skip a.stack first a.lists a.r a.lambda) (elem_at a.challenges 0) (coordinates a.challenges 1 a.stack) (elem_at a.openings)
            ≡ final_sum a
        sums =
            ap (λ f. final_sum_f (run_of a.skip a.stack f a.lists a.r a.lambda) (elem_at a.challenges 0) (coordinates a.challenges 1 a.stack) (elem_at a.openings))
            is_first

        is : verdict_number a ≡ refuse 14 (not (same (claimed a) (final_sum a)))
        is = after ∙ or_skip _ _ (passed 13 _ (ap not (agree ∙ not-false b t)))

        last_sides : last_verdict (claimed a) (final_sum a) ≡ numbered a (refuse 14 (not (same (claimed a) (final_sum a))))
        last_sides = lasts (weighted a) (first_sum a) (claimed a) (final_sum a) (same (claimed a) (final_sum a)) refl

        last_seen : a.coefficients ++ (a.pairs ++ a.openings) ≡ seen a (refuse 14 (not (same (claimed a) (final_sum a))))
        last_seen = seen_last a (same (claimed a) (final_sum a))

-- the verdict of a shape that passes, by its four elements
pub verdict_by : (a : Asked) (w f c s : Elem) → asked_number a ≡ 0 → weighted a ≡ w → first_sum a ≡ f → claimed a ≡ c → final_sum a ≡ s
    → (verdict a ≡ sides (past_shape w f c s) (side_of w c (past_shape w f c s)) (side_of f s (past_shape w f c s))) × (observed_values a ≡ seen a (past_shape w f c s))
unfolding verdict observed_values verdict_number
verdict_by a w f c s e ew ef ec es = (
  ap (numbered a) is ∙ (λ i. sides (past_shape w f c s) (side_of (ew i) (ec i) (past_shape w f c s)) (side_of (ef i) (es i) (past_shape w f c s))),
  ap (seen a) is,
)
  where
    is : verdict_number a ≡ past_shape w f c s
    is = or_skip (asked_number a) _ e ∙ (λ i. past_shape (ew i) (ef i) (ec i) (es i))
