-- The verdict is yes exactly if no lower number is given, the weighted claims are the first polynomial's sum over the subgroup, and the carried claim is
-- the final sum.
use mathlib.Core.Path.{◌≡◌, ◌∙◌, ap}
use mathlib.Core.Bool.{not}
use mathlib.Core.Logic.{◌↔◌}
use native.Mathlib.Omega.{arith}
use borrow.Author.Tests.{not-false}
use Rattle.std.specs.declared.result.Result.TheVariants.{Ok}
use Rattle.field.specs.Same.{same}
use Rattle.field.proofs.FourWords.{same_true, same_equal}
use Rattle.field.specs.Number.{settled, refusal_of, refusals}
use Rattle.layout.specs.Answers.{answer_of}
use Rattle.layout.specs.Checks.{refuse}
use Rattle.layout.proofs.Answered.{done_alone}
use Rattle.layout.proofs.Firsts.{or_passed, or_skip, is_false, passed}
use Rattle.verifier.specs.Asked.{Asked}
use Rattle.verifier.specs.Sides.{weighted, first_sum, claimed, final_sum}
use Rattle.verifier.specs.Numbers.{asked_number, verdict_number}
use Rattle.verifier.specs.Verdicts.{verdict}

module _ (a : Asked) where
  zero_means : verdict_number a ≡ 0 → (asked_number a ≡ 0) × (weighted a ≡ first_sum a) × (claimed a ≡ final_sum a)
  unfolding verdict_number
  zero_means e =
      let p = or_passed (asked_number a) _ e in
      let q = or_passed (refuse 13 (not (same (weighted a) (first_sum a)))) _ p.1 in (
        p.0,
        same_true _ _ (not-false _ (is_false 13 _ (omega arith) q.0)),
        same_true _ _ (not-false _ (is_false 14 _ (omega arith) q.1)),
      )

  zero_where : (asked_number a ≡ 0) × (weighted a ≡ first_sum a) × (claimed a ≡ final_sum a) → verdict_number a ≡ 0
  unfolding verdict_number
  zero_where h =
      or_skip (asked_number a) _ h.0
      ∙ or_skip (refuse 13 (not (same (weighted a) (first_sum a)))) _ (passed 13 _ (ap not (same_equal _ _ h.1)))
      ∙ passed 14 _ (ap not (same_equal _ _ h.2))

  pub yes_exactly : ((verdict a).answer ≡ Ok tt) ↔ ((asked_number a ≡ 0) × (weighted a ≡ first_sum a) × (claimed a ≡ final_sum a))
  unfolding verdict answer_of settled refusal_of refusals
  yes_exactly = (λ e. zero_means (done_alone (verdict_number a) e), λ h. ap answer_of (zero_where h))
