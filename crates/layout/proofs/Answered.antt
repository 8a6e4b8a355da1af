-- An answer has its number, the last one for every number past the table; so 0 alone is done.
use mathlib.Core.Path.{◌≡◌, refl, sym, ◌∙◌, ap}
use mathlib.Core.Logic.{◌≢◌}
use Prim.Native.Nat.{ℕ, zero, suc, min}
use native.Mathlib.Omega.{arith}
use lib.ListN.{get_or-eq_default}
use Rattle.std.specs.declared.result.Result.TheVariants.{Ok}
use Rattle.field.specs.declared.answer.Refusal.TheVariants.{FinalSumMismatch}
use Rattle.field.specs.Number.{number_of, refusal_number, refusals, refusal_of, settled}
use Rattle.layout.specs.Answers.{answer_of}

pub number-answer : (n : ℕ) → number_of (answer_of n) ≡ min n 14
unfolding answer_of settled refusal_of refusals
number-answer zero = refl
number-answer (suc zero) = refl
number-answer (suc (suc zero)) = refl
number-answer (suc (suc (suc zero))) = refl
number-answer (suc (suc (suc (suc zero)))) = refl
number-answer (suc (suc (suc (suc (suc zero))))) = refl
number-answer (suc (suc (suc (suc (suc (suc zero)))))) = refl
number-answer (suc (suc (suc (suc (suc (suc (suc zero))))))) = refl
number-answer (suc (suc (suc (suc (suc (suc (suc (suc zero)))))))) = refl
number-answer (suc (suc (suc (suc (suc (suc (suc (suc (suc zero))))))))) = refl
number-answer (suc (suc (suc (suc (suc (suc (suc (suc (suc (suc zero)))))))))) = refl
number-answer (suc (suc (suc (suc (suc (suc (suc (suc (suc (suc (suc zero))))))))))) = refl
number-answer (suc (suc (suc (suc (suc (suc (suc (suc (suc (suc (suc (suc zero)))))))))))) = refl
number-answer (suc (suc (suc (suc (suc (suc (suc (suc (suc (suc (suc (suc (suc zero))))))))))))) = refl
number-answer (suc (suc (suc (suc (suc (suc (suc (suc (suc (suc (suc (suc (suc (suc zero)))))))))))))) = refl
number-answer (suc (suc (suc (suc (suc (suc (suc (suc (suc (suc (suc (suc (suc (suc (suc n))))))))))))))) = ap refusal_number (get_or-eq_default refusals FinalSumMismatch (omega arith)) ∙ omega arith

pub done_alone : (n : ℕ) {u : Unit {0}} → answer_of n ≡ Ok u → n ≡ 0
done_alone n e = omega (arith, sym (number-answer n) ∙ ap number_of e)

-- the number 12 is that of no other number's answer
pub twelve_alone : (n : ℕ) → n ≢ 12 → number_of (answer_of n) ≢ 12
twelve_alone n h e = h (omega (arith, number-answer n))
