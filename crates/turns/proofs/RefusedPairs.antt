-- A pair that is refused: why, the turn as it was, and zeros.
use mathlib.Core.Path.{◌≡◌, refl, sym, ap, ◌∙◌}
use Prim.Native.Nat.{ℕ}
use Rattle.std.specs.declared.result.Result.{Result}
use Rattle.std.specs.declared.result.Result.TheVariants.{Ok, Err}
use Rattle.std.specs.Prelude.{IsErrAnd}
use Rattle.field.specs.declared.answer.Refusal.{Refusal}
use Rattle.layout.specs.Answers.{answer_of}
use Rattle.prover.specs.declared.turns.Turn.{Turn}
use Rattle.prover.specs.declared.stacked_reduction.RoundPair.{RoundPair}
use Rattle.prover.specs.Given.{Given, Work}
use Rattle.prover.specs.CallNumbers.{pair_number}
use Rattle.prover.specs.Calls.{pair_of, pair_step}
use Rattle.prover.proofs.CallLaws.{zeros, pair-refused}
use Rattle.turns.specs.declared.stacked_reduction.SentPair.{SentPair}
use Rattle.turns.specs.Steps.{paired}

module _ (g : Given) (t : Turn) (j : ℕ) (w : Work) where
  by_number : {s : RoundPair} {e : Refusal} → s ≡ pair_step g t j w → s.answer ≡ Err e → answer_of (pair_number g t j w) ≡ Err e
  unfolding pair_of
  by_number is h = ap (λ (p : RoundPair). p.answer) (sym is) ∙ h

  step_is : {s : RoundPair} {e : Refusal} → s ≡ pair_step g t j w → s.answer ≡ Err e → pair_step g t j w ≡ zeros (Err e) t
  step_is is h = sym (pair-refused (pair_number g t j w) (by_number is h) g t j w refl)

  pub refused_pair : {s : RoundPair} {e : Refusal} → s ≡ pair_step g t j w → s.answer ≡ Err e → (r : Result SentPair Refusal) → IsErrAnd r (λ f. f ≡ e)
      → paired r s.turn ≡ pair_step g t j w
  refused_pair is h (Ok sent) k = absurd k
  refused_pair {s = s} {e = e} is h (Err f) k =
      ap (λ (a : Refusal). zeros (Err a) s.turn) k
      ∙ ap (λ (p : RoundPair). zeros (Err e) p.turn) (is ∙ step_is is h)
      ∙ sym (step_is is h)
