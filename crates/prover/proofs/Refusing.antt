-- A check of a chain that refuses: the whole chain's answer is its refusal. Assumes nothing.
use Rattle.std.proofs.Common.{◌≡◌, ℕ, List, refl, sym, ap, ◌∙◌}
use Rattle.std.specs.declared.result.Result.{Result}
use Rattle.std.specs.declared.result.Result.TheVariants.{Ok, Err}
use Rattle.std.specs.Prelude.{IsErrAnd, MatchResult}
use Rattle.field.specs.declared.answer.Refusal.{Refusal}
use Rattle.field.specs.declared.answer.Refusal.TheVariants.{
  LimitExceeded,
  TooManyColumns,
  HeightNotOneBit,
  LayoutHeightExceeded,
  LayoutRowOverflow,
  HeightsRise,
  NoColumn,
  OutOfTurn,
  WrongLength,
  NotCanonical,
  NoSuchColumn,
  InSkipSubgroup,
  S0Mismatch,
  FinalSumMismatch,
}
use Rattle.field.specs.Number.{number_of, refusal_number, refusals, refusal_of, settled}
use Rattle.field.proofs.Settled.{number_of_refused, refused_whatever}
use Rattle.layout.specs.Answers.{answer_of}
use Rattle.layout.specs.Checks.{or_else}
use Rattle.layout.specs.Lists.{lists_number, run_lists}
use Rattle.layout.proofs.Firsts.{or_skip, or_stop}

-- a check that refuses has a number
pub some_number : (a : ℕ) {e : Refusal} → answer_of a ≡ Err e → a ≡ 0 → ⊥
unfolding answer_of
some_number a is = number_of_refused tt a is

-- the first that refuses, and a check before it that passes
pub refusal_stops : (a b : ℕ) {e : Refusal} → answer_of a ≡ Err e → answer_of (or_else a b) ≡ Err e
refusal_stops a b is = ap answer_of (or_stop a b (some_number a is)) ∙ is

pub refusal_passes : (a b : ℕ) {e : Refusal} → a ≡ 0 → answer_of b ≡ Err e → answer_of (or_else a b) ≡ Err e
refusal_passes a b z is = ap answer_of (or_skip a b z) ∙ is

-- lists that are refused
pub lists_refusal : (l n : ℕ) (counts lists : List ℕ) {e : Refusal} → run_lists l n counts lists ≡ Err e → answer_of (lists_number l n counts lists) ≡ Err e
unfolding run_lists answer_of
lists_refusal l n counts lists is = refused_whatever _ tt (lists_number l n counts lists) is

-- a refusal that is handed on, and that what would have been planned is not asked
pub error_is : {T : Type 0} (r : Result T Refusal) {e : Refusal} → IsErrAnd r (λ f. f ≡ e) → r ≡ Err e
error_is (Ok x) h = absurd h
error_is (Err f) h = ap Err h

pub handed_on : {T : Type 0} (P : T → Type 0) (number : ℕ) (r : Result T Refusal) {e : Refusal} → IsErrAnd r (λ f. f ≡ e) → answer_of number ≡ Err e
    → MatchResult r P (λ f. answer_of number ≡ Err f)
handed_on P number (Ok x) h is = absurd h
handed_on P number (Err f) h is = is ∙ ap Err (sym h)

-- a refusal is the answer of its number
answer_of_number : (e : Refusal) → answer_of (refusal_number e) ≡ Err e
unfolding answer_of settled refusal_of refusals
answer_of_number LimitExceeded = refl
answer_of_number TooManyColumns = refl
answer_of_number HeightNotOneBit = refl
answer_of_number LayoutHeightExceeded = refl
answer_of_number LayoutRowOverflow = refl
answer_of_number HeightsRise = refl
answer_of_number NoColumn = refl
answer_of_number OutOfTurn = refl
answer_of_number WrongLength = refl
answer_of_number NotCanonical = refl
answer_of_number NoSuchColumn = refl
answer_of_number InSkipSubgroup = refl
answer_of_number S0Mismatch = refl
answer_of_number FinalSumMismatch = refl

pub refusal_first : (r : Result (Unit {0}) Refusal) (b : ℕ) {e : Refusal} → r ≡ Err e → answer_of (or_else (number_of r) b) ≡ Err e
refusal_first r b {e} h = ap (λ (r : Result (Unit {0}) Refusal). answer_of (or_else (number_of r) b)) h ∙ refusal_stops (refusal_number e) b (answer_of_number e)
