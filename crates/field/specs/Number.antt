-- The number that document 01's table gives to each refusal, and the answer that stands for a number: 0 is a call that was done.
use Rattle.std.specs.Prelude.{ℕ, zero, suc, ◌-◌, List, [], ◌∷◌, get_or, Result}
use Rattle.std.specs.declared.result.Result.TheVariants.{Ok, Err}
use Rattle.field.specs.declared.answer.Refusal.{Refusal}
use Rattle.field.specs.declared.answer.Refusal.TheVariants.{
  LimitExceeded,
  TooManyColumns,
  HeightNotOneBit,
  LayoutHeightExceeded,
  LayoutRowOverflow,
  HeightsRise,
  NoColumn,
  OutOfTurn,
  WrongLength,
  NotCanonical,
  NoSuchColumn,
  InSkipSubgroup,
  S0Mismatch,
  FinalSumMismatch,
}

abbrev pub refusal_number : Refusal → ℕ
refusal_number LimitExceeded = 1
refusal_number TooManyColumns = 2
refusal_number HeightNotOneBit = 3
refusal_number LayoutHeightExceeded = 4
refusal_number LayoutRowOverflow = 5
refusal_number HeightsRise = 6
refusal_number NoColumn = 7
refusal_number OutOfTurn = 8
refusal_number WrongLength = 9
refusal_number NotCanonical = 10
refusal_number NoSuchColumn = 11
refusal_number InSkipSubgroup = 12
refusal_number S0Mismatch = 13
refusal_number FinalSumMismatch = 14

abbrev pub number_of : {T : Type 0} → Result T Refusal → ℕ
number_of (Ok x) = 0
number_of (Err e) = refusal_number e

-- the refusals in the order of the table, from 1 on
unfoldable pub refusals : List Refusal
refusals =
    LimitExceeded ∷ TooManyColumns ∷ HeightNotOneBit ∷ LayoutHeightExceeded ∷ LayoutRowOverflow ∷ HeightsRise ∷ NoColumn
    ∷ OutOfTurn ∷ WrongLength ∷ NotCanonical ∷ NoSuchColumn ∷ InSkipSubgroup ∷ S0Mismatch ∷ FinalSumMismatch ∷ []

unfoldable pub refusal_of : ℕ → Refusal
refusal_of n = get_or refusals (n - 1) FinalSumMismatch

-- what a call with this number answers: x where the number is 0, else the refusal
unfoldable pub settled : {T : Type 0} → ℕ → T → Result T Refusal
settled zero x = Ok x
settled (suc n) x = Err (refusal_of (suc n))
