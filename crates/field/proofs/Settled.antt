-- What a settled number says: done at 0 alone, and at any other refused, whatever would have been given.
use mathlib.Core.Path.{◌≡◌, refl, ap, sym}
use mathlib.Core.Logic.{◌≢◌}
use mathlib.Core.Bool.{false≢true}
use native.Mathlib.Omega.{arith}
use Prim.Native.Nat.{ℕ, zero, suc}
use Rattle.std.specs.declared.result.Result.{Result}
use Rattle.std.specs.declared.result.Result.TheVariants.{Ok, Err}
use Rattle.std.specs.Prelude.{is_ok}
use Rattle.field.specs.declared.answer.Refusal.{Refusal}
use Rattle.field.specs.declared.answer.Refusal.TheVariants.{FinalSumMismatch}
use Rattle.field.specs.Number.{refusal_of, settled}

-- done: the number is 0
pub number_of_done : {T : Type 0} (x : T) {y : T} (n : ℕ) → settled n x ≡ Ok y → n ≡ 0
unfolding settled
number_of_done x zero h = refl
number_of_done x (suc n) h = search

-- done: with the value
pub value_of_done : {T : Type 0} (x : T) {y : T} (n : ℕ) → settled n x ≡ Ok y → x ≡ y
unfolding settled
value_of_done x zero h = search
value_of_done x (suc n) h = search

refusal_in : {T : Type 0} → Result T Refusal → Refusal
refusal_in (Ok x) = FinalSumMismatch
refusal_in (Err e) = e

-- refused: the number is not 0, and the refusal is the number's
pub number_of_refused : {T : Type 0} (x : T) {e : Refusal} (n : ℕ) → settled n x ≡ Err e → n ≢ 0
unfolding settled
number_of_refused x zero h z = false≢true (sym (ap is_ok h))
number_of_refused x (suc n) h z = omega arith

pub refusal_of_refused : {T : Type 0} (x : T) {e : Refusal} (n : ℕ) → settled n x ≡ Err e → refusal_of n ≡ e
unfolding settled refusal_in
refusal_of_refused x zero h = search
refusal_of_refused x (suc n) h = ap refusal_in h

-- the answer of a number that is not 0
pub settled_refused : {T : Type 0} (x : T) (n : ℕ) → n ≢ 0 → settled n x ≡ Err (refusal_of n)
unfolding settled
settled_refused x zero h = absurd (h refl)
settled_refused x (suc n) h = refl

-- refused for one value: refused for any other
pub refused_whatever : {S T : Type 0} (x : S) (y : T) {e : Refusal} (n : ℕ) → settled n x ≡ Err e → settled n y ≡ Err e
unfolding settled
refused_whatever x y zero h = search
refused_whatever x y (suc n) h = ap Err (refusal_of_refused x (suc n) h)
