-- A check asked by `?`: what its answer says of its number, and the answer of a whole chain. Assumes nothing.
use mathlib.Core.Path.{◌≡◌, refl, sym, ap, ◌∙◌}
use mathlib.Core.Bool.{true, false, false≢true}
use Prim.Native.Nat.{ℕ, zero, suc}
use native.Mathlib.Omega.{arith}
use Rattle.std.specs.declared.result.Result.{Result}
use Rattle.std.specs.declared.result.Result.TheVariants.{Ok, Err}
use Rattle.std.specs.Prelude.{IsErrAnd, is_err}
use Rattle.field.specs.declared.answer.Refusal.{Refusal}
use Rattle.field.specs.Number.{settled}
use Rattle.field.proofs.Settled.{number_of_done, number_of_refused, refused_whatever}

-- done: the number is 0
pub zero_by : {S : Type 0} (x : S) (a : ℕ) {r : Result S Refusal} {v : S} → r ≡ settled a x → r ≡ Ok v → a ≡ 0
zero_by x a e d = number_of_done x a (sym e ∙ d)

-- refused: it is not
pub not_zero_by : {S : Type 0} (x : S) (a : ℕ) {r : Result S Refusal} {f : Refusal} → r ≡ settled a x → r ≡ Err f → a ≡ 0 → ⊥
not_zero_by x a e d = number_of_refused x a (sym e ∙ d)

error_is : {T : Type 0} (s : Result T Refusal) {f : Refusal} → IsErrAnd s (λ g. g ≡ f) → s ≡ Err f
error_is (Ok y) h = absurd h
error_is (Err g) h = ap Err h

-- handed on by `?`: the answer of the number that the chain comes to
pub refused_by : {S T : Type 0} (x : S) (y : T) (a n : ℕ) {r : Result S Refusal} {s : Result T Refusal} {f : Refusal} → r ≡ settled a x → r ≡ Err f → IsErrAnd s (λ g. g ≡ f) → a ≡ n → s ≡ settled n y
refused_by x y a n {s = s} e d h k = error_is s h ∙ (sym (refused_whatever x y a (sym e ∙ d)) ∙ ap (λ i. settled i y) k)

-- the same where the answer is asked by `is_err`
pub zero_unless : {S : Type 0} (x : S) (a : ℕ) {r : Result S Refusal} → r ≡ settled a x → false ≡ is_err r → a ≡ 0
unfolding settled
zero_unless x zero e f = refl
zero_unless x (suc a) e f = absurd (false≢true (f ∙ ap is_err e))

pub not_zero_where : {S : Type 0} (x : S) (a : ℕ) {r : Result S Refusal} → r ≡ settled a x → true ≡ is_err r → a ≡ 0 → ⊥
unfolding settled
not_zero_where x zero e f z = false≢true (sym (f ∙ ap is_err e))
not_zero_where x (suc a) e f z = omega arith
