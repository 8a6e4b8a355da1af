-- What a call hands out where its number is 0, and the number of an answer that is tested. Assumes nothing.
use mathlib.Core.Path.{◌≡◌, refl, sym, ap, ◌∙◌}
use mathlib.Core.Bool.{true, false, true≢false}
use Prim.Native.Nat.{ℕ, zero, suc}
use native.Mathlib.Omega.{arith}
use Rattle.std.specs.Result.{is_err}
use Rattle.std.specs.declared.result.Result.{Result}
use Rattle.std.specs.declared.result.Result.TheVariants.{Ok}
use Rattle.field.specs.declared.answer.Refusal.{Refusal}
use Rattle.field.specs.Number.{settled}

pub handed : {T : Type 0} (n : ℕ) {x y : T} → n ≡ 0 → y ≡ x → Ok y ≡ settled n x
unfolding settled
handed n {x = x} z e = ap Ok e ∙ sym (ap (λ i. settled i x) z)

by_test : {T : Type 0} (x : T) (n : ℕ) → is_err (settled n x) ≡ false → n ≡ 0
unfolding settled
by_test x zero h = refl
by_test x (suc n) h = absurd (true≢false h)

not_by_test : {T : Type 0} (x : T) (n : ℕ) → is_err (settled n x) ≡ true → n ≡ 0 → ⊥
unfolding settled
not_by_test x zero h z = true≢false (sym h)
not_by_test x (suc n) h z = omega arith

-- tested by `is_err`
pub zero_by_test : {T : Type 0} (x : T) (n : ℕ) {r : Result T Refusal} → r ≡ settled n x → is_err r ≡ false → n ≡ 0
zero_by_test x n e h = by_test x n (ap is_err (sym e) ∙ h)

pub not_zero_by_test : {T : Type 0} (x : T) (n : ℕ) {r : Result T Refusal} → r ≡ settled n x → is_err r ≡ true → n ≡ 0 → ⊥
not_zero_by_test x n e h = not_by_test x n (ap is_err (sym e) ∙ h)
