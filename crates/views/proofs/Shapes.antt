-- The shape of a matrix in the stacked one, where `mat_place` gives its place. Assumes nothing.
use mathlib.Core.Path.{◌≡◌, ap}
use mathlib.Core.Bool.{false}
use mathlib.Core.List.{List}
use Prim.Native.Nat.{ℕ, ◌-◌, ◌*◌, ◌%◌, ◌^◌, ◌<◌}
use native.Mathlib.Nat.{mul-pos}
use native.Mathlib.Omega.{arith}
use Rattle.std.proofs.Common.{rules}
use Rattle.std.specs.Result.{is_err}
use Rattle.std.specs.declared.result.Result.{Result}
use Rattle.std.specs.declared.result.Result.TheVariants.{Ok}
use Rattle.field.specs.declared.answer.Refusal.{Refusal}
use Rattle.layout.specs.declared.stacked_pcs.MatPlace.{MatPlace}
use Rattle.layout.specs.Triples.{count_of, width_at, log_at}
use Rattle.layout.specs.Placing.{matrix_length}
use Rattle.layout.specs.Viewing.{view_number, mat_place_of}
use Rattle.layout.specs.Shaped.{Laid}
use Rattle.layout.proofs.Handing.{handed, zero_by_test}
use Rattle.layout.proofs.Passed.{plan_laid}
use Rattle.layout.proofs.Parts.{Viewable, view_passed}
use Rattle.layout.proofs.Slices.{slice-pos}
use Rattle.views.specs.Shapes.{shaped, shape_of}

-- a part that is not refused has a word at least
pub some-length : (l n : ℕ) (list stacked : List ℕ) (i : ℕ) → Viewable l n list stacked i → 0 < matrix_length l list i
unfolding matrix_length
some-length l n list stacked i v = mul-pos (omega (arith, v.some)) (slice-pos l (log_at list i))

shifted : (k : ℕ) → k < 64 → 1 * 2 ^ k % 18446744073709551616 ≡ 2 ^ k
shifted k h = search rules

module _ (l n : ℕ) (list stacked : List ℕ) (i : ℕ) {r : Result MatPlace Refusal} (is : r ≡ mat_place_of l n list stacked i) (given : is_err r ≡ false) where
  number : view_number l n list stacked i ≡ 0
  unfolding mat_place_of
  number = zero_by_test _ _ is given

  laid : Laid l n list
  laid = plan_laid l n list (view_passed l n list stacked i number).plan

  pub there : i < count_of list
  there = (view_passed l n list stacked i number).there

  pub log_small : log_at list i < 64
  log_small =
      omega (arith, laid.logs i there (omega (arith, (view_passed l n list stacked i number).some)), laid.shaped.sum)

  pub skip_small : l < 64
  skip_small = omega (arith, laid.shaped.skip)

  pub shape_is : (k : ℕ) → k ≡ l - log_at list i
      → Ok (shaped (width_at list i) (1 * 2 ^ log_at list i % 18446744073709551616) (1 * 2 ^ k % 18446744073709551616)) ≡ shape_of l n list stacked i
  unfolding shape_of
  shape_is k e =
      let h = shifted (log_at list i) log_small in
      let s = shifted k (omega (arith, skip_small)) in
      handed _ number (cc (ap (λ x. 2 ^ x) e))
