-- The work buffers stand for the folded stack columns, tables and column weights: then their own sum is the weighted sum folded so far.
use mathlib.Core.Path.{◌≡◌, sym, ◌∙◌, ap}
use mathlib.Core.Bool.{true}
use mathlib.Core.List.{List}
use Prim.Native.Nat.{ℕ, ◌+◌, ◌-◌, ◌*◌, ◌/◌, ◌^◌, ◌<◌, ◌≤◌}
use native.Mathlib.Nat
use native.Mathlib.Omega.{arith}
use lib.ListN.{length, take}
use Rattle.algebra.proofs.Sums.{sum_cong_below, sum-mul}
use Rattle.field.specs.Element.{Elem, F, half_elem, ◌⊕◌, ◌⊗◌}
use Rattle.field.specs.Powers.{root}
use Rattle.tables.specs.FoldMany.{fold_many}
use Rattle.weights.specs.Run.{stack_of, start_block, lift}
use Rattle.weights.specs.LambdaPowers.{plain_power, rotated_power}
use Rattle.weights.specs.Fits.{Planned}
use Rattle.weights.specs.AtField.{folded_column_f, folded_sum_f, eq_entry_f, rot_entry_f, column_weight_f}
use Rattle.weights.proofs.WindowSums.{window-inside, window_term, window_term-tables, folded_sum_windows}
use Rattle.weights.proofs.FieldRuns.{run_skip}
use Rattle.prover.specs.Given.{Given, run, columns, stacked}
use Rattle.prover.specs.Slots.{occurs}
use Rattle.prover.specs.OwnSum.{Tables, place, own_term, own_sum}

-- what lists that are not refused give: the laws' hypotheses, every column inside the stack columns, its log height among those that occur
pub record Laid (g : Given) : Type 0 where
  pub planned : Planned (run g)
  pub inside : (k : ℕ) → k < columns g → stack_of (run g) k < stacked g
  pub there : (k : ℕ) → k < columns g → occurs g.lists ((run g).log k) ≡ true

-- what stands in the buffers after the folds at u and us, where it is still read
pub record Stands (g : Given) (cells : ℕ → Elem) (u : Elem) (us : List Elem) (t : Tables) : Type 0 where
  pub values : (c y : ℕ) → c < stacked g → y < 2 ^ (g.stack - length us)
      → t.values (c * 2 ^ (g.stack - length us) + y) ≡ folded_column_f (run g) cells u us c y
  pub eq : (k x : ℕ) → k < columns g → x < 2 ^ (lift (run g) ((run g).log k) - length us)
      → t.eq ((run g).log k) x ≡ fold_many F (eq_entry_f (run g) ((run g).log k) u) (take (lift (run g) ((run g).log k)) us) x
  pub rot : (k x : ℕ) → k < columns g → x < 2 ^ (lift (run g) ((run g).log k) - length us)
      → t.rot ((run g).log k) x ≡ fold_many F (rot_entry_f (run g) ((run g).log k) u) (take (lift (run g) ((run g).log k)) us) x
  pub weight : (k : ℕ) → k < columns g → t.weight k ≡ column_weight_f (run g) k us

module _ (g : Given) (laid : Laid g) (cells : ℕ → Elem) (u : Elem) (us : List Elem) (t : Tables) (stands : Stands g cells u us t) (few : length us ≤ g.stack) where
  term : (k : ℕ) → k < columns g → own_term (run g) (length us) t k ≡ window_term F half_elem (root g.skip) (run g) cells u us k
  unfolding own_term place
  term k h =
      sum_cong_below F (2 ^ (lift (run g) ((run g).log k) - length us)) (λ x s.
      (λ i. stands.weight k h i
      ⊗ (plain_power F (run g) k ⊗ stands.eq k x h s i ⊕ rotated_power F (run g) k ⊗ stands.rot k x h s i) ⊗ value x s i)
      ∙ F.mul_assoc (column_weight_f (run g) k us) _ _)
      ∙ sum-mul F (2 ^ (lift (run g) ((run g).log k) - length us)) (column_weight_f (run g) k us) (λ x.
      (plain_power F (run g) k ⊗ fold_many F (eq_entry_f (run g) ((run g).log k) u) (take (lift (run g) ((run g).log k)) us) x
      ⊕ rotated_power F (run g) k ⊗ fold_many F (rot_entry_f (run g) ((run g).log k) u) (take (lift (run g) ((run g).log k)) us) x)
      ⊗ folded_column_f (run g) cells u us (stack_of (run g) k) (start_block (run g) k / 2 ^ length us + x))
      ∙ sym (window_term-tables F half_elem (root g.skip) (run g) cells u us k)
    where
      value : (x : ℕ) → x < 2 ^ (lift (run g) ((run g).log k) - length us)
          → t.values (stack_of (run g) k * 2 ^ (g.stack - length us) + start_block (run g) k / 2 ^ length us + x)
          ≡ folded_column_f (run g) cells u us (stack_of (run g) k) (start_block (run g) k / 2 ^ length us + x)
      value x s =
          ap t.values (Nat.add_assoc (stack_of (run g) k * 2 ^ (g.stack - length us)) (start_block (run g) k / 2 ^ length us) x)
          ∙ stands.values (stack_of (run g) k) (start_block (run g) k / 2 ^ length us + x) (laid.inside k h)
          (omega (arith, window-inside (laid.planned.fits k h) (length us) few))

  pub stands_sum : own_sum (run g) (length us) t ≡ folded_sum_f (run g) cells u us
  unfolding own_sum
  stands_sum = sum_cong_below F (columns g) term ∙ sym (folded_sum_windows (run g) (run_skip (run g) laid.planned) laid.planned cells u us few)
