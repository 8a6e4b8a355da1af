-- The work buffers' own sum. Document 01: over columns and remaining points, lambda power × column weight × table weight × folded value, with the
-- rotation table for the second power where the flag is 1.
use Rattle.std.specs.Prelude.{ℕ, ◌+◌, ◌-◌, ◌*◌, ◌/◌, ◌%◌, ◌^◌, cond, List, nat_le}
use Rattle.algebra.specs.Sum.{sum}
use Rattle.algebra.specs.Multilinear.{bit_factor, fold_mle}
use Rattle.field.specs.Element.{Elem, F, ◌⊕◌, ◌⊗◌}
use Rattle.field.specs.Slice.{elem_at}
use Rattle.weights.specs.Run.{Run, stack_of, start_block, lift}
use Rattle.weights.specs.LambdaPowers.{plain_power, rotated_power}
use Rattle.prover.specs.Given.{Work}
use Rattle.prover.specs.Slots.{slot_start}

-- what stands in the work buffers: the folded values, stack column after stack column; of each height the two tables; the columns' weights
pub record Tables : Type 0 where
  pub values : ℕ → Elem
  pub eq : ℕ → ℕ → Elem
  pub rot : ℕ → ℕ → Elem
  pub weight : ℕ → Elem

unfoldable pub tables_of : ℕ → List ℕ → Work → Tables
tables_of l lists w =
    record {
      values = elem_at w.q;
      eq = λ h x. elem_at w.eq (slot_start l lists h + x);
      rot = λ h x. elem_at w.rot (slot_start l lists h + x);
      weight = elem_at w.ub;
    }

module _ (run : Run Elem) where
  -- after j folds 2^(n_stack − j) values of a stack column are left; column k is read from its own starting row
  unfoldable pub place : ℕ → ℕ → ℕ
  place j k = stack_of run k * 2 ^ (run.stack - j) + start_block run k / 2 ^ j

  -- column k's part after j folds, over the 2^(n_lift − j) entries that are left of its tables, or one; and the sum of all
  unfoldable pub own_term : ℕ → Tables → ℕ → Elem
  own_term j t k =
      sum F (2 ^ (lift run (run.log k) - j)) (λ x.
      t.weight k ⊗ (plain_power F run k ⊗ t.eq (run.log k) x ⊕ rotated_power F run k ⊗ t.rot (run.log k) x) ⊗ t.values (place j k + x))

  unfoldable pub own_sum : ℕ → Tables → Elem
  own_sum j t = sum F run.count (own_term j t)

  -- the fold of round j at x. Each table of 2^(n_lift − j + 1) entries loses its lowest variable; past n_lift bit l_skip + j − 1 of the starting row
  -- enters the column's weight
  unfoldable pub folded_tables : ℕ → Elem → Tables → Tables
  folded_tables j x t =
      record {
        values = fold_mle F t.values x;
        eq = λ h. cond (nat_le j (lift run h)) (fold_mle F (t.eq h) x) (t.eq h);
        rot = λ h. cond (nat_le j (lift run h)) (fold_mle F (t.rot h) x) (t.rot h);
        weight = λ k.
            cond (nat_le j (lift run (run.log k))) (t.weight k) (t.weight k ⊗ bit_factor F x (start_block run k / 2 ^ (j - 1) % 2));
      }

  -- that sum with the variable of round j left free, as a function of it
  unfoldable pub own_quadratic : ℕ → Tables → Elem → Elem
  own_quadratic j t x = own_sum j (folded_tables j x t)
