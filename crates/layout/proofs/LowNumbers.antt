-- Numbers that are at most 11, so none is 12: of the lists of a run or a verdict, and of this crate's own calls. Assumes nothing.
use mathlib.Core.Logic.{◌≢◌}
use mathlib.Core.Bool.{Bool}
use mathlib.Core.List.{List}
use Prim.Native.Nat.{ℕ, ◌≤◌}
use native.Mathlib.Omega.{arith}
use Rattle.layout.specs.Checks.{refuse, or_else, first_of}
use Rattle.layout.specs.Triples.{count_of}
use Rattle.layout.specs.Refusals.{limits_number, flags_number, columns_number, laid_number, shape_number, plan_number, triple_number}
use Rattle.layout.specs.Lists.{lists_number, lists_length}
use Rattle.layout.specs.ByLists.{whole_number}
use Rattle.layout.specs.Logs.{height_number}
use Rattle.layout.specs.Planning.{planning_number}
use Rattle.layout.specs.Getting.{get_number}
use Rattle.layout.specs.Stacking.{trace_number, cells_number, stacking_number}
use Rattle.layout.specs.Viewing.{view_number}
use Rattle.layout.proofs.NumberChains.{check_has, chain_has, first_has, limits_have, flags_have, columns_have, laid_has, lists_have}

abbrev Low : ℕ → Type 0
Low n = n ≤ 11

-- one check
pub low : (n : ℕ) (t : Bool) → n ≤ 11 → refuse n t ≤ 11
low = check_has Low (omega arith)

first_low : (m : ℕ) (f : ℕ → ℕ) → ((i : ℕ) → f i ≤ 11) → first_of m f ≤ 11
first_low = first_has Low (omega arith)

-- a check, then another
pub both : {a b : ℕ} → a ≤ 11 → b ≤ 11 → or_else a b ≤ 11
both {a} {b} = chain_has Low (omega arith) a b

pub not_twelve : {n : ℕ} → n ≤ 11 → n ≢ 12
not_twelve h e = omega arith

limits_low : (l n : ℕ) → limits_number l n ≤ 11
limits_low = limits_have Low (omega arith) (omega arith)

flags_low : (list : List ℕ) → flags_number list ≤ 11
flags_low = flags_have Low (omega arith) (omega arith)

columns_low : (first : ℕ) (list : List ℕ) → columns_number first list ≤ 11
columns_low = columns_have Low (omega arith) (omega arith)

laid_low : (l n first : ℕ) (list : List ℕ) → laid_number l n first list ≤ 11
laid_low = laid_has Low (omega arith) (omega arith) (omega arith) (omega arith)

-- the lists of a run or a verdict
pub lists_low : (l n : ℕ) (counts lists : List ℕ) → lists_number l n counts lists ≤ 11
lists_low = lists_have Low (omega arith) (omega arith) (omega arith) (omega arith) (omega arith) (omega arith) (omega arith)

pub whole_low : (l n : ℕ) (counts lists : List ℕ) → whole_number l n counts lists ≤ 11
unfolding lists_length
whole_low l n counts lists = both (lists_low l n counts lists) (low 9 _ (omega arith))

-- the calls on one commitment
shape_low : (l n : ℕ) (list : List ℕ) → shape_number l n list ≤ 11
unfolding shape_number
shape_low l n list = both (limits_low l n) (both (low 1 _ (omega arith)) (both (flags_low list) (columns_low (count_of list) list)))

plan_low : (l n : ℕ) (list : List ℕ) → plan_number l n list ≤ 11
unfolding plan_number
plan_low l n list = both (shape_low l n list) (laid_low l n (count_of list) list)

triple_low : (list : List ℕ) → triple_number list ≤ 11
unfolding triple_number
triple_low list = low 9 _ (omega arith)

pub planning_low : (l n : ℕ) (list : List ℕ) (places : ℕ) → planning_number l n list places ≤ 11
unfolding planning_number
planning_low l n list places = both (plan_low l n list) (both (triple_low list) (low 9 _ (omega arith)))

pub stacking_low : (l n : ℕ) (list cells : List ℕ) (places : ℕ) → stacking_number l n list cells places ≤ 11
unfolding stacking_number trace_number height_number cells_number
stacking_low l n list cells places =
    both (both (shape_low l n list) (first_low _ _ (λ i. low 3 _ (omega arith))))
    (both (laid_low l n _ _)
    (both (low 7 _ (omega arith)) (both (low 9 _ (omega arith)) (both (low 9 _ (omega arith)) (both (low 9 _ (omega arith)) (low 10 _ (omega arith)))))))

module _ (l n : ℕ) (list : List ℕ) where
  pub get_low : (i j : ℕ) → get_number l n list i j ≤ 11
  unfolding get_number
  get_low i j = both (plan_low l n list) (both (triple_low list) (both (low 11 _ (omega arith)) (low 11 _ (omega arith))))

  pub view_low : (stacked : List ℕ) (i : ℕ) → view_number l n list stacked i ≤ 11
  unfolding view_number
  view_low stacked i =
      both (plan_low l n list)
      (both (triple_low list) (both (low 9 _ (omega arith)) (both (low 10 _ (omega arith)) (both (low 11 _ (omega arith)) (low 11 _ (omega arith))))))
