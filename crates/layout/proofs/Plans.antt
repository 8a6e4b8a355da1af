-- A plan's answer and its slice, accepted and refused. Assumes nothing.
use Prim.Native.Nat.{ℕ, ◌+◌, ◌*◌, ◌/◌, ◌^◌}
use mathlib.Core.Path.{◌≡◌}
use mathlib.Core.List.{List}
use native.Mathlib.Omega.{arith}
use lib.ListN.{length}
use borrow.Author.Tests.{eq-eqb, ne_eqb, eqb-true, not-false}
use Rattle.layout.specs.Triples.{count_of, column_count}
use Rattle.layout.specs.Placing.{height, matrix_start}
use Rattle.layout.specs.Refusals.{plan_number, triple_number}
use Rattle.layout.specs.Packed.{records}
use Rattle.layout.specs.Planning.{done_layout, planning_number, planned_into}
use Rattle.layout.proofs.Firsts.{or_passed, is_false}

module _ (l n : ℕ) (list : List ℕ) (places : ℕ) where
  pub planning_plan : planning_number l n list places ≡ 0 → plan_number l n list ≡ 0
  unfolding planning_number
  planning_plan e = (or_passed (plan_number l n list) _ e).0

  pub planning_places : planning_number l n list places ≡ 0 → places ≡ 2 * column_count list
  unfolding planning_number
  planning_places e =
      eqb-true _ _ (not-false _ (is_false 9 _ (omega arith) (or_passed (triple_number list) _ (or_passed (plan_number l n list) _ e).1).1))

pub done_is : (l n : ℕ) (list : List ℕ) (end h columns : ℕ) → end ≡ matrix_start l n (count_of list) list (count_of list) → h ≡ height l n → columns ≡ column_count list
    → record { width = end / 2 ^ (l + n); height = h; columns = columns } ≡ done_layout l n list
unfolding done_layout
done_is l n list end h columns f g k = cc

module _ (l n : ℕ) (list out : List ℕ) where
  pub into-refused : (planning_number l n list (length out) ≡ 0 → ⊥) → out ≡ planned_into l n list out
  unfolding planned_into
  into-refused h = simp (ne_eqb (planning_number l n list (length out)) 0 h)

  pub into_done : (ys : List ℕ) → planning_number l n list (length out) ≡ 0 → ys ≡ records l n list → ys ≡ planned_into l n list out
  unfolding planned_into
  into_done ys z f = simp (eq-eqb (planning_number l n list (length out)) 0 z) f
