-- What the promise of `plan_unsorted` says, clause by clause. Assumes nothing.
use Prim.Native.Nat.{ℕ, zero, suc, ◌*◌, ◌%◌, ◌<◌, ◌≤◌}
use mathlib.Core.Path.{◌≡◌, refl, sym, ap, ◌∙◌, subst}
use mathlib.Core.List.{List}
use lib.ListN.{length}
use borrow.Author.Tests.{eq-eqb}
use Rattle.field.proofs.Settled.{number_of_done}
use Rattle.layout.specs.declared.stacked_pcs.StackedLayout.{StackedLayout}
use Rattle.std.specs.declared.result.Result.TheVariants.{Ok}
use Rattle.layout.specs.Checks.{or_else, length_number}
use Rattle.layout.specs.Triples.{count_of, column_count}
use Rattle.layout.specs.Planning.{planning_number, laid_out, planned_of, planned_into}
use Rattle.layout.proofs.Firsts.{passed, same}
use Rattle.layout.proofs.CheckChains.{length_yes}
use Rattle.layout.proofs.Plans.{planning_places}
use Rattle.ordering.specs.Ordered.{key_at, Sorted, positions, ordered}
use Rattle.ordering.specs.Unsorted.{in_order_number, unsorted_number, unsorted_of, unless_refused, arrivals_into, unsorted_into}
use Rattle.ordering.proofs.Insertion.{positions_sorted}
use Rattle.ordering.proofs.Orders.{ordered-columns}
use Rattle.ordering.proofs.AsGiven.{ordered-given}
use Rattle.ordering.proofs.Unsorteds.{unless_done, planning_none}

-- a call that is done
module _ (l n : ℕ) (list : List ℕ) where
  module _ (arrivals places : ℕ) {r : StackedLayout} (done : unsorted_of l n list arrivals places ≡ Ok r) where
    pub done_number : unsorted_number l n list arrivals places ≡ 0
    unfolding unsorted_of laid_out
    done_number = number_of_done _ _ done

    pub done_planning : planning_number l n (ordered list) places ≡ 0
    unfolding unsorted_number
    done_planning = planning_none l n (ordered list) (length list % 3) arrivals places done_number

    -- the answer is the old call's for the ordered list
    pub done_answer : unsorted_of l n list arrivals places ≡ planned_of l n (ordered list) places
    unfolding unsorted_of planned_of
    done_answer = ap (laid_out l n (ordered list)) (done_number ∙ sym done_planning)

    -- and there was room for as many records, of two words each, as the list has columns
    pub done_columns : places ≡ 2 * column_count list
    done_columns = planning_places l n (ordered list) places done_planning ∙ ap (λ (k : ℕ). 2 * k) (ordered-columns list)

  -- the positions are a permutation, and in order
  pub done_positions : (out : List ℕ) (places : ℕ) {r : StackedLayout} → unsorted_of l n list (length out) places ≡ Ok r → Sorted list (arrivals_into l n list out places)
  unfolding arrivals_into
  done_positions out places done =
      subst (Sorted list) (unless_done _ (positions list) out (positions list) (done_number (length out) places done) refl) (positions_sorted list)

  -- the records are those that the old call writes for the ordered list
  pub done_records : (arrivals : ℕ) (out : List ℕ) {r : StackedLayout} → unsorted_of l n list arrivals (length out) ≡ Ok r → unsorted_into l n list arrivals out ≡ planned_into l n (ordered list) out
  unfolding unsorted_into planned_into unless_refused
  done_records arrivals out done =
      simp (eq-eqb (unsorted_number l n list arrivals (length out)) 0 (done_number arrivals (length out) done), eq-eqb (planning_number l n (ordered list) (length out)) 0 (done_planning arrivals (length out) done))

or_last : (a : ℕ) → or_else a 0 ≡ a
unfolding or_else
or_last zero = refl
or_last (suc a) = refl

-- a list of whole triples whose keys do not rise gets what the old call gives it
module _ (l n : ℕ) (list : List ℕ) (whole : length list % 3 ≡ 0) (falls : (a b : ℕ) → a < b → b < count_of list → key_at list b ≤ key_at list a) where
  given-number : (places : ℕ) → unsorted_number l n list (count_of list) places ≡ planning_number l n list places
  unfolding unsorted_number in_order_number or_else
  given-number places =
      ap (λ (xs : List ℕ). in_order_number l n xs (length list % 3) (count_of list) places) (ordered-given list falls whole)
      ∙ (ap (λ (k : ℕ). or_else (planning_number l n list places) (or_else k (length_number (count_of list) (count_of list)))) (passed 9 _ (same (length list % 3) 0 whole))
      ∙ (ap (or_else (planning_number l n list places)) (sym (length_yes (count_of list) (count_of list) refl)) ∙ or_last (planning_number l n list places)))

  pub given-answer : (places : ℕ) → unsorted_of l n list (count_of list) places ≡ planned_of l n list places
  unfolding unsorted_of planned_of
  given-answer places =
      ap (λ (xs : List ℕ). laid_out l n xs (unsorted_number l n list (count_of list) places)) (ordered-given list falls whole) ∙ ap (laid_out l n list) (given-number places)

  pub given-records : (out : List ℕ) → unsorted_into l n list (count_of list) out ≡ planned_into l n list out
  unfolding unsorted_into planned_into unless_refused
  given-records out = simp (given-number (length out), ordered-given list falls whole)
