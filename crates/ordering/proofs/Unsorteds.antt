-- The number, the answer and the two slices of planning in whatever order, accepted and refused. Assumes nothing.
use Prim.Native.Nat.{ℕ, zero, suc, ◌+◌, ◌*◌, ◌%◌, ◌<◌, min}
use mathlib.Core.Path.{◌≡◌, refl, sym, ap, ◌∙◌}
use mathlib.Core.Bool.{Bool, true, false, not}
use mathlib.Core.List.{List, ◌++◌}
use native.Mathlib.Omega.{arith}
use native.Mathlib.Decide.{ℕ_discrete}
use lib.ListN.{length, take}
use lib.Seq.{take_at}
use lib.Dec.{ltb, eqb}
use borrow.Author.Tests.{eq-eqb, ne_eqb, lt-ltb}
use Rattle.std.specs.declared.result.Result.{Result}
use Rattle.std.specs.declared.result.Result.TheVariants.{Err}
use Rattle.field.specs.declared.answer.Refusal.{Refusal}
use Rattle.field.specs.declared.answer.Refusal.TheVariants.{LimitExceeded}
use Rattle.field.specs.Number.{number_of, refusals, refusal_of, settled}
use Rattle.layout.specs.declared.stacked_pcs.StackedLayout.{StackedLayout}
use Rattle.layout.specs.Answers.{answer_of}
use Rattle.layout.specs.Checks.{refuse, or_else}
use Rattle.layout.specs.Triples.{count_of}
use Rattle.layout.specs.Refusals.{limits_number, flags_number, columns_number, shape_number, plan_number}
use Rattle.layout.specs.Packed.{records}
use Rattle.layout.specs.Planning.{planning_number, laid_out, planned_of, planned_into}
use Rattle.layout.proofs.Firsts.{or_passed, skip, stop, stops}
use Rattle.layout.proofs.CheckChains.{length_is}
use Rattle.layout.proofs.Answered.{number-answer}
use Rattle.ordering.specs.Ordered.{positions, ordered}
use Rattle.ordering.specs.Unsorted.{in_order_number, unsorted_number, unsorted_of, unless_refused, arrivals_into, unsorted_into}
use Rattle.ordering.proofs.Insertion.{positions_sorted}
use Rattle.ordering.proofs.Orders.{ordered-length, ordered-count}

-- the number of an answer is the number that it was made of
pub laid_number_lem : (l n : ℕ) (list : List ℕ) (number : ℕ) → number_of (laid_out l n list number) ≡ min number 14
unfolding laid_out settled answer_of
laid_number_lem l n list zero = refl
laid_number_lem l n list (suc number) = number-answer (suc number)

-- what is written, and a slice left as it was
pub unless_refused_lem : (number : ℕ) (written out : List ℕ) → (number ≡ 0 → ⊥) → out ≡ unless_refused number written out
unfolding unless_refused
unless_refused_lem number written out h = simp (ne_eqb number 0 h)

pub unless_done : (number : ℕ) (written out ys : List ℕ) → number ≡ 0 → ys ≡ written → ys ≡ unless_refused number written out
unfolding unless_refused
unless_done number written out ys z f = simp (eq-eqb number 0 z) f

module _ (l n : ℕ) (list : List ℕ) (over arrivals places : ℕ) where
  -- a list in order that is not refused
  module _ (none : in_order_number l n list over arrivals places ≡ 0) where
    pub planning_none : planning_number l n list places ≡ 0
    unfolding in_order_number
    planning_none = (or_passed (planning_number l n list places) _ none).0

    pub arrivals_size : arrivals ≡ count_of list
    unfolding in_order_number
    arrivals_size = length_is _ _ (or_passed (refuse 9 (not (eqb over 0))) _ (or_passed (planning_number l n list places) _ none).1).1

    pub planned_whole : (r : Result StackedLayout Refusal) → r ≡ planned_of l n list places → r ≡ laid_out l n list (in_order_number l n list over arrivals places)
    unfolding planned_of
    planned_whole r e = e ∙ ap (laid_out l n list) (planning_none ∙ sym none)

    pub planned-records : (out ys : List ℕ) → places ≡ length out → ys ≡ planned_into l n list out → ys ≡ records l n list
    unfolding planned_into
    planned-records out ys s e = e ∙ simp (← s, eq-eqb (planning_number l n list places) 0 planning_none)

-- numbers that can only be one
refuse_one : (v : ℕ) (t : Bool) → (refuse v t ≡ 0 → ⊥) → refuse v t ≡ v
unfolding refuse
refuse_one v true h = refl
refuse_one v false h = absurd (h refl)

or_one : (v a b : ℕ) → ((a ≡ 0 → ⊥) → a ≡ v) → ((b ≡ 0 → ⊥) → b ≡ v) → (or_else a b ≡ 0 → ⊥) → or_else a b ≡ v
unfolding or_else
or_one v zero b f g h = g h
or_one v (suc a) b f g h = f h

limits_one : (l n : ℕ) → (limits_number l n ≡ 0 → ⊥) → limits_number l n ≡ 1
unfolding limits_number
limits_one l n = or_one 1 _ _ (refuse_one 1 (ltb 10 l)) (or_one 1 _ _ (refuse_one 1 (ltb 20 n)) (refuse_one 1 (ltb 24 (l + n))))

-- over 4,096 matrices are 1, whatever else there is
shape_many : (l n : ℕ) (list : List ℕ) → 4096 < count_of list → 1 ≡ shape_number l n list
unfolding shape_number
shape_many l n list h = by_case (ℕ_discrete (limits_number l n) 0)
  where
    by_case : Dec (limits_number l n ≡ 0) → 1 ≡ or_else (limits_number l n) (or_else (refuse 1 (ltb 4096 (count_of list))) (or_else (flags_number list) (columns_number (count_of list) list)))
    by_case (yes e) = skip _ _ e (stops 1 _ _ (omega arith) (lt-ltb 4096 (count_of list) h))
    by_case (no e) = stop _ _ 1 (sym (limits_one l n e)) (λ z. omega arith)

module _ (l n : ℕ) (list : List ℕ) where
  many : (arrivals places : ℕ) → 4096 < count_of list → 1 ≡ unsorted_number l n list arrivals places
  unfolding unsorted_number in_order_number planning_number plan_number
  many arrivals places h =
      let one = shape_many l n (ordered list) (omega (arith, ordered-count list)) in
      stop _ _ 1 (stop _ _ 1 (stop _ _ 1 one (λ z. omega arith)) (λ z. omega arith)) (λ z. omega arith)

  pub many-answer : (arrivals places : ℕ) → 4096 < count_of list → Err LimitExceeded ≡ unsorted_of l n list arrivals places
  unfolding unsorted_of laid_out settled refusal_of refusals
  many-answer arrivals places h = ap (laid_out l n (ordered list)) (many arrivals places h)

  pub many_arrivals : (out : List ℕ) (places : ℕ) → 4096 < count_of list → out ≡ arrivals_into l n list out places
  unfolding arrivals_into
  many_arrivals out places h = unless_refused_lem _ (positions list) out (λ z. omega (arith, many (length out) places h))

  pub many-records : (arrivals : ℕ) (out : List ℕ) → 4096 < count_of list → out ≡ unsorted_into l n list arrivals out
  unfolding unsorted_into
  many-records arrivals out h = unless_refused_lem _ (records l n (ordered list)) out (λ z. omega (arith, many arrivals (length out) h))

-- what the order and the ordered list are, at the front of their arrays
pub order_front : (list xs zs : List ℕ) → zs ≡ positions list ++ xs → take (count_of list) zs ≡ positions list
order_front list xs zs e = ap (take (count_of list)) e ∙ take_at (positions list) xs (count_of list) (positions_sorted list).size

pub ordered_front : (list xs zs : List ℕ) → zs ≡ ordered list ++ xs → take (3 * count_of list) zs ≡ ordered list
ordered_front list xs zs e = ap (take (3 * count_of list)) e ∙ take_at (ordered list) xs (3 * count_of list) (ordered-length list)

pub sorted_count : (list sorted : List ℕ) → sorted ≡ ordered list → count_of sorted ≡ count_of list
sorted_count list sorted is = ap count_of is ∙ ordered-count list

-- the list in order that was planned is the ordered list, and its order the positions
module _ (l n : ℕ) (list sorted order : List ℕ) (is : sorted ≡ ordered list) (at : take (count_of list) order ≡ positions list) where
  pub whole_answer : (arrivals places : ℕ) (r : Result StackedLayout Refusal) → r ≡ laid_out l n sorted (in_order_number l n sorted (length list % 3) arrivals places) → r ≡ unsorted_of l n list arrivals places
  unfolding unsorted_of unsorted_number
  whole_answer arrivals places r e = e ∙ ap (λ (xs : List ℕ). laid_out l n xs (in_order_number l n xs (length list % 3) arrivals places)) is

  pub whole_arrivals : (out : List ℕ) (places : ℕ) (ys : List ℕ) → ys ≡ unless_refused (in_order_number l n sorted (length list % 3) (length out) places) (take (count_of sorted) order) out → ys ≡ arrivals_into l n list out places
  unfolding arrivals_into unsorted_number
  whole_arrivals out places ys e =
      e ∙ (ap (λ (xs : List ℕ). unless_refused (in_order_number l n xs (length list % 3) (length out) places) (take (count_of sorted) order) out) is
      ∙ ap (λ (xs : List ℕ). unless_refused (in_order_number l n (ordered list) (length list % 3) (length out) places) xs out) (ap (λ (k : ℕ). take k order) (sorted_count list sorted is) ∙ at))

  pub whole_records : (arrivals : ℕ) (out ys : List ℕ) → ys ≡ unless_refused (in_order_number l n sorted (length list % 3) arrivals (length out)) (records l n sorted) out → ys ≡ unsorted_into l n list arrivals out
  unfolding unsorted_into unsorted_number
  whole_records arrivals out ys e = e ∙ ap (λ (xs : List ℕ). unless_refused (in_order_number l n xs (length list % 3) arrivals (length out)) (records l n xs) out) is
