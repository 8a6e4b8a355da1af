-- What numbers planning in whatever order can have: 6 is none of them, for the ordered list does not rise. Assumes nothing.
use Prim.Native.Nat.{ℕ, zero, suc, ◌<◌, ◌≤◌}
use mathlib.Core.Path.{◌≡◌, sym, ap, ◌∙◌}
use mathlib.Core.Bool.{Bool}
use mathlib.Core.List.{List}
use native.Mathlib.Omega.{arith}
use native.Mathlib.Decide.{ℕ_discrete}
use lib.ListN.{get_or}
use Rattle.field.specs.Number.{number_of}
use Rattle.field.specs.declared.answer.Refusal.TheVariants.{HeightsRise}
use Rattle.std.specs.declared.result.Result.TheVariants.{Err}
use Rattle.layout.specs.Checks.{refuse, first_of}
use Rattle.layout.specs.Triples.{count_of, width_at, log_at}
use Rattle.layout.specs.Refusals.{limits_number, flag_number, width_number, column_number, matrix_number, place_number, walk_number, rise_number, rises_number, laid_number, shape_number, plan_number, triple_number}
use Rattle.layout.specs.Planning.{planning_number}
use Rattle.layout.proofs.Firsts.{or_skip, or_stop, first_none}
use Rattle.layout.proofs.OtherNumbers.{or_other, refuse_other}
use Rattle.layout.proofs.Passed.{Planned, shape_passed, widths_passed}
use Rattle.layout.proofs.Turns.{higher_passed}
use Rattle.ordering.specs.Ordered.{positions, ordered}
use Rattle.ordering.specs.Unsorted.{in_order_number, unsorted_number, unsorted_of}
use Rattle.ordering.proofs.Insertion.{positions_sorted}
use Rattle.ordering.proofs.Sorting.{key_log, before_key}
use Rattle.ordering.proofs.Orders.{ordered-count, ordered-width, ordered_log}
use Rattle.ordering.proofs.Unsorteds.{laid_number_lem}

-- a number that is none of 0, 1, 2, 4, 5 and 9
pub record Other (v : ℕ) : Type 0 where
  pub none : v ≡ 0 → ⊥
  pub one : v ≡ 1 → ⊥
  pub two : v ≡ 2 → ⊥
  pub four : v ≡ 4 → ⊥
  pub five : v ≡ 5 → ⊥
  pub nine : v ≡ 9 → ⊥

module _ (list : List ℕ) where
  -- the matrix at a later place is not higher
  falls : (a b : ℕ) → a < b → b < count_of list → width_at (ordered list) a ≤ 4096 → log_at (ordered list) b ≤ log_at (ordered list) a
  falls a b h k w =
      let low = before_key list (get_or (positions list) a 0) (get_or (positions list) b 0) ((positions_sorted list).order a b h k) in
      omega (arith, ordered_log list a (omega arith), ordered_log list b k, key_log list (get_or (positions list) a 0) (get_or (positions list) b 0) (omega (arith, ordered-width list a (omega arith))) low)

  -- 6 is passed where 1 and 2 are
  pub ordered_rises : (l n : ℕ) → Planned l n (ordered list) → rises_number (count_of (ordered list)) (ordered list) ≡ 0
  unfolding rise_number
  ordered_rises l n p =
      first_none _ (rise_number (ordered list)) (λ b k. first_none b _ (λ a h.
      higher_passed (ordered list) b a (λ u v. falls a b h (omega (arith, ordered-count list)) (widths_passed (count_of (ordered list)) (ordered list) p.columns a (omega arith)))))

module _ (v : ℕ) (other : Other v) where
  refuse_not : (n : ℕ) (t : Bool) → (v ≡ n → ⊥) → refuse n t ≡ v → ⊥
  refuse_not n t h = refuse_other other.none n t (λ e. h (sym e))

  first_not : (k : ℕ) (f : ℕ → ℕ) → ((i : ℕ) → f i ≡ v → ⊥) → first_of k f ≡ v → ⊥
  unfolding first_of
  first_not zero f h e = other.none (sym e)
  first_not (suc k) f h e = or_other (first_of k f) (f k) (first_not k f h) (h k) e

  limits_not : (l n : ℕ) → limits_number l n ≡ v → ⊥
  unfolding limits_number
  limits_not l n = or_other _ _ (refuse_not 1 _ other.one) (or_other _ _ (refuse_not 1 _ other.one) (refuse_not 1 _ other.one))

  shape_not : (l n : ℕ) (list : List ℕ) → shape_number l n list ≡ v → ⊥
  unfolding shape_number flag_number width_number
  shape_not l n list =
      or_other _ _ (limits_not l n) (or_other _ _ (refuse_not 1 _ other.one)
      (or_other _ _ (first_not (count_of list) (flag_number list) (λ i. refuse_not 1 _ other.one)) (first_not (count_of list) (width_number (count_of list) list) (λ i. refuse_not 2 _ other.two))))

  walk_not : (l n : ℕ) (list : List ℕ) → walk_number l n (count_of list) list ≡ v → ⊥
  unfolding place_number matrix_number column_number
  walk_not l n list = first_not (count_of list) (place_number l n (count_of list) list) (λ i. first_not (width_at list i) _ (λ j. or_other _ _ (refuse_not 4 _ other.four) (refuse_not 5 _ other.five)))

  module _ (l n : ℕ) (list : List ℕ) where
    laid_not : shape_number l n (ordered list) ≡ 0 → laid_number l n (count_of (ordered list)) (ordered list) ≡ v → ⊥
    unfolding laid_number
    laid_not e = or_other _ _ (walk_not l n (ordered list)) (λ z. other.none (sym z ∙ ordered_rises list l n (shape_passed l n (ordered list) e)))

    plan_not : plan_number l n (ordered list) ≡ v → ⊥
    unfolding plan_number
    plan_not e = by_case (ℕ_discrete (shape_number l n (ordered list)) 0)
      where
        by_case : Dec (shape_number l n (ordered list) ≡ 0) → ⊥
        by_case (yes z) = laid_not z (sym (or_skip _ _ z) ∙ e)
        by_case (no z) = shape_not l n (ordered list) (sym (or_stop _ _ z) ∙ e)

    pub never : (arrivals places : ℕ) → unsorted_number l n list arrivals places ≡ v → ⊥
    unfolding unsorted_number in_order_number planning_number triple_number
    never arrivals places =
        or_other _ _ (or_other _ _ plan_not (or_other _ _ (refuse_not 9 _ other.nine) (refuse_not 9 _ other.nine)))
        (or_other _ _ (refuse_not 9 _ other.nine) (refuse_not 9 _ other.nine))

module _ (l n : ℕ) (list : List ℕ) (arrivals places : ℕ) where
  pub never_six : unsorted_number l n list arrivals places ≡ 6 → ⊥
  never_six = never 6 (record { none = λ e. omega arith; one = λ e. omega arith; two = λ e. omega arith; four = λ e. omega arith; five = λ e. omega arith; nine = λ e. omega arith }) l n list arrivals places

  -- nor does the call answer so
  pub never_rises : unsorted_of l n list arrivals places ≡ Err HeightsRise → ⊥
  unfolding unsorted_of
  never_rises e = never_six (omega (arith, sym (laid_number_lem l n (ordered list) (unsorted_number l n list arrivals places)) ∙ ap number_of e))
