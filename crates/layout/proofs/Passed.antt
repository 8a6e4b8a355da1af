-- What is known of a list that the lower numbers let pass. Assumes nothing.
use Prim.Native.Nat.{ℕ, zero, suc, ◌+◌, ◌<◌, ◌≤◌}
use mathlib.Core.Path.{◌≡◌, refl, ap}
use mathlib.Core.Bool.{Bool, true, false, cond}
use mathlib.Core.List.{List}
use native.Mathlib.Omega.{arith}
use lib.Dec.{ltb}
use borrow.Author.Tests.{ltb-false, lt-ltb}
use Rattle.layout.specs.Checks.{refuse}
use Rattle.layout.specs.Triples.{count_of, width_at, log_at, columns_before, column_count}
use Rattle.layout.specs.Placing.{matrix_start}
use Rattle.layout.specs.Refusals.{limits_number, flags_number, columns_in, width_number, columns_number, place_number, walk_number, rises_number, laid_number, shape_number, plan_number}
use Rattle.layout.specs.Shaped.{Shaped, Laid}
use Rattle.layout.proofs.Firsts.{or_passed, is_false, first_all}
use Rattle.layout.proofs.Fitting.{matrix_low}

-- l_skip ≤ 10, n_stack ≤ 20, l_skip + n_stack ≤ 24
pub limits_passed : (l n : ℕ) → limits_number l n ≡ 0 → (l ≤ 10) × (n ≤ 20) × (l + n ≤ 24)
unfolding limits_number
limits_passed l n e =
    let a = or_passed (refuse 1 (ltb 10 l)) _ e in
    let b = or_passed (refuse 1 (ltb 20 n)) _ a.1 in
    (ltb-false _ _ (is_false 1 _ (omega arith) a.0), ltb-false _ _ (is_false 1 _ (omega arith) b.0), ltb-false _ _ (is_false 1 _ (omega arith) b.1))

-- each commitment has at most 4,096 columns
columns-passed : (first : ℕ) (list : List ℕ) → columns_number first list ≡ 0 → (i : ℕ) → i < count_of list → columns_in first list i ≤ 4096
unfolding width_number
columns-passed first list e i h = ltb-false _ _ (is_false 2 _ (omega arith) (first_all (count_of list) (width_number first list) e i h))

pub widths_passed : (first : ℕ) (list : List ℕ) → columns_number first list ≡ 0 → (i : ℕ) → i < count_of list → width_at list i ≤ 4096
unfolding columns_in columns_before
widths_passed first list e i h = by_case (ltb i first) refl
  where
    by_case : (t : Bool) → ltb i first ≡ t → width_at list i ≤ 4096
    by_case true q = omega (arith, columns-passed first list e i h, ap (λ (u : Bool). cond u (columns_before list (suc i)) (width_at list i)) q)
    by_case false q = omega (arith, columns-passed first list e i h, ap (λ (u : Bool). cond u (columns_before list (suc i)) (width_at list i)) q)

-- in the first commitment the columns are counted from the start
columns_first : (first : ℕ) (list : List ℕ) (i : ℕ) → i < first → columns_in first list i ≡ columns_before list (suc i)
unfolding columns_in
columns_first first list i h = simp (lt-ltb i first h)

pub columns_few : (first : ℕ) (list : List ℕ) → columns_number first list ≡ 0 → (i : ℕ) → i ≤ first → i ≤ count_of list → columns_before list i ≤ 4096
unfolding columns_before
columns_few first list e zero h k = omega arith
columns_few first list e (suc i) h k = omega (arith, columns_first first list i h, columns-passed first list e i k)

-- what passed in one commitment
pub record Planned (l n : ℕ) (list : List ℕ) : Type 0 where
  pub limits : limits_number l n ≡ 0
  pub few : count_of list ≤ 4096
  pub flags : flags_number list ≡ 0
  pub columns : columns_number (count_of list) list ≡ 0

pub shape_passed : (l n : ℕ) (list : List ℕ) → shape_number l n list ≡ 0 → Planned l n list
unfolding shape_number
shape_passed l n list e =
    let a = or_passed (limits_number l n) _ e in
    let b = or_passed (refuse 1 (ltb 4096 (count_of list))) _ a.1 in
    let c = or_passed (flags_number list) _ b.1 in
    record { limits = a.0; few = ltb-false _ _ (is_false 1 _ (omega arith) b.0); flags = c.0; columns = c.1 }

pub planned-shaped : (l n : ℕ) (list : List ℕ) → Planned l n list → Shaped l n list
planned-shaped l n list p =
    let a = limits_passed l n p.limits in
    record { skip = a.0; stack = a.1; sum = a.2; few = omega (arith, p.few); widths = widths_passed (count_of list) list p.columns }

pub planned-columns : (l n : ℕ) (list : List ℕ) → Planned l n list → column_count list ≤ 4096
planned-columns l n list p = columns_few (count_of list) list p.columns (count_of list) (omega arith) (omega arith)

-- 4 and 5
pub walk_low : (l n first : ℕ) (list : List ℕ) → walk_number l n first list ≡ 0 → (i : ℕ) → i < count_of list → 0 < width_at list i → log_at list i ≤ l + n
unfolding place_number
walk_low l n first list e i h k = matrix_low l n (width_at list i) (log_at list i) (matrix_start l n first list i) (first_all (count_of list) (place_number l n first list) e i h) k

pub laid_passed : (l n first : ℕ) (list : List ℕ) → Shaped l n list → laid_number l n first list ≡ 0 → Laid l n list
unfolding laid_number
laid_passed l n first list s e = record { shaped = s; logs = walk_low l n first list (or_passed (walk_number l n first list) (rises_number first list) e).0 }

pub plan-passed : (l n : ℕ) (list : List ℕ) → plan_number l n list ≡ 0 → Planned l n list × (laid_number l n (count_of list) list ≡ 0)
unfolding plan_number
plan-passed l n list e =
    let a = or_passed (shape_number l n list) (laid_number l n (count_of list) list) e in
    (shape_passed l n list a.0, a.1)

pub plan_laid : (l n : ℕ) (list : List ℕ) → plan_number l n list ≡ 0 → Laid l n list
plan_laid l n list e =
    let a = plan-passed l n list e in
    laid_passed l n (count_of list) list (planned-shaped l n list a.0) a.1
