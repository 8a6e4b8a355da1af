-- Where the matrices of a plan lie: one after the other, up to the end of the stacked matrix. Assumes nothing.
use Prim.Native.Nat.{ℕ, zero, suc, ◌+◌, ◌-◌, ◌*◌, ◌%◌, ◌^◌, ◌<◌, ◌≤◌}
use mathlib.Core.Path.{◌≡◌, refl, ap, ◌∙◌}
use mathlib.Core.Bool.{not}
use mathlib.Core.List.{List, []}
use native.Mathlib.Nat.{div-add-mod', zero-mod, add-sub_cancel_left}
use native.Mathlib.Omega.{arith}
use lib.ListN.{length, take, drop}
use lib.Dec.{leb, eqb}
use borrow.Author.Tests.{eq-eqb, ne_eqb, eqb-true, eqb-false, leb-false, not-false}
use Rattle.std.specs.declared.result.Result.TheVariants.{Ok, Err}
use Rattle.field.specs.Slice.{canonical_words}
use Rattle.field.specs.declared.answer.Refusal.{Refusal}
use Rattle.field.proofs.Settled.{number_of_done, value_of_done, number_of_refused}
use Rattle.layout.specs.declared.stacked_pcs.StackedSlice.{StackedSlice}
use Rattle.layout.specs.declared.stacked_pcs.MatPlace.{MatPlace}
use Rattle.layout.specs.Checks.{refuse}
use Rattle.layout.specs.Triples.{count_of, width_at, log_at, columns_before}
use Rattle.layout.specs.Placing.{height, slice_length, matrix_length, matrix_start, column_start, stack_width}
use Rattle.layout.specs.Refusals.{plan_number, triple_number}
use Rattle.layout.specs.Slice.{slice_at}
use Rattle.layout.specs.Getting.{get_number}
use Rattle.layout.specs.Viewing.{view_number, mat_place_of, view_of}
use Rattle.layout.proofs.Firsts.{or_passed, is_false}
use Rattle.layout.proofs.Slices.{opened_past, opened_later, round_multiple}
use Rattle.layout.proofs.Turns.{before_mono}
use Rattle.layout.proofs.Passed.{plan_laid}
use Rattle.layout.proofs.InOrder.{start_bound, columns-small}
use Rattle.layout.proofs.Packing.{of_packable}

-- matrices do not overlap
pub matrix_ends : (l n first : ℕ) (list : List ℕ) (i : ℕ) → matrix_start l n first list i + matrix_length l list i ≤ matrix_start l n first list (suc i)
unfolding matrix_start
matrix_ends l n first list i = opened_past l n first (suc i) (matrix_start l n first list i + matrix_length l list i)

starts_more : (l n first : ℕ) (list : List ℕ) (i k : ℕ) → matrix_start l n first list i ≤ matrix_start l n first list (k + i)
starts_more l n first list i zero =
    let e : 0 + i ≡ i = omega arith in
    omega (arith, ap (matrix_start l n first list) e)
starts_more l n first list i (suc k) =
    let e : suc k + i ≡ suc (k + i) = omega arith in
    omega (arith, starts_more l n first list i k, matrix_ends l n first list (k + i), ap (matrix_start l n first list) e)

pub starts_mono : (l n first : ℕ) (list : List ℕ) (i j : ℕ) → i ≤ j → matrix_start l n first list i ≤ matrix_start l n first list j
starts_mono l n first list i j h =
    let e : (j - i) + i ≡ j = omega arith in
    omega (arith, starts_more l n first list i (j - i), ap (matrix_start l n first list) e)

-- after the first commitment a start is the start of a stack column
pub start_multiple : (l n first : ℕ) (list : List ℕ) (i : ℕ) → first ≤ i → matrix_start l n first list i % height l n ≡ 0
unfolding matrix_start
start_multiple l n first list zero h = omega (arith, zero-mod (height l n))
start_multiple l n first list (suc i) h =
    ap (λ (x : ℕ). x % height l n) (opened_later l n first (suc i) _ h) ∙ round_multiple (height l n) (matrix_start l n first list i + matrix_length l list i)

-- the stacked matrix ends where its last stack column does
pub width-cells : (l n : ℕ) (list : List ℕ) (end : ℕ) → end ≡ matrix_start l n (count_of list) list (count_of list) → end ≡ stack_width l n (count_of list) list * height l n
width-cells l n list end e =
    omega (arith, e, start_multiple l n (count_of list) list (count_of list) (omega arith), div-add-mod' (matrix_start l n (count_of list) list (count_of list)) (height l n))

-- `get`
module _ (l n : ℕ) (list : List ℕ) (i j : ℕ) where
  pub record Gettable : Type 0 where
    pub plan : plan_number l n list ≡ 0
    pub there : i < count_of list
    pub within : j < width_at list i

  pub get_passed : get_number l n list i j ≡ 0 → Gettable
  unfolding get_number
  get_passed e =
      let a = or_passed (plan_number l n list) _ e in
      let b = or_passed (triple_number list) _ a.1 in
      let c = or_passed (refuse 11 (leb (count_of list) i)) _ b.1 in
      record { plan = a.0; there = leb-false _ _ (is_false 11 _ (omega arith) c.0); within = leb-false _ _ (is_false 11 _ (omega arith) c.1) }

  pub got_slice : (s len : ℕ) (r : StackedSlice) → s ≡ matrix_start l n (count_of list) list i → len ≡ slice_length l (log_at list i)
      → r ≡ slice_at l n (s + j * len) (log_at list i) → r ≡ slice_at l n (column_start l n (count_of list) list i j) (log_at list i)
  got_slice s len r f g h = cc

  module _ (ok : Gettable) (s len : ℕ) (is : s ≡ matrix_start l n (count_of list) list i) (long : len ≡ slice_length l (log_at list i)) where
    pub get_cells : j * len ≤ 2 ^ 36
    get_cells =
        omega (arith, ap (λ (x : ℕ). j * x) long, columns-small l n (count_of list) list (plan_laid l n list ok.plan) i j ok.there ok.within)

    pub get_small : s ≤ 2 ^ 60
    get_small =
        omega (arith, is, start_bound l n (count_of list) list (plan_laid l n list ok.plan) i (omega (arith, ok.there)), (plan_laid l n list ok.plan).shaped.few, ok.there)

    pub get_room : s + j * len < 65536 * height l n
    unfolding columns_before
    get_room =
        omega (
          arith,
          is,
          ap (λ (x : ℕ). j * x) long,
          (of_packable l n list ok.plan i j ok.there ok.within
              (omega (arith, before_mono list (suc i) (count_of list) ok.there, ok.within))).stack,
        )

-- `mat_place`
pub place_made : (l n : ℕ) (list : List ℕ) (i s len : ℕ) → s ≡ matrix_start l n (count_of list) list i → len ≡ matrix_length l list i
    → ◌≡◌ {A = MatPlace} (record { start = s; len = len }) (record { start = matrix_start l n (count_of list) list i; len = matrix_length l list i })
place_made l n list i s len f g = cc

-- `mat_view`
module _ (l n : ℕ) (list stacked : List ℕ) (i : ℕ) where
  pub record Viewable : Type 0 where
    pub plan : plan_number l n list ≡ 0
    pub size : length stacked ≡ stack_width l n (count_of list) list * height l n
    pub there : i < count_of list
    pub some : width_at list i ≡ 0 → ⊥

  pub view_passed : view_number l n list stacked i ≡ 0 → Viewable
  unfolding view_number
  view_passed e =
      let a = or_passed (plan_number l n list) _ e in
      let b = or_passed (triple_number list) _ a.1 in
      let c = or_passed (refuse 9 (not (eqb (length stacked) (stack_width l n (count_of list) list * height l n)))) _ b.1 in
      let d = or_passed (refuse 10 (not (canonical_words stacked))) _ c.1 in
      let f = or_passed (refuse 11 (leb (count_of list) i)) _ d.1 in
      record {
        plan = a.0;
        size = eqb-true _ _ (not-false _ (is_false 9 _ (omega arith) c.0));
        there = leb-false _ _ (is_false 11 _ (omega arith) f.0);
        some = eqb-false _ _ (is_false 11 _ (omega arith) f.1);
      }

  -- the part lies in the stacked matrix
  pub view_inside : Viewable → matrix_start l n (count_of list) list i + matrix_length l list i ≤ length stacked
  view_inside v =
      omega (arith, v.size, width-cells l n list _ refl, matrix_ends l n (count_of list) list i, starts_mono l n (count_of list) list (suc i) (count_of list) v.there)

  -- what the place says of the part, and that there is none where it is refused
  module _ (p : MatPlace) (is : mat_place_of l n list stacked i ≡ Ok p) where
    place_found : view_number l n list stacked i ≡ 0
    unfolding mat_place_of
    place_found = number_of_done _ _ is

    place_is : record { start = matrix_start l n (count_of list) list i; len = matrix_length l list i } ≡ p
    unfolding mat_place_of
    place_is = value_of_done _ (view_number l n list stacked i) is

    pub part-inside : p.start + p.len ≤ length stacked
    part-inside = omega (arith, ap (λ (x : MatPlace). x.start) place_is, ap (λ (x : MatPlace). x.len) place_is, view_inside (view_passed place_found))

    pub part_is : take (p.start + p.len - p.start) (drop p.start stacked) ≡ view_of l n list stacked i
    unfolding view_of
    part_is = simp (eq-eqb (view_number l n list stacked i) 0 place_found, ← place_is, add-sub_cancel_left)

  pub part_none : {e : Refusal} → mat_place_of l n list stacked i ≡ Err e → [] ≡ view_of l n list stacked i
  unfolding mat_place_of view_of
  part_none h = simp (ne_eqb (view_number l n list stacked i) 0 (number_of_refused _ _ h))
