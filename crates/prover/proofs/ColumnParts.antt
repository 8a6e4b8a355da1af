-- The parts that round zero adds up, from the words of the stacked matrices: a column's rows are words at a stride, from its first cell on.
use Rattle.std.proofs.Common.{◌≡◌, ℕ, suc, ◌+◌, ◌-◌, ◌*◌, ◌/◌, ◌^◌, ◌<◌, ◌≤◌, List, take, sym, ap, ◌∙◌, subst, ap₂, arith, take_at}
use native.Mathlib.Nat
use Rattle.algebra.specs.Multilinear.{cube_factor}
use Rattle.algebra.proofs.Lists.{listed_append}
use Rattle.algebra.proofs.Powers.{two_pow-add}
use Rattle.algebra.proofs.Sums.{sum_cong}
use Rattle.field.specs.Element.{Elem, F, ◌⊗◌}
use Rattle.field.specs.Slice.{elem_at}
use Rattle.layout.specs.Triples.{column_count}
use Rattle.layout.specs.Placing.{row_of}
use Rattle.layout.specs.declared.columns.Column.{Column}
use Rattle.layout.specs.Columns.{column_at}
use Rattle.tables.specs.Index.{before}
use Rattle.tables.specs.Points.{coordinates}
use Rattle.tables.proofs.PointLaws.{coordinates-length}
use Rattle.weights.specs.Run.{Run, stack_of, start_block, lift}
use Rattle.weights.specs.RunOf.{run_of}
use Rattle.weights.specs.ColumnFactor.{lifted_point}
use Rattle.weights.specs.HeightTables.{plain_entry}
use Rattle.weights.specs.StackColumns.{stack_rows}
use Rattle.weights.specs.Fits.{Fits}
use Rattle.weights.specs.Parts.{table_rows, plain_rows, turned_rows}
use Rattle.weights.proofs.Blocks.{row_block, lift_fits}
use Rattle.weights.proofs.WindowSums.{window-inside}
use Rattle.prover.specs.RowSum.{from_words}
use Rattle.prover.specs.StridedSum.{strided_sum}
use Rattle.prover.specs.Live.{Placed}

-- the first cell, from the block of its stack column
start_is : {l n h s : ℕ} → Fits l n h s → s / 2 ^ (l + n) * 2 ^ (l + n) + 2 ^ l * (row_of l n s / 2 ^ l) ≡ s
start_is {l} {n} {h} {s} f = ap (λ m. s / 2 ^ (l + n) * 2 ^ (l + n) + m) (sym (row_block f)) ∙ Nat.div-add-mod' s (2 ^ (l + n))

module _ (run : Run Elem) (q : List ℕ) (k : ℕ) (fits : Fits run.skip run.stack (run.log k) (run.start k)) where
  -- by any table
  pub table_strided : (t v : ℕ → Elem) → ((x : ℕ) → t x ≡ v x) → (i : ℕ)
      → table_rows F run (from_words q) t k i ≡ strided_sum q (run.start k + i) (2 ^ run.skip) v (2 ^ lift run (run.log k))
  unfolding table_rows stack_rows strided_sum
  table_strided t v e i =
      sum_cong F (2 ^ lift run (run.log k)) (λ x. F.mul_comm _ _ ∙ ap₂ (λ j y. from_words q j ⊗ y) (cell x) (e x))
    where
      cell : (x : ℕ) → stack_of run k * 2 ^ (run.skip + run.stack) + (i + 2 ^ run.skip * (start_block run k + x)) ≡ run.start k + i + 2 ^ run.skip * x
      cell x = omega (arith, start_is fits, Nat.mul-add (2 ^ run.skip) (start_block run k) x)

-- a column's unscaled eq table, from the words of r
pub plain_entry_lem : (l n first : ℕ) (lists r lambda : List ℕ) (h : ℕ) → h - l ≤ n → (x : ℕ) → plain_entry F (run_of l n first lists r lambda) h x ≡ cube_factor F (coordinates r 1 (h - l)) x
unfolding plain_entry lifted_point
plain_entry_lem l n first lists r lambda h fits x =
    ap (λ us. cube_factor F us x)
    (ap (λ m. take (h - l) (coordinates r 1 m)) {x = n} {y = h - l + (n - (h - l))} (omega arith)
    ∙ ap (take (h - l)) (listed_append (h - l) (n - (h - l)) (λ j. elem_at r (1 + j))) ∙ take_at (coordinates r 1 (h - l)) _ (h - l) (coordinates-length r 1 (h - l)))

module _ (l n first : ℕ) (lists r lambda q : List ℕ) (k : ℕ) (fits : Fits l n (column_at l n first lists k).log (column_at l n first lists k).start) where
  abbrev run : Run Elem
  run = run_of l n first lists r lambda

  abbrev m : ℕ
  m = (column_at l n first lists k).log - l

  abbrev s : ℕ
  s = (column_at l n first lists k).start

  pub plain_strided : (i : ℕ) → plain_rows F run (from_words q) k i ≡ strided_sum q (s + i) (2 ^ l) (cube_factor F (coordinates r 1 m)) (2 ^ m)
  plain_strided i = table_strided run q k fits _ _ (plain_entry_lem l n first lists r lambda (run.log k) (lift_fits fits)) i

  pub turned_strided : (i : ℕ) → turned_rows F run (from_words q) k i ≡ strided_sum q (s + i) (2 ^ l) (λ x. cube_factor F (coordinates r 1 m) (before (2 ^ m) x)) (2 ^ m)
  turned_strided i = table_strided run q k fits _ _ (λ x. plain_entry_lem l n first lists r lambda (run.log k) (lift_fits fits) (before (2 ^ m) x)) i

-- a column lies inside its stack column
pub words_inside : {l n h s : ℕ} → Fits l n h s → (stacked : ℕ) → s / 2 ^ (l + n) < stacked → s + 2 ^ l * 2 ^ (h - l) ≤ stacked * 2 ^ (l + n)
words_inside {l} {n} {h} {s} f stacked inside =
    omega (arith, start_is f, Nat.mul-le-mul_left (2 ^ l) window, Nat.mul-add (2 ^ l) (row_of l n s / 2 ^ l) (2 ^ (h - l)), two_pow-add l n, Nat.mul-le-mul_right {m = suc (s / 2 ^ (l + n))} {n = stacked} (2 ^ (l + n)) inside, Nat.suc-mul (s / 2 ^ (l + n)) (2 ^ (l + n)))
  where
    window : row_of l n s / 2 ^ l + 2 ^ (h - l) ≤ 2 ^ n
    window =
        omega (arith, window-inside f 0 (omega arith), Nat.div-one (row_of l n s / 2 ^ l), ap (λ a. 2 ^ a) {x = h - l - 0} {y = h - l} (omega arith), ap (λ a. 2 ^ a) {x = n - 0} {y = n} (omega arith))

-- of column k of a run
pub column-inside : {l n first columns stacked : ℕ} {lists : List ℕ} → Placed l n first lists columns stacked → (k : ℕ) → k < columns → {c : Column} → c ≡ column_at l n first lists k
    → c.start + 2 ^ l * 2 ^ (c.log - l) ≤ stacked * 2 ^ (l + n)
column-inside {l} {n} {first} {stacked = stacked} {lists} p k h e =
    let i : k < column_count lists = omega (arith, p.walked.all) in
    subst (λ (x : Column). x.start + 2 ^ l * 2 ^ (x.log - l) ≤ stacked * 2 ^ (l + n)) (sym e) (words_inside (p.fits k i) stacked (p.inside k i))

pub column_lift : {l n first columns stacked : ℕ} {lists : List ℕ} → Placed l n first lists columns stacked → (k : ℕ) → k < columns → {c : Column} → c ≡ column_at l n first lists k → c.log - l ≤ n
column_lift {l} {n} {lists = lists} p k h e =
    let i : k < column_count lists = omega (arith, p.walked.all) in
    subst (λ (x : Column). x.log - l ≤ n) (sym e) (lift_fits (p.fits k i))
