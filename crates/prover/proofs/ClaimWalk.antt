-- The walk over the columns that writes their openings, over plain variables: what stands after k columns are the true claims of these.
use Rattle.std.proofs.Common.{◌≡◌, ℕ, zero, suc, ◌+◌, ◌-◌, ◌*◌, ◌^◌, ◌<◌, ◌≤◌, min, Bool, true, eqb, Option, None, Some, List, [], length, sym, refl, ap, ◌∙◌, subst, ap₂, arith, eqb-true, true≢false}
use mathlib.Core.Path.{subst⁻¹}
use Rattle.std.specs.Option.{option_eq}
use native.Mathlib.Nat
use Rattle.algebra.proofs.Sums.{sum_cong}
use Rattle.field.specs.Element.{Elem, F, ◌⊗◌, half_elem}
use Rattle.field.specs.Powers.{root}
use Rattle.field.specs.Slice.{elem_words}
use Rattle.layout.specs.Triples.{column_count}
use Rattle.layout.specs.declared.columns.Column.{Column}
use Rattle.layout.specs.Columns.{column_at}
use Rattle.tables.specs.Lagrange.{lagrange}
use Rattle.tables.specs.Root.{Skip}
use Rattle.tables.proofs.FieldSkip.{field_skip}
use Rattle.weights.specs.Run.{Run}
use Rattle.weights.specs.RunOf.{run_of}
use Rattle.weights.specs.Fits.{Fits}
use Rattle.weights.specs.LambdaPowers.{claims_of, claims_before}
use Rattle.weights.specs.ColumnFactor.{raised}
use Rattle.weights.specs.Parts.{table_rows}
use Rattle.weights.specs.AtField.{column_value_f, column_rotated_f, true_claim_f}
use Rattle.weights.proofs.FieldRoots.{root_order}
use Rattle.weights.proofs.ClaimCounts.{claims_one, few_claims, claims_start, claims_turn, claims-inside}
use Rattle.weights.proofs.ClaimLists.{claims-plain, claims-rotated}
use Rattle.weights.proofs.OpeningRows.{opening_plain, opening_rotated, table_for}
use Rattle.prover.specs.Written.{Written}
use Rattle.prover.specs.RowSum.{from_words}
use Rattle.prover.specs.KernelTables.{OrderKernels}
use Rattle.prover.specs.ColumnOpenings.{rotated_row, raised_point, opened}
use Rattle.prover.specs.StridedSum.{plain_row, turned_row}
use Rattle.prover.specs.Live.{Placed}
use Rattle.prover.proofs.Writing.{written_none, written_next, written_whole}
use Rattle.prover.proofs.HeightScales.{all_written}
use Rattle.prover.proofs.ColumnParts.{plain_strided, turned_strided}

flagged : (f : ℕ) → 1 < claims_of f → 0 < f
flagged zero h = absurd (omega (arith, claims_one 0 refl))
flagged (suc f) h = omega arith

-- a column's openings are its value at r and the one with its rows turned
module _ (l n first : ℕ) (lists r lambda q : List ℕ) (low : l ≤ 10) (k : ℕ) (fits : Fits l n (column_at l n first lists k).log (column_at l n first lists k).start) where
  abbrev run : Run Elem
  run = run_of l n first lists r lambda

  abbrev h : ℕ
  h = run.log k

  abbrev s : ℕ
  s = run.start k

  generator : raised F run h (root l) ≡ root (min l h)
  unfolding raised
  generator = root_order l h (omega arith)

  opened-plain : opened l h s r q 0 ≡ column_value_f run (from_words q) k
  unfolding opened raised plain_row
  opened-plain =
      sum_cong F (2 ^ min l h) (λ t. ap₂ (λ w v. lagrange F half_elem (min l h) w t (raised_point l h s r q) ⊗ v) (sym generator) (sym (plain_strided l n first lists r lambda q k fits (2 ^ (l - h) * t))))
      ∙ sym (opening_plain F half_elem (root l) run (from_words q) k fits)

  opened-rotated : opened l h s r q 1 ≡ column_rotated_f run (from_words q) k
  unfolding opened raised plain_row turned_row rotated_row
  opened-rotated =
      sum_cong F (2 ^ min l h) (λ t. ap₂ (λ w v. lagrange F half_elem (min l h) w t (w ⊗ raised_point l h s r q) ⊗ v) (sym generator) (row t))
      ∙ sym (opening_rotated F half_elem (root l) run (from_words q) k fits skip)
    where
      skip : Skip F half_elem (min l h) (raised F run h (root l))
      skip = subst⁻¹ (Skip F half_elem (min l h)) generator (field_skip (min l h) (omega arith))

      row : (t : ℕ) → rotated_row l h s r q t ≡ table_rows F run (from_words q) (table_for F half_elem (root l) run (from_words q) k fits t) k (2 ^ (l - h) * t)
      row zero =
          sym (turned_strided l n first lists r lambda q k fits 0)
          ∙ ap (table_rows F run (from_words q) (table_for F half_elem (root l) run (from_words q) k fits 0) k) {x = 0} {y = 2 ^ (l - h) * 0} (omega arith)
      row (suc t) = sym (plain_strided l n first lists r lambda q k fits (2 ^ (l - h) * suc t))

  -- the claims of column k
  column-claim : k < column_count lists → (j : ℕ) → j < claims_of (run.flag k) → opened l h s r q j ≡ true_claim_f run (from_words q) (claims_before run k + j)
  column-claim i zero b =
      opened-plain ∙ sym (claims-plain F half_elem (root l) run (from_words q) k i) ∙ ap (true_claim_f run (from_words q)) (sym (Nat.add-zero (claims_before run k)))
  column-claim i (suc zero) b = opened-rotated ∙ sym (claims-rotated F half_elem (root l) run (from_words q) k i (flagged (run.flag k) b))
  column-claim i (suc (suc j)) b = absurd (omega (arith, few_claims (run.flag k) refl))

-- the first k columns' claims, of which there are i
pub record Claimed (l n first : ℕ) (lists r q out : List ℕ) (k i : ℕ) (new : List ℕ) : Type 0 where
  pub index : (lambda : List ℕ) → i ≡ claims_before (run_of l n first lists r lambda) k
  pub written : (lambda : List ℕ) → Written out 0 i (true_claim_f (run_of l n first lists r lambda) (from_words q)) new

module _ {l n first columns stacked : ℕ} {lists : List ℕ} (placed : Placed l n first lists columns stacked) (r q out : List ℕ) where
  pub claimed_start : Claimed l n first lists r q out 0 0 out
  claimed_start = record { index = λ lambda. claims_start (run_of l n first lists r lambda); written = λ lambda. written_none out 0 _ }

  module _ (k : ℕ) (there : k < columns) {c : Column} (here : c ≡ column_at l n first lists k) {i : ℕ} {mid : List ℕ} (done : Claimed l n first lists r q out k i mid) where
    inside : k < column_count lists
    inside = omega (arith, placed.walked.all)

    flag_is : c.flag ≡ (column_at l n first lists k).flag
    flag_is = ap (λ (x : Column). x.flag) here

    pub claimed_turn : {m : ℕ} {new : List ℕ} → m ≡ claims_of c.flag → Written mid i (claims_of c.flag) (opened l c.log c.start r q) new
        → Claimed l n first lists r q out (k + 1) (i + m) new
    claimed_turn {m} {new} em w = record {
      index = λ lambda. claims_turn (run_of l n first lists r lambda) k (done.index lambda) flag_is em;
      written = λ lambda.
          written_next (done.written lambda) (subst (λ (x : ℕ). Written mid x m (opened l c.log c.start r q) new) (sym (Nat.zero-add i)) (all_written mid i m (claims_of c.flag) _ em w))
          (λ j b. ap (λ (x : Column). opened l x.log x.start r q j) here
          ∙ column-claim l n first lists r lambda q placed.limit k (placed.fits k inside) inside j (omega (arith, ap claims_of flag_is))
          ∙ ap (λ a. true_claim_f (run_of l n first lists r lambda) (from_words q) (a + j)) (sym (done.index lambda)));
    }

    -- what column k asks
    pub claims_room : ((lambda : List ℕ) → length out ≡ 4 * claims_before (run_of l n first lists r lambda) columns) → length mid ≡ length out → 4 * (i + claims_of c.flag) ≤ length mid
    claims_room size kept =
        omega (arith, size [], done.index [], ap claims_of flag_is, claims-inside (run_of l n first lists r []) columns k there)

  pub claimed_end : {k i : ℕ} {new : List ℕ} → k ≤ columns → columns ≤ k → Claimed l n first lists r q out k i new
      → ((lambda : List ℕ) → length out ≡ 4 * claims_before (run_of l n first lists r lambda) columns)
      → (lambda : List ℕ) → new ≡ elem_words (claims_before (run_of l n first lists r lambda) columns) (true_claim_f (run_of l n first lists r lambda) (from_words q))
  claimed_end {k} {i} {new} a b done size lambda =
      let all : claims_before (run_of l n first lists r lambda) columns ≡ i
      = ap (claims_before (run_of l n first lists r lambda)) {x = columns} {y = k} (omega arith) ∙ sym (done.index lambda) in
      written_whole (all_written out 0 _ i _ all (done.written lambda)) (size lambda)

-- the kernels of the last order serve a column of the same
pub kernels_known : (order : Option ℕ) {l o : ℕ} {r plain rotated : List ℕ} {same : Bool} → ((m : ℕ) → order ≡ Some m → OrderKernels l m r plain rotated) → same ≡ option_eq eqb order (Some o)
    → same ≡ true → OrderKernels l o r plain rotated
kernels_known None kernels e t = absurd (true≢false (sym t ∙ e))
kernels_known (Some m) {l} {o} kernels e t = kernels o (ap Some (eqb-true m o (sym e ∙ t)))

pub kernels_next : {l o m : ℕ} {r plain rotated : List ℕ} → OrderKernels l o r plain rotated → Some o ≡ Some m → OrderKernels l m r plain rotated
kernels_next {l} {o} {m} {r} {plain} {rotated} kernels e =
    let same : o ≡ m = cc in
    subst (λ m. OrderKernels l m r plain rotated) same kernels

pub kernels_order : {l o : ℕ} (h : ℕ) {r plain rotated : List ℕ} → o ≡ min l h → OrderKernels l o r plain rotated → OrderKernels l (min l h) r plain rotated
kernels_order {l} h {r} {plain} {rotated} e kernels = subst (λ m. OrderKernels l m r plain rotated) e kernels
