-- What follows for an honest batch: its openings are sums over the cells of its traces, and on what its calls return the verdict is yes.
use mathlib.Core.Path.{◌≡◌, sym, ◌∙◌, ap}
use mathlib.Core.List.{List, ◌∷◌}
use mathlib.Core.Option.{some}
use Prim.Native.Nat.{ℕ, ◌+◌, ◌*◌, ◌^◌, ◌<◌}
use native.Mathlib.Omega.{arith}
use lib.ListN.{length}
use Rattle.algebra.specs.Sum.{sum}
use Rattle.algebra.proofs.Sums.{sum_cong_below}
use Rattle.field.specs.Element.{F, half_elem, ◌⊗◌}
use Rattle.field.specs.Powers.{root}
use Rattle.field.specs.Slice.{elem_at}
use Rattle.std.specs.declared.result.Result.TheVariants.{Ok}
use Rattle.layout.specs.declared.columns.Column.{Column}
use Rattle.layout.specs.Triples.{count_of, width_at, log_at, columns_before}
use Rattle.layout.specs.Stacked.{cells_before}
use Rattle.layout.proofs.Nexts.{before_after}
use Rattle.weights.specs.ColumnFactor.{column_factor}
use Rattle.weights.specs.ColumnValue.{cell, column_value}
use Rattle.weights.specs.LambdaPowers.{claims_before}
use Rattle.verifier.specs.Verdicts.{verdict}
use Rattle.prover.specs.declared.turns.Turn.{Turn}
use Rattle.prover.specs.RowSum.{from_words}
use Rattle.prover.specs.Given.{Given, Work, run, stacked}
use Rattle.prover.specs.CallNumbers.{coefficients_asked, claims_asked}
use Rattle.prover.specs.FirstCalls.{first_words, claims_words, claims_out}
use Rattle.reduction.specs.Calls.{State}
use Rattle.reduction.specs.Lists.{begun, Started, outcome}
use Rattle.reduction.specs.Verdict.{judged}
use Rattle.reduction.specs.HonestRun.{follow, honest_tasks}
use Rattle.reduction.specs.HonestBatch.{Commitment, all_cells, all_stacked, Traces, Drawn, Room, HonestBatch, batch_given}
use Rattle.reduction.proofs.Batches.{is_at}
use Rattle.reduction.proofs.Demands.{demand}

module _ (l n : ℕ) (first : Commitment) (later : List Commitment) (traces : Traces l n first later) (r lambda u : List ℕ) (vs : List (List ℕ))
    (drawn : Drawn n r lambda u vs) (t : Turn) (w : Work) (room : Room (batch_given l n (first ∷ later) r lambda) w) where
  abbrev g : Given
  g = batch_given l n (first ∷ later) r lambda

  abbrev matrices : List ℕ
  matrices = all_stacked l n (first ∷ later)

  abbrev cells : List ℕ
  cells = all_cells (first ∷ later)

  batch : HonestBatch g matrices cells t w u vs
  batch = demand.batch l n first later traces r lambda u vs drawn t w room

  abbrev left : State
  left = outcome (begun g t w) (follow g (honest_tasks g matrices u vs))

  pub batch_starts : Started g t w
  batch_starts = batch.started

  -- what its calls return, to the verdict: the first polynomial and the openings of the list, and what `column_openings` leaves in a slice
  pub batch_yes : (out observed : List ℕ) → length out ≡ claims_asked g → length observed ≡ coefficients_asked g + 8 * g.stack + 4 * stacked g
      → (o c : List ℕ) × (left.openings ≡ some o) × (left.first ≡ some c) × ((verdict (judged g left o (claims_out g matrices out) c observed)).answer ≡ Ok tt)
  batch_yes out observed asked room-there = (
    batch.run.finished.0,
    first_words g matrices,
    batch.run.finished.1,
    batch.run.first,
    ap (λ claims. (verdict (judged g left batch.run.finished.0 claims (first_words g matrices) observed)).answer) (batch.openings out asked).1 ∙ batch.yes observed room-there,
  )

  -- the opening of column j of matrix i is the sum over its cells in the traces
  pub opening_of_traces : (i j : ℕ) → i < count_of g.lists → j < width_at g.lists i
      → elem_at (claims_words g matrices) (claims_before (run g) (columns_before g.lists i + j))
      ≡ sum F (2 ^ log_at g.lists i) (λ t.
      from_words cells (cells_before g.lists i + (j * 2 ^ log_at g.lists i + t)) ⊗ column_factor F half_elem (root l) (run g) (log_at g.lists i) t)
  unfolding column_value
  opening_of_traces i j there within =
      batch.openings_true.plain k (omega (arith, before_after g.lists i (count_of g.lists) there))
      ∙ ap (λ h. sum F (2 ^ h) (λ t. cell (run g) (from_words matrices) k t ⊗ column_factor F half_elem (root l) (run g) h t)) height_is
      ∙ sum_cong_below F (2 ^ log_at g.lists i) (λ t inside. ap (λ x. x ⊗ column_factor F half_elem (root l) (run g) (log_at g.lists i) t) (batch.cells_true i j t there within inside))
    where
      k : ℕ
      k = columns_before g.lists i + j

      height_is : (run g).log k ≡ log_at g.lists i
      height_is = sym (ap (λ (c : Column). c.log) (is_at l n first later traces r lambda u vs drawn i j there within))
