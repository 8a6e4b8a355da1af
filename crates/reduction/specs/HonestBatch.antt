-- An honest batch, from its traces to its verdict: stacking of each commitment, start, first polynomial, folds, pairs and openings, the openings of the trace
-- columns, verdict. Nothing on the way is refused.
use Rattle.std.specs.Prelude.{◌≡◌, true, List, [], ◌∷◌, ◌++◌, ℕ, ◌+◌, ◌*◌, ◌^◌, ◌<◌, ◌≤◌, length}
use Rattle.algebra.specs.Polynomial.{All}
use Rattle.field.specs.Slice.{canonical_words, canonical_four}
use Rattle.std.specs.declared.result.Result.TheVariants.{Ok}
use Rattle.layout.specs.Triples.{count_of, width_at, log_at, columns_before}
use Rattle.layout.specs.Logs.{logged}
use Rattle.layout.specs.Stacked.{cells_before}
use Rattle.layout.specs.Stacking.{stacking_number, stacked_into}
use Rattle.weights.specs.ColumnValue.{cell}
use Rattle.verifier.specs.Verdicts.{verdict}
use Rattle.prover.specs.declared.turns.Turn.{Turn}
use Rattle.prover.specs.RowSum.{from_words}
use Rattle.prover.specs.Given.{Given, given, Work, stacked, columns}
use Rattle.prover.specs.Slots.{table_size}
use Rattle.prover.specs.CallNumbers.{coefficients_asked, claims_asked}
use Rattle.prover.specs.FirstCalls.{first_words, claims_words, claims_out, claims_answer}
use Rattle.reduction.specs.Lists.{begun, Started, outcome}
use Rattle.reduction.specs.Verdict.{judged}
use Rattle.reduction.specs.Demand.{sums, ColumnOpenings}
use Rattle.reduction.specs.HonestRun.{follow, honest_tasks, HonestRun}

-- a commitment by its traces: width, height and rotation flag of each matrix; the cells, matrix by matrix and column by column; and the slice that is lent
-- for its stacked matrix
pub record Commitment : Type 0 where
  pub heights : List ℕ
  pub cells : List ℕ
  pub lent : List ℕ

-- of commitments, one after the other: how many matrices each has, their triples with log heights, their cells, and what stacking leaves
unfoldable pub counts_of : List Commitment → List ℕ
counts_of [] = []
counts_of (c ∷ cs) = count_of c.heights ∷ counts_of cs

unfoldable pub lists_of : List Commitment → List ℕ
lists_of [] = []
lists_of (c ∷ cs) = logged c.heights ++ lists_of cs

unfoldable pub all_cells : List Commitment → List ℕ
all_cells [] = []
all_cells (c ∷ cs) = c.cells ++ all_cells cs

unfoldable pub all_stacked : ℕ → ℕ → List Commitment → List ℕ
all_stacked l n [] = []
all_stacked l n (c ∷ cs) = stacked_into l n c.heights c.cells c.lent ++ all_stacked l n cs

-- the stacking of each is accepted; the commitments after the first, 15 at most, have one matrix each
pub record Traces (l n : ℕ) (first : Commitment) (later : List Commitment) : Type 0 where
  pub accepted : All (λ c. stacking_number l n c.heights c.cells (length c.lent) ≡ 0) (first ∷ later)
  pub single : All (λ c. count_of c.heights ≡ 1) later
  pub few : length later ≤ 15

-- r, lambda, u_0 and a challenge a round, of their lengths and in words below p
pub record Drawn (n : ℕ) (r lambda u : List ℕ) (vs : List (List ℕ)) : Type 0 where
  pub point : length r ≡ 4 * (n + 1)
  pub point_words : canonical_words r ≡ true
  pub lambda_words : canonical_four lambda ≡ true
  pub first : canonical_four u ≡ true
  pub many : length vs ≡ n
  pub rounds : All (λ v. canonical_four v ≡ true) vs

-- work buffers of the lengths that are asked
pub record Room (g : Given) (w : Work) : Type 0 where
  pub q : length w.q ≡ 4 * (stacked g * 2 ^ g.stack)
  pub eq : length w.eq ≡ 4 * table_size g.skip g.stack g.lists
  pub rot : length w.rot ≡ 4 * table_size g.skip g.stack g.lists
  pub ub : length w.ub ≡ 4 * columns g

-- a run over lists with log heights, their stacked matrices and their cells
pub record HonestBatch (g : Given) (matrices cells : List ℕ) (t : Turn) (w : Work) (u : List ℕ) (vs : List (List ℕ)) : Type 0 where
  -- start is accepted, and then every call of the run in its order, the first polynomial among them
  pub started : Started g t w
  pub run : HonestRun g (begun g t w) matrices u vs
  -- the openings of the trace columns are accepted too; they are the columns' values at r
  pub openings : (out : List ℕ) → length out ≡ claims_asked g → (claims_answer g matrices out ≡ Ok tt) × (claims_out g matrices out ≡ claims_words g matrices)
  pub openings_true : ColumnOpenings g matrices (claims_words g matrices)
  -- the columns are those of the traces: cell t of column j of matrix i
  pub cells_true : (i j t : ℕ) → i < count_of g.lists → j < width_at g.lists i → t < 2 ^ log_at g.lists i
      → cell (sums g) (from_words matrices) (columns_before g.lists i + j) t
      ≡ from_words cells (cells_before g.lists i + (j * 2 ^ log_at g.lists i + t))
  -- on what the run returned and these openings the verdict is yes
  pub yes : (observed : List ℕ) → length observed ≡ coefficients_asked g + 8 * g.stack + 4 * stacked g
      → (verdict (judged g (outcome (begun g t w) (follow g (honest_tasks g matrices u vs))) run.finished.0 (claims_words g matrices) (first_words g matrices) observed)
      ).answer ≡ Ok tt

-- what the calls of a batch are given
abbrev pub batch_given : ℕ → ℕ → List Commitment → List ℕ → List ℕ → Given
batch_given l n cs r lambda = given l n (counts_of cs) (lists_of cs) r lambda

-- for every batch
abbrev pub Batches : Type 0
Batches =
    (l n : ℕ) (first : Commitment) (later : List Commitment) → Traces l n first later → (r lambda u : List ℕ) (vs : List (List ℕ)) → Drawn n r lambda u vs
    → (t : Turn) (w : Work) → Room (batch_given l n (first ∷ later) r lambda) w
    → HonestBatch (batch_given l n (first ∷ later) r lambda) (all_stacked l n (first ∷ later)) (all_cells (first ∷ later)) t w u vs
