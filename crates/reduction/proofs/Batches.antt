-- An honest batch is accepted from its traces to its verdict.
use mathlib.Core.Path.{◌≡◌, refl, sym, ◌∙◌, ap, ap₂, subst}
use mathlib.Core.List.{List, ◌∷◌}
use Prim.Native.Nat.{ℕ, suc, ◌+◌, ◌-◌, ◌*◌, ◌/◌, ◌%◌, ◌^◌, ◌<◌}
use native.Mathlib.Nat
use native.Mathlib.Omega.{arith}
use lib.ListN.{length}
use borrow.Author.Tests.{eq-eqb}
use Rattle.field.specs.Word.{word_of}
use Rattle.field.specs.Element.{from_word}
use Rattle.std.specs.declared.result.Result.TheVariants.{Ok}
use Rattle.field.proofs.ElementWords.{length-elem_words}
use Rattle.layout.specs.declared.columns.Column.{Column}
use Rattle.field.specs.Number.{settled, refusal_of, refusals}
use Rattle.layout.specs.Answers.{answer_of}
use Rattle.layout.specs.Triples.{count_of, width_at, log_at, columns_before}
use Rattle.layout.specs.Placing.{height, matrix_start, column_start}
use Rattle.layout.specs.Columns.{column_of, column_at, is_placed}
use Rattle.layout.specs.Lists.{first_count}
use Rattle.layout.specs.Stacked.{cells_of, cells_before, stride_of}
use Rattle.layout.proofs.Firsts.{and_all}
use Rattle.layout.proofs.InOrder.{is_column_lem}
use Rattle.layout.proofs.Nexts.{placed_at}
use Rattle.layout.proofs.Parts.{start_multiple}
use Rattle.layout.proofs.Fills.{stride-slice}
use Rattle.weights.specs.StackColumns.{stack_rows}
use Rattle.weights.specs.ColumnValue.{cell}
use Rattle.weights.specs.AtField.{first_coefficient_f}
use Rattle.verifier.specs.Verdicts.{verdict}
use Rattle.prover.specs.declared.turns.Turn.{Turn}
use Rattle.prover.specs.RowSum.{from_words}
use Rattle.prover.specs.Given.{Given, Work, run, stacked}
use Rattle.prover.specs.CallNumbers.{coefficients_asked, claims_asked}
use Rattle.prover.specs.Calls.{step_of}
use Rattle.prover.specs.FirstCalls.{first_words, claims_words, claims_out, claims_answer}
use Rattle.reduction.specs.Lists.{begun, Started, outcome}
use Rattle.reduction.specs.Verdict.{judged}
use Rattle.reduction.specs.HonestRun.{follow, honest_tasks, Lent, HonestRun}
use Rattle.reduction.specs.HonestBatch.{Commitment, all_cells, all_stacked, Traces, Drawn, Room, HonestBatch, batch_given, Batches}
use Rattle.reduction.proofs.FoldedWork.{leaves_new}
use Rattle.reduction.proofs.CallNumbers.{Begun}
use Rattle.reduction.proofs.Accepted.{start_accepted, claims_accepted}
use Rattle.reduction.proofs.FirstWords.{column-openings}
use Rattle.reduction.proofs.HonestRuns.{honest-run}
use Rattle.reduction.proofs.ListDemands.{every_list}
use Rattle.reduction.proofs.BatchLists.{batch_stacks, counts_are, lists-count, lists_accepted, sizes_accepted}

module _ (l n : ℕ) (first : Commitment) (later : List Commitment) (traces : Traces l n first later) (r lambda u : List ℕ) (vs : List (List ℕ))
    (drawn : Drawn n r lambda u vs) where
  abbrev g : Given
  g = batch_given l n (first ∷ later) r lambda

  abbrev matrices : List ℕ
  matrices = all_stacked l n (first ∷ later)

  abbrev cells : List ℕ
  cells = all_cells (first ∷ later)

  abbrev k : ℕ
  k = count_of first.heights

  start : Begun g
  start =
      record {
        lists = lists_accepted l n first later traces;
        sizes = sizes_accepted l n first later traces;
        point = drawn.point;
        r_words = drawn.point_words;
        lambda_words = drawn.lambda_words;
      }

  -- the stacked matrices have the lists' shape
  matrices-size : length matrices ≡ stacked g * 2 ^ (l + n)
  matrices-size =
      let s = batch_stacks l n first later traces in
      let last : matrix_start l n (first_count g.counts) g.lists (count_of g.lists) ≡ length matrices
      = ap₂ (λ f m. matrix_start l n f g.lists m) (counts_are l n first later traces).0 (lists-count l n first later traces) ∙ s.ends in
      let whole = start_multiple l n (first_count g.counts) g.lists (count_of g.lists) (omega (arith, (counts_are l n first later traces).0, lists-count l n first later traces)) in
      sym last ∙ omega (arith, Nat.div-add-mod' (matrix_start l n (first_count g.counts) g.lists (count_of g.lists)) (height l n), whole)

  lent : Lent g matrices u vs
  lent =
      record {
        size = matrices-size;
        words = (batch_stacks l n first later traces).below;
        first = drawn.first;
        many = drawn.many;
        later = drawn.rounds;
      }

  -- column j of matrix i
  module _ (i j : ℕ) (there : i < count_of g.lists) (within : j < width_at g.lists i) where
    abbrev f : ℕ
    f = first_count g.counts

    abbrev h : ℕ
    h = log_at g.lists i

    pub is_at : column_of l n f g.lists i j ≡ column_at l n f g.lists (columns_before g.lists i + j)
    unfolding is_placed
    is_at =
        placed_at l n f g.lists (column_of l n f g.lists i j)
        (and_all _ _ (is_column_lem l n f g.lists i j there within) (eq-eqb (column_start l n f g.lists i j) (column_start l n f g.lists i j) refl))

    -- where its cell t stands in the stacked matrices
    place : (t : ℕ) (c : Column) → c ≡ column_of l n f g.lists i j
        → c.start / height l n * height l n + (c.start % height l n + 2 ^ (l - c.log) * t) ≡ matrix_start l n k g.lists i + (j * 2 ^ h + t) * stride_of l h
    place t c e =
        ap (λ (c : Column). c.start / height l n * height l n + (c.start % height l n + 2 ^ (l - c.log) * t)) e
        ∙ omega (
          arith,
          Nat.div-add-mod' (column_start l n f g.lists i j) (height l n),
          ap (λ m. matrix_start l n m g.lists i) (counts_are l n first later traces).0,
          Nat.add-mul (j * 2 ^ h) t (stride_of l h),
          Nat.mul_assoc j (2 ^ h) (stride_of l h),
          ap (λ x. j * x) (stride-slice l h),
          Nat.mul_comm (2 ^ (l - h)) t,
        )

    cell-true : (t : ℕ) → t < 2 ^ h → cell (run g) (from_words matrices) (columns_before g.lists i + j) t ≡ from_words cells (cells_before g.lists i + (j * 2 ^ h + t))
    unfolding cell stack_rows cells_of
    cell-true t inside =
        ap (from_words matrices) (place t (column_at l n f g.lists (columns_before g.lists i + j)) (sym is_at))
        ∙ ap from_word (ap word_of ((batch_stacks l n first later traces).cell i (j * 2 ^ h + t) (omega (arith, lists-count l n first later traces)) small))
      where
        small : j * 2 ^ h + t < cells_of g.lists i
        small = omega (arith, Nat.mul-le-mul_right {m = suc j} {n = width_at g.lists i} (2 ^ h) within, Nat.suc-mul j (2 ^ h))

  module _ (t : Turn) (w : Work) (room : Room g w) where
    begins : Started g t w
    unfolding step_of answer_of settled refusal_of refusals
    begins = ap answer_of (start_accepted g start w room)

    ran : HonestRun g (begun g t w) matrices u vs
    ran = honest-run g t w begins matrices u vs lent

    opens : (out : List ℕ) → length out ≡ claims_asked g → (claims_answer g matrices out ≡ Ok tt) × (claims_out g matrices out ≡ claims_words g matrices)
    unfolding claims_out answer_of settled refusal_of refusals
    opens out size =
        let e = claims_accepted g start matrices out matrices-size lent.words size in
        (ap answer_of e, leaves_new _ (claims_words g matrices) out e)

    agreed : (observed : List ℕ) → length observed ≡ coefficients_asked g + 8 * g.stack + 4 * stacked g
        → (verdict (judged g (outcome (begun g t w) (follow g (honest_tasks g matrices u vs))) ran.finished.0 (claims_words g matrices) (first_words g matrices) observed)
        ).answer ≡ Ok tt
    unfolding first_words
    agreed observed size =
        subst (λ ms. (verdict (judged g (outcome (begun g t w) (follow g (honest_tasks g matrices u vs))) ran.finished.0 (claims_words g ms) (first_words g matrices) observed)).answer ≡ Ok tt)
        ran.lent
        ((every_list g t w begins (follow g (honest_tasks g matrices u vs)) ran.proper).accepted ran.finished.0 (first_words g matrices) ran.finished.1
        ran.first observed
        (size ∙ ap (λ m. m + 8 * g.stack + 4 * stacked g) (sym (length-elem_words (2 ^ (l + 1) - 1) (first_coefficient_f (run g) (from_words matrices))))))

    honest_batch : HonestBatch g matrices cells t w u vs
    honest_batch =
        record { started = begins; run = ran; openings = opens; openings_true = column-openings g matrices; cells_true = λ i j t there within. cell-true i j there within t; yes = agreed }

pub batches : Batches
batches = honest_batch
