-- What a run over given lists is lent, in words. Document 01: r of n_stack + 1 elements; work buffers of 4·2^n_stack words a stack column, two tables of
-- 4·2^n_lift words per distinct height and four words a column; stack columns of 2^(l_skip+n_stack) rows; one opening a stack column;
-- 2^(l_skip+1) − 1 coefficients of the first polynomial; a (plain, rotated) pair of claims for flagged columns, else one.
use Rattle.std.specs.Prelude.{Result, ℕ, ◌+◌, ◌-◌, ◌*◌, ◌^◌, List}
use Rattle.field.specs.declared.answer.Refusal.{Refusal}
use Rattle.field.specs.Number.{settled}
use Rattle.layout.specs.Triples.{column_count}
use Rattle.layout.specs.Placing.{stack_width}
use Rattle.layout.specs.Lists.{first_count}
use Rattle.layout.specs.ByLists.{whole_number}
use Rattle.weights.specs.ClaimCount.{claim_count}
use Rattle.prover.specs.declared.rooms.RunRoom.{RunRoom}
use Rattle.prover.specs.Slots.{table_size}

-- of lists that make so many stack columns, table entries, columns and claims
abbrev pub taken_run : ℕ → ℕ → ℕ → ℕ → ℕ → ℕ → RunRoom
taken_run l n stacked entries columns claims = record {
  r = 4 * (n + 1);
  q_evals = 4 * (stacked * 2 ^ n);
  eq_r = 4 * entries;
  eq_ub = 4 * columns;
  matrices = stacked * 2 ^ (l + n);
  openings = 4 * stacked;
  coefficients = 4 * (2 ^ (l + 1) - 1);
  claims = 4 * claims;
}

unfoldable pub run_room : ℕ → ℕ → List ℕ → List ℕ → Result RunRoom Refusal
run_room l n counts lists =
    settled (whole_number l n counts lists) (taken_run l n (stack_width l n (first_count counts) lists) (table_size l n lists) (column_count lists) (claim_count l n counts lists))
