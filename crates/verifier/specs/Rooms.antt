-- What a verdict over given lists is lent, in words. Document 01: r and u_0 to u_n_stack; a (plain, rotated) pair of claims for flagged columns, else one;
-- 2^(l_skip+1) − 1 coefficients, n_stack pairs, one opening a stack column; observed are coefficients, pairs, openings.
use Rattle.std.specs.Prelude.{Result, List, ℕ, ◌+◌, ◌-◌, ◌*◌, ◌^◌}
use Rattle.field.specs.declared.answer.Refusal.{Refusal}
use Rattle.field.specs.Number.{settled}
use Rattle.layout.specs.Placing.{stack_width}
use Rattle.layout.specs.Lists.{first_count}
use Rattle.layout.specs.ByLists.{whole_number}
use Rattle.weights.specs.ClaimCount.{claim_count}
use Rattle.verifier.specs.declared.rooms.VerdictRoom.{VerdictRoom}

-- of lists that make so many stack columns and claims
abbrev pub taken_verdict : ℕ → ℕ → ℕ → ℕ → VerdictRoom
taken_verdict l n stacked claims = record {
  challenges = 4 * (n + 1);
  claims = 4 * claims;
  coefficients = 4 * (2 ^ (l + 1) - 1);
  pairs = 8 * n;
  openings = 4 * stacked;
  observed = 4 * (2 ^ (l + 1) - 1) + 8 * n + 4 * stacked;
}

unfoldable pub verdict_room : ℕ → ℕ → List ℕ → List ℕ → Result VerdictRoom Refusal
verdict_room l n counts lists = settled (whole_number l n counts lists) (taken_verdict l n (stack_width l n (first_count counts) lists) (claim_count l n counts lists))
