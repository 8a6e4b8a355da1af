use Rattle.layout.proofs.ColumnWalks.{columns_few}
use Rattle.weights.proofs.ClaimCounts.{few_claims, counting_start, counting_turn}
use native.Mathlib.Omega.{arith}
use Rattle.weights.proofs.claims.claim_count.Goals as goal

pub returns-then-columns-gt16838656 : goal.returns-then-columns-gt16838656
returns-then-columns-gt16838656 c = λ walk point lambda. absurd (omega (arith, columns_few walk, c.if-columns-gt16838656.true))

pub loop-init : goal.loop-init
loop-init c = (omega arith, λ walk. counting_start _ _ _ _ walk _ c.walk_first-c.ensures)

pub overflow_add-count : goal.overflow_add-count
overflow_add-count c = omega (arith, few_claims _ c.claims_of-count.ensures)

pub loop-preserved : goal.loop-preserved
loop-preserved c = (
  omega (arith, few_claims _ c.claims_of-count.ensures),
  λ walk. counting_turn _ _ _ _ walk _ _ _ c.loop-test.true (c.loop.invariant.1 walk) c.claims_of-count.ensures c.walk_next-c.ensures,
)
