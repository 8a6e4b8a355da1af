use Prim.Native.Nat.{◌+◌, ◌*◌}
use Rattle.field.specs.Slice.{elem_at}
use Rattle.verifier.proofs.RoundTurns.{carried_start, carried_turn}
use native.Mathlib.Omega.{arith}
use Rattle.verifier.proofs.rounds.carried_claim.Goals as goal

pub loop-j-init : goal.loop-j-init
loop-j-init c = (omega arith, carried_start _ _ _ _ _ c.load-u_0.ensures c.horner_eval-claim.ensures)

pub loop-j-preserved : goal.loop-j-preserved
loop-j-preserved c = (omega arith, carried_turn _ (λ i. elem_at c.args.pairs.now (2 * i)) (λ i. elem_at c.args.pairs.now (2 * i + 1)) (λ i. elem_at c.args.challenges.now (1 + i)) _ c.loop-j.invariant.1 c.load-s_1.ensures c.load-s_2.ensures c.load-u.ensures c.sub-s_0.ensures c.interpolate_quadratic_at_012-claim.ensures)
