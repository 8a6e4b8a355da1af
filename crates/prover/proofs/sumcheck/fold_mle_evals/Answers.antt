use Rattle.std.proofs.Common.{◌+◌, ◌*◌, arith}
use Rattle.field.proofs.Elements.{canonical_words_lem}
use Rattle.prover.proofs.Writing.{written_none}
use Rattle.prover.proofs.MleFolds.{read_canonical, fold_turn_lem, fold_end}
use Rattle.prover.proofs.sumcheck.fold_mle_evals.Goals as goal

pub loop-y-init : goal.loop-y-init
loop-y-init c = (omega arith, written_none _ _ _)

pub line_at-e-requires : goal.line_at-e-requires
line_at-e-requires c = record { canonical = read_canonical _ _ _ _ (2 * c.loop-y.y) c.loop-y.invariant.1 c.requires.canonical_from (omega arith) (omega arith) c.read-lo.ensures; canonical_2 = read_canonical _ _ _ _ (2 * c.loop-y.y + 1) c.loop-y.invariant.1 c.requires.canonical_from (omega arith) (omega arith) c.read-hi.ensures; canonical_3 = c.requires.canonical }

pub write-requires : goal.write-requires
write-requires c = record { i_in_bounds = omega (arith, c.loop-y.invariant.1.length_kept); canonical = canonical_words_lem _ c.line_at-e.ensures }

pub loop-y-preserved : goal.loop-y-preserved
loop-y-preserved c = (omega arith, fold_turn_lem _ _ _ _ c.loop-y.invariant.1 c.loop-y-test.true c.requires.half_in_bounds c.read-lo.ensures c.read-hi.ensures c.line_at-e.ensures c.write.ensures)

pub returns : goal.returns
returns c = fold_end _ _ _ _ c.loop-y.invariant.1 c.loop-y.invariant.0 c.loop-y-test.false c.fill.ensures
