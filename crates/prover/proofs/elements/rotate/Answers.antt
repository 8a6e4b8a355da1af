use Rattle.std.proofs.Common.{arith}
use Rattle.field.proofs.Elements.{canonical_words_lem}
use Rattle.prover.proofs.Writing.{written_none}
use Rattle.prover.proofs.TableTurns.{canonical_from, rows_are, entry-inside, before_inside, rotate_turn}
use Rattle.prover.proofs.elements.rotate.Goals as goal

pub loop-x-init : goal.loop-x-init
loop-x-init c = (rows_are _ c.requires.n_bound, (omega arith, written_none _ _ _))

pub read-k_rot_cube-requires : goal.read-k_rot_cube-requires
read-k_rot_cube-requires c = omega (arith, before_inside _ c.requires.n_bound _ (entry-inside c.loop-x-test.true c.loop-x.invariant.0) c.rot_prev-prev.ensures)

pub sub-d-requires : goal.sub-d-requires
sub-d-requires c = record { canonical = canonical_from _ _ _ _ c.requires.canonical_from (before_inside _ c.requires.n_bound _ (entry-inside c.loop-x-test.true c.loop-x.invariant.0) c.rot_prev-prev.ensures) c.read-k_rot_cube.ensures; canonical_2 = canonical_from _ _ _ _ c.requires.canonical_from (entry-inside c.loop-x-test.true c.loop-x.invariant.0) c.read-eq_cube.ensures }

pub mul-e-requires : goal.mul-e-requires
mul-e-requires c = record { canonical = canonical_from _ _ _ _ c.requires.canonical_from (entry-inside c.loop-x-test.true c.loop-x.invariant.0) c.read-eq_cube.ensures; canonical_2 = c.requires.canonical }

pub mul_add-y-requires : goal.mul_add-y-requires
mul_add-y-requires c = record { canonical = canonical_words_lem _ c.mul-e.ensures; canonical_2 = canonical_words_lem _ c.sub-d.ensures; canonical_3 = c.requires.canonical_2 }

pub write-requires : goal.write-requires
write-requires c = record { i_in_bounds = omega (arith, entry-inside c.loop-x-test.true c.loop-x.invariant.0, c.loop-x.invariant.1.1.length_kept); canonical = canonical_words_lem _ c.mul_add-y.ensures }

pub loop-x-preserved : goal.loop-x-preserved
loop-x-preserved c = (c.loop-x.invariant.0, (omega arith, rotate_turn _ c.requires.n_bound _ _ _ _ c.loop-x.invariant.1.1 (entry-inside c.loop-x-test.true c.loop-x.invariant.0) c.requires.n_in_bounds_2 c.read-eq_cube.ensures c.rot_prev-prev.ensures c.read-k_rot_cube.ensures c.sub-d.ensures c.mul-e.ensures c.mul_add-y.ensures c.write.ensures))
