use Rattle.std.proofs.Common.{arith}
use Rattle.prover.proofs.ElementTables.{table_elements, elements_held, written_table}
use Rattle.prover.proofs.TransformStages.{stage_start, stage_next, stage_even, stage_odd}
use Rattle.prover.proofs.transforms.transform.Goals as goal

pub loop-i-init : goal.loop-i-init
loop-i-init c = stage_start _ _ _ c.requires.elements c.requires.b_len

pub loop-i-preserved : goal.loop-i-preserved
loop-i-preserved c = stage_next _ _ _ _ _ c.requires.l_bound c.loop-i-test.true c.loop-i.invariant c.pass.ensures c.pass-in-loop-i.ensures

pub returns-then-l-eq1 : goal.returns-then-l-eq1
returns-then-l-eq1 c = record { table = stage_odd _ _ _ _ _ c.requires.l_bound c.loop-i-test.false c.if-l-eq1.true c.loop-i.invariant c.pass-then-l-eq1.ensures (written_table _ c.copy_elements.ensures (omega (arith, c.two_to.ensures.value)) c.loop-i.invariant.made.size); b_len_2 = c.pass-then-l-eq1.ensures.size }

pub returns-else-l-eq1 : goal.returns-else-l-eq1
returns-else-l-eq1 c = record { table = stage_even _ _ _ _ _ c.loop-i-test.false c.if-l-eq1.false c.loop-i.invariant; b_len_2 = c.loop-i.invariant.room }

pub copy_elements-requires : goal.copy_elements-requires
copy_elements-requires c = record { n_in_bounds = omega (arith, c.loop-i.invariant.made.size, c.two_to.ensures.value); held = elements_held (table_elements c.pass-then-l-eq1.ensures) c.two_to.ensures.value }

pub pass-requires : goal.pass-requires
pass-requires c = record { l_bound = c.requires.l_bound; s_lt_l = omega arith; power_table = c.requires.power_table; elements = table_elements c.loop-i.invariant.made; b_len = c.loop-i.invariant.room }

pub pass-requires-in-loop-i : goal.pass-requires-in-loop-i
pass-requires-in-loop-i c = record { l_bound = c.requires.l_bound; s_lt_l = omega arith; power_table = c.requires.power_table; elements = table_elements c.pass.ensures; b_len = c.loop-i.invariant.made.size }

pub pass-requires-then-l-eq1 : goal.pass-requires-then-l-eq1
pass-requires-then-l-eq1 c = record { l_bound = c.requires.l_bound; s_lt_l = omega arith; power_table = c.requires.power_table; elements = table_elements c.loop-i.invariant.made; b_len = c.loop-i.invariant.room }
