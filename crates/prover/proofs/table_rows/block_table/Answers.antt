use Rattle.std.proofs.Common.{arith}
use Rattle.field.proofs.Elements.{canonical_words_lem}
use Rattle.prover.proofs.TableBlocks.{table_small, table_block}
use Rattle.prover.proofs.table_rows.block_table.Goals as goal

pub eq_table-requires-2 : goal.eq_table-requires-2
eq_table-requires-2 c = record { canonical = canonical_words_lem _ c.mul-k.ensures; n_bound = omega arith; n_in_bounds = omega (arith, c.requires.lift_in_bounds, c.if-lift-le8.false); r_value = c.requires.r_value; n_in_bounds_2 = omega (arith, c.eq_table-arg-2-1.given) }

pub returns-then-lift-le8 : goal.returns-then-lift-le8
returns-then-lift-le8 c = table_small _ _ _ _ _ c.if-lift-le8.true c.requires.lift_bound.1 c.eq_table.ensures

pub returns : goal.returns
returns c = table_block _ _ _ _ _ c.if-lift-le8.false c.corner-high.ensures c.mul-k.ensures c.eq_table-2.ensures
