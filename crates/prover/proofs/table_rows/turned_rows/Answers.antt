use Rattle.std.proofs.Common.{◌^◌, length, arith, rules}
use Rattle.field.proofs.Elements.{canonical_words_lem}
use Rattle.prover.proofs.TableBlocks.{written_canonical, last_is, later_inside, rows-turned}
use Rattle.prover.proofs.table_rows.turned_rows.Goals as goal

pub write-requires : goal.write-requires
write-requires c = record { i_in_bounds = search rules; canonical = canonical_words_lem _ c.mul-k.ensures }

pub returns : goal.returns
returns c = rows-turned _ _ _ _ _ _ _ _ _ _ _ c.two_to-stride.ensures.value (last_is c.args.lift c.requires.l_skip_bound.1) c.table_rows.ensures c.corner.ensures c.mul-k.ensures (omega arith) c.write.ensures c.add_rows.ensures

pub add_rows-requires : goal.add_rows-requires
add_rows-requires c = record { m_bound = omega arith; rows_le_stride = omega (arith, c.two_to-stride.ensures.value, c.requires.l_skip_bound.2); m_in_bounds = (later_inside c.args.l_skip c.args.at _ (2 ^ c.args.lift) (length c.args.q.now) c.two_to-stride.ensures.value (last_is c.args.lift c.requires.l_skip_bound.1) c.requires.lift_in_bounds).1; rows_in_bounds = omega (arith, c.table_rows.ensures.length_kept, c.requires.rows_in_bounds); canonical_from = written_canonical c.table_rows.ensures }
