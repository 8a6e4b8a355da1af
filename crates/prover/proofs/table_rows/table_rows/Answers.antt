use Rattle.std.proofs.Common.{length, arith}
use Rattle.prover.proofs.TableBlocks.{written_canonical, block_few, block_inside, rows_start, rows_turn, rows_end}
use Rattle.prover.proofs.table_rows.table_rows.Goals as goal

-- where the block's words start
pub loop-b-preserved : goal.loop-b-preserved
loop-b-preserved c =
    let few = block_few c.args.lift c.args.count c.loop-b.b _ c.block_entries-m.ensures c.requires.l_skip_bound.2 (omega arith) in (
      omega arith,
      rows_turn _ _ _ _ _ _ _ _ _ _ _ _ _ c.loop-b.invariant.1 c.two_to-stride.ensures.value c.block_entries-m.ensures few.1 c.block_table.ensures c.add_rows.ensures,
    )

pub loop-b-init : goal.loop-b-init
loop-b-init c = (omega arith, rows_start _ _ _ _ _ _ _ _ _ c.requires.canonical_from)

pub returns : goal.returns
returns c = rows_end _ _ _ _ _ _ _ _ _ _ (omega arith) c.loop-b.invariant.1

pub add_rows-requires : goal.add_rows-requires
add_rows-requires c =
    let few = block_few c.args.lift c.args.count c.loop-b.b _ c.block_entries-m.ensures c.requires.l_skip_bound.2 (omega arith) in record { m_bound = few.0; rows_le_stride = omega (arith, c.two_to-stride.ensures.value, c.requires.l_skip_bound.3); m_in_bounds = omega (arith, block_inside c.args.l_skip c.args.at c.args.count c.loop-b.b _ (length c.args.q.now) c.two_to-stride.ensures.value c.requires.count_in_bounds few.2); rows_in_bounds = omega (arith, c.loop-b.invariant.1.length_kept, c.requires.rows_in_bounds); canonical_from = written_canonical c.loop-b.invariant.1 }
