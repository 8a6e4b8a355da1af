use Rattle.std.proofs.Common.{length, arith}
use Rattle.prover.proofs.EqParts.{entries_code}
use Rattle.prover.proofs.HeightScales.{one_canonical}
use Rattle.prover.proofs.TableBlocks.{written_canonical}
use Rattle.prover.proofs.ClaimSums.{blocks-inside, rows_made}
use Rattle.prover.proofs.claims.column_rows.Goals as goal

pub returns : goal.returns
returns c =
    let count = entries_code c.lifted-lift.result (omega (arith, c.lifted-lift.ensures, c.requires.l_skip_bound.1)) in
    rows_made _ _ _ _ _ c.lifted-lift.ensures c.two_to-rows.ensures.value count c.fill.ensures c.table_rows.ensures

pub table_rows-requires : goal.table_rows-requires
table_rows-requires c =
    let count = entries_code c.lifted-lift.result (omega (arith, c.lifted-lift.ensures, c.requires.l_skip_bound.1)) in record { l_skip_bound = (c.requires.l_skip_bound.0, omega (arith, c.lifted-lift.ensures, c.requires.l_skip_bound.1), omega (arith, count), omega (arith, c.two_to-rows.ensures.value)); count_in_bounds = blocks-inside c.args.l_skip c.args.log c.args.start (length c.args.matrices.now) c.lifted-lift.ensures count c.requires.l_skip_in_bounds; lift_in_bounds = omega (arith, c.lifted-lift.ensures, c.requires.l_skip_in_bounds_2); r_value = c.requires.r_value; canonical = one_canonical; rows_in_bounds = omega (arith, c.two_to-rows.ensures.value, c.fill.ensures.length_kept, c.requires.l_skip_in_bounds_3); canonical_from = written_canonical c.fill.ensures }
