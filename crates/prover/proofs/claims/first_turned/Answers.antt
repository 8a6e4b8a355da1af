use Rattle.std.proofs.Common.{◌<◌, length, refl, arith}
use Rattle.algebra.proofs.Powers.{two_pow-pos}
use Rattle.prover.proofs.HeightScales.{one_canonical}
use Rattle.prover.proofs.WeightWalk.{put-length}
use Rattle.prover.proofs.ClaimSums.{put_canonical, blocks-inside, row-turned}
use Rattle.prover.proofs.claims.first_turned.Goals as goal

pub turned_rows-requires : goal.turned_rows-requires
turned_rows-requires c =
    let room : 3 < length c.args.acc.now = omega (arith, c.requires.l_skip_in_bounds_3, two_pow-pos c.args.l_skip) in record { l_skip_bound = (c.requires.l_skip_bound.0, omega (arith, c.lifted-lift.ensures, c.requires.l_skip_bound.1), two_pow-pos c.args.l_skip); lift_in_bounds = blocks-inside c.args.l_skip c.args.log c.args.start (length c.args.matrices.now) c.lifted-lift.ensures refl c.requires.l_skip_in_bounds; lift_in_bounds_2 = omega (arith, c.lifted-lift.ensures, c.requires.l_skip_in_bounds_2); r_value = c.requires.r_value; canonical = one_canonical; rows_in_bounds = omega (arith, put-length c.args.acc.now _ _ c.write.ensures, c.requires.l_skip_in_bounds_3, two_pow-pos c.args.l_skip); canonical_from = put_canonical _ _ room c.write.ensures }

pub returns : goal.returns
returns c = row-turned _ _ _ _ _ _ c.lifted-lift.ensures (omega (arith, c.requires.l_skip_in_bounds_3, two_pow-pos c.args.l_skip)) c.write.ensures c.turned_rows.ensures
