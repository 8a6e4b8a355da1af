use Rattle.std.proofs.Common.{refl}
use Rattle.prover.proofs.ColumnPairs.{held-part, short-values}
use Rattle.prover.proofs.columns.short_pair.Goals as goal

pub bit_round_poly_evals-v-requires : goal.bit_round_poly_evals-v-requires
bit_round_poly_evals-v-requires c = held-part _ _ 2 8 c.requires refl

pub returns : goal.returns
returns c = short-values _ _ _ _ c.bit_round_poly_evals-v.ensures c.table_weight-weight.ensures c.mul.ensures c.mul-2.ensures
