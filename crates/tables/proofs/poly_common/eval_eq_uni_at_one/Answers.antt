use Rattle.tables.proofs.KernelResults.{at_one_result}
use Rattle.tables.proofs.poly_common.eval_eq_uni_at_one.Goals as goal

pub returns : goal.returns
returns c = at_one_result _ _ c.min.ensures _ c.mean_of_powers.ensures
