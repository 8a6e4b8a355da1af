use mathlib.Core.Path.{◌∙◌, ap}
use Prim.Native.Nat.{◌-◌}
use Rattle.tables.proofs.KernelResults.{eq_prism_result}
use Rattle.tables.proofs.poly_common.eval_eq_prism.Goals as goal

pub returns : goal.returns
returns c =
    eq_prism_result _ _ _ _ (c.saturating_sub-n.ensures ∙ ap (λ m. m - 1) c.shared_count-m.ensures) c.load.ensures c.load-2.ensures c.eval_eq_uni-uni.ensures c.eq_mle_from-cube.ensures c.mul.ensures
