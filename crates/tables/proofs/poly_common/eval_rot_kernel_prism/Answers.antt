use mathlib.Core.Path.{◌∙◌, ap}
use Prim.Native.Nat.{◌-◌}
use Rattle.tables.proofs.KernelResults.{rot_prism_result}
use Rattle.tables.proofs.poly_common.eval_rot_kernel_prism.Goals as goal

pub returns : goal.returns
returns c =
    rot_prism_result _ _ _ _ (c.saturating_sub-n.ensures ∙ ap (λ m. m - 1) c.shared_count-m.ensures) c.load-x_0.ensures c.load.ensures c.skip_power.ensures c.scale-y_0.ensures c.eq_rot_cube_from-cube.ensures.eq c.eq_rot_cube_from-cube.ensures.rot c.eval_eq_uni.ensures c.mul-a.ensures c.eval_eq_uni_at_one.ensures c.eval_eq_uni_at_one-2.ensures c.mul-b.ensures c.sub.ensures c.mul-c.ensures c.add.ensures
