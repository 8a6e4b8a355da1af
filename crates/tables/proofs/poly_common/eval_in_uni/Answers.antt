use mathlib.Core.Path.{◌∙◌, ap}
use native.Mathlib.Omega.{arith}
use mir.Facts.{to_z-of_z}
use Rattle.tables.specs.AtField.{lack}
use Rattle.tables.proofs.KernelResults.{in_uni_short, in_uni_whole}
use Rattle.tables.proofs.poly_common.eval_in_uni.Goals as goal

pub returns-then-d-l : goal.returns-then-d-l
returns-then-d-l c =
    let lim = c.min-l.ensures in
    in_uni_short c.min-l.result (omega arith) _ _ _ lim _ (c.below_zero-d.ensures ∙ ap lack (to_z-of_z c.ranges.n)) c.if-d-l.true c.exp_power_of_2-z_pow.ensures c.mean_of_powers.ensures

pub returns : goal.returns
returns c =
    let lim = c.min-l.ensures in
    in_uni_whole c.min-l.result (omega arith) _ _ _ lim _ (c.below_zero-d.ensures ∙ ap lack (to_z-of_z c.ranges.n)) c.if-d-l.false c.mean_of_powers-2.ensures
