use native.Mathlib.Omega.{arith}
use Rattle.field.proofs.Elements.{words_own, squared_never, squared_once}
use Rattle.tables.proofs.KernelResults.{eq_uni_result}
use Rattle.tables.proofs.KernelLoops.{eq_uni_start, eq_uni_turn}
use Rattle.tables.proofs.poly_common.eval_eq_uni.Goals as goal

pub loop-init : goal.loop-init
loop-init c = (eq_uni_start _ _ c.from_word-res.ensures, squared_never _ (words_own _ c.canonical-x_pow.ensures), squared_never _ (words_own _ c.canonical-y_pow.ensures))

pub loop-preserved : goal.loop-preserved
loop-preserved c =
    let old = c.loop.invariant in
    (eq_uni_turn _ _ _ old.0 old.1 old.2 c.eq_uni_step.ensures, squared_once _ _ old.1 c.square.ensures, squared_once _ _ old.2 c.square-in-loop.ensures)

pub returns : goal.returns
returns c =
    eq_uni_result _ _ c.min-l.ensures _ _ _ (omega arith) c.canonical-x_pow.ensures
    c.canonical-y_pow.ensures c.loop.invariant.0 c.halve_times.ensures
