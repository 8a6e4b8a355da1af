use Prim.Native.Nat.{◌^◌}
use native.Mathlib.Omega.{arith}
use Rattle.algebra.specs.Ring.{pow}
use Rattle.field.proofs.Elements.{words_own, squared_never, squared_once}
use Rattle.field.specs.Element.{F, ◌⊕◌, elem_of}
use Rattle.tables.proofs.KernelResults.{mean_result}
use Rattle.tables.proofs.KernelLoops.{product_start, product_turn, one_more}
use Rattle.tables.proofs.poly_common.mean_of_powers.Goals as goal

pub loop-init : goal.loop-init
loop-init c = (product_start _ c.from_word-one.ensures, squared_never _ (words_own _ c.canonical-x_pow.ensures))

pub loop-preserved : goal.loop-preserved
loop-preserved c =
    let old = c.loop.invariant in
    let f = one_more _ _ c.from_word-one.ensures old.1 c.add.ensures in
    (product_turn (λ k. F.one ⊕ pow F (elem_of c.canonical-x_pow.result) (2 ^ k)) _ old.0 f c.mul.ensures, squared_once _ _ old.1 c.square.ensures)

pub returns : goal.returns
returns c =
    mean_result _ _ _ (omega arith) c.canonical-x_pow.ensures c.loop.invariant.0 c.halve_times.ensures
