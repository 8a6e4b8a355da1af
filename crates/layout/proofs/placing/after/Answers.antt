-- `placing::after` meets its contract: the cells of a matrix are few enough that their end fits. Assumes nothing.
use Prim.Native.Nat.{◌*◌, ◌^◌, ◌≤◌}
use mathlib.Core.Path.{ap, ◌∙◌}
use native.Mathlib.Omega.{arith}
use Rattle.layout.specs.Placing.{opened}
use Rattle.layout.proofs.Slices.{cells-small, empty_adds}
use Rattle.layout.proofs.placing.after.Goals.{After-slice_len-len}
use Rattle.layout.proofs.placing.after.Goals as goal

few : (c : After-slice_len-len) → c.args.w * c.slice_len-len.result ≤ 2 ^ 36
few c =
    let a = c.args in
    omega (
      arith,
      ap (λ x. a.w * x) c.slice_len-len.ensures,
      cells-small a.l_skip a.log a.w (omega arith) (c.requires.3 (omega arith)) (omega arith),
    )

pub returns-then-w-eq0 : goal.returns-then-w-eq0
returns-then-w-eq0 c = c.opening.ensures ∙ ap (opened _ _ _ _) (empty_adds _ _ _ c.if-w-eq0.true)

pub slice_len-len-requires : goal.slice_len-len-requires
slice_len-len-requires c = (omega (arith, c.requires.3 (omega arith)), omega arith)

pub overflow_mul-w : goal.overflow_mul-w
overflow_mul-w c = omega (arith, few c)

pub overflow_add-s : goal.overflow_add-s
overflow_add-s c = omega (arith, few c)

pub opening-requires-2 : goal.opening-requires-2
opening-requires-2 c = omega (arith, few c)

pub returns : goal.returns
returns c = cc
