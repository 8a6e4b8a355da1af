-- `stacking::cells_of` meets its contract. Assumes nothing.
use Prim.Native.Nat.{◌^◌, ℕ, ◌*◌}
use mathlib.Core.Path.{ap}
use native.Mathlib.Omega.{arith}
use Rattle.layout.proofs.Slices.{empty_adds}
use Rattle.layout.proofs.Cells.{cells_few}
use Rattle.layout.proofs.stacking.cells_of.Goals as goal

pub returns-then-w-eq0 : goal.returns-then-w-eq0
returns-then-w-eq0 c = omega (arith, empty_adds 0 c.args.w (2 ^ c.args.log) c.if-w-eq0.true)

pub pow2-requires : goal.pow2-requires
pow2-requires c = omega (arith, c.requires.1 (omega arith))

pub overflow_mul-result : goal.overflow_mul-result
overflow_mul-result c = omega (arith, cells_few c.args.w c.args.log (omega arith) (c.requires.1 (omega arith)), ap (λ (x : ℕ). c.args.w * x) c.pow2.ensures)

pub returns : goal.returns
returns c = ap (λ (x : ℕ). c.args.w * x) c.pow2.ensures
