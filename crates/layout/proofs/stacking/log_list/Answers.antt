use mathlib.Core.Path.{ap, ◌∙◌}
use mathlib.Core.List.{◌++◌}
use native.Mathlib.Omega.{arith}
use native.Mathlib.Nat.{le_antisymm}
use lib.ListN.{drop}
use Rattle.algebra.specs.Listed.{listed}
use Rattle.layout.specs.Logs.{log_word}
use Rattle.layout.proofs.Filling.{fill_start, fill_length, fill_turn}
use Rattle.layout.proofs.Cells.{log_word_lem}
use Rattle.layout.proofs.stacking.log_list.Goals as goal

pub loop-k-init : goal.loop-k-init
loop-k-init c = (omega arith, fill_start _ _)

pub bounds-out-k : goal.bounds-out-k
bounds-out-k c = omega (arith, fill_length _ _ _ _ (omega arith) c.loop-k.invariant.1, c.requires)

pub loop-k-preserved : goal.loop-k-preserved
loop-k-preserved c = (omega arith, fill_turn _ _ _ _ _ (omega (arith, c.requires)) (log_word_lem _ _ _ c.log_word-x.ensures) c.loop-k.invariant.1)

pub shape_of-out : goal.shape_of-out
shape_of-out c = fill_length _ _ _ _ (omega arith) c.loop-k.invariant.1

pub returns : goal.returns
returns c = c.loop-k.invariant.1 ∙ ap (λ k. listed k (log_word c.args.list.now) ++ drop k c.args.out.now) (le_antisymm c.loop-k.invariant.0 c.loop-k-test.false)
