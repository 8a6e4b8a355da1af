use Prim.Native.Nat.{ℕ}
use mathlib.Core.Path.{refl, sym, ap, ◌∙◌}
use native.Mathlib.Nat.{le_antisymm}
use Rattle.layout.specs.Columns.{column_end}
use native.Mathlib.Omega.{arith}
use Rattle.layout.proofs.Walks.{sought_end, sought-some, sought-over, sought_empty, seek_small}
use Rattle.layout.proofs.columns.seek.Goals as goal

pub loop-at-init : goal.loop-at-init
loop-at-init c = (omega arith, omega arith, refl)

pub returns-then-is_oversized : goal.returns-then-is_oversized
returns-then-is_oversized c = c.end_mark.ensures ∙ sym (sought-over _ _ _ _ _ _ c.loop-at-test.true c.if-width-ne0.true (sym c.is_oversized.ensures ∙ c.if-is_oversized.true)) ∙ c.loop-at.invariant.2

pub returns-then-width-ne0 : goal.returns-then-width-ne0
returns-then-width-ne0 c = sym (sought-some _ _ _ _ _ _ c.loop-at-test.true c.if-width-ne0.true (sym c.is_oversized.ensures ∙ c.if-is_oversized.false)) ∙ c.loop-at.invariant.2

pub loop-at-preserved : goal.loop-at-preserved
loop-at-preserved c = (omega arith, seek_small _ _ _ c.args.list.now _ _ _ c.requires.0 c.opening-start.ensures c.loop-at.invariant.1, simp c.opening-start.ensures (sym (sought_empty _ _ _ _ _ _ c.loop-at-test.true c.if-width-ne0.false) ∙ c.loop-at.invariant.2))

pub returns : goal.returns
returns c = ap (λ (k : ℕ). column_end k c.loop-at.start) (le_antisymm c.loop-at-test.false c.loop-at.invariant.0) ∙ sym (sought_end _ _ _ _ _ _ c.loop-at-test.false) ∙ c.loop-at.invariant.2
