-- `stacking::stride` meets its contract. Assumes nothing.
use Prim.Native.Nat.{ℕ, ◌-◌, ◌^◌}
use mathlib.Core.Path.{◌≡◌, sym, ap, ◌∙◌}
use native.Mathlib.Nat.{pow-zero}
use native.Mathlib.Omega.{arith}
use Rattle.layout.proofs.stacking.stride.Goals as goal

pub returns-then-l_skip-log : goal.returns-then-l_skip-log
returns-then-l_skip-log c = let z : c.args.l_skip - c.args.log ≡ 0 = omega arith in sym (ap (λ (k : ℕ). 2 ^ k) z ∙ pow-zero 2)
