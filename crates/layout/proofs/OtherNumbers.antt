-- A chain of checks none of which gives a number does not give it.
use mathlib.Core.Path.{◌≡◌}
use mathlib.Core.Bool.{Bool, true, false}
use Prim.Native.Nat.{ℕ, zero, suc}
use native.Mathlib.Omega.{arith}
use Rattle.layout.specs.Checks.{refuse, or_else, length_number}
use Rattle.layout.proofs.CheckChains.{length_yes}

pub or_other : {v : ℕ} (a b : ℕ) → (a ≡ v → ⊥) → (b ≡ v → ⊥) → or_else a b ≡ v → ⊥
unfolding or_else
or_other zero b h k e = k e
or_other (suc a) b h k e = h e

module _ {v : ℕ} (some : v ≡ 0 → ⊥) where
  pub refuse_other : (n : ℕ) (t : Bool) → (n ≡ v → ⊥) → refuse n t ≡ v → ⊥
  unfolding refuse
  refuse_other n true h e = h e
  refuse_other n false h e = some (omega arith)

  pub passed_other : {n : ℕ} → n ≡ 0 → n ≡ v → ⊥
  passed_other z e = some (omega arith)

  pub length_other : {has asked : ℕ} → has ≡ asked → length_number has asked ≡ v → ⊥
  length_other {has} {asked} e f = some (omega (arith, length_yes has asked e))
