-- The quadratic extension R[√t]: pairs (a, b) for a + b·√t.
use Rattle.algebra.specs.Ring.{Ring}

module _ {A : Type 0} (R : Ring A) (t : A) where
  infixl 60 ◌⊕◌
  infixl 70 ◌⊗◌
  open R use {add as ◌⊕◌, mul as ◌⊗◌, neg}

  unfoldable pub qadd : A × A → A × A → A × A
  qadd u v = (u.0 ⊕ v.0, u.1 ⊕ v.1)

  unfoldable pub qmul : A × A → A × A → A × A
  qmul u v = (u.0 ⊗ v.0 ⊕ t ⊗ (u.1 ⊗ v.1), u.0 ⊗ v.1 ⊕ u.1 ⊗ v.0)

  unfoldable pub qneg : A × A → A × A
  qneg u = (neg u.0, neg u.1)
