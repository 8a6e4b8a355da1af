-- The rotation table, from the eq table t of m entries before that one is scaled: entry x is t_x · a + (t_(x−1) − t_x) · b,
-- with the last entry before entry 0. Document 01: the fold at u_0 makes it from the unscaled eq entries.
use Rattle.std.specs.Prelude.{ℕ}
use Rattle.field.specs.Element.{Elem, ◌⊕◌, ◌⊖◌, ◌⊗◌}
use Rattle.tables.specs.Index.{before}

unfoldable pub rotated : ℕ → (ℕ → Elem) → Elem → Elem → ℕ → Elem
rotated m t a b x = t x ⊗ a ⊕ (t (before m x) ⊖ t x) ⊗ b
