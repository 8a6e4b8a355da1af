-- The field has a half and a root of every order 2^l up to 2^27: what the laws of the skip subgroup ask.
use Prim.Native.Nat.{ℕ, zero, suc, ◌≤◌}
use Rattle.field.specs.Element.{F, half_elem}
use Rattle.field.specs.Powers.{root}
use Rattle.field.proofs.Embedding.{half_two, root_first, root_half}
use Rattle.tables.specs.Root.{IsRoot, Skip}

is_root : (l : ℕ) → l ≤ 27 → IsRoot F l (root l)
is_root zero h = root_first
is_root (suc l) h = root_half l h

pub field_skip : (l : ℕ) → l ≤ 27 → Skip F half_elem l (root l)
field_skip l h = record { half_two = half_two; root = is_root l h }
