-- The passes and the transform at the field, with the inverse of the root of order 2^l.
use Rattle.std.specs.Prelude.{ℕ, ◌-◌, ◌^◌}
use Rattle.algebra.specs.Ring.{pow}
use Rattle.field.specs.Element.{Elem, F, ◌⊕◌, half_elem}
use Rattle.field.specs.Powers.{root}
use Rattle.tables.specs.Passes.{pass, passed, transformed}
use Rattle.tables.specs.Geometric.{geometric, spread, tail}
use Rattle.tables.specs.Product.{product_at}
use Rattle.tables.specs.Interpolated.{interpolated}

-- 1/w
abbrev pub backward : ℕ → Elem
backward l = pow F (root l) (2 ^ l - 1)

abbrev pub pass_f : ℕ → ℕ → (ℕ → Elem) → ℕ → Elem
pass_f l s a = pass F l (backward l) s a

abbrev pub passed_f : ℕ → ℕ → (ℕ → Elem) → ℕ → Elem
passed_f l s v = passed F l (backward l) s v

abbrev pub transformed_f : ℕ → (ℕ → Elem) → ℕ → Elem
transformed_f l v = transformed F l (backward l) v

-- e_j, and e_j + R_j
abbrev pub spread_f : ℕ → ℕ → (ℕ → Elem) → ℕ → Elem
spread_f l o a = spread F (2 ^ o) (2 ^ (l - o)) a

unfoldable pub product_f : ℕ → Elem → (ℕ → Elem) → ℕ → Elem
product_f o y e j = e j ⊕ tail F (2 ^ o) y e j

-- coefficient j of the product of the kernel of order 2^o at y and of the polynomial through v
unfoldable pub kernel_product_f : ℕ → ℕ → Elem → (ℕ → Elem) → ℕ → Elem
kernel_product_f l o y v j = product_at F (2 ^ l) (geometric F half_elem l o y) (interpolated F half_elem l (root l) v) j
