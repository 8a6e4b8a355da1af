-- The kernels at the field: with its half, and for each l the root of order 2^l.
use Rattle.std.specs.Prelude.{List, ℕ, suc, ◌-◌, min, ℤ, pos, negsuc}
use Rattle.field.specs.Element.{Elem, F, half_elem}
use Rattle.field.specs.Powers.{root}
use Rattle.tables.specs.Lagrange.{lagrange}
use Rattle.tables.specs.EqUni.{eq_uni}
use Rattle.tables.specs.InUni.{in_uni}
use Rattle.tables.specs.PrismKernels.{eq_prism, rot_prism}
use Rattle.tables.specs.Quadratic.{quadratic}

abbrev pub lagrange_f : ℕ → ℕ → Elem → Elem
lagrange_f l i z = lagrange F half_elem l (root l) i z

abbrev pub eq_uni_f : ℕ → Elem → Elem → Elem
eq_uni_f l x y = eq_uni F half_elem l (root l) x y

abbrev pub eq_prism_f : ℕ → Elem → List Elem → Elem → List Elem → Elem
eq_prism_f l x xs y ys = eq_prism F half_elem l (root l) x xs y ys

abbrev pub rot_prism_f : ℕ → Elem → List Elem → Elem → List Elem → Elem
rot_prism_f l x xs y ys = rot_prism F half_elem l (root l) x xs y ys

abbrev pub quadratic_f : Elem → Elem → Elem → Elem → Elem
quadratic_f s0 s1 s2 x = quadratic F half_elem s0 s1 s2 x

-- how far an integer lies below 0
unfoldable pub lack : ℤ → ℕ
lack (pos n) = 0
lack (negsuc m) = suc m

-- in_uni for a column of log height l + n, which is 1 where n ≥ 0; an n below −l is read as −l
unfoldable pub in_uni_f : ℕ → ℤ → Elem → Elem
in_uni_f l n z = in_uni F half_elem (l - min (lack n) l) (min (lack n) l) (root l) z
