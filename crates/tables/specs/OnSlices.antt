-- The kernels at points that stand in slices of words, at as many coordinates as both have: what the functions on slices promise.
use Rattle.std.specs.Prelude.{List, ℕ, ◌-◌}
use Rattle.algebra.specs.Polynomial.{value}
use Rattle.field.specs.Element.{Elem, F}
use Rattle.field.specs.Slice.{elem_at}
use Rattle.tables.specs.EqMle.{eq_mle}
use Rattle.tables.specs.RotCube.{rot_cube}
use Rattle.tables.specs.Points.{coordinates, count, shared}
use Rattle.tables.specs.AtField.{eq_prism_f, rot_prism_f}

unfoldable pub eq_mle_of : List ℕ → List ℕ → Elem
eq_mle_of xs ys = eq_mle F (coordinates xs 0 (shared xs ys)) (coordinates ys 0 (shared xs ys))

unfoldable pub rot_cube_of : List ℕ → List ℕ → Elem
rot_cube_of xs ys = rot_cube F (coordinates xs 0 (shared xs ys)) (coordinates ys 0 (shared xs ys))

-- the first element is the coordinate on the subgroup, the others those on the cube
unfoldable pub eq_prism_of : ℕ → List ℕ → List ℕ → Elem
eq_prism_of l xs ys =
    eq_prism_f l (elem_at xs 0) (coordinates xs 1 (shared xs ys - 1)) (elem_at ys 0) (coordinates ys 1 (shared xs ys - 1))

unfoldable pub rot_prism_of : ℕ → List ℕ → List ℕ → Elem
rot_prism_of l xs ys =
    rot_prism_f l (elem_at xs 0) (coordinates xs 1 (shared xs ys - 1)) (elem_at ys 0) (coordinates ys 1 (shared xs ys - 1))

-- the polynomial with these coefficients, at x
unfoldable pub value_of : List ℕ → Elem → Elem
value_of cs x = value F (coordinates cs 0 (count cs)) x
