-- The factor of a column's weight at u_0 to u_n_stack that its height and its flag decide: indicator × (eq_prism + lambda × rotation kernel if flagged).
-- With the factor of the row bits and the column's power of lambda it is the polynomial through `weights`: `weights_by_kernels` of proofs/FinalTurns.
use Rattle.std.specs.Prelude.{List, ℕ, ◌-◌, ◌^◌, min}
use Rattle.algebra.specs.Ring.{pow}
use Rattle.field.specs.Element.{Elem, F, ◌⊕◌, ◌⊗◌, half_elem, elem_of, words_of}
use Rattle.field.specs.Powers.{root}
use Rattle.field.specs.Slice.{elem_at}
use Rattle.tables.specs.InUni.{in_uni}
use Rattle.tables.specs.AtField.{eq_prism_f, rot_prism_f}
use Rattle.tables.specs.Points.{coordinates}
use Rattle.weights.specs.LambdaPowers.{if_flagged}
use Rattle.verifier.specs.declared.column_weights.HeightWeight.{HeightWeight}

-- the kernels of the prism of order 2^l at u and r, each u_0 or r_0 and m coordinates
unfoldable pub prism_weight : ℕ → ℕ → ℕ → Elem → Elem → List ℕ → Elem → List ℕ → Elem
prism_weight l m flag lambda u us r rs =
    eq_prism_f l u (coordinates us 1 m) r (coordinates rs 1 m) ⊕ if_flagged F flag (lambda ⊗ rot_prism_f l u (coordinates us 1 m) r (coordinates rs 1 m))

-- of a column of log height h: r_0 is raised where h is below l_skip
unfoldable pub height_weight : ℕ → ℕ → ℕ → List ℕ → List ℕ → List ℕ → Elem
height_weight l h flag lambda r challenges =
    in_uni F half_elem (min l h) (l - h) (root l) (elem_at challenges 0)
    ⊗ prism_weight (min l h) (h - l) flag (elem_of lambda) (elem_at challenges 0) challenges (pow F (elem_at r 0) (2 ^ (l - h))) r

abbrev pub height_of : ℕ → ℕ → ℕ → List ℕ → List ℕ → List ℕ → HeightWeight
height_of l h flag lambda r challenges = record { log = h; flag = flag; weight = words_of (height_weight l h flag lambda r challenges) }
