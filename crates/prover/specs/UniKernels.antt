-- What the fold at u_0 multiplies a height's tables by: in_uni times the height's eq weight, and the two factors of the rotation table.
use Rattle.std.specs.Prelude.{ℕ}
use Rattle.field.specs.Element.{Elem, F, ◌⊗◌, half_elem, words_of}
use Rattle.field.specs.Powers.{root}
use Rattle.tables.specs.AtField.{eq_uni_f}
use Rattle.weights.specs.Run.{Run, order}
use Rattle.weights.specs.ColumnFactor.{raised}
use Rattle.weights.specs.HeightTables.{indicator}
use Rattle.prover.specs.declared.kernels.Kernels.{Kernels}

module _ (run : Run Elem) (h : ℕ) (u : Elem) where
  -- `eval_in_uni`
  abbrev pub inside : Elem
  inside = indicator F half_elem (root run.skip) run h u

  -- the eq kernel of u and r_0, raised for a short column, on the powers that the column's rows stand at
  unfoldable pub eq_scale : Elem
  eq_scale = inside ⊗ eq_uni_f (order run h) u (raised F run h run.r0)

  -- the same with the row before
  unfoldable pub rot_scale : Elem
  rot_scale = inside ⊗ eq_uni_f (order run h) u (root (order run h) ⊗ raised F run h run.r0)

  -- where the row before lies in the block before
  unfoldable pub rot_shift : Elem
  rot_shift = inside ⊗ (eq_uni_f run.skip u F.one ⊗ eq_uni_f run.skip (root run.skip ⊗ run.r0) F.one)

  abbrev pub kernels_of : Kernels
  kernels_of = record { eq = words_of eq_scale; rot = words_of rot_scale; shift = words_of rot_shift }
