-- The tables of a height at the field, over the root of its own order.
use mathlib.Core.Path.{◌≡◌, ap}
use Prim.Native.Nat.{ℕ, ◌^◌}
use Rattle.algebra.specs.Ring.{sub}
use Rattle.field.specs.Element.{Elem, F, half_elem, ◌⊕◌, ◌⊗◌}
use Rattle.field.specs.Powers.{root}
use Rattle.tables.specs.Index.{before}
use Rattle.tables.specs.EqUni.{eq_uni}
use Rattle.weights.specs.Run.{Run, lift, order}
use Rattle.weights.specs.ColumnFactor.{raised}
use Rattle.weights.specs.HeightTables.{plain_entry, indicator, eq_entry, rot_entry}
use Rattle.weights.specs.Fits.{Planned}
use Rattle.weights.specs.AtField.{eq_entry_f, rot_entry_f}
use Rattle.weights.proofs.FieldRuns.{raised-root}

module _ (run : Run Elem) (planned : Planned run) where
  abbrev ind : ℕ → Elem → Elem
  ind h u = indicator F half_elem (root run.skip) run h u

  pub eq_entry_field : (h : ℕ) (u : Elem) (x : ℕ)
      → eq_entry_f run h u x ≡ ind h u ⊗ eq_uni F half_elem (order run h) (root (order run h)) u (raised F run h run.r0) ⊗ plain_entry F run h x
  unfolding eq_entry
  eq_entry_field h u x =
      ap (λ v. ind h u ⊗ eq_uni F half_elem (order run h) v u (raised F run h run.r0) ⊗ plain_entry F run h x) (raised-root run planned h)

  pub rot_entry_field : (h : ℕ) (u : Elem) (x : ℕ)
      → rot_entry_f run h u x
      ≡ ind h u
      ⊗ (eq_uni F half_elem (order run h) (root (order run h)) u (root (order run h) ⊗ raised F run h run.r0) ⊗ plain_entry F run h x
      ⊕ eq_uni F half_elem run.skip (root run.skip) u F.one ⊗ eq_uni F half_elem run.skip (root run.skip) (root run.skip ⊗ run.r0) F.one
      ⊗ sub F (plain_entry F run h (before (2 ^ lift run h) x)) (plain_entry F run h x))
  unfolding rot_entry
  rot_entry_field h u x =
      ap (λ v. ind h u
      ⊗ (eq_uni F half_elem (order run h) v u (v ⊗ raised F run h run.r0) ⊗ plain_entry F run h x
      ⊕ eq_uni F half_elem run.skip (root run.skip) u F.one ⊗ eq_uni F half_elem run.skip (root run.skip) (root run.skip ⊗ run.r0) F.one
      ⊗ sub F (plain_entry F run h (before (2 ^ lift run h) x)) (plain_entry F run h x))) (raised-root run planned h)
