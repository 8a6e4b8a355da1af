-- What an accepted fold at u_0 leaves in the work buffers that a start left: the stack columns' prisms at u_0, both tables of each height, weights one.
use mathlib.Core.Path.{◌≡◌, refl, sym, ◌∙◌, ap, ap₂}
use mathlib.Core.Bool.{true}
use mathlib.Core.List.{List, [], ◌∷◌}
use Prim.Native.Nat.{ℕ, zero, suc, ◌+◌, ◌-◌, ◌*◌, ◌^◌, ◌<◌, ◌≤◌}
use native.Mathlib.Nat
use native.Mathlib.Omega.{arith}
use lib.ListN.{take}
use Rattle.algebra.specs.Multilinear.{cube_factor}
use Rattle.algebra.proofs.Expression.{◌:+◌, ◌:-◌, ◌:*◌, ◌:=◌}
use Rattle.algebra.proofs.Solver.{solve}
use Rattle.algebra.proofs.Sums.{sum_cong}
use Rattle.algebra.proofs.Powers.{two_pow-add}
use Rattle.field.specs.Element.{Elem, F, half_elem, elem_of, words_of, ◌⊕◌, ◌⊖◌, ◌⊗◌}
use Rattle.field.specs.Powers.{root}
use Rattle.field.specs.Slice.{elem_at}
use Rattle.field.proofs.Elements.{elem_of_words_of, length_words_of}
use Rattle.tables.specs.Index.{before}
use Rattle.tables.specs.Lagrange.{lagrange}
use Rattle.tables.specs.FoldPle.{fold_ple}
use Rattle.tables.specs.FoldMany.{fold_many}
use Rattle.tables.specs.Points.{coordinates}
use Rattle.tables.specs.AtField.{eq_uni_f}
use Rattle.tables.proofs.Indices.{before_small}
use Rattle.tables.proofs.RepeatedFolds.{fold_many_nil}
use Rattle.weights.specs.Run.{lift, order}
use Rattle.weights.specs.ColumnFactor.{raised, lifted_point}
use Rattle.weights.specs.HeightTables.{plain_entry}
use Rattle.weights.specs.StackColumns.{stack_rows, folded_column}
use Rattle.weights.specs.AtField.{folded_column_f, eq_entry_f, rot_entry_f}
use Rattle.weights.proofs.WeightsFoldedOn.{column_weight_one}
use Rattle.weights.proofs.FieldKernels.{eq_entry_field, rot_entry_field}
use Rattle.prover.specs.declared.turns.Turn.{Turn}
use Rattle.prover.specs.RowSum.{from_words}
use Rattle.prover.specs.Rotated.{rotated}
use Rattle.prover.specs.Given.{Given, Work, run, columns, stacked}
use Rattle.prover.specs.Slots.{occurs, entries, slot_start}
use Rattle.prover.specs.UniKernels.{inside, eq_scale, rot_scale, rot_shift}
use Rattle.prover.specs.OwnSum.{tables_of}
use Rattle.prover.specs.CallNumbers.{uni_number}
use Rattle.prover.specs.Calls.{start_eq, start_weights, uni_values, lent, uni_eq, uni_rot, uni_work}
use Rattle.reduction.proofs.BufferLaws.{take-listed, elem_at_elem_words}
use Rattle.prover.proofs.SlotLaws.{entries-some}
use Rattle.reduction.proofs.SlotTables.{elem_at_tables}
use Rattle.reduction.proofs.Stands.{Laid, Stands}
use Rattle.reduction.proofs.FoldedWork.{leaves_new}

-- a packed row of the stacked matrices is a row of its stack column
pub uni_value : (g : Given) (matrices : List ℕ) (u : Elem) (c y : ℕ) → c < stacked g → y < 2 ^ g.stack
    → elem_at (uni_values g.skip (stacked g * 2 ^ g.stack) matrices u) (c * 2 ^ g.stack + y) ≡ folded_column_f (run g) (from_words matrices) u [] c y
unfolding uni_values fold_ple folded_column stack_rows
uni_value g matrices u c y h s =
    elem_at_elem_words (stacked g * 2 ^ g.stack) _ (c * 2 ^ g.stack + y)
    (omega (arith, Nat.mul-le-mul_right {m = suc c} {n = stacked g} (2 ^ g.stack) h, Nat.suc-mul c (2 ^ g.stack)))
    ∙ sum_cong F (2 ^ g.skip) (λ i. ap (λ k. from_words matrices k ⊗ lagrange F half_elem g.skip (root g.skip) i u) (row i))
    ∙ ap (λ f. f y) (sym (fold_many_nil F (fold_ple F half_elem g.skip (root g.skip) (stack_rows (run g) (from_words matrices) c) u)))
  where
    row : (i : ℕ) → i + 2 ^ g.skip * (c * 2 ^ g.stack + y) ≡ c * 2 ^ (g.skip + g.stack) + (i + 2 ^ g.skip * y)
    row i =
        let e : 2 ^ g.skip * (c * 2 ^ g.stack) ≡ c * 2 ^ (g.skip + g.stack)
        = Nat.mul_left_comm (2 ^ g.skip) c (2 ^ g.stack) ∙ ap (λ k. c * k) (sym (two_pow-add g.skip g.stack)) in
        omega (arith, Nat.mul-add (2 ^ g.skip) (c * 2 ^ g.stack) y)

-- the entries that a start writes
module _ (g : Given) (h : ℕ) (small : h ≤ g.skip + g.stack) where
  plain : (x : ℕ) → cube_factor F (coordinates g.r 1 (h - g.skip)) x ≡ plain_entry F (run g) h x
  unfolding plain_entry lifted_point
  plain x = ap (λ l. cube_factor F l x) (sym (take-listed (h - g.skip) g.stack (λ j. elem_at g.r (1 + j)) (omega arith)))

  module _ (there : occurs g.lists h ≡ true) where
    room : (x : ℕ) → x < 2 ^ (h - g.skip) → x < entries g.skip g.lists h
    room x s = rw (entries-some g.skip g.lists h there) s

    start_entry : (x : ℕ) → x < 2 ^ (h - g.skip)
        → elem_at (start_eq g.skip g.stack g.lists g.r) (slot_start g.skip g.lists h + x) ≡ plain_entry F (run g) h x
    unfolding start_eq
    start_entry x s =
        elem_at_tables g.skip g.lists g.stack (λ h x. words_of (cube_factor F (coordinates g.r 1 (h - g.skip)) x)) (λ h x. length_words_of _) h x small (room x s)
        ∙ elem_of_words_of _ ∙ plain x

    pub uni_eq_lem : Laid g → (u : Elem) (x : ℕ) → x < 2 ^ (h - g.skip) → elem_at (uni_eq g u) (slot_start g.skip g.lists h + x) ≡ eq_entry_f (run g) h u x
    unfolding uni_eq eq_scale
    uni_eq_lem laid u x s =
        elem_at_tables g.skip g.lists g.stack (λ h x. words_of (eq_scale (run g) h u ⊗ cube_factor F (coordinates g.r 1 (h - g.skip)) x)) (λ h x. length_words_of _) h x small (room x s)
        ∙ elem_of_words_of _ ∙ ap (λ e. eq_scale (run g) h u ⊗ e) (plain x) ∙ sym (eq_entry_field (run g) laid.planned h u x)

    module _ (laid : Laid g) (u : Elem) (eq : List ℕ) (start : eq ≡ start_eq g.skip g.stack g.lists g.r) where
      entry : (x : ℕ) → x < 2 ^ (h - g.skip) → lent g u eq h x ≡ plain_entry F (run g) h x
      entry x s = ap (λ e. elem_at e (slot_start g.skip g.lists h + x)) start ∙ start_entry x s

      pub uni_rot_lem : (x : ℕ) → x < 2 ^ (h - g.skip) → elem_at (uni_rot g u eq) (slot_start g.skip g.lists h + x) ≡ rot_entry_f (run g) h u x
      unfolding uni_rot rotated rot_scale rot_shift
      uni_rot_lem x s =
          elem_at_tables g.skip g.lists g.stack (λ h x. words_of (rotated (2 ^ (h - g.skip)) (lent g u eq h) (rot_scale (run g) h u) (rot_shift (run g) h u) x))
          (λ h x. length_words_of _) h x small (room x s)
          ∙ elem_of_words_of _
          ∙ ap₂ (λ a b. a ⊗ rot_scale (run g) h u ⊕ (b ⊖ a) ⊗ rot_shift (run g) h u) (entry x s) (entry (before (2 ^ (h - g.skip)) x) (before_small _ x s))
          ∙ solve F
          (plain_entry F (run g) h x ∷ plain_entry F (run g) h (before (2 ^ (h - g.skip)) x) ∷ inside (run g) h u
          ∷ eq_uni_f (order (run g) h) u (root (order (run g) h) ⊗ raised F (run g) h (run g).r0) ∷ eq_uni_f g.skip u F.one
          ∷ eq_uni_f g.skip (root g.skip ⊗ (run g).r0) F.one ∷ [])
          (λ p b i k e f. p :* (i :* k) :+ (b :- p) :* (i :* (e :* f)) := i :* (k :* p :+ e :* f :* (b :- p))) refl
          ∙ sym (rot_entry_field (run g) laid.planned h u x)

-- accepted, on the tables and weights of a start
module _ (g : Given) (laid : Laid g) (t : Turn) (matrices v : List ℕ) (w : Work) (eq : w.eq ≡ start_eq g.skip g.stack g.lists g.r)
    (ub : w.ub ≡ start_weights (columns g)) (accepted : uni_number g t matrices v w ≡ 0) where
  pub stands_uni_work : Stands g (from_words matrices) (elem_of v) [] (tables_of g.skip g.lists (uni_work g t matrices v w))
  unfolding tables_of uni_work start_weights
  stands_uni_work =
      record {
        values = λ c y p q.
            ap (λ xs. elem_at xs (c * 2 ^ (g.stack - 0) + y)) (leaves_new _ _ w.q accepted)
            ∙ ap (λ i. elem_at (uni_values g.skip (stacked g * 2 ^ g.stack) matrices (elem_of v)) (c * 2 ^ i + y)) (Nat.sub-zero g.stack)
            ∙ uni_value g matrices (elem_of v) c y p (rw (Nat.sub-zero g.stack) at q);
        eq = λ k x p q.
            ap (λ xs. elem_at xs (slot_start g.skip g.lists ((run g).log k) + x)) (leaves_new _ _ w.eq accepted)
            ∙ uni_eq_lem g ((run g).log k) (laid.planned.fits k p).log (laid.there k p) laid (elem_of v) x (rw (Nat.sub-zero (lift (run g) ((run g).log k))) at q)
            ∙ none (eq_entry_f (run g) ((run g).log k) (elem_of v)) (lift (run g) ((run g).log k)) x;
        rot = λ k x p q.
            ap (λ xs. elem_at xs (slot_start g.skip g.lists ((run g).log k) + x)) (leaves_new _ _ w.rot accepted)
            ∙ uni_rot_lem g ((run g).log k) (laid.planned.fits k p).log (laid.there k p) laid (elem_of v) w.eq eq x (rw (Nat.sub-zero (lift (run g) ((run g).log k))) at q)
            ∙ none (rot_entry_f (run g) ((run g).log k) (elem_of v)) (lift (run g) ((run g).log k)) x;
        weight = λ k p. ap (λ xs. elem_at xs k) ub ∙ elem_at_elem_words (columns g) (λ k. F.one) k p ∙ sym (column_weight_one F (run g) k [] (omega arith));
      }
    where
      none : (f : ℕ → Elem) (m x : ℕ) → f x ≡ fold_many F f (take m []) x
      none f zero x = ap (λ r. r x) (sym (fold_many_nil F f))
      none f (suc m) x = ap (λ r. r x) (sym (fold_many_nil F f))
