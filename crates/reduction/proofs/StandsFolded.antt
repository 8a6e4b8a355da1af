-- One fold more of buffers that stand for the folds so far; so the quadratic of their own sum is the honest one.
use mathlib.Core.Path.{◌≡◌, sym, ◌∙◌, ap, ap₂}
use mathlib.Core.Bool.{cond}
use mathlib.Core.List.{List, [], ◌∷◌, ◌++◌}
use Prim.Native.Nat.{ℕ, suc, ◌+◌, ◌-◌, ◌*◌, ◌/◌, ◌%◌, ◌^◌, ◌<◌}
use native.Mathlib.Nat
use native.Mathlib.Nat.{pow-succ'}
use native.Mathlib.Omega.{arith}
use native.Mathlib.Decide.{dec_lt}
use lib.Dec.{leb}
use lib.ListN.{length, take, length-append}
use borrow.Author.Tests.{le-leb, lt-leb}
use Rattle.algebra.specs.Multilinear.{bit_factor, line, fold_mle}
use Rattle.field.specs.Element.{Elem, F, half_elem, ◌⊗◌}
use Rattle.field.specs.Powers.{root}
use Rattle.tables.specs.FoldMany.{fold_many}
use Rattle.tables.specs.FoldPle.{fold_ple}
use Rattle.tables.proofs.RepeatedFolds.{fold_many_snoc}
use Rattle.weights.specs.Run.{start_block, lift}
use Rattle.weights.specs.StackColumns.{stack_rows, folded_column}
use Rattle.weights.specs.AtField.{folded_column_f, honest_f, eq_entry_f, rot_entry_f, column_weight_f}
use Rattle.weights.proofs.WeightsFoldedOn.{column_weight_one, column_weight-bit, table_folded, table_kept}
use Rattle.weights.proofs.HonestQuadratics.{honest_next}
use Rattle.prover.specs.Given.{Given, run, columns, stacked}
use Rattle.prover.specs.OwnSum.{Tables, own_sum, folded_tables, own_quadratic}
use Rattle.reduction.proofs.Stands.{Laid, Stands, stands_sum}

module _ (g : Given) (cells : ℕ → Elem) (u : Elem) (us : List Elem) (x : Elem) (t : Tables) (stands : Stands g cells u us t) (more : length us < g.stack) where
  longer : length (us ++ (x ∷ [])) ≡ suc (length us)
  longer = length-append us (x ∷ []) ∙ (let e : length us + 1 ≡ suc (length us) = omega arith in e)

  -- half as many values of each stack column, each on the line through two neighbours
  values-folded : (m : ℕ) → g.stack - length us ≡ suc m → (c y : ℕ) → c < stacked g → y < 2 ^ m
      → fold_mle F t.values x (c * 2 ^ m + y) ≡ folded_column_f (run g) cells u (us ++ (x ∷ [])) c y
  unfolding fold_mle folded_column
  values-folded m e c y p q =
      ap₂ (λ a b. line F a b x) (at (2 * y) (2 * (c * 2 ^ m + y)) (omega (arith, twice)) (omega (arith, pow-succ' 2 m)))
      (at (2 * y + 1) (2 * (c * 2 ^ m + y) + 1) (omega (arith, twice)) (omega (arith, pow-succ' 2 m)))
      ∙ ap (λ f. f y) (sym (fold_many_snoc F (fold_ple F half_elem g.skip (root g.skip) (stack_rows (run g) cells c) u) us x))
    where
      twice : c * 2 ^ suc m ≡ 2 * (c * 2 ^ m)
      twice = ap (λ k. c * k) (pow-succ' 2 m) ∙ Nat.mul_left_comm c 2 (2 ^ m)

      at : (z i : ℕ) → c * 2 ^ suc m + z ≡ i → z < 2 ^ suc m → t.values i ≡ folded_column_f (run g) cells u us c z
      at z i k s =
          ap t.values (sym k ∙ ap (λ n. c * 2 ^ n + z) (sym e)) ∙ stands.values c z p (rw e s)

  module _ (k : ℕ) (h : k < columns g) where
    -- its n_lift
    abbrev n : ℕ
    n = lift (run g) ((run g).log k)

    abbrev chosen : {A : Type 0} → A → A → A
    chosen a b = cond (leb (suc (length us)) n) a b

    -- a table of the height, before and after; its entries at two neighbours while it is longer than one
    table : (s f : ℕ → Elem) → ((y : ℕ) → y < 2 ^ (n - length us) → s y ≡ fold_many F f (take n us) y)
        → (y : ℕ) → y < 2 ^ (n - suc (length us)) → chosen (fold_mle F s x) s y ≡ fold_many F f (take n (us ++ (x ∷ []))) y
    unfolding fold_mle
    table s f before y q = by (dec_lt (length us) n)
      where
        by : Dec (length us < n) → chosen (fold_mle F s x) s y ≡ fold_many F f (take n (us ++ (x ∷ []))) y
        by (yes l) =
            let two : 2 ^ (n - length us) ≡ 2 * 2 ^ (n - suc (length us))
            = ap (λ i. 2 ^ i) {x = n - length us} {y = suc (n - suc (length us))} (omega arith) ∙ pow-succ' 2 (n - suc (length us)) in
            ap (λ b. cond b (fold_mle F s x) s y) (le-leb (suc (length us)) n l)
            ∙ ap₂ (λ a b. line F a b x) (before (2 * y) (omega arith)) (before (2 * y + 1) (omega arith))
            ∙ ap (λ r. r y) (sym (table_folded F (run g) k f us x l))
        by (no l) =
            let one : 2 ^ (n - length us) ≡ 2 ^ (n - suc (length us)) = ap (λ i. 2 ^ i) {x = n - length us} {y = n - suc (length us)} (omega arith) in
            ap (λ b. cond b (fold_mle F s x) s y) (lt-leb (suc (length us)) n (omega arith)) ∙ before y (omega arith)
            ∙ ap (λ r. r y) (sym (table_kept F (run g) k f us x (omega arith)))

    weight : chosen (t.weight k) (t.weight k ⊗ bit_factor F x (start_block (run g) k / 2 ^ (suc (length us) - 1) % 2))
        ≡ column_weight_f (run g) k (us ++ (x ∷ []))
    weight = by (dec_lt (length us) n)
      where
        then : Elem
        then = t.weight k ⊗ bit_factor F x (start_block (run g) k / 2 ^ (suc (length us) - 1) % 2)

        by : Dec (length us < n) → chosen (t.weight k) then ≡ column_weight_f (run g) k (us ++ (x ∷ []))
        by (yes l) =
            ap (λ b. cond b (t.weight k) then) (le-leb (suc (length us)) n l) ∙ stands.weight k h ∙ column_weight_one F (run g) k us (omega arith)
            ∙ sym (column_weight_one F (run g) k (us ++ (x ∷ [])) (omega (arith, longer)))
        by (no l) =
            ap (λ b. cond b (t.weight k) then) (lt-leb (suc (length us)) n (omega arith))
            ∙ ap₂ (λ a i. a ⊗ bit_factor F x (start_block (run g) k / 2 ^ i % 2)) (stands.weight k h)
            (let e : suc (length us) - 1 ≡ length us = omega arith in e)
            ∙ sym (column_weight-bit F (run g) k us x (omega arith))

  pub stands_fold : Stands g cells u (us ++ (x ∷ [])) (folded_tables (run g) (suc (length us)) x t)
  unfolding folded_tables
  stands_fold =
      record {
        values = λ c y p q.
            ap (λ i. fold_mle F t.values x (c * 2 ^ (g.stack - i) + y)) longer
            ∙ values-folded (g.stack - suc (length us)) (omega arith) c y p (rw longer at q);
        eq = λ k y h q. table k h (t.eq ((run g).log k)) (eq_entry_f (run g) ((run g).log k) u) (λ z s. stands.eq k z h s) y (rw longer at q);
        rot = λ k y h q. table k h (t.rot ((run g).log k)) (rot_entry_f (run g) ((run g).log k) u) (λ z s. stands.rot k z h s) y (rw longer at q);
        weight = weight;
      }

  -- the own sum with the next variable left free
  pub stands_quadratic : Laid g → own_quadratic (run g) (suc (length us)) t x ≡ honest_f (run g) cells u us x
  unfolding own_quadratic
  stands_quadratic laid =
      ap (λ i. own_sum (run g) i (folded_tables (run g) (suc (length us)) x t)) (sym longer)
      ∙ stands_sum g laid cells u (us ++ (x ∷ [])) (folded_tables (run g) (suc (length us)) x t) stands_fold (omega (arith, longer))
      ∙ sym (honest_next F half_elem (root g.skip) (run g) cells u us x)
