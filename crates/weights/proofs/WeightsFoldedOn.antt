-- A column's weights folded at u_0 and at us: on its window, column weight × folded table. And one more fold of column weight and table: while the
-- table is longer than one entry it is folded and the weight stays, after that the table stays and the weight takes the factor of one row bit.
use mathlib.Core.Path.{◌≡◌, sym, ◌∙◌, ap}
use mathlib.Core.List.{List, [], ◌∷◌, ◌++◌}
use Prim.Native.Nat.{ℕ, ◌+◌, ◌-◌, ◌/◌, ◌%◌, ◌^◌, ◌<◌, ◌≤◌}
use native.Mathlib.Nat
use native.Mathlib.Omega.{arith}
use lib.ListN.{length, take, drop, length-append, length-drop, drop_of_length-le}
use lib.Seq.{take_all, take-append-le, drop-append-le}
use Rattle.algebra.specs.Ring.{Ring}
use Rattle.algebra.specs.Multilinear.{bit_factor, cube_factor, fold_mle}
use Rattle.algebra.proofs.Powers.{two_pow-add}
use Rattle.algebra.proofs.Multilinears.{cube_factor_nil}
use Rattle.tables.specs.Root.{Skip}
use Rattle.tables.specs.FoldMany.{fold_many}
use Rattle.tables.specs.FoldPle.{fold_ple}
use Rattle.tables.specs.Window.{window}
use Rattle.tables.proofs.RepeatedFolds.{fold_many_snoc}
use Rattle.weights.specs.Run.{Run, start_row, start_block, lift}
use Rattle.weights.specs.LambdaPowers.{plain_power, rotated_power}
use Rattle.weights.specs.Weights.{weights}
use Rattle.weights.specs.HeightTables.{eq_entry, rot_entry, table_weight}
use Rattle.weights.specs.ColumnWeight.{column_weight}
use Rattle.weights.specs.Fits.{Fits}
use Rattle.weights.proofs.Blocks.{block-spot}
use Rattle.weights.proofs.WeightsFolded.{weights-folded}
use Rattle.weights.proofs.WindowsFolded.{fold_many_linear, cube_factor_snoc, fold_many_aligned}

module _ {A : Type 0} (R : Ring A) (run : Run A) (k : ℕ) where
  infixl 70 ◌⊗◌
  open R use {one as 𝟙, mul as ◌⊗◌}

  -- its log height
  abbrev tall : ℕ
  tall = run.log k

  -- no fold has passed the table
  pub column_weight_one : (us : List A) → length us ≤ lift run tall → column_weight R run k us ≡ 𝟙
  unfolding column_weight
  column_weight_one us h = ap (λ vs. cube_factor R vs (start_block run k / 2 ^ lift run tall)) (drop_of_length-le us h) ∙ cube_factor_nil R _

  -- the bit of the starting row that enters past the table
  pub block-bit : (j : ℕ) → start_block run k / 2 ^ j ≡ start_row run k / 2 ^ (run.skip + j)
  block-bit j = Nat.div-div-eq-div-mul (start_row run k) (2 ^ run.skip) (2 ^ j) ∙ ap (λ n. start_row run k / n) (sym (two_pow-add run.skip j))

  pub column_weight-bit : (us : List A) (u : A) → lift run tall ≤ length us
      → column_weight R run k (us ++ (u ∷ [])) ≡ column_weight R run k us ⊗ bit_factor R u (start_block run k / 2 ^ length us % 2)
  unfolding column_weight
  column_weight-bit us u h =
      ap (λ vs. cube_factor R vs (start_block run k / 2 ^ lift run tall)) (drop-append-le (lift run tall) us (u ∷ []) h)
      ∙ cube_factor_snoc R (drop (lift run tall) us) u (start_block run k / 2 ^ lift run tall)
      ∙ ap (λ q. cube_factor R (drop (lift run tall) us) (start_block run k / 2 ^ lift run tall) ⊗ bit_factor R u (q % 2))
      (Nat.div-div-eq-div-mul (start_block run k) (2 ^ lift run tall) (2 ^ length (drop (lift run tall) us))
      ∙ ap (λ n. start_block run k / n)
      (sym (two_pow-add (lift run tall) (length (drop (lift run tall) us)))
      ∙ ap (λ n. 2 ^ n) (ap (λ n. lift run tall + n) (length-drop (lift run tall) us) ∙ Nat.add-sub_of_le h)))

  -- the tables after one more fold
  pub table_folded : (t : ℕ → A) (us : List A) (u : A) → length us < lift run tall
      → fold_many R t (take (lift run tall) (us ++ (u ∷ []))) ≡ fold_mle R (fold_many R t (take (lift run tall) us)) u
  table_folded t us u h =
      ap (fold_many R t) (take_all (lift run tall) (us ++ (u ∷ [])) (omega (arith, length-append us (u ∷ [])))) ∙ fold_many_snoc R t us u
      ∙ ap (λ vs. fold_mle R (fold_many R t vs) u) (sym (take_all (lift run tall) us (omega arith)))

  pub table_kept : (t : ℕ → A) (us : List A) (u : A) → lift run tall ≤ length us
      → fold_many R t (take (lift run tall) (us ++ (u ∷ []))) ≡ fold_many R t (take (lift run tall) us)
  table_kept t us u h = ap (fold_many R t) (take-append-le (lift run tall) us (u ∷ []) h)

module _ {A : Type 0} (R : Ring A) (half w : A) (run : Run A) (k : ℕ) (u : A) where
  infixl 60 ◌⊕◌
  infixl 70 ◌⊗◌
  open R use {add as ◌⊕◌, mul as ◌⊗◌}

  -- both tables are folded for themselves
  pub table_weight-folded : (us : List A) → fold_many R (table_weight R half w run k u) us
      ≡ (λ x. plain_power R run k ⊗ fold_many R (eq_entry R half w run (run.log k) u) us x ⊕ rotated_power R run k ⊗ fold_many R (rot_entry R half w run (run.log k) u) us x)
  unfolding table_weight
  table_weight-folded us = fold_many_linear R (plain_power R run k) (rotated_power R run k) (eq_entry R half w run (run.log k) u) (rot_entry R half w run (run.log k) u) us

module _ {A : Type 0} {R : Ring A} {half w : A} (run : Run A) (skip : Skip R half run.skip w) (k : ℕ)
    (fits : Fits run.skip run.stack (run.log k) (run.start k)) where
  infixl 70 ◌⊗◌
  open R use {mul as ◌⊗◌}

  pub weights-folded_on : (u : A) (us : List A)
      → fold_many R (fold_ple R half run.skip w (weights R half w run k) u) us
      ≡ window R (start_block run k / 2 ^ length us) (2 ^ (lift run (run.log k) - length us))
      (λ x. column_weight R run k us ⊗ fold_many R (table_weight R half w run k u) (take (lift run (run.log k)) us) x)
  unfolding column_weight
  weights-folded_on u us =
      ap (λ t. fold_many R t us)
      (weights-folded run skip k fits u ∙ ap (λ b. window R b (2 ^ lift run (run.log k)) (table_weight R half w run k u)) (block-spot fits))
      ∙ fold_many_aligned R us (lift run (run.log k)) (start_block run k / 2 ^ lift run (run.log k)) (table_weight R half w run k u)
      ∙ ap (λ b. window R (b / 2 ^ length us) (2 ^ (lift run (run.log k) - length us))
      (λ x. column_weight R run k us ⊗ fold_many R (table_weight R half w run k u) (take (lift run (run.log k)) us) x)) (sym (block-spot fits))
