-- The final sum by columns: power of lambda × factor of height and flag × factor of the row × opening is what layout's kernels give for `weights` at the
-- challenges; and a turn of the loop that adds them up.
use mathlib.Core.Path.{◌≡◌, refl, sym, ◌∙◌, ap, ap₂, fun_ext, subst}
use mathlib.Core.List.{List, [], ◌∷◌, ◌++◌}
use Prim.Native.Nat.{ℕ, ◌+◌, ◌-◌, ◌*◌, ◌/◌, ◌^◌, ◌<◌, ◌≤◌, min}
use native.Mathlib.Nat
use native.Mathlib.Omega.{arith}
use lib.ListN.{take, drop}
use lib.Seq.{take_at, drop_at}
use Rattle.algebra.specs.Ring.{pow}
use Rattle.algebra.specs.Sum.{sum}
use Rattle.algebra.specs.Listed.{listed}
use Rattle.algebra.specs.Multilinear.{bits}
use Rattle.algebra.proofs.Expression.{◌:*◌, ◌:=◌}
use Rattle.algebra.proofs.Solver.{solve}
use Rattle.algebra.proofs.Lists.{listed_append}
use Rattle.algebra.proofs.Sums.{sum_cong_below}
use Rattle.field.specs.Element.{Elem, F, ◌⊕◌, ◌⊗◌, half_elem, elem_of, words_of}
use Rattle.field.specs.Powers.{root}
use Rattle.field.specs.Slice.{elem_at}
use Rattle.field.proofs.Elements.{elem_of_words}
use Rattle.tables.specs.InUni.{in_uni}
use Rattle.tables.specs.EqMle.{eq_mle}
use Rattle.tables.specs.Prism.{prism}
use Rattle.tables.specs.AtField.{eq_prism_f, rot_prism_f}
use Rattle.tables.specs.Points.{coordinates}
use Rattle.tables.proofs.PointLaws.{coordinates-length}
use Rattle.layout.specs.declared.columns.Column.{Column}
use Rattle.layout.specs.Triples.{column_count}
use Rattle.layout.specs.Placing.{row_of}
use Rattle.layout.specs.Columns.{column_at}
use Rattle.weights.specs.Run.{Run, order}
use Rattle.weights.specs.ColumnFactor.{raised, lifted_point}
use Rattle.weights.specs.LambdaPowers.{plain_power, rotated_power, if_flagged}
use Rattle.weights.specs.HeightTables.{indicator}
use Rattle.weights.specs.Fits.{Fits, Planned}
use Rattle.weights.specs.FinalSum.{final_sum}
use Rattle.weights.specs.AtField.{weights_f, final_sum_f}
use Rattle.weights.specs.RunOf.{run_of}
use Rattle.weights.proofs.Blocks.{lift_fits, spot-small}
use Rattle.weights.proofs.ColumnValues.{cube_factor-bits}
use Rattle.weights.proofs.WeightsAtPoint.{kernel_weight, weights_at_point}
use Rattle.weights.proofs.FieldRuns.{run_skip, raised-root}
use Rattle.weights.proofs.PowerWalks.{flagged_powers, sum_turn}
use Rattle.verifier.specs.HeightKernels.{prism_weight, height_weight}
use Rattle.verifier.specs.RowKernels.{spot_of, row_weight}
use Rattle.verifier.specs.Walked.{Pointed, Placed}

-- the first m coordinates of a point, and the others
module _ (xs : List ℕ) (n m : ℕ) (few : m ≤ n) where
  parts : coordinates xs 1 n ≡ coordinates xs 1 m ++ coordinates xs (1 + m) (n - m)
  parts =
      ap (coordinates xs 1) {x = n} {y = m + (n - m)} (omega arith) ∙ listed_append m (n - m) (λ j. elem_at xs (1 + j))
      ∙ ap (λ f. coordinates xs 1 m ++ listed (n - m) f) (fun_ext (λ i. ap (elem_at xs) (sym (Nat.add_assoc 1 m i))))

  pub coordinates_first : take m (coordinates xs 1 n) ≡ coordinates xs 1 m
  coordinates_first = ap (take m) parts ∙ take_at (coordinates xs 1 m) _ m (coordinates-length xs 1 m)

  pub coordinates_others : drop m (coordinates xs 1 n) ≡ coordinates xs (1 + m) (n - m)
  coordinates_others = ap (drop m) parts ∙ drop_at (coordinates xs 1 m) _ m (coordinates-length xs 1 m)

module _ (l n first : ℕ) (lists r lambda challenges : List ℕ) where
  abbrev run : Run Elem
  run = run_of l n first lists r lambda

  abbrev u : Elem
  u = elem_at challenges 0

  abbrev us : List Elem
  us = coordinates challenges 1 n

  -- of column k
  module _ (k : ℕ) (fits : Fits l n (column_at l n first lists k).log (column_at l n first lists k).start) where
    abbrev h : ℕ
    h = (column_at l n first lists k).log

    abbrev f : ℕ
    f = (column_at l n first lists k).flag

    abbrev spot : ℕ
    spot = row_of l n (column_at l n first lists k).start / 2 ^ l / 2 ^ (h - l)

    few : h - l ≤ n
    few = lift_fits fits

    rows : eq_mle F (drop (h - l) us) (bits F (n - (h - l)) spot) ≡ row_weight l n h (column_at l n first lists k).start challenges
    unfolding row_weight spot_of
    rows =
        ap (λ zs. eq_mle F zs (bits F (n - (h - l)) spot)) (coordinates_others challenges n (h - l) few)
        ∙ sym (cube_factor-bits F (coordinates challenges (1 + (h - l)) (n - (h - l))) (n - (h - l)) spot (coordinates-length challenges (1 + (h - l)) (n - (h - l))) (spot-small fits))

    pub column_weight_lem : kernel_weight F half_elem (root l) (run_of l n first lists r lambda) k (root (order (run_of l n first lists r lambda) (column_at l n first lists k).log))
        (elem_at challenges 0) (coordinates challenges 1 n)
        ≡ pow F (elem_of lambda) (2 * k) ⊗ height_weight l (column_at l n first lists k).log (column_at l n first lists k).flag lambda r challenges
        ⊗ row_weight l n (column_at l n first lists k).log (column_at l n first lists k).start challenges
    unfolding kernel_weight raised lifted_point indicator plain_power rotated_power height_weight prism_weight
    column_weight_lem =
        (λ i. rows i ⊗ (power ⊗ eq i ⊕ if_flagged F f (pow F (elem_of lambda) (2 * k + 1)) ⊗ rot i) ⊗ ind)
        ∙ ap (λ x. row ⊗ x ⊗ ind) (sym (flagged_powers f k (elem_of lambda) (eq_prism_f (min l h) u (at challenges) r₀ (at r)) (rot_prism_f (min l h) u (at challenges) r₀ (at r))))
        ∙ solve F (row ∷ power ∷ both ∷ ind ∷ []) (λ e q x i. e :* (q :* x) :* i := q :* (i :* x) :* e) refl
      where
        power : Elem
        power = pow F (elem_of lambda) (2 * k)

        row : Elem
        row = row_weight l n h (column_at l n first lists k).start challenges

        ind : Elem
        ind = in_uni F half_elem (min l h) (l - h) (root l) u

        r₀ : Elem
        r₀ = pow F (elem_at r 0) (2 ^ (l - h))

        at : List ℕ → List Elem
        at xs = coordinates xs 1 (h - l)

        both : Elem
        both = eq_prism_f (min l h) u (at challenges) r₀ (at r) ⊕ if_flagged F f (elem_of lambda ⊗ rot_prism_f (min l h) u (at challenges) r₀ (at r))

        eq : eq_prism_f (min l h) u (take (h - l) us) r₀ (take (h - l) (coordinates r 1 n)) ≡ eq_prism_f (min l h) u (at challenges) r₀ (at r)
        eq = ap₂ (λ xs ys. eq_prism_f (min l h) u xs r₀ ys) (coordinates_first challenges n (h - l) few) (coordinates_first r n (h - l) few)

        rot : rot_prism_f (min l h) u (take (h - l) us) r₀ (take (h - l) (coordinates r 1 n)) ≡ rot_prism_f (min l h) u (at challenges) r₀ (at r)
        rot = ap₂ (λ xs ys. rot_prism_f (min l h) u xs r₀ ys) (coordinates_first challenges n (h - l) few) (coordinates_first r n (h - l) few)

  -- the term of the k-th column, which is c
  module _ (openings : List ℕ) where
    abbrev pub term_of : ℕ → Column → Elem
    term_of k c =
        pow F (elem_of lambda) (2 * k) ⊗ height_weight l c.log c.flag lambda r challenges ⊗ row_weight l n c.log c.start challenges
        ⊗ elem_at openings (c.start / 2 ^ (l + n))

    abbrev pub final_term : ℕ → Elem
    final_term k = term_of k (column_at l n first lists k)

    pub final_turn : (k : ℕ) (c : Column) {total q w b o x s : List ℕ} → c ≡ column_at l n first lists k → total ≡ words_of (sum F k final_term)
        → q ≡ words_of (pow F (elem_of lambda) (2 * k)) → w ≡ words_of (height_weight l c.log c.flag lambda r challenges)
        → b ≡ words_of (row_weight l n c.log c.start challenges) → o ≡ words_of (elem_at openings (c.start / 2 ^ (l + n)))
        → x ≡ words_of (elem_of q ⊗ elem_of w ⊗ elem_of b ⊗ elem_of o) → s ≡ words_of (elem_of total ⊕ elem_of x) → s ≡ words_of (sum F (k + 1) final_term)
    final_turn k c {o = o} ec et eq ew eb eo ex es =
        sum_turn final_term k et
        (ex
        ∙ ap₂ (λ y z. words_of (y ⊗ z)) (ap₂ (λ y z. y ⊗ z) (ap₂ (λ y z. y ⊗ z) (elem_of_words _ eq) (elem_of_words _ ew)) (elem_of_words _ eb)) (elem_of_words _ eo)
        ∙ ap (λ d. words_of (term_of k d)) ec)
        es

    module _ (columns : ℕ) (placed : Placed l n first lists columns r challenges) where
      planned : Planned (run_of l n first lists r lambda)
      planned = record { limit = placed.walked.laid.shaped.skip; point = coordinates-length r 1 n; fits = placed.fits }

      -- the polynomial through column k's weights, at u_0 to u_n_stack, is what the code multiplies its opening by
      pub weights_by_kernels : (k : ℕ) → k < column_count lists
          → prism F half_elem l (root l) (weights_f (run_of l n first lists r lambda) k) (elem_at challenges 0) (coordinates challenges 1 n)
          ≡ pow F (elem_of lambda) (2 * k) ⊗ height_weight l (column_at l n first lists k).log (column_at l n first lists k).flag lambda r challenges
          ⊗ row_weight l n (column_at l n first lists k).log (column_at l n first lists k).start challenges
      weights_by_kernels k s =
          weights_at_point run (run_skip run planned) k (placed.fits k s) u us (coordinates-length challenges 1 n)
          ∙ ap (λ v. kernel_weight F half_elem (root l) run k v u us) (raised-root run planned (run.log k)) ∙ column_weight_lem k (placed.fits k s)

      pub final_end : (k : ℕ) {total : List ℕ} → k ≡ columns → total ≡ words_of (sum F k final_term)
          → total ≡ words_of (final_sum_f (run_of l n first lists r lambda) (elem_at challenges 0) (coordinates challenges 1 n) (elem_at openings))
      unfolding final_sum
      final_end k e et =
          et ∙ ap (λ m. words_of (sum F m final_term)) (e ∙ placed.walked.all)
          ∙ ap words_of (sum_cong_below F (column_count lists) (λ i s. ap (λ v. v ⊗ elem_at openings ((column_at l n first lists i).start / 2 ^ (l + n))) (sym (weights_by_kernels i s))))

-- what the functions ask of column k
module _ {l n first columns : ℕ} {lists r challenges : List ℕ} (placed : Placed l n first lists columns r challenges) where
  pub column_pointed : (k : ℕ) (c : Column) → k < columns → c ≡ column_at l n first lists k → Pointed l n c.log r challenges
  column_pointed k c h e = record {
    skip = placed.walked.laid.shaped.skip;
    sum = placed.walked.laid.shaped.sum;
    log = subst (λ (d : Column). d.log ≤ l + n) (sym e) (placed.fits k (omega (arith, placed.walked.all))).log;
    point = placed.point;
    all = placed.all;
  }
