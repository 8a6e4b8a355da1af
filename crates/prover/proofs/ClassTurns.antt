-- The rows of one order's columns: what a column adds, and the sums over the columns, one after the other. Over plain variables.
use Rattle.std.proofs.Common.{◌≡◌, ℕ, zero, suc, ◌+◌, ◌-◌, ◌*◌, ◌%◌, ◌^◌, ◌<◌, ◌≤◌, min, Bool, true, false, ◌⊎◌, List, [], ◌∷◌, length, sym, refl, ap, ◌∙◌, subst, ap₂, inl, inr, le_of_suc-le-suc, eq-or-lt_of_le, zero-add, add-one, arith}
use native.Mathlib.Nat
use Rattle.algebra.specs.Ring.{pow}
use Rattle.algebra.specs.Sum.{sum}
use Rattle.algebra.specs.Multilinear.{cube_factor}
use Rattle.algebra.proofs.RingLaws as Laws
use Rattle.algebra.proofs.Expression.{◌:+◌, ◌:=◌}
use Rattle.algebra.proofs.Solver.{solve}
use Rattle.field.specs.Canonical.{Canonical, Below}
use Rattle.field.specs.Element.{Elem, F, ◌⊕◌, ◌⊗◌, elem_of, words_of}
use Rattle.field.specs.Slice.{elem_at, words_at, canonical_words}
use Rattle.field.proofs.Elements.{elem_of_words, canonical_words_lem}
use Rattle.field.proofs.ElementWords.{elem_at_words}
use Rattle.tables.specs.Index.{before}
use Rattle.tables.specs.Points.{coordinates}
use Rattle.layout.specs.declared.columns.Column.{Column}
use Rattle.layout.specs.Columns.{column_at, walk_next}
use Rattle.layout.proofs.ColumnWalks.{walk_turn}
use Rattle.weights.specs.Run.{Run, order}
use Rattle.weights.specs.RunOf.{run_of}
use Rattle.weights.specs.Fits.{Fits}
use Rattle.weights.specs.LambdaPowers.{if_flagged, plain_power}
use Rattle.weights.specs.Parts.{if_equal, plain_rows, turned_rows, flagged_power}
use Rattle.weights.proofs.PartValues.{equal_same, equal_other}
use Rattle.weights.proofs.Blocks.{lift_fits}
use Rattle.weights.proofs.PowerWalks.{flag_some, power_turn}
use Rattle.prover.specs.RowSum.{from_words}
use Rattle.prover.specs.Live.{Placed}
use Rattle.prover.specs.Words.{CanonicalFrom}
use Rattle.prover.specs.StridedSum.{strided_sum, plain_row, turned_row}
use Rattle.prover.specs.Written.{Written}
use Rattle.prover.specs.Gained.{Elements}
use Rattle.prover.specs.ClassRows.{ColumnRows, Summed, Missing}
use Rattle.prover.proofs.Shifts.{shifted}
use Rattle.prover.proofs.Writing.{written_cong}
use Rattle.prover.proofs.ColumnParts.{plain_strided, turned_strided, column-inside}

-- a slice that is written whole: its entries, and their words
pub entry_of : {old : List ℕ} {n : ℕ} {f : ℕ → Elem} {new : List ℕ} → Written old 0 n f new → (i : ℕ) → i < n → elem_at new i ≡ f i
entry_of {new = new} w i h = elem_at_words new i _ (ap (words_at new) (sym (zero-add i)) ∙ w.elements i h)

pub elements_of : {old : List ℕ} {n : ℕ} {f : ℕ → Elem} {new : List ℕ} → Written old 0 n f new → length old ≡ 4 * n → Elements n new
elements_of {new = new} w e =
    record { size = w.length_kept ∙ e; canonical = λ i h. canonical_words_lem _ (ap (words_at new) (sym (zero-add i)) ∙ w.elements i h) }

-- as many as the code counts
pub rows_elements : {rows n : ℕ} {xs : List ℕ} → rows ≡ n → Elements n xs → Elements rows xs
rows_elements {xs = xs} e w = subst (λ m. Elements m xs) (sym e) w

pub written_elements : {old : List ℕ} {rows n : ℕ} {f : ℕ → Elem} {new : List ℕ} → rows ≡ n → Elements n old → Written old 0 rows f new → Elements n new
written_elements {new = new} e old w = subst (λ m. Elements m new) e (elements_of w (old.size ∙ ap (λ m. 4 * m) (sym e)))

pub all_canonical : {n : ℕ} {xs : List ℕ} → Elements n xs → (i : ℕ) → i < n → Canonical (words_at xs (0 + i))
all_canonical {xs = xs} e i h = subst (λ k. Canonical (words_at xs k)) (sym (zero-add i)) (e.canonical i h)

pub zero_is : elem_of (0 ∷ 0 ∷ 0 ∷ 0 ∷ []) ≡ F.zero
unfolding elem_of
zero_is = refl

pub zeros-below : Below 0 0 0 0
zeros-below = record { w0 = omega arith; w1 = omega arith; w2 = omega arith; w3 = omega arith }

-- nothing is added
none_added : (a : Elem) (b : Elem) {c : Elem} → c ≡ F.zero → a ≡ a ⊕ c ⊗ b
none_added a b e = sym (F.add_zero a) ∙ ap (λ x. a ⊕ x) (sym (Laws.zero-mul F b)) ∙ ap (λ x. a ⊕ x ⊗ b) (sym e)

flag_zero : (f : ℕ) (a : Elem) → f ≡ 0 → if_flagged F f a ≡ F.zero
unfolding if_flagged
flag_zero zero a e = refl
flag_zero (suc f) a e = absurd (omega arith)

equal_zero : (m n : ℕ) (a : Elem) → a ≡ F.zero → if_equal F m n a ≡ F.zero
equal_zero m n a e = ap (if_equal F m n) e ∙ by (m - n + (n - m)) refl
  where
    by : (d : ℕ) → m - n + (n - m) ≡ d → if_equal F m n F.zero ≡ F.zero
    by zero q = equal_same F m n F.zero (omega arith)
    by (suc d) q = equal_other F m n F.zero (λ h. omega arith)

module _ (l o h flag : ℕ) (power : Elem) (q : List ℕ) (s : ℕ) (r u f g : List ℕ) (uw : Elements (2 ^ l) u) (fw : Elements (2 ^ l) f) (gw : Elements (2 ^ l) g) where
  abbrev Rows : List ℕ → List ℕ → List ℕ → Type 0
  Rows = ColumnRows l o h flag power q s r u f g

  -- a column of another order
  pub rows_other : (min l h ≡ o → ⊥) → Rows u f g
  rows_other d = record {
    both = λ i k. none_added _ _ (equal_other F (min l h) o power d);
    flagged = λ i k. none_added _ _ (equal_other F (min l h) o (if_flagged F flag power) d);
    turned = λ e i k. none_added _ _ (equal_other F (min l h) l (if_flagged F flag power) (λ t. d (t ∙ sym e)));
    u_words = uw;
    f_words = fw;
    g_words = gw;
  }

  module _ (same : min l h ≡ o) where
    -- one that is not flagged
    pub rows-plain : flag ≡ 0 → {u' : List ℕ} → Written u 0 (2 ^ l) (λ i. elem_at u i ⊕ power ⊗ plain_row l h s r q i) u' → Rows u' f g
    rows-plain z {u'} w = record {
      both = λ i k.
          ap (λ x. x ⊕ elem_at f i) (entry_of w i k)
          ∙ solve F (elem_at u i ∷ elem_at f i ∷ power ⊗ plain_row l h s r q i ∷ []) (λ u f t. u :+ t :+ f := u :+ f :+ t) refl
          ∙ ap (λ x. elem_at u i ⊕ elem_at f i ⊕ x ⊗ plain_row l h s r q i) (sym (equal_same F (min l h) o power same));
      flagged = λ i k. none_added _ _ (equal_zero (min l h) o _ (flag_zero flag power z));
      turned = λ e i k. none_added _ _ (equal_zero (min l h) l _ (flag_zero flag power z));
      u_words = elements_of w uw.size;
      f_words = fw;
      g_words = gw;
    }

    module _ (some : flag ≡ 0 → ⊥) {f' : List ℕ} (w : Written f 0 (2 ^ l) (λ i. elem_at f i ⊕ power ⊗ plain_row l h s r q i) f') where
      into-both : (i : ℕ) → i < 2 ^ l → elem_at u i ⊕ elem_at f' i ≡ elem_at u i ⊕ elem_at f i ⊕ if_equal F (min l h) o power ⊗ plain_row l h s r q i
      into-both i k =
          ap (λ x. elem_at u i ⊕ x) (entry_of w i k) ∙ sym (F.add_assoc _ _ _)
          ∙ ap (λ x. elem_at u i ⊕ elem_at f i ⊕ x ⊗ plain_row l h s r q i) (sym (equal_same F (min l h) o power same))

      its_power : (n : ℕ) → min l h ≡ n → if_equal F (min l h) n (if_flagged F flag power) ≡ power
      its_power n e = equal_same F (min l h) n _ e ∙ flag_some flag power some

      into-flagged : (i : ℕ) → i < 2 ^ l → elem_at f' i ≡ elem_at f i ⊕ if_equal F (min l h) o (if_flagged F flag power) ⊗ plain_row l h s r q i
      into-flagged i k = entry_of w i k ∙ ap (λ x. elem_at f i ⊕ x ⊗ plain_row l h s r q i) (sym (its_power o same))

      -- a flagged one
      pub rows-flagged : (o ≡ l → ⊥) → Rows u f' g
      rows-flagged d = record {
        both = into-both;
        flagged = into-flagged;
        turned = λ e. absurd (d e);
        u_words = uw;
        f_words = elements_of w fw.size;
        g_words = gw;
      }

      -- of the full order
      pub rows-turned : {g' : List ℕ} → Written g 0 (2 ^ l) (λ i. elem_at g i ⊕ power ⊗ turned_row l h s r q i) g' → Rows u f' g'
      rows-turned v = record {
        both = into-both;
        flagged = into-flagged;
        turned = λ e i k. entry_of v i k ∙ ap (λ x. elem_at g i ⊕ x ⊗ turned_row l h s r q i) (sym (its_power l (same ∙ e)));
        u_words = uw;
        f_words = elements_of w fw.size;
        g_words = elements_of v gw.size;
      }

-- what the rows of a column ask, as the code counts them, and what they leave
module _ (l h : ℕ) {lift rows : ℕ} (is-lift : lift ≡ h - l) (is-rows : rows ≡ 2 ^ l) (few : (l ≤ 10) × (h - l ≤ 20)) where
  abbrev blocks : ℕ
  blocks = 1 * 2 ^ lift % 18446744073709551616

  blocks_are : blocks ≡ 2 ^ (h - l)
  blocks_are = shifted 1 lift (omega arith) (omega (arith, few.1)) ∙ Nat.one-mul (2 ^ lift) ∙ ap (λ k. 2 ^ k) is-lift

  lift_is : 2 ^ lift ≡ 2 ^ (h - l)
  lift_is = ap (λ k. 2 ^ k) is-lift

  module _ (q r power acc : List ℕ) (s : ℕ) (inside : s + 2 ^ l * 2 ^ (h - l) ≤ length q) (point : 4 * (h - l + 1) ≤ length r) (words : canonical_words r ≡ true) (canonical : Canonical power)
      (elements : Elements (2 ^ l) acc) where
    abbrev Rest : Type 0
    Rest = (4 * (lift + 1) ≤ length r) × ((canonical_words r ≡ true) × (Canonical power × ((4 * rows ≤ length acc) × CanonicalFrom acc 0 rows)))

    rest : Rest
    rest = (omega arith, (words, (canonical, (omega (arith, elements.size), λ i k. all_canonical elements i (omega arith)))))

    pub table_asks : ((l ≤ 10) × (lift ≤ 20) × (blocks ≤ 2 ^ lift) × (rows ≤ 2 ^ l)) × ((s + 2 ^ l * blocks ≤ length q) × Rest)
    table_asks = (
      (few.0, omega (arith, few.1), omega (arith, blocks_are, lift_is), omega arith),
      (omega (arith, ap (λ b. 2 ^ l * b) blocks_are), rest),
    )

    pub turned-asks : ((l ≤ 10) × (lift ≤ 20) × (rows ≤ 2 ^ l)) × ((s + 2 ^ l * 2 ^ lift ≤ length q) × Rest)
    turned-asks = ((few.0, omega (arith, few.1), omega arith), (omega (arith, ap (λ b. 2 ^ l * b) lift_is), rest))

  module _ (q r acc : List ℕ) (power : Elem) (s : ℕ) {new : List ℕ} where
    pub table_leaves : Written acc 0 rows (λ i. elem_at acc i ⊕ power ⊗ strided_sum q (s + i) (2 ^ l) (cube_factor F (coordinates r 1 lift)) blocks) new
        → Written acc 0 (2 ^ l) (λ i. elem_at acc i ⊕ power ⊗ plain_row l h s r q i) new
    unfolding plain_row
    table_leaves w =
        subst (λ n. Written acc 0 n (λ i. elem_at acc i ⊕ power ⊗ plain_row l h s r q i) new) is-rows
        (written_cong w (λ i k. ap₂ (λ m b. elem_at acc i ⊕ power ⊗ strided_sum q (s + i) (2 ^ l) (cube_factor F (coordinates r 1 m)) b) is-lift blocks_are))

    pub turned-leaves : Written acc 0 rows (λ i. elem_at acc i ⊕ power ⊗ strided_sum q (s + i) (2 ^ l) (λ x. cube_factor F (coordinates r 1 lift) (before (2 ^ lift) x)) (2 ^ lift)) new
        → Written acc 0 (2 ^ l) (λ i. elem_at acc i ⊕ power ⊗ turned_row l h s r q i) new
    unfolding turned_row
    turned-leaves w =
        subst (λ n. Written acc 0 n (λ i. elem_at acc i ⊕ power ⊗ turned_row l h s r q i) new) is-rows
        (written_cong w (λ i k. ap (λ m. elem_at acc i ⊕ power ⊗ strided_sum q (s + i) (2 ^ l) (λ x. cube_factor F (coordinates r 1 m) (before (2 ^ m) x)) (2 ^ m)) is-lift))

-- its order, as the code finds it
pub column_order : (l h : ℕ) {a b : ℕ} → a ≡ l - h → b ≡ l - a → b ≡ min l h
column_order l h ea eb = omega arith

-- the sums, column after column
module _ (l n first : ℕ) (lists r lambda q : List ℕ) (o : ℕ) where
  abbrev run : Run Elem
  run = run_of l n first lists r lambda

  abbrev cells : ℕ → Elem
  cells = from_words q

  pub summed_none : {rows : ℕ} → rows ≡ 2 ^ l → {u f g : List ℕ} {u₀ f₀ g₀ : List ℕ} → length u₀ ≡ 4 * 2 ^ l → length f₀ ≡ 4 * 2 ^ l → length g₀ ≡ 4 * 2 ^ l → {z : Elem} → z ≡ F.zero
      → Written u₀ 0 rows (λ i. z) u → Written f₀ 0 rows (λ i. z) f → Written g₀ 0 rows (λ i. z) g → Summed run cells o 0 u f g
  unfolding sum
  summed_none er us fs gs e wu wf wg = record {
    both = λ i k. ap₂ ◌⊕◌ (entry_of wu i (omega arith) ∙ e) (entry_of wf i (omega arith) ∙ e) ∙ F.add_zero F.zero;
    flagged = λ i k. entry_of wf i (omega arith) ∙ e;
    turned = λ t i k. entry_of wg i (omega arith) ∙ e;
    u_words = filled wu us er;
    f_words = filled wf fs er;
    g_words = filled wg gs er;
  }
    where
      filled : {old : List ℕ} {m : ℕ} {z : Elem} {new : List ℕ} → Written old 0 m (λ i. z) new → length old ≡ 4 * 2 ^ l → m ≡ 2 ^ l → Elements (2 ^ l) new
      filled {new = new} w size em = subst (λ m. Elements m new) em (elements_of w (size ∙ ap (λ m. 4 * m) (sym em)))

  one_more : (m : ℕ) (f : ℕ → Elem) → sum F m f ⊕ f m ≡ sum F (m + 1) f
  unfolding sum
  one_more m f = ap (λ k. sum F k f) (sym (add-one m))

  -- a column's turn
  pub summed_turn : {columns stacked : ℕ} → Placed l n first lists columns stacked → (k : ℕ) → k < columns → {c : Column} → c ≡ column_at l n first lists k
      → {power : List ℕ} → power ≡ words_of (pow F (elem_of lambda) (2 * k)) → {u f g u' f' g' : List ℕ} → Summed run cells o k u f g
      → ColumnRows l o c.log c.flag (elem_of power) q c.start r u f g u' f' g' → Summed run cells o (k + 1) u' f' g'
  unfolding plain_power plain_row turned_row
  summed_turn placed k h {c} ec {power} ep {u} {f} {g} {u'} {f'} {g'} s added =
      step (subst (λ (x : Column). ColumnRows l o x.log x.flag (elem_of power) q x.start r u f g u' f' g') ec added)
    where
      at : Column
      at = column_at l n first lists k

      fits : Fits l n at.log at.start
      fits = placed.fits k (omega (arith, placed.walked.all))

      its : elem_of power ≡ plain_power F run k
      its = elem_of_words _ ep

      step : ColumnRows l o at.log at.flag (elem_of power) q at.start r u f g u' f' g' → Summed run cells o (k + 1) u' f' g'
      step a = record {
        both = λ i j.
            a.both i j
            ∙ ap₂ ◌⊕◌ (s.both i j) (ap₂ (λ x y. if_equal F (min l at.log) o x ⊗ y) its (sym (plain_strided l n first lists r lambda q k fits i)))
            ∙ one_more k (λ k. if_equal F (order run (run.log k)) o (plain_power F run k) ⊗ plain_rows F run cells k i);
        flagged = λ i j.
            a.flagged i j
            ∙ ap₂ ◌⊕◌ (s.flagged i j) (ap₂ (λ x y. if_equal F (min l at.log) o (if_flagged F at.flag x) ⊗ y) its (sym (plain_strided l n first lists r lambda q k fits i)))
            ∙ one_more k (λ k. if_equal F (order run (run.log k)) o (flagged_power F run cells k) ⊗ plain_rows F run cells k i);
        turned = λ e i j.
            a.turned e i j
            ∙ ap₂ ◌⊕◌ (s.turned e i j) (ap₂ (λ x y. if_equal F (min l at.log) l (if_flagged F at.flag x) ⊗ y) its (sym (turned_strided l n first lists r lambda q k fits i)))
            ∙ one_more k (λ k. if_equal F (order run (run.log k)) run.skip (flagged_power F run cells k) ⊗ turned_rows F run cells k i);
        u_words = a.u_words;
        f_words = a.f_words;
        g_words = a.g_words;
      }

  -- none so far
  pub missing_turn : (k : ℕ) {any there some : Bool} → (any ≡ false → Missing run cells o k) → {c : Column} → c ≡ column_at l n first lists k → (there ≡ false → min l c.log ≡ o → ⊥)
      → (some ≡ false → (any ≡ false) × (there ≡ false)) → some ≡ false → Missing run cells o (k + 1)
  missing_turn k before {c} ec here both e j h t = by (eq-or-lt_of_le (le_of_suc-le-suc (subst (λ m. j < m) (add-one k) h)))
    where
      by : (j ≡ k) ⊎ (j < k) → ⊥
      by (inl q) = here (both e).1 (ap (λ (x : Column). min l x.log) (ec ∙ ap (column_at l n first lists) (sym q)) ∙ t)
      by (inr q) = before (both e).0 j q t

-- the walk over the columns of a run
module _ (l n first : ℕ) (lists r q : List ℕ) (o columns : ℕ) (step : List ℕ) where
  -- lambda, of which the walk has the square
  abbrev Squared : List ℕ → Type 0
  Squared lambda = step ≡ words_of (elem_of lambda ⊗ elem_of lambda)

  pub record Classing (u f g power : List ℕ) (any : Bool) (c : Column) (k : ℕ) : Type 0 where
    pub inside : k ≤ columns
    pub column : c ≡ column_at l n first lists k
    pub power_is : (lambda : List ℕ) → Squared lambda → power ≡ words_of (pow F (elem_of lambda) (2 * k))
    pub sums : (lambda : List ℕ) → Squared lambda → Summed (run_of l n first lists r lambda) (from_words q) o k u f g
    pub none : any ≡ false → (lambda : List ℕ) → Missing (run_of l n first lists r lambda) (from_words q) o k

  pub classing_turn : {stacked : ℕ} → Placed l n first lists columns stacked → {u f g power : List ℕ} {any : Bool} {c : Column} {k : ℕ} → Classing u f g power any c k → k < columns
      → {u' f' g' next : List ℕ} {there some : Bool} {d : Column} → (there ≡ false → min l c.log ≡ o → ⊥)
      → ColumnRows l o c.log c.flag (elem_of power) q c.start r u f g u' f' g' → (some ≡ false → (any ≡ false) × (there ≡ false))
      → next ≡ words_of (elem_of power ⊗ elem_of step) → d ≡ walk_next l n first lists c → Classing u' f' g' next some d (k + 1)
  classing_turn placed {k = k} i h here added both e w = record {
    inside = omega arith;
    column = walk_turn placed.walked _ _ _ h i.column w;
    power_is = λ lambda s. power_turn (elem_of lambda) k (i.power_is lambda s) s e;
    sums = λ lambda s. summed_turn l n first lists r lambda q o placed k h i.column (i.power_is lambda s) (i.sums lambda s) added;
    none = λ z lambda. missing_turn l n first lists r lambda q o k (λ a. i.none a lambda) i.column here both z;
  }

  -- what a turn asks
  pub class-asks : {stacked : ℕ} → Placed l n first lists columns stacked → length r ≡ 4 * (n + 1) → canonical_words r ≡ true → length q ≡ stacked * 2 ^ (l + n) → o ≤ l
      → {u f g power : List ℕ} {any : Bool} {c : Column} {k : ℕ} → Classing u f g power any c k → k < columns → (lambda : List ℕ) → Squared lambda
      → ((l ≤ 10) × (o ≤ l) × (c.log - l ≤ 20))
      × ((c.start + 2 ^ l * 2 ^ (c.log - l) ≤ length q)
      × ((4 * (c.log - l + 1) ≤ length r) × ((canonical_words r ≡ true) × (Canonical power × (Elements (2 ^ l) u × (Elements (2 ^ l) f × Elements (2 ^ l) g))))))
  class-asks placed point words size within {c = c} {k} i h lambda s = (
    (placed.limit, within, omega (arith, low, placed.stack)),
    (
      omega (arith, column-inside placed k h i.column, size),
      (omega (arith, low, point), (words, (canonical_words_lem _ (i.power_is lambda s), ((i.sums lambda s).u_words, ((i.sums lambda s).f_words, (i.sums lambda s).g_words))))),
    ),
  )
    where
      low : c.log - l ≤ n
      low =
          subst (λ (x : Column). x.log - l ≤ n) (sym i.column) (lift_fits (placed.fits k (omega (arith, placed.walked.all))))

  pub classing_end : {u f g power : List ℕ} {any : Bool} {c : Column} {k : ℕ} → Classing u f g power any c k → columns ≤ k → (lambda : List ℕ) → Squared lambda
      → (any ≡ false → Missing (run_of l n first lists r lambda) (from_words q) o columns) × Summed (run_of l n first lists r lambda) (from_words q) o columns u f g
  classing_end {u} {f} {g} {k = k} i h lambda s = (
    λ z. subst (Missing (run_of l n first lists r lambda) (from_words q) o) all (i.none z lambda),
    subst (λ m. Summed (run_of l n first lists r lambda) (from_words q) o m u f g) all (i.sums lambda s),
  )
    where
      all : k ≡ columns
      all = omega (arith, i.inside)
