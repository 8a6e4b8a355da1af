-- What an order adds to the first polynomial, from the rows that its columns were added up to; and all orders together.
use Rattle.std.proofs.Common.{◌≡◌, ℕ, suc, ◌+◌, ◌-◌, ◌*◌, ◌^◌, ◌<◌, ◌≤◌, min, Bool, true, false, not, List, [], ◌∷◌, length, get_or, sym, refl, ap, ◌∙◌, subst, ap₂, true≢false, zero-add, add-one, arith, pow_mono}
use native.Mathlib.Decide.{dec_lt, ℕ_discrete}
use lib.ListN.{get_or-eq_default}
use Rattle.algebra.specs.Ring.{pow}
use Rattle.algebra.specs.Sum.{sum}
use Rattle.algebra.proofs.RingLaws as Laws
use Rattle.algebra.proofs.Expression.{◌:+◌, ◌:*◌, :1, ◌:=◌}
use Rattle.algebra.proofs.Solver.{solve}
use Rattle.algebra.proofs.Powers.{two_pow-add}
use Rattle.algebra.proofs.Sums.{sum_cong_below, sum-add, sum_none, sum_delta}
use Rattle.field.specs.Element.{Elem, F, ◌⊕◌, ◌⊖◌, ◌⊗◌, half_elem, elem_of, words_of}
use Rattle.field.specs.Powers.{root}
use Rattle.field.specs.Slice.{elem_at, words_at, elem_words}
use Rattle.field.proofs.Elements.{elem_of_words, canonical_words_lem}
use Rattle.field.proofs.ElementWords.{elem_at_words, four_eq}
use Rattle.tables.specs.Interpolated.{interpolated}
use Rattle.tables.specs.Geometric.{geometric}
use Rattle.tables.specs.Product.{product_at}
use Rattle.tables.specs.Window.{below}
use Rattle.tables.proofs.PointLaws.{coordinates-length}
use Rattle.tables.proofs.Products.{below_in, below_out}
use Rattle.tables.specs.AtField.{eq_uni_f}
use Rattle.weights.specs.Run.{Run}
use Rattle.weights.specs.RunOf.{run_of}
use Rattle.weights.specs.Fits.{Planned}
use Rattle.weights.specs.Parts.{if_equal, class_rows, flagged_rows, rotated_rows, wrap, kernel_product, parts_coefficient}
use Rattle.weights.specs.AtField.{first_coefficient_f}
use Rattle.weights.proofs.FieldRoots.{root_order}
use Rattle.weights.proofs.PartValues.{equal_same, equal_other}
use Rattle.weights.proofs.PartCoefficients.{parts_coefficient_lem}
use Rattle.prover.specs.RowSum.{from_words}
use Rattle.prover.specs.Live.{Placed}
use Rattle.prover.specs.Written.{Written}
use Rattle.prover.specs.Gained.{Elements, Gained}
use Rattle.prover.specs.Transforms.{kernel_product_f}
use Rattle.prover.specs.ClassRows.{Summed, Missing, order_term, turned_term, gain_of}
use Rattle.prover.proofs.Writing.{own_words, written_whole, written_cong}
use Rattle.prover.proofs.KernelProducts.{product_cong}
use Rattle.prover.proofs.ClassTurns.{entry_of, elements_of}

pub not-true : (b : Bool) → not b ≡ true → b ≡ false
not-true true e = absurd (true≢false (sym e))
not-true false e = refl

no_part : (a b : Elem) → a ≡ F.zero → a ⊗ b ≡ F.zero
no_part a b e = ap (λ x. x ⊗ b) e ∙ Laws.zero-mul F b

-- the kernel's product looks at the values at the powers alone
module _ (run : Run Elem) (cells : ℕ → Elem) where
  abbrev product : ℕ → Elem → (ℕ → Elem) → ℕ → Elem
  product = kernel_product F half_elem (root run.skip) run cells

  kernel_same : (o : ℕ) (y : Elem) (v : ℕ → Elem) (x : ℕ → Elem) (j : ℕ) → ((i : ℕ) → i < 2 ^ run.skip → v i ≡ x i) → kernel_product_f run.skip o y v j ≡ product o y x j
  unfolding kernel_product_f kernel_product interpolated
  kernel_same o y v x j e =
      product_cong F (2 ^ run.skip) (geometric F half_elem run.skip o y) j (λ k _.
      ap (λ s. pow F half_elem run.skip ⊗ s) (sum_cong_below F (2 ^ run.skip) (λ i h. ap (λ a. a ⊗ pow F (root run.skip) ((2 ^ run.skip - i) * k)) (e i h))))

  -- of values that are zero it is zero
  kernel_none : (o : ℕ) (y : Elem) (v : ℕ → Elem) (j : ℕ) → ((i : ℕ) → i < 2 ^ run.skip → v i ≡ F.zero) → product o y v j ≡ F.zero
  unfolding kernel_product interpolated product_at
  kernel_none o y v j e =
      sum_none F (suc j) _ (λ a _. ap (λ x. below F (2 ^ run.skip) (geometric F half_elem run.skip o y) a ⊗ x) (coefficient (j - a)) ∙ Laws.mul-zero F _)
    where
      coefficient : (k : ℕ) → below F (2 ^ run.skip) (interpolated F half_elem run.skip (root run.skip) v) k ≡ F.zero
      coefficient k = elim (dec_lt k (2 ^ run.skip)) [
        | yes l ↦
            below_in F (2 ^ run.skip) _ k l
            ∙ ap (λ s. pow F half_elem run.skip ⊗ s)
            (sum_none F (2 ^ run.skip) _ (λ i h. ap (λ a. a ⊗ pow F (root run.skip) ((2 ^ run.skip - i) * k)) (e i h) ∙ Laws.zero-mul F _))
            ∙ Laws.mul-zero F _
        | no l ↦ below_out F (2 ^ run.skip) _ k (omega arith)
      ]

  -- no column has the order
  module _ (o : ℕ) (missing : Missing run cells o run.count) where
    class_none : (i : ℕ) → class_rows F run cells o i ≡ F.zero
    unfolding class_rows
    class_none i = sum_none F run.count _ (λ k h. no_part _ _ (equal_other F _ o _ (missing k h)))

    flagged_none : (i : ℕ) → flagged_rows F run cells o i ≡ F.zero
    unfolding flagged_rows
    flagged_none i = sum_none F run.count _ (λ k h. no_part _ _ (equal_other F _ o _ (missing k h)))

    rotated_none : o ≡ run.skip → (i : ℕ) → rotated_rows F run cells i ≡ F.zero
    unfolding rotated_rows
    rotated_none e i = sum_none F run.count _ (λ k h. no_part _ _ (equal_other F _ run.skip _ (λ t. missing k h (t ∙ sym e))))

    pub gain_none : (j : ℕ) → gain_of run cells o j ≡ F.zero
    unfolding gain_of order_term turned_term
    gain_none j =
        ap₂ ◌⊕◌
        (ap₂ ◌⊕◌ (kernel_none o _ _ j (λ i h. class_none i)) (ap (λ x. run.lambda ⊗ x) (kernel_none o _ _ j (λ i h. flagged_none i)) ∙ Laws.mul-zero F _) ∙ F.add_zero _)
        (full (ℕ_discrete o run.skip))
        ∙ F.add_zero _
      where
        full : Dec (o ≡ run.skip) → if_equal F o run.skip (turned_term run cells j) ≡ F.zero
        full (yes e) =
            equal_same F o run.skip _ e
            ∙ ap (λ x. run.lambda ⊗ wrap F half_elem (root run.skip) run cells ⊗ x)
            (kernel_none run.skip _ _ j (λ i h.
            ap₂ ◌⊖◌ (rotated_none e i) (ap (λ m. flagged_rows F run cells m i) (sym e) ∙ flagged_none i) ∙ F.add_neg F.zero))
            ∙ Laws.mul-zero F _
        full (no d) = equal_other F o run.skip _ d

-- past the end of both
past : (xs ys : List ℕ) (i : ℕ) → length xs ≤ 4 * i → length ys ≤ 4 * i → words_at xs i ≡ words_at ys i
unfolding words_at
past xs ys i a b = four_eq (none (4 * i) a b) (none (4 * i + 1) (omega arith) (omega arith)) (none (4 * i + 2) (omega arith) (omega arith)) (none (4 * i + 3) (omega arith) (omega arith))
  where
    none : (j : ℕ) → length xs ≤ j → length ys ≤ j → get_or xs j 0 ≡ get_or ys j 0
    none j a b = get_or-eq_default xs 0 a ∙ sym (get_or-eq_default ys 0 b)

module _ (l n first : ℕ) (lists r lambda q : List ℕ) (o : ℕ) where
  abbrev run : Run Elem
  run = run_of l n first lists r lambda

  abbrev cells : ℕ → Elem
  cells = from_words q

  abbrev size : ℕ
  size = 2 * 2 ^ l - 1

  -- what the call leaves
  abbrev Grown : List ℕ → List ℕ → Type 0
  Grown out new = Written out 0 size (λ j. elem_at out j ⊕ gain_of run cells o j) new

  pub order_none : {columns : ℕ} → columns ≡ run.count → Missing run cells o columns → {out : List ℕ} → Elements size out → Grown out out
  order_none all missing {out} words = record {
    elements = λ j h.
        ap (words_at out) (zero-add j) ∙ own_words out j (words.canonical j h)
        ∙ ap words_of (sym (F.add_zero _) ∙ ap (λ x. elem_at out j ⊕ x) (sym (gain_none run cells o (subst (λ m. Missing run cells o m) all missing) j)));
    before = λ i h. refl;
    after = λ i h. refl;
    length_kept = refl;
  }

  module _ (few : l ≤ 10) (within : o ≤ l) {columns : ℕ} (all : columns ≡ run.count) {u f g u' g' : List ℕ} (summed : Summed run cells o columns u f g)
      {rows : ℕ} (is-rows : rows ≡ 2 ^ l) (gained : Written u 0 rows (λ i. elem_at u i ⊕ elem_at f i) u') (lost : Written g 0 rows (λ i. elem_at g i ⊖ elem_at f i) g')
      {r0 y one : List ℕ} (er : r0 ≡ words_of (elem_at r 0)) (ey : y ≡ words_of (pow F (elem_of r0) (2 ^ (l - o)))) (eo : one ≡ words_of F.one) where
    whole : Summed run cells o run.count u f g
    whole = subst (λ m. Summed run cells o m u f g) all summed

    class_is : (i : ℕ) → i < 2 ^ l → elem_at u' i ≡ class_rows F run cells o i
    unfolding class_rows
    class_is i h = entry_of gained i (omega arith) ∙ whole.both i h

    flagged_is : (i : ℕ) → i < 2 ^ l → elem_at f i ≡ flagged_rows F run cells o i
    unfolding flagged_rows
    flagged_is i h = whole.flagged i h

    turned_is : o ≡ l → (i : ℕ) → i < 2 ^ l → elem_at g' i ≡ rotated_rows F run cells i ⊖ flagged_rows F run cells l i
    unfolding rotated_rows
    turned_is e i h =
        entry_of lost i (omega arith)
        ∙ ap₂ ◌⊖◌ (whole.turned e i h) (flagged_is i h ∙ ap (λ m. flagged_rows F run cells m i) e)

    raised_is : elem_of y ≡ pow F (elem_at r 0) (2 ^ (l - o))
    raised_is = elem_of_words _ ey ∙ ap (λ x. pow F x (2 ^ (l - o))) (elem_of_words _ er)

    turned-point : {z : List ℕ} → z ≡ words_of (root o ⊗ elem_of y) → elem_of z ≡ pow F (root l) (2 ^ (l - o)) ⊗ pow F (elem_at r 0) (2 ^ (l - o))
    turned-point ez =
        elem_of_words _ ez
        ∙ ap₂ ◌⊗◌ (ap root {x = o} {y = min l o} (omega arith) ∙ sym (root_order l o (omega arith))) raised_is

    module _ {z : List ℕ} (ez : z ≡ words_of (root o ⊗ elem_of y)) {out mid after : List ℕ} (first-gain : Gained size (elem_of one) (kernel_product_f l o (elem_of y) (elem_at u')) out mid)
        (second-gain : Gained size (elem_of lambda) (kernel_product_f l o (elem_of z) (elem_at f)) mid after) (words : Elements size out) where
      abbrev both : ℕ → Elem
      both j = elem_at out j ⊕ order_term run cells o j

      abbrev plain_part : ℕ → Elem
      plain_part j = product run cells o (pow F (elem_at r 0) (2 ^ (l - o))) (class_rows F run cells o) j

      abbrev flagged_part : ℕ → Elem
      flagged_part j = product run cells o (pow F (root l) (2 ^ (l - o)) ⊗ pow F (elem_at r 0) (2 ^ (l - o))) (flagged_rows F run cells o) j

      plain_is : (j : ℕ) → j < size → elem_at mid j ≡ elem_at out j ⊕ F.one ⊗ plain_part j
      plain_is j h =
          elem_at_words mid j _ (first-gain.entries j h)
          ∙ ap₂ (λ a b. elem_at out j ⊕ a ⊗ b) (elem_of_words _ eo)
          (kernel_same run cells o (elem_of y) (elem_at u') (class_rows F run cells o) j class_is ∙ ap (λ x. product run cells o x (class_rows F run cells o) j) raised_is)

      part_is : (j : ℕ) → kernel_product_f l o (elem_of z) (elem_at f) j ≡ flagged_part j
      part_is j =
          kernel_same run cells o (elem_of z) (elem_at f) (flagged_rows F run cells o) j flagged_is ∙ ap (λ x. product run cells o x (flagged_rows F run cells o) j) (turned-point ez)

      two : (j : ℕ) → j < size → words_at after j ≡ words_of (both j)
      unfolding order_term
      two j h =
          second-gain.entries j h
          ∙ ap words_of
          (ap₂ (λ a b. a ⊕ elem_of lambda ⊗ b) (plain_is j h) (part_is j)
          ∙ solve F (elem_at out j ∷ plain_part j ∷ elem_of lambda ∷ flagged_part j ∷ []) (λ a b c d. a :+ :1 :* b :+ c :* d := a :+ (b :+ c :* d)) refl)

      grown : {new : List ℕ} → length new ≡ length out → ((j : ℕ) → j < size → words_at new j ≡ words_of (elem_at out j ⊕ gain_of run cells o j)) → Grown out new
      grown {new} long e = record {
        elements = λ j h. ap (words_at new) (zero-add j) ∙ e j h;
        before = λ i h. absurd (omega arith);
        after = λ i h. past _ _ i (omega (arith, long, words.size)) (omega (arith, words.size));
        length_kept = long;
      }

      -- an order below the full one
      pub order_below : (o ≡ l → ⊥) → Grown out after
      unfolding gain_of
      order_below d =
          grown (second-gain.size ∙ first-gain.size) (λ j h.
          two j h ∙ ap (λ x. words_of (elem_at out j ⊕ x)) (sym (F.add_zero _) ∙ ap (λ x. order_term run cells o j ⊕ x) (sym (equal_other F o l _ d))))

      abbrev last_rows : ℕ → Elem
      last_rows i = rotated_rows F run cells i ⊖ flagged_rows F run cells l i

      -- the full order
      pub order_full : o ≡ l → {w k : List ℕ} → w ≡ words_of (eq_uni_f l (root l ⊗ elem_at r 0) F.one) → k ≡ words_of (elem_of lambda ⊗ elem_of w)
          → {new : List ℕ} → Gained size (elem_of k) (kernel_product_f l l (elem_of one) (elem_at g')) after new → Grown out new
      unfolding gain_of turned_term wrap
      order_full e {w} {k} ew ek third-gain =
          grown (third-gain.size ∙ second-gain.size ∙ first-gain.size) (λ j h.
          third-gain.entries j h
          ∙ ap words_of
          (ap₂ (λ a b. a ⊕ b) (elem_at_words after j _ (two j h)) (ap₂ ◌⊗◌ factor (part j))
          ∙ F.add_assoc _ _ _
          ∙ ap (λ x. elem_at out j ⊕ (order_term run cells o j ⊕ x)) (sym (equal_same F o l _ e))))
        where
          factor : elem_of k ≡ elem_of lambda ⊗ eq_uni_f l (root l ⊗ elem_at r 0) F.one
          factor = elem_of_words _ ek ∙ ap (λ x. elem_of lambda ⊗ x) (elem_of_words _ ew)

          part : (j : ℕ) → kernel_product_f l l (elem_of one) (elem_at g') j ≡ product run cells l F.one last_rows j
          part j = kernel_same run cells l (elem_of one) (elem_at g') last_rows j (turned_is e) ∙ ap (λ x. product run cells l x last_rows j) (elem_of_words _ eo)

-- all orders
module _ (run : Run Elem) (cells : ℕ → Elem) where
  gains_all : (j : ℕ) → sum F (suc run.skip) (λ o. gain_of run cells o j) ≡ parts_coefficient F half_elem (root run.skip) run cells j
  unfolding gain_of order_term turned_term parts_coefficient
  gains_all j =
      sum-add F (suc run.skip) (λ o. order_term run cells o j) (λ o. if_equal F o run.skip (turned_term run cells j))
      ∙ ap (λ x. sum F (suc run.skip) (λ o. order_term run cells o j) ⊕ x)
      (sum_delta F (suc run.skip) (λ o. if_equal F o run.skip (turned_term run cells j)) run.skip (omega arith) (λ o h d. equal_other F o run.skip _ d)
      ∙ equal_same F run.skip run.skip _ refl)

  -- order after order
  pub orders_none : {out new : List ℕ} {m : ℕ} {z : Elem} → z ≡ F.zero → Written out 0 m (λ i. z) new → Written new 0 m (λ j. sum F 0 (λ o. gain_of run cells o j)) new
  unfolding sum
  orders_none e w = record { elements = λ i h. w.elements i h ∙ ap words_of e; before = λ i h. refl; after = λ i h. refl; length_kept = refl }

  pub orders_turn : (o : ℕ) {rows n : ℕ} → rows ≡ n → {out mid new : List ℕ} → Written out 0 (2 * rows - 1) (λ j. sum F o (λ o. gain_of run cells o j)) mid
      → Written mid 0 (2 * n - 1) (λ j. elem_at mid j ⊕ gain_of run cells o j) new → Written out 0 (2 * rows - 1) (λ j. sum F (o + 1) (λ o. gain_of run cells o j)) new
  unfolding sum
  orders_turn o er w v = record {
    elements = λ j h. v.elements j (omega arith) ∙ ap words_of (ap (λ x. x ⊕ gain_of run cells o j) (entry_of w j h) ∙ ap (λ k. sum F k (λ o. gain_of run cells o j)) (sym (add-one o)));
    before = λ i h. absurd (omega arith);
    after = λ i h. v.after i (omega arith) ∙ w.after i h;
    length_kept = v.length_kept ∙ w.length_kept;
  }

  pub orders_end : Planned run → (o : ℕ) → run.skip < o → o ≤ run.skip + 1 → {out new : List ℕ} {rows : ℕ} → rows ≡ 2 ^ run.skip → length out ≡ 4 * (2 ^ (run.skip + 1) - 1)
      → Written out 0 (2 * rows - 1) (λ j. sum F o (λ o. gain_of run cells o j)) new → new ≡ elem_words (2 ^ (run.skip + 1) - 1) (first_coefficient_f run cells)
  orders_end planned o more most {out} {new} {rows} em long w =
      written_whole (written_cong (subst (λ k. Written out 0 k (λ j. sum F o (λ o. gain_of run cells o j)) new) {x = 2 * rows - 1} {y = 2 ^ (run.skip + 1) - 1} (omega (arith, em, size_is)) w) (λ j h.
      ap (λ k. sum F k (λ o. gain_of run cells o j)) {x = o} {y = suc run.skip} (omega arith) ∙ gains_all j ∙ parts_coefficient_lem run cells planned j (omega (arith, h, size_is)))) long
    where
      size_is : 2 * 2 ^ run.skip - 1 ≡ 2 ^ (run.skip + 1) - 1
      size_is = omega (arith, two_pow-add run.skip 1)

pub gained_elements : {n : ℕ} {k : Elem} {f : ℕ → Elem} {old new : List ℕ} → Elements n old → Gained n k f old new → Elements n new
gained_elements e g = record { size = g.size ∙ e.size; canonical = λ i h. canonical_words_lem _ (g.entries i h) }

-- c = eq_uni(w·r_0, 1), from the words of r
pub wrap_is : {l : ℕ} → l ≤ 10 → (r : List ℕ) {r0 t w : List ℕ} → r0 ≡ words_of (elem_at r 0) → t ≡ words_of (root l ⊗ elem_of r0) → w ≡ words_of (eq_uni_f (min l 10) (elem_of t) F.one)
    → w ≡ words_of (eq_uni_f l (root l ⊗ elem_at r 0) F.one)
wrap_is {l} few r er et ew =
    ew ∙ ap₂ (λ k x. words_of (eq_uni_f k x F.one)) {x = min l 10} {y = l} (omega arith) (elem_of_words _ et ∙ ap (λ x. root l ⊗ x) (elem_of_words _ er))

-- words below p, as many as the code counts
pub orders_words : {rows : ℕ} (l : ℕ) {f : ℕ → Elem} {out new : List ℕ} → Written out 0 (2 * rows - 1) f new → rows ≡ 2 ^ l → length out ≡ 4 * (2 ^ (l + 1) - 1) → Elements (2 * 2 ^ l - 1) new
orders_words {rows} l {new = new} w er size =
    subst (λ m. Elements (2 * m - 1) new) er (elements_of w (size ∙ ap (λ m. 4 * m) {x = 2 ^ (l + 1) - 1} {y = 2 * rows - 1} (omega (arith, er, two_pow-add l 1))))

-- the run that the columns make
pub placed-planned : {l n first columns stacked : ℕ} {lists : List ℕ} (r lambda : List ℕ) → Placed l n first lists columns stacked → Planned (run_of l n first lists r lambda)
placed-planned {n = n} r lambda p = record { limit = p.limit; point = coordinates-length r 1 n; fits = p.fits }

-- the room that is borrowed for 2^l rows
pub few : {l rows : ℕ} → l ≤ 10 → rows ≡ 2 ^ l → 4 * rows ≤ 4096
few {l} h e = omega (arith, pow_mono {i = l} {j = 10} h)

pub few_twice : {l rows : ℕ} → l ≤ 10 → rows ≡ 2 ^ l → 8 * rows ≤ 8192
few_twice {l} h e = omega (arith, pow_mono {i = l} {j = 10} h)

pub twice : (l : ℕ) {rows : ℕ} → rows ≡ 2 ^ l → 8 * rows ≡ 4 * (2 * 2 ^ l)
twice l e = omega arith
