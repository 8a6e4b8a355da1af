-- A column's openings, over plain variables: the kernels of its order, its rows, and their sums.
use Rattle.std.proofs.Common.{◌≡◌, ℕ, zero, suc, ◌+◌, ◌-◌, ◌*◌, ◌^◌, ◌<◌, ◌≤◌, min, List, [], ◌∷◌, ◌++◌, length, take, drop, sym, refl, ap, ◌∙◌, subst, ap₂, arith}
use native.Mathlib.Nat
use Rattle.algebra.specs.Ring.{pow}
use Rattle.algebra.specs.Sum.{sum}
use Rattle.algebra.specs.Multilinear.{cube_factor}
use Rattle.algebra.proofs.Expression.{:0, :1, ◌:+◌, ◌:*◌, ◌:=◌}
use Rattle.algebra.proofs.Solver.{solve}
use Rattle.algebra.proofs.Powers.{two_pow-pos, two_pow-add}
use Rattle.algebra.proofs.Sums.{sum_cong_below}
use Rattle.field.specs.Element.{Elem, F, ◌⊕◌, ◌⊗◌, elem_of, words_of}
use Rattle.field.specs.Canonical.{Canonical}
use Rattle.field.specs.Powers.{root}
use Rattle.field.specs.Slice.{elem_at, words_at, put}
use Rattle.field.proofs.Elements.{elem_of_words, canonical_words_lem}
use Rattle.field.proofs.ElementWords.{elem_at_words, elem_of_words_at, words_same}
use Rattle.tables.specs.AtField.{lagrange_f}
use Rattle.tables.specs.Index.{before}
use Rattle.tables.specs.KernelTable.{kernel_exit}
use Rattle.tables.specs.Points.{coordinates}
use Rattle.weights.specs.LambdaPowers.{claims_of}
use Rattle.weights.proofs.Blocks.{order_gap}
use Rattle.weights.proofs.ClaimCounts.{claims_one, claims_two, claims-some}
use Rattle.prover.specs.Words.{CanonicalFrom}
use Rattle.prover.specs.Written.{Written}
use Rattle.prover.specs.StridedSum.{strided_sum, plain_row, turned_row}
use Rattle.prover.specs.KernelTables.{OrderKernels}
use Rattle.prover.specs.ColumnOpenings.{rotated_row, raised_point, opened}
use Rattle.prover.proofs.Numbers.{four, reduced, elem-zero, elem_one}
use Rattle.prover.proofs.RowTerms.{sum_more, sum_none}
use Rattle.prover.proofs.Writing.{written_none, written-put, written_turn, first_words_lem}
use Rattle.prover.proofs.KernelRows.{kernels_first}
use Rattle.prover.proofs.HeightScales.{all_written}
use Rattle.prover.proofs.TableBlocks.{written_gain, written_canonical}

pub order_kernels : (l o : ℕ) (r plain rotated : List ℕ) {n : ℕ} {x y w p q : List ℕ} → l ≤ 10 → o ≤ l → n ≡ 2 ^ o → 4 * 2 ^ o ≤ length plain → 4 * 2 ^ o ≤ length rotated
    → x ≡ words_of (elem_at r 0) → y ≡ words_of (pow F (elem_of x) (2 ^ (l - o))) → p ≡ kernel_exit o (elem_of y) (take (4 * n) plain)
    → w ≡ words_of (root o ⊗ elem_of y) → q ≡ kernel_exit o (elem_of w) (take (4 * n) rotated) → OrderKernels l o r (p ++ drop (4 * n) plain) (q ++ drop (4 * n) rotated)
order_kernels l o r plain rotated {n} {x} {y} few low e a b ex ey ep ew eq = record {
  here = λ t h. kernels_first o (elem_of y) plain (omega arith) e (omega arith) ep t h ∙ ap (λ z. words_of (lagrange_f o t z)) point;
  turned = λ t h. kernels_first o _ rotated (omega arith) e (omega arith) eq t h ∙ ap (λ z. words_of (lagrange_f o t z)) (elem_of_words _ ew ∙ ap (λ z. root o ⊗ z) point);
}
  where
    point : elem_of y ≡ pow F (elem_at r 0) (2 ^ (l - o))
    point = elem_of_words _ ey ∙ ap (λ z. pow F z (2 ^ (l - o))) (elem_of_words _ ex)

pub first_canonical : (xs : List ℕ) {n : ℕ} → CanonicalFrom xs 0 n → (i : ℕ) {x : List ℕ} → i < n → x ≡ words_at xs i → Canonical x
first_canonical xs c i h e = rw (e ∙ ap (words_at xs) (sym (Nat.zero-add i))) (c i h)

-- the first element put
pub put_canonical : (old x : List ℕ) {new : List ℕ} → 3 < length old → new ≡ put old 0 (elem_of x) → CanonicalFrom new 0 1
put_canonical old x {new} room e i h =
    canonical_words_lem (elem_of x) (ap (words_at new) {x = 0 + i} {y = 0} (omega arith) ∙ ap (λ xs. words_at xs 0) e ∙ words_same old 0 (elem_of x) room)

-- entries that are `stride` apart, each times its kernel
module _ (k acc : List ℕ) (stride : ℕ) where
  abbrev term : ℕ → Elem
  term t = elem_at k t ⊗ elem_at acc (stride * t)

  pub kernel_start : four 0 0 0 0 ≡ words_of (sum F 0 term)
  kernel_start = reduced 0 0 0 0 refl refl refl refl ∙ ap words_of (elem-zero ∙ sum_none term)

  pub kernel_turn : (t : ℕ) {e a b x : List ℕ} → e ≡ words_of (sum F t term) → a ≡ words_at k t → b ≡ words_at acc (stride * t) → x ≡ words_of (elem_of e ⊕ elem_of a ⊗ elem_of b)
      → x ≡ words_of (sum F (t + 1) term)
  kernel_turn t ee ea eb ex =
      ex ∙ ap words_of (sum_more term t (elem_of_words _ ee) (ap₂ (λ u v. u ⊗ v) (ap elem_of ea ∙ elem_of_words_at k t) (ap elem_of eb ∙ elem_of_words_at acc (stride * t))))

  pub kernel_end : {t n m : ℕ} {e : List ℕ} → t ≤ n → n ≤ t → n ≡ m → e ≡ words_of (sum F t term) → e ≡ words_of (sum F m term)
  kernel_end {t} {n} {m} a b g e = e ∙ ap (λ i. words_of (sum F i term)) {x = t} {y = m} (omega arith)

-- entry t of them is there
pub entry-inside : (stride m t : ℕ) → 0 < stride → t < m → stride * t < stride * m
entry-inside stride m t p h = Nat.mul-lt-mul_of_pos_left h p

-- they are all rows of a block
pub row_grid : (l h : ℕ) {o stride : ℕ} → o ≡ min l h → stride ≡ 2 ^ (l - h) → stride * 2 ^ o ≡ 2 ^ l
row_grid l h eo es = ap₂ (λ a b. a * 2 ^ b) es eo ∙ sym (two_pow-add (l - h) (min l h)) ∙ ap (λ m. 2 ^ m) (Nat.add_comm (l - h) (min l h) ∙ order_gap l h)

-- what a sum by kernels asks
pub kernel-asks : (l h : ℕ) {o stride : ℕ} → o ≡ min l h → stride ≡ 2 ^ (l - h) → (k acc : List ℕ) → l ≤ 10 → 4 * 2 ^ l ≤ length k → CanonicalFrom k 0 (2 ^ o) → 4 * 2 ^ l ≤ length acc
    → CanonicalFrom acc 0 (stride * 2 ^ o)
    → ((o ≤ 10) × (0 < stride)) × ((4 * 2 ^ o ≤ length k) × (CanonicalFrom k 0 (2 ^ o) × ((4 * (stride * 2 ^ o) ≤ length acc) × CanonicalFrom acc 0 (stride * 2 ^ o))))
kernel-asks l h {o} eo es k acc low a ck b cacc = (
  (omega arith, omega (arith, two_pow-pos (l - h))),
  (omega (arith, Nat.pow-le-pow_right {n = 2} (omega arith) {i = o} {j = l} (omega arith)), (ck, (omega (arith, row_grid l h eo es), cacc))),
)

-- the kernels are words below p
module _ (l h : ℕ) (r plain rotated : List ℕ) (kernels : OrderKernels l (min l h) r plain rotated) {o : ℕ} (eo : o ≡ min l h) where
  pub plain_canonical : CanonicalFrom plain 0 (2 ^ o)
  plain_canonical t k = canonical_words_lem _ (ap (words_at plain) (Nat.zero-add t) ∙ kernels.here t (subst (λ m. t < 2 ^ m) eo k))

  pub rotated_canonical : CanonicalFrom rotated 0 (2 ^ o)
  rotated_canonical t k = canonical_words_lem _ (ap (words_at rotated) (Nat.zero-add t) ∙ kernels.turned t (subst (λ m. t < 2 ^ m) eo k))

-- the order and the stride, as the code has them
pub order_code : (l h : ℕ) {gap o : ℕ} → gap ≡ l - h → o ≡ l - gap → o ≡ min l h
order_code l h eg eo = omega arith

gained_one : (x : Elem) → elem_of (four 0 0 0 0) ⊕ elem_of (four 1 0 0 0) ⊗ x ≡ x
gained_one x = ap₂ (λ z u. z ⊕ u ⊗ x) elem-zero elem_one ∙ solve F (x ∷ []) (λ x. :0 :+ :1 :* x := x) refl

-- a column's blocks lie inside, as the code counts them
pub blocks-inside : (l h s n : ℕ) {lift count : ℕ} → lift ≡ h - l → count ≡ 2 ^ lift → s + 2 ^ l * 2 ^ (h - l) ≤ n → s + 2 ^ l * count ≤ n
blocks-inside l h s n el ec room = rw (ec ∙ ap (λ m. 2 ^ m) el) room

-- the rows of a column
module _ (l h s : ℕ) (r q : List ℕ) where
  pub rows_made : {lift rows count : ℕ} {old mid new : List ℕ} → lift ≡ h - l → rows ≡ 2 ^ l → count ≡ 2 ^ lift → Written old 0 rows (λ i. elem_of (four 0 0 0 0)) mid
      → Written mid 0 rows (λ i. elem_at mid i ⊕ elem_of (four 1 0 0 0) ⊗ strided_sum q (s + i) (2 ^ l) (cube_factor F (coordinates r 1 lift)) count) new → Written old 0 (2 ^ l) (plain_row l h s r q) new
  unfolding plain_row
  rows_made {lift} {rows} {count} {old} el er ec z t =
      all_written old 0 (2 ^ l) rows _ (sym er)
      (written_gain _ z t (λ i _. gained_one _ ∙ ap₂ (λ m c. strided_sum q (s + i) (2 ^ l) (cube_factor F (coordinates r 1 m)) c) el (ec ∙ ap (λ m. 2 ^ m) el)))

  pub row-turned : {lift : ℕ} (old : List ℕ) {mid new : List ℕ} → lift ≡ h - l → 3 < length old → mid ≡ put old 0 (elem_of (four 0 0 0 0))
      → Written mid 0 1 (λ i. elem_at mid i ⊕ elem_of (four 1 0 0 0) ⊗ strided_sum q (s + i) (2 ^ l) (λ x. cube_factor F (coordinates r 1 lift) (before (2 ^ lift) x)) (2 ^ lift)) new
      → Written old 0 1 (turned_row l h s r q) new
  unfolding turned_row
  row-turned {lift} old {mid} el room em t =
      written_gain _ (subst (Written old 0 1 (λ i. elem_of (four 0 0 0 0))) (sym em) (written-put old 0 (elem_of (four 0 0 0 0)) room)) t
      (λ i _. gained_one _ ∙ ap (λ m. strided_sum q (s + i) (2 ^ l) (λ x. cube_factor F (coordinates r 1 m) (before (2 ^ m) x)) (2 ^ m)) el)

  -- its sums by the kernels
  module _ (plain rotated : List ℕ) (kernels : OrderKernels l (min l h) r plain rotated) {o stride : ℕ} (eo : o ≡ min l h) (es : stride ≡ 2 ^ (l - h)) where
    inside : (t : ℕ) → t < 2 ^ min l h → 2 ^ (l - h) * t < 2 ^ l
    inside t k = omega (arith, entry-inside (2 ^ (l - h)) (2 ^ min l h) t (two_pow-pos (l - h)) k, row_grid l h refl refl)

    point : pow F (elem_at r 0) (2 ^ (l - min l h)) ≡ raised_point l h s r q
    point = ap (λ m. pow F (elem_at r 0) (2 ^ m)) {x = l - min l h} {y = l - h} (omega arith)

    module _ {old acc : List ℕ} (w : Written old 0 (2 ^ l) (plain_row l h s r q) acc) where
      pub rows_canonical : CanonicalFrom acc 0 (stride * 2 ^ o)
      rows_canonical = subst (CanonicalFrom acc 0) (sym (row_grid l h eo es)) (written_canonical w)

      pub plain-opened : {x : List ℕ} → x ≡ words_of (sum F (2 ^ o) (λ t. elem_at plain t ⊗ elem_at acc (stride * t))) → x ≡ words_of (opened l h s r q 0)
      unfolding opened
      plain-opened ex =
          ex
          ∙ ap words_of
          (ap₂ (λ a b. sum F (2 ^ a) (λ t. elem_at plain t ⊗ elem_at acc (b * t))) eo es
          ∙ sum_cong_below F (2 ^ min l h) (λ t k.
          ap₂ (λ a b. a ⊗ b) (elem_at_words plain t _ (kernels.here t k) ∙ ap (lagrange_f (min l h) t) point) (elem_at_words acc (2 ^ (l - h) * t) _ (first_words_lem w (2 ^ (l - h) * t) (inside t k)))))

      module _ {new : List ℕ} (v : Written acc 0 1 (turned_row l h s r q) new) where
        pub turned_canonical : CanonicalFrom new 0 (stride * 2 ^ o)
        turned_canonical = subst (CanonicalFrom new 0) (sym (row_grid l h eo es)) below
          where
            below : CanonicalFrom new 0 (2 ^ l)
            below zero k = canonical_words_lem _ (v.elements 0 (omega arith))
            below (suc i) k = canonical_words_lem _ (v.after (0 + suc i) (omega arith) ∙ w.elements (suc i) k)

        row : (t : ℕ) → t < 2 ^ min l h → elem_at new (2 ^ (l - h) * t) ≡ rotated_row l h s r q t
        unfolding rotated_row
        row zero k = ap (elem_at new) {x = 2 ^ (l - h) * 0} {y = 0 + 0} (omega arith) ∙ elem_at_words new (0 + 0) _ (v.elements 0 (omega arith))
        row (suc t) k =
            elem_at_words new (2 ^ (l - h) * suc t) _
            (v.after (2 ^ (l - h) * suc t) (omega (arith, Nat.mul-suc (2 ^ (l - h)) t, two_pow-pos (l - h))) ∙ first_words_lem w (2 ^ (l - h) * suc t) (inside (suc t) k))

        pub rotated-opened : {x : List ℕ} → x ≡ words_of (sum F (2 ^ o) (λ t. elem_at rotated t ⊗ elem_at new (stride * t))) → x ≡ words_of (opened l h s r q 1)
        unfolding opened
        rotated-opened ex =
            ex
            ∙ ap words_of
            (ap₂ (λ a b. sum F (2 ^ a) (λ t. elem_at rotated t ⊗ elem_at new (b * t))) eo es
            ∙ sum_cong_below F (2 ^ min l h) (λ t k.
            ap₂ (λ a b. a ⊗ b) (elem_at_words rotated t _ (kernels.turned t k) ∙ ap (λ z. lagrange_f (min l h) t (root (min l h) ⊗ z)) point) (row t k)))

-- one claim or two
module _ (out : List ℕ) (i flag : ℕ) (f : ℕ → Elem) (room : 4 * (i + claims_of flag) ≤ length out) {x mid : List ℕ} (ex : x ≡ words_of (f 0)) (em : mid ≡ put out i (elem_of x)) where
  one : 0 < claims_of flag → Written out i 1 f mid
  one p = written_turn (written_none out i f) (omega arith) (elem_of_words (f 0) ex) (em ∙ ap (λ j. put out j (elem_of x)) {x = i} {y = i + 0} (omega arith))

  pub one_written : flag ≡ 0 → Written out i (claims_of flag) f mid
  one_written z = all_written out i (claims_of flag) 1 f (sym (claims_one flag z)) (one (claims-some flag))

  pub two_written : (flag ≡ 0 → ⊥) → {y new : List ℕ} → y ≡ words_of (f 1) → new ≡ put mid (i + 1) (elem_of y) → Written out i (claims_of flag) f new
  two_written z ey en =
      let two = claims_two flag z in
      all_written out i (claims_of flag) 2 f (sym two) (written_turn (one (claims-some flag)) (omega arith) (elem_of_words (f 1) ey) en)
