-- A column's rows by the blocks of an eq table, over plain variables: the factor of a corner, a block's entries, and one block more.
use Rattle.std.proofs.Common.{◌≡◌, ℕ, suc, ◌+◌, ◌-◌, ◌*◌, ◌/◌, ◌%◌, ◌^◌, ◌<◌, ◌≤◌, min, List, [], ◌∷◌, ◌++◌, length, get_or, sym, refl, ap, ◌∙◌, ap₂, add-one, arith}
use native.Mathlib.Nat
use native.Mathlib.Decide.{dec_le}
use Rattle.algebra.specs.Sum.{sum, product}
use Rattle.algebra.specs.Multilinear.{bit_factor, cube_factor}
use Rattle.algebra.proofs.Expression.{:0, ◌:+◌, ◌:*◌, ◌:=◌}
use Rattle.algebra.proofs.Solver.{solve}
use Rattle.algebra.proofs.Lists.{get_d_listed, listed_append, listed_cong}
use Rattle.algebra.proofs.Multilinears.{cube_factor-product, cube_factor_append}
use Rattle.algebra.proofs.Powers.{two_pow-pos, two_pow-add}
use Rattle.algebra.proofs.Sums.{sum_cong, sum_cong_below, sum-mul, sum_single}
use Rattle.field.specs.Element.{Elem, F, ◌⊕◌, ◌⊗◌, elem_of, words_of}
use Rattle.field.specs.Slice.{elem_at, words_at, put}
use Rattle.field.proofs.Elements.{elem_of_words, canonical_words_lem}
use Rattle.field.proofs.ElementWords.{elem_at_words, words_same}
use Rattle.tables.specs.Index.{before}
use Rattle.tables.specs.Points.{coordinates}
use Rattle.tables.proofs.PointLaws.{coordinates-length}
use Rattle.weights.proofs.BlockSums.{turned_once}
use Rattle.prover.specs.Words.{CanonicalFrom}
use Rattle.prover.specs.Written.{Written}
use Rattle.prover.specs.RowSum.{from_words}
use Rattle.prover.specs.StridedSum.{strided_sum}
use Rattle.prover.specs.PointBlocks.{block_points}
use Rattle.prover.proofs.Numbers.{four, reduced, elem_one}
use Rattle.prover.proofs.Writing.{first_words_lem, written_cong, own_words}
use Rattle.prover.proofs.EqParts.{entries_code}
use Rattle.prover.proofs.HeightScales.{all_written}
use Rattle.prover.proofs.ColumnBlocks.{points_most}
use Rattle.prover.proofs.BlockRounds.{blocks-sum}

-- the factor of b's bits at n coordinates, one after the other
module _ (r : List ℕ) (from n b : ℕ) where
  abbrev factor_at : ℕ → Elem
  factor_at j = bit_factor F (get_or (coordinates r from n) j F.zero) (b / 2 ^ j % 2)

  pub record Cornered (e : List ℕ) (left i : ℕ) : Type 0 where
    pub bound : i ≤ n
    pub value : e ≡ words_of (product F i factor_at)
    pub rest : left ≡ b / 2 ^ i

  pub corner_start : Cornered (four 1 0 0 0) b 0
  unfolding product
  corner_start = record { bound = omega arith; value = reduced 1 0 0 0 refl refl refl refl ∙ ap words_of elem_one; rest = sym (Nat.div-one b) }

  pub corner_turn : (i : ℕ) {e x f y : List ℕ} {left : ℕ} → Cornered e left i → i < n → x ≡ words_of (elem_at r (from + i)) → f ≡ words_of (bit_factor F (elem_of x) (left % 2)) → y ≡ words_of (elem_of e ⊗ elem_of f)
      → Cornered y (left / 2) (i + 1)
  unfolding product
  corner_turn i c h ex ef ey = record {
    bound = omega arith;
    value =
        ey
        ∙ ap₂ (λ u v. words_of (u ⊗ v)) (elem_of_words _ c.value)
        (elem_of_words _ ef ∙ ap₂ (λ u m. bit_factor F u (m % 2)) (elem_of_words _ ex ∙ sym (get_d_listed n (λ j. elem_at r (from + j)) i F.zero h)) c.rest)
        ∙ ap (λ k. words_of (product F k factor_at)) (sym (add-one i));
    rest = ap (λ m. m / 2) c.rest ∙ Nat.div-div-eq-div-mul b (2 ^ i) 2 ∙ ap (λ m. b / m) (sym (two_pow-add i 1));
  }

  pub corner_end : {i left : ℕ} {e : List ℕ} → Cornered e left i → n ≤ i → e ≡ words_of (cube_factor F (coordinates r from n) b)
  corner_end {i} c h =
      c.value
      ∙ ap words_of (ap (λ k. product F k factor_at) {x = i} {y = length (coordinates r from n)} (omega (arith, c.bound, coordinates-length r from n)) ∙ sym (cube_factor-product F (coordinates r from n) b))

-- block b of the eq table of r_1 to r_lift with a starting element, of 256 entries or all of them
module _ (r start t : List ℕ) (lift b : ℕ) where
  abbrev entry : ℕ → Elem
  entry x = elem_of start ⊗ cube_factor F (coordinates r 1 lift) (x + 256 * b)

  pub table_small : {new : List ℕ} → lift ≤ 8 → 256 * b < 2 ^ lift → Written t 0 (2 ^ lift) (λ x. elem_of start ⊗ cube_factor F (coordinates r 1 lift) x) new → Written t 0 (2 ^ min 8 lift) entry new
  table_small h k w =
      let few : 2 ^ lift ≤ 2 ^ 8 = Nat.pow-le-pow_right {n = 2} (omega arith) h in
      all_written t 0 _ (2 ^ lift) _ (ap (λ a. 2 ^ a) {x = min 8 lift} {y = lift} (omega arith))
      (written_cong w (λ i _. ap (λ j. elem_of start ⊗ cube_factor F (coordinates r 1 lift) j) {x = i} {y = i + 256 * b} (omega arith)))

  pub table_block : {high k new : List ℕ} → 8 < lift → high ≡ words_of (cube_factor F (coordinates r 9 (lift - 8)) b) → k ≡ words_of (elem_of start ⊗ elem_of high)
      → Written t 0 (2 ^ 8) (λ x. elem_of k ⊗ cube_factor F (coordinates r 1 8) x) new → Written t 0 (2 ^ min 8 lift) entry new
  table_block {high} {k} h eh ek w =
      all_written t 0 _ (2 ^ 8) _ (ap (λ a. 2 ^ a) {x = min 8 lift} {y = 8} (omega arith)) (written_cong w at)
    where
      low : List Elem
      low = coordinates r 1 8

      rest : List Elem
      rest = coordinates r 9 (lift - 8)

      parts : coordinates r 1 lift ≡ low ++ rest
      parts =
          ap (coordinates r 1) {x = lift} {y = 8 + (lift - 8)} (omega arith) ∙ listed_append 8 (lift - 8) (λ j. elem_at r (1 + j))
          ∙ ap (λ l. low ++ l) (listed_cong (lift - 8) (λ i _. ap (elem_at r) {x = 1 + (8 + i)} {y = 9 + i} (omega arith)))

      size : 2 ^ length low ≡ 256
      size = ap (λ m. 2 ^ m) (coordinates-length r 1 8)

      at : (x : ℕ) → x < 256 → elem_of k ⊗ cube_factor F low x ≡ entry x
      at x s =
          ap (λ u. u ⊗ cube_factor F low x) (elem_of_words _ ek ∙ ap (λ u. elem_of start ⊗ u) (elem_of_words _ eh))
          ∙ solve F (elem_of start ∷ cube_factor F rest b ∷ cube_factor F low x ∷ []) (λ s h l. s :* h :* l := s :* (l :* h)) refl
          ∙ ap (λ u. elem_of start ⊗ u)
          (sym (cube_factor_append F low rest x b (omega (arith, size))) ∙ ap₂ (λ us m. cube_factor F us (x + m * b)) (sym parts) size)

-- words that each gain an element
pub written_gain : (g : ℕ → Elem) {old : List ℕ} {rows : ℕ} {f h : ℕ → Elem} {mid new : List ℕ} → Written old 0 rows f mid → Written mid 0 rows (λ i. elem_at mid i ⊕ g i) new
    → ((i : ℕ) → i < rows → f i ⊕ g i ≡ h i) → Written old 0 rows h new
written_gain g {f = f} {mid = mid} s t e = record {
  elements = λ i l. t.elements i l ∙ ap words_of (ap (λ u. u ⊕ g i) (elem_at_words mid i (f i) (first_words_lem s i l)) ∙ e i l);
  before = λ i l. absurd (omega arith);
  after = λ i l. t.after i l ∙ s.after i l;
  length_kept = t.length_kept ∙ s.length_kept;
}

pub written_canonical : {old : List ℕ} {rows : ℕ} {f : ℕ → Elem} {new : List ℕ} → Written old 0 rows f new → CanonicalFrom new 0 rows
written_canonical w i h = canonical_words_lem _ (w.elements i h)

-- how many entries a block is asked for
pub block_few : (lift count b m : ℕ) → m ≡ block_points count b → count ≤ 2 ^ lift → 256 * b < count → (m ≤ 256) × (m ≤ 2 ^ min 8 lift) × (256 * b + m ≤ count)
block_few lift count b m e c h =
    let p = points_most count b in
    (omega (arith, p.0), by_case (dec_le lift 8), omega (arith, p.1))
  where
    by_case : Dec (lift ≤ 8) → m ≤ 2 ^ min 8 lift
    by_case (yes k) = let p = points_most count b in rw (ap (λ a. 2 ^ a) {x = min 8 lift} {y = lift} (omega arith)) (omega (arith, p.1))
    by_case (no k) = let p = points_most count b in rw (ap (λ a. 2 ^ a) {x = min 8 lift} {y = 8} (omega arith)) (omega (arith, p.0))

-- its words are there
pub block_inside : (l at count b m n : ℕ) {stride : ℕ} → stride ≡ 2 ^ l → at + 2 ^ l * count ≤ n → 256 * b + m ≤ count → at + stride * (256 * b) + stride * m ≤ n
block_inside l at count b m n {stride} e room h =
    omega (arith, Nat.mul-add stride (256 * b) m, Nat.mul-le-mul_left stride h, ap (λ a. a * count) e)

-- all blocks but the first
pub last_is : (lift : ℕ) → lift ≤ 20 → 2 ^ lift ≡ suc (1 * 2 ^ lift % 18446744073709551616 - 1)
last_is lift h = omega (arith, entries_code lift h, two_pow-pos lift)

pub later_inside : (l at last m n : ℕ) {stride : ℕ} → stride ≡ 2 ^ l → m ≡ suc last → at + 2 ^ l * m ≤ n → (at + stride + 2 ^ l * last ≤ n) × (at + stride * 1 ≤ n)
later_inside l at last m n e s room =
    let all : 2 ^ l * m ≡ 2 ^ l * last + 2 ^ l = ap (λ a. 2 ^ l * a) s ∙ Nat.mul-suc (2 ^ l) last in
    (omega arith, omega arith)

-- block after block
module _ (q r start acc : List ℕ) (l lift rows at : ℕ) where
  abbrev corner : ℕ → Elem
  corner = cube_factor F (coordinates r 1 lift)

  module _ (count : ℕ) where
    abbrev term : ℕ → ℕ → Elem
    term i y = from_words q (at + i + 2 ^ l * y) ⊗ corner y

    -- with the first B blocks
    unfoldable pub gained : ℕ → ℕ → Elem
    gained B i = elem_at acc i ⊕ elem_of start ⊗ sum F B (λ b. sum F (block_points count b) (λ y. term i (256 * b + y)))

    pub rows_start : CanonicalFrom acc 0 rows → Written acc 0 rows (gained 0) acc
    unfolding gained sum
    rows_start c = record {
      elements = λ i h.
          own_words acc (0 + i) (c i h) ∙ ap words_of (ap (elem_at acc) (Nat.zero-add i) ∙ solve F (elem_at acc i ∷ elem_of start ∷ []) (λ a s. a := a :+ s :* :0) refl);
      before = λ i h. refl;
      after = λ i h. refl;
      length_kept = refl;
    }

    pub rows_turn : (b n stride m : ℕ) {mid old t new : List ℕ} → Written acc 0 rows (gained b) mid → stride ≡ 2 ^ l → m ≡ block_points count b → m ≤ n
        → Written old 0 n (λ x. elem_of start ⊗ corner (x + 256 * b)) t
        → Written mid 0 rows (λ i. elem_at mid i ⊕ strided_sum q (at + stride * (256 * b) + i) stride (elem_at t) m) new → Written acc 0 rows (gained (b + 1)) new
    unfolding gained strided_sum sum
    rows_turn b n stride m {mid} {old} {t} {new} s es em few w more = written_gain _ s more gain
      where
        here : (i y : ℕ) → y < m → from_words q (at + stride * (256 * b) + i + stride * y) ⊗ elem_at t y ≡ elem_of start ⊗ term i (256 * b + y)
        here i y h =
            ap₂ (λ j u. from_words q j ⊗ u) place
            (elem_at_words t y _ (first_words_lem w y (omega arith)) ∙ ap (λ j. elem_of start ⊗ corner j) (Nat.add_comm y (256 * b)))
            ∙ solve F (from_words q (at + i + 2 ^ l * (256 * b + y)) ∷ elem_of start ∷ corner (256 * b + y) ∷ []) (λ a s c. a :* (s :* c) := s :* (a :* c)) refl
          where
            place : at + stride * (256 * b) + i + stride * y ≡ at + i + 2 ^ l * (256 * b + y)
            place = omega (arith, Nat.mul-add stride (256 * b) y, ap (λ a. a * (256 * b + y)) es)

        gain : (i : ℕ) → i < rows → gained b i ⊕ sum F m (λ y. from_words q (at + stride * (256 * b) + i + stride * y) ⊗ elem_at t y) ≡ gained (b + 1) i
        gain i h =
            ap (λ u. gained b i ⊕ u) (sum_cong_below F m (here i) ∙ sum-mul F m (elem_of start) (λ y. term i (256 * b + y)) ∙ ap (λ k. elem_of start ⊗ sum F k (λ y. term i (256 * b + y))) em)
            ∙ solve F (elem_at acc i ∷ elem_of start ∷ sum F b (λ b. sum F (block_points count b) (λ y. term i (256 * b + y))) ∷ sum F (block_points count b) (λ y. term i (256 * b + y)) ∷ [])
            (λ a s u v. a :+ s :* u :+ s :* v := a :+ s :* (u :+ v)) refl
            ∙ ap (λ k. gained k i) (sym (add-one b))

    pub rows_end : (B : ℕ) {new : List ℕ} → count ≤ 256 * B → Written acc 0 rows (gained B) new → Written acc 0 rows (λ i. elem_at acc i ⊕ elem_of start ⊗ strided_sum q (at + i) (2 ^ l) corner count) new
    unfolding gained strided_sum
    rows_end B h w =
        written_cong w (λ i _. ap (λ u. elem_at acc i ⊕ elem_of start ⊗ u) (blocks-sum (term i) count B ∙ ap (λ k. sum F k (term i)) {x = count - (count - 256 * B)} {y = count} (omega arith)))

  -- each block by the entry before its own: all but the first by the entries from the first on, and the first by the last
  pub rows-turned : (stride last : ℕ) (old : List ℕ) {mid high k t new : List ℕ} → stride ≡ 2 ^ l → 2 ^ lift ≡ suc last
      → Written acc 0 rows (λ i. elem_at acc i ⊕ elem_of start ⊗ strided_sum q (at + stride + i) (2 ^ l) corner last) mid
      → high ≡ words_of (corner last) → k ≡ words_of (elem_of start ⊗ elem_of high) → 3 < length old → t ≡ put old 0 (elem_of k)
      → Written mid 0 rows (λ i. elem_at mid i ⊕ strided_sum q (at + i) stride (elem_at t) 1) new
      → Written acc 0 rows (λ i. elem_at acc i ⊕ elem_of start ⊗ strided_sum q (at + i) (2 ^ l) (λ x. corner (before (2 ^ lift) x)) (2 ^ lift)) new
  unfolding strided_sum
  rows-turned stride last old {mid} {high} {k} {t} es el s eh ek room et more = written_gain _ s more gain
    where
      first : elem_at t 0 ≡ elem_of start ⊗ corner last
      first =
          elem_at_words t 0 (elem_of k) (ap (λ z. words_at z 0) et ∙ words_same old 0 (elem_of k) room) ∙ elem_of_words _ ek ∙ ap (λ u. elem_of start ⊗ u) (elem_of_words _ eh)

      row : ℕ → ℕ → Elem
      row i y = from_words q (at + i + 2 ^ l * y)

      later : (i : ℕ) → sum F last (λ y. from_words q (at + stride + i + 2 ^ l * y) ⊗ corner y) ≡ sum F last (λ y. corner y ⊗ row i (suc y))
      later i =
          sum_cong F last (λ y. ap (λ j. from_words q j ⊗ corner y) {x = at + stride + i + 2 ^ l * y} {y = at + i + 2 ^ l * suc y} (omega (arith, Nat.mul-suc (2 ^ l) y)) ∙ F.mul_comm _ _)

      whole : (i : ℕ) → sum F (2 ^ lift) (λ y. row i y ⊗ corner (before (2 ^ lift) y)) ≡ corner last ⊗ row i 0 ⊕ sum F last (λ y. corner y ⊗ row i (suc y))
      whole i =
          ap (λ m. sum F m (λ y. row i y ⊗ corner (before m y))) el ∙ sum_cong F (suc last) (λ y. F.mul_comm _ _) ∙ turned_once F last corner (row i)

      gain : (i : ℕ) → i < rows
          → elem_at acc i ⊕ elem_of start ⊗ sum F last (λ y. from_words q (at + stride + i + 2 ^ l * y) ⊗ corner y) ⊕ sum F 1 (λ y. from_words q (at + i + stride * y) ⊗ elem_at t y)
          ≡ elem_at acc i ⊕ elem_of start ⊗ sum F (2 ^ lift) (λ y. from_words q (at + i + 2 ^ l * y) ⊗ corner (before (2 ^ lift) y))
      gain i h =
          ap₂ (λ u v. elem_at acc i ⊕ elem_of start ⊗ u ⊕ v) (later i)
          (sum_single F _ ∙ ap₂ (λ j u. from_words q (at + i + j) ⊗ u) {x = stride * 0} {y = 2 ^ l * 0} (ap (λ a. a * 0) es) first)
          ∙ solve F (elem_at acc i ∷ elem_of start ∷ sum F last (λ y. corner y ⊗ row i (suc y)) ∷ row i 0 ∷ corner last ∷ [])
          (λ a s u h c. a :+ s :* u :+ h :* (s :* c) := a :+ s :* (c :* h :+ u)) refl
          ∙ ap (λ u. elem_at acc i ⊕ elem_of start ⊗ u) (sym (whole i))
