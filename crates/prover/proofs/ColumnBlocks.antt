-- One column's part of a block of points: how many points there are, the weights that stand ready, and what is left past its height.
use Rattle.std.proofs.Common.{◌≡◌, ℕ, ◌+◌, ◌-◌, ◌*◌, ◌/◌, ◌%◌, ◌^◌, ◌<◌, ◌≤◌, cond, eqb, leb, List, length, sym, refl, ap, ◌∙◌, ap₂, arith, pow_mono, ne_eqb, le-leb}
use native.Mathlib.Decide.{dec_le}
use borrow.Author.Tests.{lt-leb}
use Rattle.algebra.specs.Ring.{num}
use Rattle.algebra.specs.Sum.{sum}
use Rattle.algebra.specs.Multilinear.{line, fold_mle}
use Rattle.algebra.proofs.Sums.{sum_cong_below}
use Rattle.algebra.proofs.Powers.{shift_exact}
use Rattle.field.specs.Element.{Elem, F, ◌⊕◌, ◌⊗◌, words_of}
use Rattle.field.specs.Slice.{elem_at}
use Rattle.weights.specs.LambdaPowers.{if_flagged}
use Rattle.prover.specs.declared.sumcheck.Evals.{Evals}
use Rattle.prover.specs.Written.{elems_from}
use Rattle.prover.specs.RoundValues.{round_bit, one_or_two, Values}
use Rattle.prover.specs.PointBlocks.{block_points, weight_line, point_sum, column_points, column_block, Weights, Ready}
use Rattle.prover.specs.Live.{Held, LiveColumn}
use Rattle.prover.proofs.Numbers.{four, reduced, elem-zero}
use Rattle.prover.proofs.PointWeights.{weights_there}
use Rattle.prover.proofs.ColumnPairs.{held-within, values_cong}

-- a block of a table further on
weight_later : (flag : ℕ) (lambda : Elem) (eq rot : List ℕ) (at b : ℕ) (x : Elem) (y : ℕ) → weight_line flag lambda (elems_from eq (at + 512 * b)) (elems_from rot (at + 512 * b)) x y ≡ weight_line flag lambda (elems_from eq at) (elems_from rot at) x (256 * b + y)
unfolding weight_line fold_mle
weight_later flag lambda eq rot at b x y = ap₂ (λ u v. u ⊕ if_flagged F flag (lambda ⊗ v)) (moved eq) (moved rot)
  where
    moved : (t : List ℕ) → line F (elem_at t (at + 512 * b + 2 * y)) (elem_at t (at + 512 * b + (2 * y + 1))) x ≡ line F (elem_at t (at + 2 * (256 * b + y))) (elem_at t (at + (2 * (256 * b + y) + 1))) x
    moved t = ap₂ (λ u v. line F (elem_at t u) (elem_at t v) x) {x = at + 512 * b + 2 * y} {y = at + 2 * (256 * b + y)} (omega arith) (omega arith)

weighed_is : (n flag : ℕ) (lambda : Elem) (eq rot : List ℕ) (at b : ℕ) (q : ℕ → Elem) (x : Elem) {t : List ℕ} → Weights n (weight_line flag lambda (elems_from eq (at + 512 * b)) (elems_from rot (at + 512 * b)) x) t
    → point_sum n q (256 * b) x (elem_at t) ≡ point_sum n q (256 * b) x (λ y. weight_line flag lambda (elems_from eq at) (elems_from rot at) x (256 * b + y))
unfolding point_sum
weighed_is n flag lambda eq rot at b q x w =
    sum_cong_below F n (λ y h. ap (λ u. fold_mle F q x (256 * b + y) ⊗ u) (weights_there w y h ∙ weight_later flag lambda eq rot at b x y))

-- how many points a block has
pub points_are : (l j h b : ℕ) {lift n : ℕ} → lift ≡ h - l → n ≡ cond (leb j lift) (block_points (2 ^ (lift - j)) b) 0 → n ≡ column_points l j h b
unfolding column_points
points_are l j h b e f = f ∙ ap (λ m. cond (leb j m) (block_points (2 ^ (m - j)) b) 0) e

-- of a block
pub points_most : (m b : ℕ) → (block_points m b ≤ 256) × (256 * b + block_points m b ≤ 256 * b + (m - 256 * b))
unfolding block_points
points_most m b = by_case (dec_le 256 (m - 256 * b))
  where
    by_case : Dec (256 ≤ m - 256 * b) → (cond (leb 256 (m - 256 * b)) 256 (m - 256 * b) ≤ 256) × (256 * b + cond (leb 256 (m - 256 * b)) 256 (m - 256 * b) ≤ 256 * b + (m - 256 * b))
    by_case (yes h) = rw (le-leb 256 (m - 256 * b) h) (omega arith, omega arith)
    by_case (no h) = rw (lt-leb 256 (m - 256 * b) (omega arith)) (omega arith, omega arith)

none_later : (m b : ℕ) → block_points m b ≡ 0 → block_points m (b + 1) ≡ 0
unfolding block_points
none_later m b e = by_case (dec_le 256 (m - 256 * b))
  where
    by_case : Dec (256 ≤ m - 256 * b) → cond (leb 256 (m - 256 * (b + 1))) 256 (m - 256 * (b + 1)) ≡ 0
    by_case (yes h) = absurd (let f : 256 ≡ 0 = sym (rw (le-leb 256 (m - 256 * b) h) refl) ∙ e in omega arith)
    by_case (no h) =
        let z : m - 256 * b ≡ 0 = sym (rw (lt-leb 256 (m - 256 * b) (omega arith)) refl) ∙ e in
        rw (lt-leb 256 (m - 256 * (b + 1)) (omega arith)) (omega arith)

some-long : (l j h b : ℕ) → (column_points l j h b ≡ 0 → ⊥) → j ≤ h - l
unfolding column_points
some-long l j h b n = by_case (dec_le j (h - l))
  where
    by_case : Dec (j ≤ h - l) → j ≤ h - l
    by_case (yes k) = k
    by_case (no k) = absurd (n (rw (lt-leb j (h - l) (omega arith)) refl))

points_long : (l j h b : ℕ) → j ≤ h - l → column_points l j h b ≡ block_points (2 ^ (h - l - j)) b
unfolding column_points
points_long l j h b k = rw (le-leb j (h - l) k) refl

points_past : (l j h b : ℕ) → h - l < j → column_points l j h b ≡ 0
unfolding column_points
points_past l j h b k = rw (lt-leb j (h - l) k) refl

pub points_few : (l j h b : ℕ) {n : ℕ} → n ≡ column_points l j h b → n ≤ 256
points_few l j h b {n} e = by_case (dec_le j (h - l))
  where
    by_case : Dec (j ≤ h - l) → n ≤ 256
    by_case (yes k) = let m = (points_most (2 ^ (h - l - j)) b).0 in omega (arith, e ∙ points_long l j h b k)
    by_case (no k) = omega (arith, e ∙ points_past l j h b (omega arith))

-- the element zero, as the code writes it
pub zero_words : four 0 0 0 0 ≡ words_of F.zero
zero_words = reduced 0 0 0 0 refl refl refl refl ∙ ap words_of elem-zero

-- which a column is
module _ (l j s h flag : ℕ) (lambda : Elem) (q e t : ℕ → Elem) (b : ℕ) where
  pub block-long : (x : Elem) → j ≤ h - l
      → point_sum (block_points (2 ^ (h - l - j)) b) (λ i. q (s / 2 ^ (l + j - 1) + i)) (256 * b) x (λ y. weight_line flag lambda e t x (256 * b + y))
      ≡ column_block l j s h flag lambda q e t b x
  unfolding column_block
  block-long x k = rw (le-leb _ _ k) refl

  pub block-short : (x : Elem) → h - l < j → b ≡ 0
      → round_bit (λ i. q (2 * (s / 2 ^ (l + j)) + i)) (s / 2 ^ (l + j - 1) % 2) x ⊗ (e 0 ⊕ if_flagged F flag (lambda ⊗ t 0)) ≡ column_block l j s h flag lambda q e t b x
  unfolding column_block
  block-short x k z = rw z (rw (lt-leb _ _ k) refl)

  pub block_past : (x : Elem) → h - l < j → (b ≡ 0 → ⊥) → F.zero ≡ column_block l j s h flag lambda q e t b x
  unfolding column_block
  block_past x k z = rw (lt-leb _ _ k) (none b z)
    where
      none : (b : ℕ) → (b ≡ 0 → ⊥) → F.zero ≡ cond (eqb b 0) (round_bit (λ i. q (2 * (s / 2 ^ (l + j)) + i)) (s / 2 ^ (l + j - 1) % 2) x ⊗ (e 0 ⊕ if_flagged F flag (lambda ⊗ t 0))) F.zero
      none b z = rw (ne_eqb b 0 z) refl

  block_empty : (x : Elem) → j ≤ h - l → block_points (2 ^ (h - l - j)) b ≡ 0 → F.zero ≡ column_block l j s h flag lambda q e t b x
  unfolding point_sum sum
  block_empty x k z =
      ap (λ m. point_sum m (λ i. q (s / 2 ^ (l + j - 1) + i)) (256 * b) x (λ y. weight_line flag lambda e t x (256 * b + y))) (sym z) ∙ block-long x k

-- a column with no points in a block has none in the next, and no part there but past its height in block 0
pub points_later : (l j h b : ℕ) → column_points l j h b ≡ 0 → column_points l j h (b + 1) ≡ 0
points_later l j h b e = by_case (dec_le j (h - l))
  where
    by_case : Dec (j ≤ h - l) → column_points l j h (b + 1) ≡ 0
    by_case (yes k) = points_long l j h (b + 1) k ∙ none_later (2 ^ (h - l - j)) b (sym (points_long l j h b k) ∙ e)
    by_case (no k) = points_past l j h (b + 1) (omega arith)

pub block_idle : (l j s h flag : ℕ) (lambda : Elem) (q e t : ℕ → Elem) (b : ℕ) (x : Elem) → (b ≡ 0 → ⊥) → column_points l j h b ≡ 0 → column_block l j s h flag lambda q e t b x ≡ F.zero
block_idle l j s h flag lambda q e t b x z n = by_case (dec_le j (h - l))
  where
    by_case : Dec (j ≤ h - l) → column_block l j s h flag lambda q e t b x ≡ F.zero
    by_case (yes k) = sym (block_empty l j s h flag lambda q e t b x k (sym (points_long l j h b k) ∙ n))
    by_case (no k) = sym (block_past l j s h flag lambda q e t b x (omega arith) z)

module _ (l j s h at : ℕ) (q eq rot : List ℕ) (live : LiveColumn l j s h at q eq rot) (lift : ℕ) (is : lift ≡ h - l) (b : ℕ) where
  abbrev half : ℕ
  half = 1 * 2 ^ (lift - j) % 18446744073709551616

  same_half : half ≡ 2 ^ (h - l - j)
  same_half = shift_exact (lift - j) 64 (omega (arith, live.low)) ∙ ap (λ m. 2 ^ (m - j)) is

  module _ {n : ℕ} (e : n ≡ column_points l j h b) where
    pub long_lift : (n ≡ 0 → ⊥) → j ≤ lift
    long_lift k = omega (arith, some-long l j h b (λ z. k (e ∙ z)))

    pub long-asks : (n ≡ 0 → ⊥) → ((n ≤ 256) × (256 * b + n ≤ half) × (half ≤ 8388608)) × Held q (s / 2 ^ (l + j - 1)) (2 * half)
    long-asks k =
        let o = some-long l j h b (λ z. k (e ∙ z)) in
        let r = live.long o in
        let small : 2 ^ (h - l - j) ≤ 2 ^ 20 = pow_mono {i = h - l - j} {j = 20} (omega (arith, live.low)) in
        let m = points_most (2 ^ (h - l - j)) b in
        let is : n ≡ block_points (2 ^ (h - l - j)) b = e ∙ points_long l j h b o in
        ((omega (arith, m.0, is), omega (arith, m.0, m.1, is, same_half), omega (arith, same_half, small)), rw same_half r.0)

    pub table_asks : (n ≡ 0 → ⊥) → Held eq (at + 512 * b) (2 * n) × Held rot (at + 512 * b) (2 * n)
    table_asks k =
        let o = some-long l j h b (λ z. k (e ∙ z)) in
        let r = live.long o in
        let m = (points_most (2 ^ (h - l - j)) b).1 in
        let f : 512 * b + 2 * n ≤ 2 * 2 ^ (h - l - j) = omega (arith, m, e ∙ points_long l j h b o, k) in
        (held-within (512 * b) r.1 f, held-within (512 * b) r.2 f)

    pub long_is : (flag : ℕ) (lambda : Elem) {r : Evals} {one two : List ℕ} → (n ≡ 0 → ⊥)
        → Ready n flag lambda (elems_from eq (at + 512 * b)) (elems_from rot (at + 512 * b)) one two
        → (r.one ≡ words_of (point_sum n (elems_from q (s / 2 ^ (l + j - 1))) (256 * b) F.one (elem_at one))) × (r.two ≡ words_of (point_sum n (elems_from q (s / 2 ^ (l + j - 1))) (256 * b) (num F 2) (elem_at two)))
        → Values (column_block l j s h flag lambda (elem_at q) (elems_from eq at) (elems_from rot at) b) r
    unfolding one_or_two
    long_is flag lambda {one = one} {two = two} k w v = record { at_one = v.0 ∙ ap words_of (there F.one w.at_one); at_two = v.1 ∙ ap words_of (there (num F 2) w.at_two) }
      where
        o : j ≤ h - l
        o = some-long l j h b (λ z. k (e ∙ z))

        there : (x : Elem) {t : List ℕ} → Weights n (weight_line flag lambda (elems_from eq (at + 512 * b)) (elems_from rot (at + 512 * b)) x) t
            → point_sum n (elems_from q (s / 2 ^ (l + j - 1))) (256 * b) x (elem_at t) ≡ column_block l j s h flag lambda (elem_at q) (elems_from eq at) (elems_from rot at) b x
        there x u =
            weighed_is n flag lambda eq rot at b (elems_from q (s / 2 ^ (l + j - 1))) x u
            ∙ ap (λ m. point_sum m (elems_from q (s / 2 ^ (l + j - 1))) (256 * b) x (λ y. weight_line flag lambda (elems_from eq at) (elems_from rot at) x (256 * b + y))) (e ∙ points_long l j h b o)
            ∙ block-long l j s h flag lambda (elem_at q) (elems_from eq at) (elems_from rot at) b x o

    pub empty_is : (flag : ℕ) (lambda : Elem) → n ≡ 0 → j ≤ lift → Values (column_block l j s h flag lambda (elem_at q) (elems_from eq at) (elems_from rot at) b) (record { one = four 0 0 0 0; two = four 0 0 0 0 })
    empty_is flag lambda z k = record { at_one = zero_words ∙ ap words_of (none F.one); at_two = zero_words ∙ ap words_of (none (num F 2)) }
      where
        o : j ≤ h - l
        o = omega (arith, is)

        none : (x : Elem) → F.zero ≡ column_block l j s h flag lambda (elem_at q) (elems_from eq at) (elems_from rot at) b x
        none x = block_empty l j s h flag lambda (elem_at q) (elems_from eq at) (elems_from rot at) b x o (sym (e ∙ points_long l j h b o) ∙ z)

  pub past_is : (flag : ℕ) (lambda : Elem) → lift < j → (b ≡ 0 → ⊥) → Values (column_block l j s h flag lambda (elem_at q) (elems_from eq at) (elems_from rot at) b) (record { one = four 0 0 0 0; two = four 0 0 0 0 })
  past_is flag lambda k z = record { at_one = zero_words ∙ ap words_of (none F.one); at_two = zero_words ∙ ap words_of (none (num F 2)) }
    where
      none : (x : Elem) → F.zero ≡ column_block l j s h flag lambda (elem_at q) (elems_from eq at) (elems_from rot at) b x
      none x = block_past l j s h flag lambda (elem_at q) (elems_from eq at) (elems_from rot at) b x (omega (arith, is)) z

  pub short-asks : lift < j → Held q (2 * (s / 2 ^ (l + j))) 2
  short-asks k = live.short (omega (arith, is))

  pub short-room : lift < j → 2 * (s / 2 ^ (l + j)) ≤ length q
  short-room k = let r = (live.short (omega (arith, is))).room in omega arith

  pub short_is : (flag : ℕ) (lambda : Elem) {r : Evals} → lift < j → b ≡ 0
      → Values (λ x. round_bit (elems_from q (2 * (s / 2 ^ (l + j)))) (s / 2 ^ (l + j - 1) % 2) x ⊗ (elem_at eq at ⊕ if_flagged F flag (lambda ⊗ elem_at rot at))) r
      → Values (column_block l j s h flag lambda (elem_at q) (elems_from eq at) (elems_from rot at) b) r
  short_is flag lambda k z v =
      values_cong (λ x. ap₂ (λ a c. round_bit (elems_from q (2 * (s / 2 ^ (l + j)))) (s / 2 ^ (l + j - 1) % 2) x ⊗ (elem_at eq a ⊕ if_flagged F flag (lambda ⊗ elem_at rot c))) {x = at} {y = at + 0} (omega arith) (omega arith) ∙ block-short l j s h flag lambda (elem_at q) (elems_from eq at) (elems_from rot at) b x (omega (arith, is)) z) v
