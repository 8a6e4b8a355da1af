-- The loop of a short row, over plain variables.
use Rattle.std.proofs.Common.{◌≡◌, ℕ, ◌+◌, ◌*◌, ◌%◌, ◌<◌, ◌≤◌, true, List, get_or, ap, ◌∙◌, ap₂, arith}
use native.Mathlib.Nat
use Rattle.algebra.specs.Sum.{sum}
use Rattle.field.specs.Word.{p}
use Rattle.field.specs.Element.{Elem, F, ◌⊗◌, elem_of, words_of}
use Rattle.field.specs.Canonical.{Canonical}
use Rattle.field.specs.Slice.{elem_at, words_at, canonical_words}
use Rattle.field.proofs.Residues.{narrow}
use Rattle.field.proofs.Slices.{canonical_below}
use Rattle.field.proofs.ElementWords.{elem_of_words_at}
use Rattle.prover.specs.RowSum.{from_words, row_sum}
use Rattle.prover.proofs.Numbers.{four, reduced, elem-zero, elem-sum, elem_multiple}
use Rattle.prover.proofs.RowTerms.{sum_more, sum_none}

pub canonical_element : (xs : List ℕ) (i : ℕ) {e : List ℕ} → canonical_words xs ≡ true → e ≡ words_at xs i → Canonical e
unfolding words_at
canonical_element xs i h q =
    rw q (record { w0 = canonical_below xs h _; w1 = canonical_below xs h _; w2 = canonical_below xs h _; w3 = canonical_below xs h _ })

abbrev term : List ℕ → ℕ → List ℕ → ℕ → Elem
term q at k i = from_words q (i + at) ⊗ elem_at k i

-- a short row after i turns: the sums stand in four numbers, each of i products at most
pub record Adding (q : List ℕ) (at : ℕ) (k : List ℕ) (n i s0 s1 s2 s3 : ℕ) : Type 0 where
  pub bound : i ≤ n
  pub value : elem_of (four s0 s1 s2 s3) ≡ sum F i (term q at k)
  pub part0 : s0 ≤ i * 4053239664633446400
  pub part1 : s1 ≤ i * 4053239664633446400
  pub part2 : s2 ≤ i * 4053239664633446400
  pub part3 : s3 ≤ i * 4053239664633446400

module _ (q : List ℕ) (at : ℕ) (k : List ℕ) (n : ℕ) where
  pub adding_start : Adding q at k n 0 0 0 0 0
  adding_start =
      record { bound = omega arith; value = elem-zero ∙ sum_none (term q at k); part0 = omega arith; part1 = omega arith; part2 = omega arith; part3 = omega arith }

  pub adding_turn : {i s0 s1 s2 s3 r0 r1 r2 r3 : ℕ} {e : List ℕ} → Adding q at k n i s0 s1 s2 s3 → i < n → canonical_words q ≡ true → canonical_words k ≡ true → e ≡ words_at k i
      → r0 ≡ s0 + get_or q (at + i) 0 * get_or e 0 0 → r1 ≡ s1 + get_or q (at + i) 0 * get_or e 1 0 → r2 ≡ s2 + get_or q (at + i) 0 * get_or e 2 0 → r3 ≡ s3 + get_or q (at + i) 0 * get_or e 3 0
      → Adding q at k n (i + 1) r0 r1 r2 r3
  unfolding elem_of
  adding_turn {i} {s0} {s1} {s2} {s3} {r0} {r1} {r2} {r3} {e} a l h g w e0 e1 e2 e3 =
      record {
        bound = omega arith;
        value = ap elem_of is ∙ elem-sum _ _ _ _ _ _ _ _ ∙ sum_more (term q at k) i a.value products;
        part0 = more a.part0 below.w0 e0;
        part1 = more a.part1 below.w1 e1;
        part2 = more a.part2 below.w2 e2;
        part3 = more a.part3 below.w3 e3;
      }
    where
      x : ℕ
      x = get_or q (at + i) 0

      below : Canonical e
      below = canonical_element k i g w

      is : four r0 r1 r2 r3 ≡ four (s0 + x * get_or e 0 0) (s1 + x * get_or e 1 0) (s2 + x * get_or e 2 0) (s3 + x * get_or e 3 0)
      is = cc

      products : elem_of (four (x * get_or e 0 0) (x * get_or e 1 0) (x * get_or e 2 0) (x * get_or e 3 0)) ≡ term q at k i
      products = elem_multiple x _ _ _ _ ∙ ap₂ ◌⊗◌ (ap (from_words q) (Nat.add_comm at i)) (ap elem_of w ∙ elem_of_words_at k i)

      more : {s r y : ℕ} → s ≤ i * 4053239664633446400 → y < p → r ≡ s + x * y → r ≤ (i + 1) * 4053239664633446400
      more b c d = omega (arith, narrow (canonical_below q h (at + i)) c)

  -- at most two products are below 2^63
  half : {i s : ℕ} → i ≤ n → n ≤ 2 → s ≤ i * 4053239664633446400 → s % 9223372036854775808 % p ≡ s % p
  half {i} {s} b t h = ap (λ m. m % p) {x = s % 9223372036854775808} {y = s} (omega arith)

  pub adding_end : {i s0 s1 s2 s3 : ℕ} → Adding q at k n i s0 s1 s2 s3 → n ≤ i → n ≤ 2
      → four (s0 % 9223372036854775808 % p) (s1 % 9223372036854775808 % p) (s2 % 9223372036854775808 % p) (s3 % 9223372036854775808 % p) ≡ words_of (row_sum q at (elem_at k) n)
  unfolding row_sum
  adding_end {i} a l t =
      reduced _ _ _ _ (half a.bound t a.part0) (half a.bound t a.part1) (half a.bound t a.part2) (half a.bound t a.part3)
      ∙ ap words_of (a.value ∙ ap (λ m. sum F m (term q at k)) {x = i} {y = n} (let b : i ≤ n = a.bound in omega arith))

-- room for one product of at most two more
pub few_products : {n i s : ℕ} → i < n → n ≤ 2 → s ≤ i * 4053239664633446400 → s ≤ 3 * 4053239664633446400
few_products h k l = omega arith
