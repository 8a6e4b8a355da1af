-- Elements in buffers: in two slices one after the other, in the words of a table, in blocks of four words, in the words of a list.
use mathlib.Core.Path.{◌≡◌, refl, sym, ◌∙◌, ap}
use mathlib.Core.List.{List, [], ◌∷◌, ◌++◌}
use Prim.Native.Nat.{ℕ, zero, suc, ◌+◌, ◌*◌, ◌/◌, ◌<◌, ◌≤◌}
use native.Mathlib.Nat
use native.Mathlib.Omega.{arith}
use lib.ListN.{length, take, get_or, get_or-append}
use lib.Seq.{get_or-append-add}
use Rattle.algebra.specs.Listed.{listed}
use Rattle.field.specs.Element.{Elem, elem_of}
use Rattle.field.specs.Slice.{elem_at, words_at, elem_words}
use Rattle.algebra.proofs.Lists.{listed_cong}
use Rattle.field.proofs.ElementWords.{four_eq, elem_of_words_at, elem_at_words, elem_at_same, words_at-elem_words, length-elem_words}
use Rattle.tables.specs.Points.{coordinates, count}
use Rattle.prover.specs.Blocks.{blocks}

-- the first values of a list of values
pub take-listed : (m n : ℕ) (f : ℕ → Elem) → m ≤ n → take m (listed n f) ≡ listed m f
unfolding listed
take-listed zero n f s = refl
take-listed (suc m) zero f s = absurd (omega arith)
take-listed (suc m) (suc n) f s = ap (λ l. f 0 ∷ l) (take-listed m n (λ i. f (suc i)) (omega arith))

words_at_front : (xs ys : List ℕ) (m i : ℕ) → length xs ≡ 4 * m → i < m → words_at (xs ++ ys) i ≡ words_at xs i
unfolding words_at
words_at_front xs ys m i e h = four_eq (at (4 * i) (omega arith)) (at (4 * i + 1) (omega arith)) (at (4 * i + 2) (omega arith)) (at (4 * i + 3) (omega arith))
  where
    at : (k : ℕ) → k < length xs → get_or (xs ++ ys) k 0 ≡ get_or xs k 0
    at k s = get_or-append xs ys 0 k s

words_at_back : (xs ys : List ℕ) (m i : ℕ) → length xs ≡ 4 * m → words_at (xs ++ ys) (m + i) ≡ words_at ys i
unfolding words_at
words_at_back xs ys m i e = four_eq (at (4 * (m + i)) (4 * i) (omega arith)) (at (4 * (m + i) + 1) (4 * i + 1) (omega arith)) (at (4 * (m + i) + 2) (4 * i + 2) (omega arith)) (at (4 * (m + i) + 3) (4 * i + 3) (omega arith))
  where
    at : (k j : ℕ) → length xs + j ≡ k → get_or (xs ++ ys) k 0 ≡ get_or ys j 0
    at k j s = ap (λ n. get_or (xs ++ ys) n 0) (sym s) ∙ get_or-append-add xs ys j 0

pub elem_at_front : (xs ys : List ℕ) (m i : ℕ) → length xs ≡ 4 * m → i < m → elem_at (xs ++ ys) i ≡ elem_at xs i
elem_at_front xs ys m i e h = elem_at_same (xs ++ ys) xs i i (words_at_front xs ys m i e h)

pub elem_at_back : (xs ys : List ℕ) (m i : ℕ) → length xs ≡ 4 * m → elem_at (xs ++ ys) (m + i) ≡ elem_at ys i
elem_at_back xs ys m i e = elem_at_same (xs ++ ys) ys (m + i) i (words_at_back xs ys m i e)

pub elem_at_elem_words : (n : ℕ) (f : ℕ → Elem) (i : ℕ) → i < n → elem_at (elem_words n f) i ≡ f i
elem_at_elem_words n f i h = elem_at_words (elem_words n f) i (f i) (words_at-elem_words n f i h)

-- blocks of four words each
words_at-four : (xs : List ℕ) → length xs ≡ 4 → words_at xs 0 ≡ xs
unfolding words_at
words_at-four [] e = absurd (omega arith)
words_at-four (a ∷ []) e = absurd (omega arith)
words_at-four (a ∷ b ∷ []) e = absurd (omega arith)
words_at-four (a ∷ b ∷ c ∷ []) e = absurd (omega arith)
words_at-four (a ∷ b ∷ c ∷ d ∷ []) e = refl
words_at-four (a ∷ b ∷ c ∷ d ∷ x ∷ xs) e = absurd (omega arith)

pub words_at-blocks : (m : ℕ) (g : ℕ → List ℕ) → ((k : ℕ) → length (g k) ≡ 4) → (i : ℕ) → i < m → words_at (blocks m g) i ≡ g i
unfolding blocks
words_at-blocks zero g four i h = absurd (omega arith)
words_at-blocks (suc m) g four zero h = words_at_front (g 0) (blocks m (λ i. g (suc i))) 1 0 (four 0) (omega arith) ∙ words_at-four (g 0) (four 0)
words_at-blocks (suc m) g four (suc i) h =
    ap (words_at (g 0 ++ blocks m (λ i. g (suc i)))) {x = suc i} {y = 1 + i} (omega arith) ∙ words_at_back (g 0) (blocks m (λ i. g (suc i))) 1 i (four 0)
    ∙ words_at-blocks m (λ i. g (suc i)) (λ k. four (suc k)) i (omega arith)

pub elem_at_blocks : (m : ℕ) (g : ℕ → List ℕ) → ((k : ℕ) → length (g k) ≡ 4) → (i : ℕ) → i < m → elem_at (blocks m g) i ≡ elem_of (g i)
elem_at_blocks m g four i h = sym (elem_of_words_at (blocks m g) i) ∙ ap elem_of (words_at-blocks m g four i h)

pub length-words_at : (xs : List ℕ) (i : ℕ) → length (words_at xs i) ≡ 4
unfolding words_at
length-words_at xs i = refl

-- coefficients as they stand in a slice
pub coefficients_are : (m : ℕ) (f : ℕ → Elem) → coordinates (elem_words m f) 0 (count (elem_words m f)) ≡ listed m f
coefficients_are m f =
    ap (λ k. listed k (λ j. elem_at (elem_words m f) (0 + j))) {x = length (elem_words m f) / 4} {y = m} (omega (arith, length-elem_words m f))
    ∙ listed_cong m (λ i h. ap (elem_at (elem_words m f)) (Nat.zero-add i) ∙ elem_at_elem_words m f i h)
