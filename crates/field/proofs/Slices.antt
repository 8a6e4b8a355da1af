-- Elements in a list of words: what is put is read back, what stands beside it is as it was; and the scan for words below p.
use mathlib.Core.Path.{◌≡◌, refl, sym, ◌∙◌, ap, ap₂}
use mathlib.Core.Logic.{◌≢◌}
use mathlib.Core.Bool.{Bool, true, false, ◌&&◌, and-true, and_assoc, and-false, false≢true}
use mathlib.Core.List.{List, [], ◌∷◌, ◌++◌}
use Prim.Native.Nat.{ℕ, zero, suc, ◌+◌, ◌*◌, ◌/◌, ◌<◌, ◌≤◌}
use native.Mathlib.Numerals.{add-one}
use native.Mathlib.Omega.{arith}
use lib.Dec.{ltb}
use lib.ListN.{length, get_or, set, take, length-set, get_or-eq_default}
use lib.Seq.{lt-length-set, get_or-set_same, get_or-set_other, set_out, take-suc}
use borrow.Author.Tests.{ltb-true, le-ltb, lt-ltb}
use Rattle.algebra.specs.Zmod.{class}
use Rattle.algebra.proofs.QuadraticRing.{pair}
use Rattle.field.specs.Word.{p, word_of, number}
use Rattle.field.specs.Element.{Elem, elem, elem_of, words_of}
use Rattle.field.specs.Slice.{elem_at, put, canonical_words}
use Rattle.field.proofs.Residues.{word_of_number}

pub length-put : (xs : List ℕ) (i : ℕ) (x : Elem) → length (put xs i x) ≡ length xs
unfolding put
length-put xs i ((a, c), (b, d)) = simp length-set

elem_ext : {a b c d a' b' c' d' : ℕ} → a ≡ a' → b ≡ b' → c ≡ c' → d ≡ d' → elem (word_of a) (word_of b) (word_of c) (word_of d) ≡ elem (word_of a') (word_of b') (word_of c') (word_of d')
elem_ext e f g h = pair (pair (ap (λ n. word_of n) e) (ap (λ n. word_of n) g)) (pair (ap (λ n. word_of n) f) (ap (λ n. word_of n) h))

-- a word of the slice after an element was put
module _ (xs : List ℕ) (i a b c d : ℕ) where
  abbrev pub one : List ℕ
  one = set xs (4 * i) a

  abbrev pub two : List ℕ
  two = set one (4 * i + 1) b

  abbrev pub three : List ℕ
  three = set two (4 * i + 2) c

  abbrev pub four : List ℕ
  four = set three (4 * i + 3) d

  pub word_other : (k : ℕ) → k ≢ 4 * i → k ≢ 4 * i + 1 → k ≢ 4 * i + 2 → k ≢ 4 * i + 3 → get_or four k 0 ≡ get_or xs k 0
  word_other k n₀ n₁ n₂ n₃ =
      get_or-set_other three (4 * i + 3) k d 0 n₃ ∙ get_or-set_other two (4 * i + 2) k c 0 n₂ ∙ get_or-set_other one (4 * i + 1) k b 0 n₁
      ∙ get_or-set_other xs (4 * i) k a 0 n₀

  module _ (room : 4 * i + 3 < length xs) where
    pub word_3 : get_or four (4 * i + 3) 0 ≡ d
    word_3 = get_or-set_same three (4 * i + 3) d 0 (lt-length-set two _ _ (lt-length-set one _ _ (lt-length-set xs _ _ room)))

    pub word_2 : get_or four (4 * i + 2) 0 ≡ c
    word_2 =
        get_or-set_other three (4 * i + 3) (4 * i + 2) d 0 (omega arith)
        ∙ get_or-set_same two (4 * i + 2) c 0 (lt-length-set one _ _ (lt-length-set xs _ _ (omega arith)))

    pub word_1 : get_or four (4 * i + 1) 0 ≡ b
    word_1 =
        get_or-set_other three (4 * i + 3) (4 * i + 1) d 0 (omega arith) ∙ get_or-set_other two (4 * i + 2) (4 * i + 1) c 0 (omega arith)
        ∙ get_or-set_same one (4 * i + 1) b 0 (lt-length-set xs _ _ (omega arith))

    pub word_0 : get_or four (4 * i) 0 ≡ a
    word_0 =
        get_or-set_other three (4 * i + 3) (4 * i) d 0 (omega arith) ∙ get_or-set_other two (4 * i + 2) (4 * i) c 0 (omega arith)
        ∙ get_or-set_other one (4 * i + 1) (4 * i) b 0 (omega arith) ∙ get_or-set_same xs (4 * i) a 0 (omega arith)

pub elem_same : (xs : List ℕ) (i : ℕ) (x : Elem) → 4 * i + 3 < length xs → elem_at (put xs i x) i ≡ x
unfolding put elem_at
elem_same xs i ((a, c), (b, d)) room =
    elem_ext (word_0 xs i (number a) (number b) (number c) (number d) room) (word_1 xs i (number a) (number b) (number c) (number d) room)
    (word_2 xs i (number a) (number b) (number c) (number d) room) (word_3 xs i (number a) (number b) (number c) (number d) room)
    ∙ pair (pair (word_of_number a) (word_of_number c)) (pair (word_of_number b) (word_of_number d))

pub elem_other : (xs : List ℕ) (i j : ℕ) (x : Elem) → j ≢ i → elem_at (put xs i x) j ≡ elem_at xs j
unfolding put elem_at
elem_other xs i j ((a, c), (b, d)) n =
    elem_ext
    (word_other xs i (number a) (number b) (number c) (number d) (4 * j) (omega arith) (omega arith) (omega arith) (omega arith))
    (word_other xs i (number a) (number b) (number c) (number d) (4 * j + 1) (omega arith) (omega arith) (omega arith) (omega arith))
    (word_other xs i (number a) (number b) (number c) (number d) (4 * j + 2) (omega arith) (omega arith) (omega arith) (omega arith))
    (word_other xs i (number a) (number b) (number c) (number d) (4 * j + 3) (omega arith) (omega arith) (omega arith) (omega arith))

-- an element that stands nowhere in the slice: put changes nothing, and it reads as zero
pub put_past : (xs : List ℕ) (i : ℕ) (x : Elem) → length xs / 4 < i → put xs i x ≡ xs
unfolding put
put_past xs i ((a, c), (b, d)) h =
    ap (λ l. set (set (set l (4 * i + 1) (number b)) (4 * i + 2) (number c)) (4 * i + 3) (number d)) (set_out xs (4 * i) (number a) (omega arith))
    ∙ ap (λ l. set (set l (4 * i + 2) (number c)) (4 * i + 3) (number d)) (set_out xs (4 * i + 1) (number b) (omega arith))
    ∙ ap (λ l. set l (4 * i + 3) (number d)) (set_out xs (4 * i + 2) (number c) (omega arith))
    ∙ set_out xs (4 * i + 3) (number d) (omega arith)

pub words_past : (xs : List ℕ) (i : ℕ) → length xs / 4 < i → 0 ∷ 0 ∷ 0 ∷ 0 ∷ [] ≡ words_of (elem_at xs i)
unfolding elem_at words_of class
words_past xs i h =
    rw (
      get_or-eq_default xs 0 {n = 4 * i} (omega arith),
      get_or-eq_default xs 0 {n = 4 * i + 1} (omega arith),
      get_or-eq_default xs 0 {n = 4 * i + 2} (omega arith),
      get_or-eq_default xs 0 {n = 4 * i + 3} (omega arith),
    ) refl

-- four words put one after another
pub put_is : (xs : List ℕ) (i : ℕ) (x : Elem) {r s₁ s₂ s₃ s₄ : List ℕ} → r ≡ words_of x → s₁ ≡ set xs (4 * i) (get_or r 0 0)
    → s₂ ≡ set s₁ (4 * i + 1) (get_or r 1 0) → s₃ ≡ set s₂ (4 * i + 2) (get_or r 2 0) → s₄ ≡ set s₃ (4 * i + 3) (get_or r 3 0) → s₄ ≡ put xs i x
unfolding put words_of
put_is xs i ((a, c), (b, d)) e f₁ f₂ f₃ f₄ =
    f₄
    ∙ ap₂ (λ l w. set l (4 * i + 3) w)
    (f₃ ∙ ap₂ (λ l w. set l (4 * i + 2) w) (f₂ ∙ ap₂ (λ l w. set l (4 * i + 1) w) (f₁ ∙ ap (λ l. set xs (4 * i) (get_or l 0 0)) e) (ap (λ l. get_or l 1 0) e)) (ap (λ l. get_or l 2 0) e))
    (ap (λ l. get_or l 3 0) e)

canonical_append : (xs ys : List ℕ) → canonical_words (xs ++ ys) ≡ canonical_words xs && canonical_words ys
unfolding canonical_words
canonical_append [] ys = refl
canonical_append (x ∷ xs) ys = ap (λ t. ltb x p && t) (canonical_append xs ys) ∙ sym (and_assoc (ltb x p) (canonical_words xs) (canonical_words ys))

-- the scan's turn: one word more
module _ (xs : List ℕ) (i : ℕ) (ok : Bool) (small : i < length xs) (e : ok ≡ canonical_words (take i xs)) where
  more : canonical_words (take (i + 1) xs) ≡ canonical_words (take i xs) && (ltb (get_or xs i 0) p && true)
  unfolding canonical_words
  more = ap (λ n. canonical_words (take n xs)) (add-one i) ∙ ap canonical_words (take-suc xs i 0 small) ∙ canonical_append (take i xs) (get_or xs i 0 ∷ [])

  pub scan_bad : {ok' : Bool} → p ≤ get_or xs i 0 → ok' ≡ false → ok' ≡ canonical_words (take (i + 1) xs)
  scan_bad h f = f ∙ sym (more ∙ ap (λ t. canonical_words (take i xs) && (t && true)) (le-ltb _ _ h) ∙ and-false (canonical_words (take i xs)))

  pub scan_fine : {ok' : Bool} → get_or xs i 0 < p → ok' ≡ ok → ok' ≡ canonical_words (take (i + 1) xs)
  scan_fine h f = f ∙ e ∙ sym (more ∙ ap (λ t. canonical_words (take i xs) && (t && true)) (lt-ltb _ _ h) ∙ and-true (canonical_words (take i xs)))

pub scan_start : (xs : List ℕ) → true ≡ canonical_words (take 0 xs)
unfolding canonical_words
scan_start xs = refl

-- what the scan says of each word; past the end a word reads as 0
pub canonical_below : (xs : List ℕ) → canonical_words xs ≡ true → (k : ℕ) → get_or xs k 0 < p
unfolding canonical_words
canonical_below [] e k = omega arith
canonical_below (x ∷ xs) e zero = first (ltb x p) (canonical_words xs) e refl
  where
    first : (s t : Bool) → (s && t) ≡ true → ltb x p ≡ s → x < p
    first true t e f = ltb-true x p f
    first false t e f = absurd (false≢true e)
canonical_below (x ∷ xs) e (suc k) = canonical_below xs (rest (ltb x p) (canonical_words xs) e) k
  where
    rest : (s t : Bool) → (s && t) ≡ true → t ≡ true
    rest true t e = e
    rest false t e = absurd (false≢true e)

pub canonical_all : (xs : List ℕ) → ((k : ℕ) → k < length xs → get_or xs k 0 < p) → canonical_words xs ≡ true
unfolding canonical_words
canonical_all [] h = refl
canonical_all (x ∷ xs) h = ap₂ ◌&&◌ (lt-ltb x p (h 0 (omega arith))) (canonical_all xs (λ k l. h (suc k) (omega arith)))

-- four words read one after another
pub read_is : (xs : List ℕ) (i : ℕ) {r : List ℕ} {a b c d : ℕ} → a ≡ get_or xs (4 * i) 0 → b ≡ get_or xs (4 * i + 1) 0 → c ≡ get_or xs (4 * i + 2) 0 → d ≡ get_or xs (4 * i + 3) 0
    → r ≡ words_of (elem_of (a ∷ b ∷ c ∷ d ∷ [])) → r ≡ words_of (elem_at xs i)
unfolding elem_at elem_of
read_is xs i e f g h k = k ∙ ap words_of (elem_ext e f g h)
