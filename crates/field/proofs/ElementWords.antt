-- The words of elements in a slice: what a store leaves of them, and that a slice is the words of a table if each of its elements is.
use mathlib.Core.Path.{◌≡◌, refl, sym, ◌∙◌, ap, ap₂}
use mathlib.Core.Logic.{◌≢◌}
use mathlib.Core.List.{List, [], ◌∷◌, ◌++◌}
use Prim.Native.Nat.{ℕ, zero, suc, ◌+◌, ◌*◌, ◌/◌, ◌%◌, ◌<◌}
use native.Mathlib.Nat
use native.Mathlib.Omega.{arith}
use lib.ListN.{length, get_or, take, drop, length-append, get_or-append}
use lib.Seq.{ext_get_or, get_or-append-add, get_or-take, get_or-drop}
use Rattle.field.specs.Word.{number}
use Rattle.field.specs.Element.{Elem, elem_of, words_of}
use Rattle.field.specs.Slice.{elem_at, put, words_at, elem_words}
use Rattle.field.proofs.Elements.{elem_of_words_of, length_words_of}
use Rattle.field.proofs.Slices.{word_0, word_1, word_2, word_3, word_other}

pub elem_of_words_at : (xs : List ℕ) (i : ℕ) → elem_of (words_at xs i) ≡ elem_at xs i
unfolding elem_of words_at elem_at
elem_of_words_at xs i = refl

pub elem_at_zero : (xs : List ℕ) → elem_at xs 0 ≡ elem_of xs
unfolding elem_at elem_of
elem_at_zero xs = refl

-- an element whose words stand there
pub elem_at_words : (xs : List ℕ) (i : ℕ) (x : Elem) → words_at xs i ≡ words_of x → elem_at xs i ≡ x
elem_at_words xs i x e = sym (elem_of_words_at xs i) ∙ ap elem_of e ∙ elem_of_words_of x

-- the same words are the same element
pub elem_at_same : (xs ys : List ℕ) (i j : ℕ) → words_at xs i ≡ words_at ys j → elem_at xs i ≡ elem_at ys j
elem_at_same xs ys i j e = sym (elem_of_words_at xs i) ∙ ap elem_of e ∙ elem_of_words_at ys j

pub four_eq : {a b c d a' b' c' d' : ℕ} → a ≡ a' → b ≡ b' → c ≡ c' → d ≡ d' → a ∷ b ∷ c ∷ d ∷ [] ≡ a' ∷ b' ∷ c' ∷ d' ∷ []
four_eq e f g h = cc

pub words_same : (xs : List ℕ) (i : ℕ) (x : Elem) → 4 * i + 3 < length xs → words_at (put xs i x) i ≡ words_of x
unfolding put words_at words_of
words_same xs i ((a, c), (b, d)) room =
    four_eq (word_0 xs i (number a) (number b) (number c) (number d) room) (word_1 xs i (number a) (number b) (number c) (number d) room)
    (word_2 xs i (number a) (number b) (number c) (number d) room) (word_3 xs i (number a) (number b) (number c) (number d) room)

pub words_other : (xs : List ℕ) (i j : ℕ) (x : Elem) → j ≢ i → words_at (put xs i x) j ≡ words_at xs j
unfolding put words_at
words_other xs i j ((a, c), (b, d)) n = four_eq (other (4 * j) (omega arith) (omega arith) (omega arith) (omega arith)) (other (4 * j + 1) (omega arith) (omega arith) (omega arith) (omega arith)) (other (4 * j + 2) (omega arith) (omega arith) (omega arith) (omega arith)) (other (4 * j + 3) (omega arith) (omega arith) (omega arith) (omega arith))
  where
    other : (k : ℕ) → k ≢ 4 * i → k ≢ 4 * i + 1 → k ≢ 4 * i + 2 → k ≢ 4 * i + 3 → get_or (put xs i ((a, c), (b, d))) k 0 ≡ get_or xs k 0
    other = word_other xs i (number a) (number b) (number c) (number d)

-- the front of a slice, and what is left without it
pub words_take : (n : ℕ) (xs : List ℕ) (i : ℕ) → 4 * i + 3 < n → words_at (take n xs) i ≡ words_at xs i
unfolding words_at
words_take n xs i h =
    four_eq (get_or-take n xs (4 * i) 0 (omega arith)) (get_or-take n xs (4 * i + 1) 0 (omega arith)) (get_or-take n xs (4 * i + 2) 0 (omega arith)) (get_or-take n xs (4 * i + 3) 0 h)

pub words_drop : (xs : List ℕ) (at i : ℕ) → words_at (drop (4 * at) xs) i ≡ words_at xs (at + i)
unfolding words_at
words_drop xs at i = four_eq (word (4 * i) (4 * (at + i)) (omega arith)) (word (4 * i + 1) (4 * (at + i) + 1) (omega arith)) (word (4 * i + 2) (4 * (at + i) + 2) (omega arith)) (word (4 * i + 3) (4 * (at + i) + 3) (omega arith))
  where
    word : (k l : ℕ) → 4 * at + k ≡ l → get_or (drop (4 * at) xs) k 0 ≡ get_or xs l 0
    word k l e = get_or-drop (4 * at) xs k 0 ∙ ap (λ v. get_or xs v 0) e

pub elem_at_take : (n : ℕ) (xs : List ℕ) (i : ℕ) → 4 * i + 3 < n → elem_at (take n xs) i ≡ elem_at xs i
elem_at_take n xs i h = elem_at_same (take n xs) xs i i (words_take n xs i h)

pub elem_at_drop : (xs : List ℕ) (at i : ℕ) → elem_at (drop (4 * at) xs) i ≡ elem_at xs (at + i)
elem_at_drop xs at i = elem_at_same (drop (4 * at) xs) xs i (at + i) (words_drop xs at i)

pub length-elem_words : (n : ℕ) (f : ℕ → Elem) → length (elem_words n f) ≡ 4 * n
unfolding elem_words
length-elem_words zero f = refl
length-elem_words (suc n) f =
    length-append (words_of (f 0)) (elem_words n (λ i. f (suc i)))
    ∙ ap₂ ◌+◌ (length_words_of (f 0)) (length-elem_words n (λ i. f (suc i))) ∙ (let e : 4 + 4 * n ≡ 4 * suc n = omega arith in e)

-- word j of element i of a table's words
pub get_d_elem_words : (n : ℕ) (f : ℕ → Elem) (i j : ℕ) → i < n → j < 4 → get_or (elem_words n f) (4 * i + j) 0 ≡ get_or (words_of (f i)) j 0
unfolding elem_words
get_d_elem_words zero f i j h k = absurd (omega arith)
get_d_elem_words (suc n) f zero j h k =
    ap (λ m. get_or (words_of (f 0) ++ elem_words n (λ i. f (suc i))) m 0) {x = 4 * 0 + j} {y = j} (omega arith)
    ∙ get_or-append (words_of (f 0)) (elem_words n (λ i. f (suc i))) 0 j (let e : length (words_of (f 0)) ≡ 4 = length_words_of (f 0) in omega arith)
get_d_elem_words (suc n) f (suc i) j h k =
    ap (λ m. get_or (words_of (f 0) ++ elem_words n (λ i. f (suc i))) m 0) (sym (shift (length_words_of (f 0))))
    ∙ get_or-append-add (words_of (f 0)) (elem_words n (λ i. f (suc i))) (4 * i + j) 0 ∙ get_d_elem_words n (λ i. f (suc i)) i j (omega arith) k
  where
    shift : length (words_of (f 0)) ≡ 4 → length (words_of (f 0)) + (4 * i + j) ≡ 4 * suc i + j
    shift e = omega arith

four_words : (x : Elem) → get_or (words_of x) 0 0 ∷ get_or (words_of x) 1 0 ∷ get_or (words_of x) 2 0 ∷ get_or (words_of x) 3 0 ∷ [] ≡ words_of x
unfolding words_of
four_words ((a, c), (b, d)) = refl

pub words_at-elem_words : (n : ℕ) (f : ℕ → Elem) (i : ℕ) → i < n → words_at (elem_words n f) i ≡ words_of (f i)
unfolding words_at
words_at-elem_words n f i h =
    four_eq (ap (λ m. get_or (elem_words n f) m 0) (sym (Nat.add-zero (4 * i))) ∙ get_d_elem_words n f i 0 h (omega arith)) (get_d_elem_words n f i 1 h (omega arith)) (get_d_elem_words n f i 2 h (omega arith)) (get_d_elem_words n f i 3 h (omega arith))
    ∙ four_words (f i)

-- equal words of an element, one of the four at a time
word_of : (xs ys : List ℕ) (k : ℕ) → words_at xs (k / 4) ≡ words_at ys (k / 4) → get_or xs k 0 ≡ get_or ys k 0
unfolding words_at
word_of xs ys k e = by (k % 4) refl (omega arith)
  where
    move : (j : ℕ) → k ≡ 4 * (k / 4) + j → get_or xs (4 * (k / 4) + j) 0 ≡ get_or ys (4 * (k / 4) + j) 0 → get_or xs k 0 ≡ get_or ys k 0
    move j s f = ap (λ m. get_or xs m 0) s ∙ f ∙ ap (λ m. get_or ys m 0) (sym s)

    by : (j : ℕ) → k % 4 ≡ j → j < 4 → get_or xs k 0 ≡ get_or ys k 0
    by zero s l = ap (λ m. get_or xs m 0) {x = k} {y = 4 * (k / 4)} (omega arith) ∙ ap (λ l. get_or l 0 0) e ∙ ap (λ m. get_or ys m 0) {x = 4 * (k / 4)} {y = k} (omega arith)
    by (suc zero) s l = move 1 (omega arith) (ap (λ l. get_or l 1 0) e)
    by (suc (suc zero)) s l = move 2 (omega arith) (ap (λ l. get_or l 2 0) e)
    by (suc (suc (suc zero))) s l = move 3 (omega arith) (ap (λ l. get_or l 3 0) e)
    by (suc (suc (suc (suc j)))) s l = absurd (omega arith)

-- a slice of 4n words whose n elements are those of a table, words and all
pub elem_words_is : (n : ℕ) (f : ℕ → Elem) (xs : List ℕ) → length xs ≡ 4 * n → ((i : ℕ) → i < n → words_at xs i ≡ words_of (f i)) → xs ≡ elem_words n f
elem_words_is n f xs e h = ext_get_or 0 xs (elem_words n f) (e ∙ sym (length-elem_words n f)) (λ k l. at k (omega arith))
  where
    same : (i : ℕ) → i < n → words_at xs i ≡ words_at (elem_words n f) i
    same i l = h i l ∙ sym (words_at-elem_words n f i l)

    at : (k : ℕ) → k / 4 < n → get_or xs k 0 ≡ get_or (elem_words n f) k 0
    at k l = word_of xs (elem_words n f) k (same (k / 4) l)
