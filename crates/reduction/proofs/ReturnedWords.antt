-- Words that calls return: they are below p; openings and pairs by their elements; a pair more, and a challenge more.
use mathlib.Core.Path.{◌≡◌, refl, sym, ◌∙◌, ap, ap₂, fun_ext}
use mathlib.Core.Bool.{true, ◌&&◌}
use mathlib.Core.List.{List, [], ◌∷◌, ◌++◌}
use Prim.Native.Nat.{ℕ, zero, suc, ◌+◌, ◌*◌, ◌<◌, ◌≤◌}
use native.Mathlib.Omega.{arith}
use native.Mathlib.Decide.{dec_lt}
use lib.Dec.{ltb}
use lib.ListN.{length, take, get_or, length-append}
use lib.Seq.{take_all, take-append-le}
use borrow.Author.Tests.{lt-ltb}
use Rattle.algebra.specs.Ring.{num}
use Rattle.algebra.specs.Listed.{listed}
use Rattle.field.specs.Word.{p}
use Rattle.field.specs.Element.{Elem, F, words_of}
use Rattle.field.specs.Slice.{elem_at, elem_words, canonical_words}
use Rattle.field.proofs.Elements.{elem_of_words_of, canonical_words_of, length_words_of}
use Rattle.field.proofs.ElementWords.{elem_at_zero}
use Rattle.field.proofs.FourWords.{and_both}
use Rattle.weights.specs.AtField.{honest_f}
use Rattle.tables.specs.Points.{coordinates}
use Rattle.prover.specs.Given.{Given, run}
use Rattle.reduction.specs.Verdict.{all_words}
use Rattle.reduction.proofs.BufferLaws.{elem_at_front, elem_at_back}
use Rattle.reduction.proofs.Invariant.{Pairs}

pub canonical_append : (xs ys : List ℕ) → canonical_words xs ≡ true → canonical_words ys ≡ true → canonical_words (xs ++ ys) ≡ true
unfolding canonical_words
canonical_append [] ys e f = f
canonical_append (x ∷ xs) ys e f = let b = and_both (ltb x p) (canonical_words xs) e in ap₂ ◌&&◌ b.0 (canonical_append xs ys b.1 f)

pub canonical_element : (x : Elem) → canonical_words (words_of x) ≡ true
unfolding canonical_words words_of
canonical_element ((a, c), (b, d)) =
    let e = canonical_words_of ((a, c), (b, d)) in
    simp (lt-ltb _ p e.w0, lt-ltb _ p e.w1, lt-ltb _ p e.w2, lt-ltb _ p e.w3)

pub canonical_elem_words : (n : ℕ) (f : ℕ → Elem) → canonical_words (elem_words n f) ≡ true
unfolding elem_words canonical_words
canonical_elem_words zero f = refl
canonical_elem_words (suc n) f = canonical_append (words_of (f 0)) _ (canonical_element (f 0)) (canonical_elem_words n (λ i. f (suc i)))

pub elem_words_cong : (n : ℕ) {f h : ℕ → Elem} → ((i : ℕ) → i < n → f i ≡ h i) → elem_words n f ≡ elem_words n h
unfolding elem_words
elem_words_cong zero e = refl
elem_words_cong (suc n) e = ap₂ (λ x l. words_of x ++ l) (e 0 (omega arith)) (elem_words_cong n (λ i s. e (suc i) (omega arith)))

-- the words of a list of elements
pub length-all_words : (xs : List Elem) → length (all_words xs) ≡ 4 * length xs
unfolding all_words
length-all_words [] = refl
length-all_words (x ∷ xs) =
    length-append (words_of x) (all_words xs) ∙ ap₂ ◌+◌ (length_words_of x) (length-all_words xs) ∙ (let e : 4 + 4 * length xs ≡ 4 * suc (length xs) = omega arith in e)

pub canonical_all_words : (xs : List Elem) → canonical_words (all_words xs) ≡ true
unfolding all_words canonical_words
canonical_all_words [] = refl
canonical_all_words (x ∷ xs) = canonical_append (words_of x) (all_words xs) (canonical_element x) (canonical_all_words xs)

pub elem_at_first : (x : Elem) (ys : List ℕ) → elem_at (words_of x ++ ys) 0 ≡ x
elem_at_first x ys = elem_at_front (words_of x) ys 1 0 (length_words_of x) (omega arith) ∙ elem_at_zero (words_of x) ∙ elem_of_words_of x

pub elem_at_next : (x : Elem) (ys : List ℕ) (i : ℕ) → elem_at (words_of x ++ ys) (suc i) ≡ elem_at ys i
elem_at_next x ys i = ap (elem_at (words_of x ++ ys)) {x = suc i} {y = 1 + i} (omega arith) ∙ elem_at_back (words_of x) ys 1 i (length_words_of x)

pub elem_at_all_words : (xs : List Elem) (i : ℕ) → i < length xs → elem_at (all_words xs) i ≡ get_or xs i F.zero
unfolding all_words
elem_at_all_words [] i h = absurd (omega arith)
elem_at_all_words (x ∷ xs) zero h = elem_at_first x (all_words xs)
elem_at_all_words (x ∷ xs) (suc i) h = elem_at_next x (all_words xs) i ∙ elem_at_all_words xs i (omega arith)

listed_all : (xs : List Elem) → listed (length xs) (elem_at (all_words xs)) ≡ xs
unfolding listed all_words
listed_all [] = refl
listed_all (x ∷ xs) = ap₂ ◌∷◌ (elem_at_first x (all_words xs)) (ap (listed (length xs)) (fun_ext (λ i. elem_at_next x (all_words xs) i)) ∙ listed_all xs)

-- u_0 and the later ones, as the verdict reads them
pub coordinates_later : (u : Elem) (us : List Elem) (n : ℕ) → length us ≡ n → coordinates (all_words (u ∷ us)) 1 n ≡ us
unfolding all_words
coordinates_later u us n e =
    ap (listed n) (fun_ext (λ i. elem_at_back (words_of u) (all_words us) 1 i (length_words_of u))) ∙ ap (λ k. listed k (elem_at (all_words us))) (sym e) ∙ listed_all us

-- pairs
module _ (g : Given) (cells : ℕ → Elem) (u : Elem) where
  pub pairs_none : (us : List Elem) → Pairs g cells u us 0 []
  unfolding canonical_words
  pairs_none us = record { size = refl; below = refl; ones = λ i h. absurd (omega arith); twos = λ i h. absurd (omega arith) }

  abbrev pair_words : List Elem → List ℕ
  pair_words us = words_of (honest_f (run g) cells u us F.one) ++ words_of (honest_f (run g) cells u us (num F 2))

  pub pairs_more : (us : List Elem) (m : ℕ) (words : List ℕ) → m ≡ length us → Pairs g cells u us m words → Pairs g cells u us (suc m) (words ++ pair_words us)
  pairs_more us m words e q =
      record {
        size = length-append words (pair_words us) ∙ (let k : length words + length (pair_words us) ≡ 8 * suc m = omega (arith, q.size, eight) in k);
        below = canonical_append words (pair_words us) q.below (canonical_append _ _ (canonical_element _) (canonical_element _));
        ones = λ i s. by (dec_lt i m) (2 * i) 0 F.one (λ l. q.ones i l) (λ l. elem_at_first _ _ ∙ ap (λ vs. honest_f (run g) cells u vs F.one) (all i l s)) s (omega arith) (omega arith);
        twos = λ i s. by (dec_lt i m) (2 * i + 1) 1 (num F 2) (λ l. q.twos i l) (λ l. second ∙ ap (λ vs. honest_f (run g) cells u vs (num F 2)) (all i l s)) s (omega arith) (omega arith);
      }
    where
      eight : length (pair_words us) ≡ 8
      eight =
          length-append (words_of (honest_f (run g) cells u us F.one)) (words_of (honest_f (run g) cells u us (num F 2)))
          ∙ ap₂ ◌+◌ (length_words_of (honest_f (run g) cells u us F.one)) (length_words_of (honest_f (run g) cells u us (num F 2)))

      all : (i : ℕ) → (i < m → ⊥) → i < suc m → us ≡ take i us
      all i l s = sym (take_all i us (omega arith))

      second : elem_at (pair_words us) 1 ≡ honest_f (run g) cells u us (num F 2)
      second =
          elem_at_next (honest_f (run g) cells u us F.one) (words_of (honest_f (run g) cells u us (num F 2))) 0
          ∙ elem_at_zero (words_of (honest_f (run g) cells u us (num F 2))) ∙ elem_of_words_of (honest_f (run g) cells u us (num F 2))

      by : {i : ℕ} → Dec (i < m) → (k d : ℕ) (x : Elem) → (i < m → elem_at words k ≡ honest_f (run g) cells u (take i us) x)
          → ((i < m → ⊥) → elem_at (pair_words us) d ≡ honest_f (run g) cells u (take i us) x) → i < suc m → k < 2 * i + 2 → 2 * i + d ≡ k
          → elem_at (words ++ pair_words us) k ≡ honest_f (run g) cells u (take i us) x
      by {i} (yes l) k d x old new s a b = elem_at_front words (pair_words us) (2 * m) k (omega (arith, q.size)) (omega arith) ∙ old l
      by {i} (no l) k d x old new s a b =
          ap (elem_at (words ++ pair_words us)) {x = k} {y = 2 * m + d} (omega arith) ∙ elem_at_back words (pair_words us) (2 * m) d (omega (arith, q.size)) ∙ new l

  pub pairs_fold : (us : List Elem) (x : Elem) (m : ℕ) (words : List ℕ) → m ≤ suc (length us) → Pairs g cells u us m words → Pairs g cells u (us ++ (x ∷ [])) m words
  pairs_fold us x m words h q =
      record {
        size = q.size;
        below = q.below;
        ones = λ i s. q.ones i s ∙ ap (λ vs. honest_f (run g) cells u vs F.one) (sym (take-append-le i us (x ∷ []) (omega arith)));
        twos = λ i s. q.twos i s ∙ ap (λ vs. honest_f (run g) cells u vs (num F 2)) (sym (take-append-le i us (x ∷ []) (omega arith)));
      }
