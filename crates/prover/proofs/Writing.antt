-- What is written into a part of a slice, one element after the other, one part after the other, and read back.
use Rattle.std.proofs.Common.{◌≡◌, ℕ, ◌+◌, ◌-◌, ◌*◌, ◌<◌, ◌≤◌, List, [], ◌∷◌, length, get_or, set, sym, refl, ap, ◌∙◌, arith}
use mathlib.Core.Path.{subst⁻¹}
use native.Mathlib.Nat
use native.Mathlib.Decide.{dec_lt}
use Rattle.field.specs.Element.{Elem, elem_of, words_of}
use Rattle.field.specs.Canonical.{Canonical}
use Rattle.field.specs.Slice.{elem_at, words_at, put, elem_words}
use Rattle.field.proofs.Elements.{words_of_elem_of}
use Rattle.field.proofs.Slices.{length-put, put_is}
use Rattle.field.proofs.ElementWords.{elem_of_words_at, words_same, words_other, elem_words_is}
use Rattle.prover.specs.Written.{Written}

pub written_none : (old : List ℕ) (at : ℕ) (f : ℕ → Elem) → Written old at 0 f old
written_none old at f =
    record { elements = λ i l. absurd (omega arith); before = λ i l. refl; after = λ i l. refl; length_kept = refl }

-- one part after the other
pub written_next : {old : List ℕ} {at n : ℕ} {f : ℕ → Elem} {mid : List ℕ} {m : ℕ} {g : ℕ → Elem} {new : List ℕ}
    → Written old at n f mid → Written mid (at + n) m g new → ((i : ℕ) → i < m → g i ≡ f (n + i)) → Written old at (n + m) f new
written_next {old} {at} {n} {f} {mid} {m} {g} {new} s t e =
    record {
      elements = λ i l. here i l (dec_lt i n);
      before = λ i l. t.before i (omega arith) ∙ s.before i l;
      after = λ i l. t.after i (omega arith) ∙ s.after i (omega arith);
      length_kept = t.length_kept ∙ s.length_kept;
    }
  where
    later : (i j : ℕ) → n + j ≡ i → j < m → words_at new (at + i) ≡ words_of (f i)
    later i j q l =
        ap (words_at new) {x = at + i} {y = at + n + j} (omega arith) ∙ t.elements j l ∙ ap words_of (e j l ∙ ap f q)

    here : (i : ℕ) → i < n + m → Dec (i < n) → words_at new (at + i) ≡ words_of (f i)
    here i l (yes h) = t.before (at + i) (omega arith) ∙ s.elements i h
    here i l (no h) = later i (i - n) (omega arith) (omega arith)

-- one element
pub written-put : (old : List ℕ) (at : ℕ) (x : Elem) → 4 * at + 3 < length old → Written old at 1 (λ i. x) (put old at x)
written-put old at x room =
    record {
      elements = λ i l. ap (words_at (put old at x)) {x = at + i} {y = at} (omega arith) ∙ words_same old at x room;
      before = λ i l. words_other old at i x (λ e. omega arith);
      after = λ i l. words_other old at i x (λ e. omega arith);
      length_kept = length-put old at x;
    }

-- the turn of a loop that writes
pub written_turn : {old : List ℕ} {at n : ℕ} {f : ℕ → Elem} {mid : List ℕ} → Written old at n f mid → 4 * (at + n) + 3 < length old
    → {x : Elem} {new : List ℕ} → x ≡ f n → new ≡ put mid (at + n) x → Written old at (n + 1) f new
written_turn {old} {at} {n} {f} {mid} s room {x} e g =
    subst⁻¹ (Written old at (n + 1) f) g
    (written_next s (written-put mid (at + n) x (let k : length mid ≡ length old = s.length_kept in omega arith)) (λ i l. e ∙ ap f {x = n} {y = n + i} (omega arith)))

-- from the first element of the slice on
pub first_turn_lem : {old : List ℕ} {n : ℕ} {f : ℕ → Elem} {mid : List ℕ} → Written old 0 n f mid → 4 * n + 3 < length old → {x : Elem} {new : List ℕ} → x ≡ f n → new ≡ put mid n x
    → Written old 0 (n + 1) f new
first_turn_lem {n = n} {mid = mid} s room {x} e g = written_turn s (omega arith) e (g ∙ ap (λ k. put mid k x) (sym (Nat.zero-add n)))

pub first_words_lem : {old : List ℕ} {n : ℕ} {f : ℕ → Elem} {new : List ℕ} → Written old 0 n f new → (i : ℕ) → i < n → words_at new i ≡ words_of (f i)
first_words_lem {new = new} s i l = ap (words_at new) (sym (Nat.zero-add i)) ∙ s.elements i l

-- the end of such a loop
pub written_end : {old : List ℕ} {at i n : ℕ} {f : ℕ → Elem} {new : List ℕ} → i ≤ n → n ≤ i → Written old at i f new → Written old at n f new
written_end {old} {at} {i} {n} {f} {new} h k s = subst⁻¹ (λ m. Written old at m f new) {x = n} {y = i} (omega arith) s

pub written_cong : {old : List ℕ} {at n : ℕ} {f g : ℕ → Elem} {new : List ℕ} → Written old at n f new → ((i : ℕ) → i < n → f i ≡ g i) → Written old at n g new
written_cong s e =
    record { elements = λ i l. s.elements i l ∙ ap words_of (e i l); before = s.before; after = s.after; length_kept = s.length_kept }

-- as what has been written
pub written_again : {old : List ℕ} {at n : ℕ} {f : ℕ → Elem} {new : List ℕ} → Written old at n f new → Written new at n f new
written_again s = record { elements = s.elements; before = λ i l. refl; after = λ i l. refl; length_kept = refl }

-- a whole slice
pub written_whole : {old : List ℕ} {n : ℕ} {f : ℕ → Elem} {new : List ℕ} → Written old 0 n f new → length old ≡ 4 * n → new ≡ elem_words n f
written_whole {old} {n} {f} {new} s e =
    elem_words_is n f new (s.length_kept ∙ e) (first_words_lem s)

-- four words below p, put one after another
pub put_words : (xs : List ℕ) (i : ℕ) (e : List ℕ) → Canonical e
    → set (set (set (set xs (4 * i) (get_or e 0 0)) (4 * i + 1) (get_or e 1 0)) (4 * i + 2) (get_or e 2 0)) (4 * i + 3) (get_or e 3 0) ≡ put xs i (elem_of e)
unfolding elem_of
put_words xs i e h =
    put_is xs i (elem_of e) {r = get_or e 0 0 ∷ get_or e 1 0 ∷ get_or e 2 0 ∷ get_or e 3 0 ∷ []}
    (sym (words_of_elem_of (get_or e 0 0) (get_or e 1 0) (get_or e 2 0) (get_or e 3 0) h.w0 h.w1 h.w2 h.w3)) refl refl refl refl

-- words below p are those of their element
pub own_words : (xs : List ℕ) (i : ℕ) → Canonical (words_at xs i) → words_at xs i ≡ words_of (elem_at xs i)
unfolding words_at
own_words xs i c = sym (words_of_elem_of _ _ _ _ c.w0 c.w1 c.w2 c.w3) ∙ ap words_of (elem_of_words_at xs i)
