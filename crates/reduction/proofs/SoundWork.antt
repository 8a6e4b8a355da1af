-- Work buffers of the run's lengths, in words below p: a start leaves them so, and so do accepted folds.
use mathlib.Core.Path.{◌≡◌, refl, sym, ◌∙◌, ap, ap₂, subst}
use mathlib.Core.Bool.{Bool, true, false, cond, ◌&&◌}
use mathlib.Core.List.{List, [], ◌∷◌}
use Prim.Native.Nat.{ℕ, zero, suc, ◌+◌, ◌-◌, ◌*◌, ◌^◌}
use native.Mathlib.Omega.{arith}
use lib.Dec.{leb, ltb}
use lib.ListN.{length, take, drop, length-append}
use borrow.Author.Tests.{lt-ltb}
use Rattle.algebra.specs.Multilinear.{fold_mle}
use Rattle.field.specs.Word.{p}
use Rattle.field.specs.Element.{Elem, F, elem_of, words_of}
use Rattle.field.specs.Slice.{words_at, elem_words, canonical_words}
use Rattle.field.proofs.Elements.{length_words_of}
use Rattle.field.proofs.Slices.{canonical_below}
use Rattle.field.proofs.ElementWords.{length-elem_words}
use Rattle.field.proofs.FourWords.{and_both}
use Rattle.prover.specs.declared.turns.Turn.{Turn}
use Rattle.prover.specs.Given.{Given, Work, columns, stacked}
use Rattle.prover.specs.Slots.{slot_start, slotted, table_size}
use Rattle.prover.specs.Written.{elems_from}
use Rattle.prover.specs.Blocks.{blocks, folded_words}
use Rattle.prover.specs.CallNumbers.{start_number, uni_number, fold_number}
use Rattle.prover.specs.Calls.{leaves, tables, start_values, start_eq, start_weights, start_work, uni_values, uni_eq, uni_rot, uni_work, fold_values, fold_tables, fold_weights, fold_work}
use Rattle.reduction.proofs.SlotTables.{slotted-four}
use Rattle.reduction.proofs.FoldedWork.{folded-four, leaves_new}
use Rattle.reduction.proofs.ReturnedWords.{canonical_append, canonical_element, canonical_elem_words}

-- a slice of m elements, in words below p
pub record Holds (xs : List ℕ) (m : ℕ) : Type 0 where
  pub size : length xs ≡ 4 * m
  pub below : canonical_words xs ≡ true

pub record Sound (g : Given) (w : Work) : Type 0 where
  pub q : Holds w.q (stacked g * 2 ^ g.stack)
  pub eq : Holds w.eq (table_size g.skip g.stack g.lists)
  pub rot : Holds w.rot (table_size g.skip g.stack g.lists)
  pub ub : Holds w.ub (columns g)

pub elements_hold : (m : ℕ) (f : ℕ → Elem) → Holds (elem_words m f) m
elements_hold m f = record { size = length-elem_words m f; below = canonical_elem_words m f }

-- a part of such words
pub canonical_take : (n : ℕ) (xs : List ℕ) → canonical_words xs ≡ true → canonical_words (take n xs) ≡ true
unfolding canonical_words
canonical_take zero xs e = refl
canonical_take (suc n) [] e = refl
canonical_take (suc n) (x ∷ xs) e = let b = and_both (ltb x p) (canonical_words xs) e in ap₂ ◌&&◌ b.0 (canonical_take n xs b.1)

pub canonical_drop : (n : ℕ) (xs : List ℕ) → canonical_words xs ≡ true → canonical_words (drop n xs) ≡ true
unfolding canonical_words
canonical_drop zero xs e = e
canonical_drop (suc n) [] e = refl
canonical_drop (suc n) (x ∷ xs) e = canonical_drop n xs (and_both (ltb x p) (canonical_words xs) e).1

canonical_at : (xs : List ℕ) (i : ℕ) → canonical_words xs ≡ true → canonical_words (words_at xs i) ≡ true
unfolding canonical_words words_at
canonical_at xs i e =
    simp (
      lt-ltb _ p (canonical_below xs e (4 * i)),
      lt-ltb _ p (canonical_below xs e (4 * i + 1)),
      lt-ltb _ p (canonical_below xs e (4 * i + 2)),
      lt-ltb _ p (canonical_below xs e (4 * i + 3)),
    )

-- blocks of four such words each
blocks_hold : (m : ℕ) (f : ℕ → List ℕ) → ((i : ℕ) → length (f i) ≡ 4) → ((i : ℕ) → canonical_words (f i) ≡ true) → Holds (blocks m f) m
unfolding blocks canonical_words
blocks_hold zero f four below = record { size = refl; below = refl }
blocks_hold (suc m) f four below =
    let r = blocks_hold m (λ i. f (suc i)) (λ i. four (suc i)) (λ i. below (suc i)) in
    record {
      size = length-append (f 0) _ ∙ ap₂ ◌+◌ (four 0) r.size ∙ (let e : 4 + 4 * m ≡ 4 * suc m = omega arith in e);
      below = canonical_append (f 0) _ (below 0) r.below;
    }

module _ (l n : ℕ) (lists : List ℕ) where
  slotted-below : (m : ℕ) (f : ℕ → ℕ → List ℕ) → ((h x : ℕ) → canonical_words (f h x) ≡ true) → (i : ℕ) → canonical_words (slotted l lists m f i) ≡ true
  unfolding slotted canonical_words
  slotted-below zero f below i = refl
  slotted-below (suc m) f below i = by (leb (slot_start l lists m) i) (slotted-below m f below i)
    where
      by : (b : Bool) → canonical_words (slotted l lists m f i) ≡ true → canonical_words (cond b (f m (i - slot_start l lists m)) (slotted l lists m f i)) ≡ true
      by true e = below m (i - slot_start l lists m)
      by false e = e

  tables_hold : (f : ℕ → ℕ → List ℕ) → ((h x : ℕ) → length (f h x) ≡ 4) → ((h x : ℕ) → canonical_words (f h x) ≡ true) → Holds (tables l n lists f) (table_size l n lists)
  tables_hold f four below =
      blocks_hold (table_size l n lists) _
      (λ i. ap (λ m. length (slotted l lists m f i)) {x = l + n + 1} {y = suc (l + n)} (omega arith) ∙ slotted-four l lists (l + n) f four i)
      (slotted-below (l + n + 1) f below)

folded-below : (xs : List ℕ) (at half : ℕ) (x : Elem) → canonical_words xs ≡ true → (i : ℕ) → canonical_words (folded_words xs at half x i) ≡ true
unfolding folded_words
folded-below xs at half x e i = by (ltb i half) (ltb i (2 * half))
  where
    by : (a b : Bool) → canonical_words (cond a (words_of (fold_mle F (elems_from xs at) x i)) (cond b (words_of F.zero) (words_at xs (at + i)))) ≡ true
    by true b = canonical_element _
    by false true = canonical_element _
    by false false = canonical_at xs (at + i) e

-- what is new in a slice of an accepted call
new_holds : (number : ℕ) (new old : List ℕ) (m : ℕ) → number ≡ 0 → Holds new m → Holds (leaves number new old) m
new_holds number new old m e h = subst (λ xs. Holds xs m) (sym (leaves_new number new old e)) h

module _ (g : Given) where
  pub words_hold : (f : ℕ → ℕ → Elem) → Holds (tables g.skip g.stack g.lists (λ h x. words_of (f h x))) (table_size g.skip g.stack g.lists)
  words_hold f = tables_hold g.skip g.stack g.lists _ (λ h x. length_words_of (f h x)) (λ h x. canonical_element (f h x))

  pub sound_start : (w : Work) → start_number g w ≡ 0 → Sound g (start_work g w)
  unfolding start_work start_values start_eq start_weights
  sound_start w e =
      record {
        q = new_holds _ _ _ _ e (elements_hold _ _);
        eq = new_holds _ _ _ _ e (words_hold _);
        rot = new_holds _ _ _ _ e (elements_hold _ _);
        ub = new_holds _ _ _ _ e (elements_hold _ _);
      }

  pub sound_uni : (t : Turn) (matrices v : List ℕ) (w : Work) → uni_number g t matrices v w ≡ 0 → Sound g w → Sound g (uni_work g t matrices v w)
  unfolding uni_work uni_values uni_eq uni_rot
  sound_uni t matrices v w e s =
      record {
        q = new_holds _ _ _ _ e (elements_hold _ _);
        eq = new_holds _ _ _ _ e (words_hold _);
        rot = new_holds _ _ _ _ e (words_hold _);
        ub = s.ub;
      }

  folded_hold : (j : ℕ) (x : Elem) (xs : List ℕ) → canonical_words xs ≡ true → Holds (fold_tables g.skip g.stack g.lists j x xs) (table_size g.skip g.stack g.lists)
  unfolding fold_tables
  folded_hold j x xs e = tables_hold g.skip g.stack g.lists _ (λ h. folded-four xs _ _ x) (λ h. folded-below xs _ _ x e)

  pub sound_fold : (t : Turn) (j : ℕ) (v : List ℕ) (w : Work) → fold_number g t j v w ≡ 0 → Sound g w → Sound g (fold_work g t j v w)
  unfolding fold_work fold_values fold_weights
  sound_fold t j v w e s =
      record {
        q = new_holds _ _ _ _ e (blocks_hold _ _ (folded-four w.q 0 _ (elem_of v)) (folded-below w.q 0 _ (elem_of v) s.q.below));
        eq = new_holds _ _ _ _ e (folded_hold j (elem_of v) w.eq s.eq.below);
        rot = new_holds _ _ _ _ e (folded_hold j (elem_of v) w.rot s.rot.below);
        ub = new_holds _ _ _ _ e (elements_hold _ _);
      }
