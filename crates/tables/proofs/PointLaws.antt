-- Points in slices: one coordinate more in front; and the turns of the loops that go through the coordinates from the last.
use mathlib.Core.Path.{◌≡◌, refl, sym, ◌∙◌, ap, ap₂, fun_ext}
use mathlib.Core.List.{List, [], ◌∷◌}
use Prim.Native.Nat.{ℕ, suc, ◌+◌, ◌*◌, ◌-◌, ◌<◌, ◌≤◌}
use native.Mathlib.Nat
use native.Mathlib.Omega.{arith}
use lib.ListN.{length, drop}
use Rattle.algebra.specs.Polynomial.{value}
use Rattle.algebra.specs.Listed.{listed}
use Rattle.algebra.proofs.Lists.{length-listed, listed_cong}
use Rattle.field.specs.Element.{Elem, F, ◌⊕◌, ◌⊖◌, ◌⊗◌, elem_of, words_of}
use Rattle.field.specs.Slice.{elem_at}
use Rattle.field.proofs.Elements.{elem_of_words}
use Rattle.field.proofs.ElementWords.{elem_at_drop}
use Rattle.tables.specs.EqMle.{eq_mle}
use Rattle.tables.specs.RotCube.{rot_cube}
use Rattle.tables.specs.Points.{coordinates}
use Rattle.tables.proofs.EqMleSum.{eq_mle_nil, eq_mle_cons}
use Rattle.tables.proofs.RotCubeRecursion.{rot_cube_nil, rot_cube_cons}
use Rattle.tables.proofs.KernelLoops.{eq_factor}

pub coordinates-length : (xs : List ℕ) (i m : ℕ) → length (coordinates xs i m) ≡ m
coordinates-length xs i m = length-listed m (λ j. elem_at xs (i + j))

pub coordinates_none : (xs : List ℕ) (i : ℕ) → coordinates xs i 0 ≡ []
unfolding listed
coordinates_none xs i = refl

-- those of a slice without its first i elements
pub coordinates-drop : (xs : List ℕ) (i m : ℕ) → coordinates (drop (4 * i) xs) 0 m ≡ coordinates xs i m
coordinates-drop xs i m = listed_cong m (λ j h. ap (elem_at (drop (4 * i) xs)) (Nat.zero-add j) ∙ elem_at_drop xs i j)

pub coordinates_cons : (xs : List ℕ) (i m : ℕ) → coordinates xs i (suc m) ≡ elem_at xs i ∷ coordinates xs (suc i) m
unfolding listed
coordinates_cons xs i m =
    ap₂ ◌∷◌ (ap (elem_at xs) (Nat.add-zero i)) (ap (listed m) (fun_ext (λ j. ap (elem_at xs) (Nat.add-suc i j ∙ sym (Nat.suc-add i j)))))

-- the coordinates from place j on of m that stand from index i on, with one more in front
pub coordinates_front : (xs : List ℕ) (i m j : ℕ) → 0 < j → j ≤ m → coordinates xs (i + (j - 1)) (m - (j - 1)) ≡ elem_at xs (i + (j - 1)) ∷ coordinates xs (i + j) (m - j)
coordinates_front xs i m j lo hi =
    ap (coordinates xs (i + (j - 1))) {x = m - (j - 1)} {y = suc (m - j)} (omega arith)
    ∙ coordinates_cons xs (i + (j - 1)) (m - j)
    ∙ ap (λ k. elem_at xs (i + (j - 1)) ∷ coordinates xs k (m - j)) {x = suc (i + (j - 1))} {y = i + j} (omega arith)

-- before the loop: no coordinate
pub coordinates_end : (xs : List ℕ) (i m : ℕ) → coordinates xs (i + m) (m - m) ≡ []
coordinates_end xs i m = ap (coordinates xs (i + m)) {x = m - m} {y = 0} (omega arith) ∙ coordinates_none xs (i + m)

-- after it: all of them
pub coordinates_whole : (xs : List ℕ) (i m j : ℕ) → j ≤ 0 → coordinates xs (i + j) (m - j) ≡ coordinates xs i m
coordinates_whole xs i m j h =
    ap (λ k. coordinates xs k (m - j)) {x = i + j} {y = i} (omega arith) ∙ ap (coordinates xs i) {x = m - j} {y = m} (omega arith)

module _ {xs ys xs' ys' : List Elem} (x y : Elem) (ex : xs' ≡ x ∷ xs) (ey : ys' ≡ y ∷ ys) where
  pub eq_front : {f e r : List ℕ} → f ≡ words_of (eq_factor x y) → e ≡ words_of (eq_mle F xs ys) → r ≡ words_of (elem_of f ⊗ elem_of e) → r ≡ words_of (eq_mle F xs' ys')
  eq_front g h k =
      k ∙ ap₂ (λ u v. words_of (u ⊗ v)) (elem_of_words _ g) (elem_of_words _ h) ∙ ap words_of (sym (eq_mle_cons F x y xs ys) ∙ sym (ap₂ (eq_mle F) ex ey))

  pub rot_front : length xs ≡ length ys → {a b e s r : List ℕ} → a ≡ words_of x → b ≡ words_of y → e ≡ words_of (eq_mle F xs ys) → s ≡ words_of (rot_cube F xs ys)
      → r ≡ words_of (elem_of a ⊗ (F.one ⊖ elem_of b) ⊗ elem_of e ⊕ (F.one ⊖ elem_of a) ⊗ elem_of b ⊗ elem_of s) → r ≡ words_of (rot_cube F xs' ys')
  rot_front l {a} {b} {e} {s} ea eb ee es k =
      k
      ∙ ap₂ (λ u v. words_of (u ⊗ (F.one ⊖ v) ⊗ elem_of e ⊕ (F.one ⊖ u) ⊗ v ⊗ elem_of s)) (elem_of_words x ea) (elem_of_words y eb)
      ∙ ap₂ (λ u v. words_of (x ⊗ (F.one ⊖ y) ⊗ u ⊕ (F.one ⊖ x) ⊗ y ⊗ v)) (elem_of_words _ ee) (elem_of_words _ es)
      ∙ ap words_of (sym (rot_cube_cons F x y xs ys l) ∙ sym (ap₂ (rot_cube F) ex ey))

pub eq_none : {xs ys : List Elem} {r : List ℕ} → xs ≡ [] → ys ≡ [] → r ≡ words_of F.one → r ≡ words_of (eq_mle F xs ys)
eq_none ex ey e = e ∙ ap words_of (sym (eq_mle_nil F) ∙ sym (ap₂ (eq_mle F) ex ey))

pub rot_none : {xs ys : List Elem} {r : List ℕ} → xs ≡ [] → ys ≡ [] → r ≡ words_of F.one → r ≡ words_of (rot_cube F xs ys)
rot_none ex ey e = e ∙ ap words_of (sym (rot_cube_nil F) ∙ sym (ap₂ (rot_cube F) ex ey))

-- Horner's rule
pub value_none : {cs : List Elem} (x : Elem) {r : List ℕ} → cs ≡ [] → r ≡ words_of F.zero → r ≡ words_of (value F cs x)
unfolding value
value_none x ec e = e ∙ ap (λ l. words_of (value F l x)) (sym ec)

pub value_front : {cs cs' : List Elem} (c x : Elem) → cs' ≡ c ∷ cs → {a b d r : List ℕ} → a ≡ words_of (value F cs x) → b ≡ words_of (x ⊗ elem_of a) → d ≡ words_of c
    → r ≡ words_of (elem_of d ⊕ elem_of b) → r ≡ words_of (value F cs' x)
unfolding value
value_front c x ec ea eb ed e =
    e ∙ ap₂ (λ u v. words_of (u ⊕ v)) (elem_of_words c ed) (elem_of_words _ eb ∙ ap (λ v. x ⊗ v) (elem_of_words _ ea)) ∙ ap (λ l. words_of (value F l x)) (sym ec)
