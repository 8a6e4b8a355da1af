-- From what the loops leave to the kernels' definitions, over plain variables.
use mathlib.Core.Path.{◌≡◌, refl, sym, ◌∙◌, ap, ap₂, subst}
use mathlib.Core.List.{List, []}
use Prim.Native.Nat.{ℕ, ◌+◌, ◌-◌, ◌^◌, ◌<◌, ◌≤◌, min}
use native.Mathlib.Omega.{arith}
use lib.IntN.{ℤ, pos}
use lib.ListN.{length}
use Rattle.algebra.specs.Ring.{pow}
use Rattle.algebra.specs.Sum.{sum, product}
use Rattle.algebra.proofs.Expression.{:0, :1, ◌:+◌, ◌:*◌, ◌:=◌}
use Rattle.algebra.proofs.Solver.{solve}
use Rattle.field.specs.Word.{Fp, word_of, number}
use Rattle.field.specs.Element.{Elem, F, ◌⊕◌, ◌⊖◌, ◌⊗◌, from_word, half_elem, elem_of, words_of}
use Rattle.field.specs.Powers.{generator, root}
use Rattle.field.specs.Slice.{elem_at}
use Rattle.field.proofs.Elements.{elem_of_words}
use Rattle.field.proofs.Residues.{word_of_number}
use Rattle.tables.specs.Root.{Skip}
use Rattle.tables.specs.Lagrange.{lagrange}
use Rattle.tables.specs.InUni.{in_uni}
use Rattle.tables.specs.EqMle.{eq_mle}
use Rattle.tables.specs.RotCube.{rot_cube}
use Rattle.tables.specs.Points.{coordinates, shared}
use Rattle.tables.specs.AtField.{eq_uni_f, eq_prism_f, rot_prism_f, lack, in_uni_f}
use Rattle.tables.specs.OnSlices.{eq_prism_of, rot_prism_of}
use Rattle.tables.proofs.EqUniLoop.{eq_loop}
use Rattle.tables.proofs.EqUniClosedForm.{eq_uni_loop}
use Rattle.tables.proofs.EqUniValues.{eq_uni_at_one_product}
use Rattle.tables.proofs.PrismKernelsClosed.{eq_prism_closed, rot_prism_closed}
use Rattle.tables.proofs.ShortColumns.{in_uni-product}
use Rattle.tables.proofs.FieldSkip.{field_skip}
use Rattle.tables.proofs.PointLaws.{coordinates-length}

-- an l_skip that is read as at most 10
module _ (s l : ℕ) (lim : l ≡ min s 10) where
  pub eq_uni_result : (i : ℕ) (x y : Elem) → i ≡ l → {x₀ y₀ res r : List ℕ} → x₀ ≡ words_of x → y₀ ≡ words_of y
      → res ≡ words_of (eq_loop F i (elem_of x₀) (elem_of y₀)) → r ≡ words_of (pow F half_elem l ⊗ elem_of res) → r ≡ words_of (eq_uni_f (min s 10) x y)
  eq_uni_result i x y at {x₀} {y₀} ex ey e g =
      let done : i ≡ min s 10 = omega arith in
      g ∙ ap₂ (λ n v. words_of (pow F half_elem n ⊗ v)) lim (elem_of_words _ e)
      ∙ ap (λ n. words_of (pow F half_elem (min s 10) ⊗ eq_loop F n (elem_of x₀) (elem_of y₀))) done
      ∙ ap₂ (λ u v. words_of (pow F half_elem (min s 10) ⊗ eq_loop F (min s 10) u v)) (elem_of_words x ex) (elem_of_words y ey)
      ∙ ap words_of (sym (eq_uni_loop (field_skip (min s 10) (omega arith)) x y))

  pub at_one_result : (x : Elem) {r : List ℕ} → r ≡ words_of (pow F half_elem l ⊗ product F l (λ k. F.one ⊕ pow F x (2 ^ k))) → r ≡ words_of (eq_uni_f (min s 10) x F.one)
  at_one_result x e =
      e ∙ ap (λ n. words_of (pow F half_elem n ⊗ product F n (λ k. F.one ⊕ pow F x (2 ^ k)))) lim
      ∙ ap words_of (sym (eq_uni_at_one_product (field_skip (min s 10) (omega arith)) x))

pub mean_result : (l i : ℕ) (x : Elem) → i ≡ l → {x₀ res r : List ℕ} → x₀ ≡ words_of x → res ≡ words_of (product F i (λ k. F.one ⊕ pow F (elem_of x₀) (2 ^ k)))
    → r ≡ words_of (pow F half_elem l ⊗ elem_of res) → r ≡ words_of (pow F half_elem l ⊗ product F l (λ k. F.one ⊕ pow F x (2 ^ k)))
mean_result l i x done ex e g =
    g ∙ ap (λ v. words_of (pow F half_elem l ⊗ v)) (elem_of_words _ e)
    ∙ ap₂ (λ n u. words_of (pow F half_elem l ⊗ product F n (λ k. F.one ⊕ pow F u (2 ^ k)))) done (elem_of_words x ex)

-- the kernels of the prism
module _ (s n : ℕ) (xs ys : List ℕ) (count : n ≡ shared xs ys - 1) where
  abbrev l : ℕ
  l = min s 10

  abbrev ps : List Elem
  ps = coordinates xs 1 n

  abbrev qs : List Elem
  qs = coordinates ys 1 n

  same_length : length ps ≡ length qs
  same_length = coordinates-length xs 1 n ∙ sym (coordinates-length ys 1 n)

  pub eq_prism_result : {a b u e r : List ℕ} → a ≡ words_of (elem_at xs 0) → b ≡ words_of (elem_at ys 0) → u ≡ words_of (eq_uni_f (min s 10) (elem_of a) (elem_of b))
      → e ≡ words_of (eq_mle F (coordinates xs 1 n) (coordinates ys 1 n)) → r ≡ words_of (elem_of u ⊗ elem_of e) → r ≡ words_of (eq_prism_of (min s 10) xs ys)
  unfolding eq_prism_of
  eq_prism_result ea eb eu ee er =
      er
      ∙ ap₂ (λ v w. words_of (v ⊗ w)) (elem_of_words _ eu ∙ ap₂ (eq_uni_f l) (elem_of_words _ ea) (elem_of_words _ eb)) (elem_of_words _ ee)
      ∙ ap words_of (sym (eq_prism_closed (field_skip l (omega arith)) (elem_at xs 0) ps (elem_at ys 0) qs same_length))
      ∙ ap (λ m. words_of (eq_prism_f l (elem_at xs 0) (coordinates xs 1 m) (elem_at ys 0) (coordinates ys 1 m))) count

  -- y_0 turned by the generator
  turned : {a b : List ℕ} {g : ℕ} → a ≡ words_of (elem_at ys 0) → g ≡ number (pow Fp (generator (min s 10)) 1) → b ≡ words_of (from_word (word_of g) ⊗ elem_of a)
      → elem_of b ≡ root l ⊗ elem_at ys 0
  unfolding pow
  turned ea eg eb =
      elem_of_words _ eb
      ∙ ap₂ (λ u v. u ⊗ v) (ap (λ n. from_word (word_of n)) eg ∙ ap (λ u. from_word u) (word_of_number _ ∙ Fp.mul_one (generator l))) (elem_of_words _ ea)

  pub rot_prism_result : {a b g : List ℕ} {w : ℕ} {u e o o' t d f r eq rot : List ℕ} → a ≡ words_of (elem_at xs 0) → g ≡ words_of (elem_at ys 0)
      → w ≡ number (pow Fp (generator (min s 10)) 1) → b ≡ words_of (from_word (word_of w) ⊗ elem_of g)
      → eq ≡ words_of (eq_mle F (coordinates xs 1 n) (coordinates ys 1 n)) → rot ≡ words_of (rot_cube F (coordinates xs 1 n) (coordinates ys 1 n))
      → u ≡ words_of (eq_uni_f (min s 10) (elem_of a) (elem_of b)) → e ≡ words_of (elem_of u ⊗ elem_of eq)
      → o ≡ words_of (eq_uni_f (min s 10) (elem_of a) F.one) → o' ≡ words_of (eq_uni_f (min s 10) (elem_of b) F.one) → t ≡ words_of (elem_of o ⊗ elem_of o')
      → d ≡ words_of (elem_of rot ⊖ elem_of eq) → f ≡ words_of (elem_of t ⊗ elem_of d) → r ≡ words_of (elem_of e ⊕ elem_of f) → r ≡ words_of (rot_prism_of (min s 10) xs ys)
  unfolding rot_prism_of
  rot_prism_result ea eg ew eb eq er eu ee eo eo' et ed ef e =
      let x : Elem = elem_at xs 0 in
      let y : Elem = root l ⊗ elem_at ys 0 in
      let ax = elem_of_words _ ea in
      let by = turned eg ew eb in
      let m = elem_of_words _ eq in
      e
      ∙ ap₂ (λ v w. words_of (v ⊕ w))
      (elem_of_words _ ee ∙ ap₂ (λ v w. v ⊗ w) (elem_of_words _ eu ∙ ap₂ (eq_uni_f l) ax by) m)
      (elem_of_words _ ef
      ∙ ap₂ (λ v w. v ⊗ w)
      (elem_of_words _ et ∙ ap₂ (λ v w. v ⊗ w) (elem_of_words _ eo ∙ ap (λ v. eq_uni_f l v F.one) ax) (elem_of_words _ eo' ∙ ap (λ v. eq_uni_f l v F.one) by))
      (elem_of_words _ ed ∙ ap₂ (λ v w. v ⊖ w) (elem_of_words _ er) m))
      ∙ ap words_of (sym (rot_prism_closed (field_skip l (omega arith)) (elem_at xs 0) ps (elem_at ys 0) qs same_length))
      ∙ ap (λ m. words_of (rot_prism_f l (elem_at xs 0) (coordinates xs 1 m) (elem_at ys 0) (coordinates ys 1 m))) count

-- the factor of short columns: d of l
module _ (l : ℕ) (small : l ≤ 10) (n : ℤ) (z : Elem) where
  factors : (d : ℕ) → d ≤ l → d ≡ min (lack n) l → in_uni_f l n z ≡ pow F half_elem d ⊗ product F d (λ i. F.one ⊕ pow F (pow F z (2 ^ (l - d))) (2 ^ i))
  unfolding in_uni_f
  factors d h e =
      ap (λ m. in_uni F half_elem (l - m) m (root l) z) (sym e)
      ∙ in_uni-product (l - d) d (subst (λ m. Skip F half_elem m (root l)) {x = l} {y = l - d + d} (omega arith) (field_skip l (omega arith))) z

  pub in_uni_short : (s : ℕ) → l ≡ min s 10 → (d : ℕ) → d ≡ lack n → d < l → {a r : List ℕ} → a ≡ words_of (pow F z (2 ^ (l - d)))
      → r ≡ words_of (pow F half_elem d ⊗ product F d (λ i. F.one ⊕ pow F (elem_of a) (2 ^ i))) → r ≡ words_of (in_uni_f (min s 10) n z)
  in_uni_short s lim d e h ea er =
      er ∙ ap (λ u. words_of (pow F half_elem d ⊗ product F d (λ i. F.one ⊕ pow F u (2 ^ i)))) (elem_of_words _ ea)
      ∙ ap words_of (sym (factors d (omega arith) (omega arith))) ∙ ap (λ m. words_of (in_uni_f m n z)) lim

  pub in_uni_whole : (s : ℕ) → l ≡ min s 10 → (d : ℕ) → d ≡ lack n → l ≤ d → {r : List ℕ}
      → r ≡ words_of (pow F half_elem l ⊗ product F l (λ i. F.one ⊕ pow F z (2 ^ i))) → r ≡ words_of (in_uni_f (min s 10) n z)
  unfolding pow
  in_uni_whole s lim d e h er =
      er ∙ ap (λ u. words_of (pow F half_elem l ⊗ product F l (λ i. F.one ⊕ pow F u (2 ^ i)))) (sym (F.mul_one z) ∙ ap (λ m. pow F z (2 ^ m)) {x = 0} {y = l - l} (omega arith))
      ∙ ap words_of (sym (factors l (omega arith) (omega arith))) ∙ ap (λ m. words_of (in_uni_f m n z)) lim

-- of a column that is not short it is 1
pub in_uni_long : (l n : ℕ) (z : Elem) → in_uni_f l (pos n) z ≡ F.one
unfolding in_uni_f lack in_uni lagrange pow sum
in_uni_long l n z =
    ap (λ d. in_uni F half_elem (l - d) d (root l) z) {x = min 0 l} {y = 0} (omega arith) ∙ solve F [] (:1 :* (:0 :+ :1 :* :1) := :1) refl
