-- The factor of a column's weight that its height and flag decide, from what the kernels' functions ensure.
use mathlib.Core.Path.{◌≡◌, refl, sym, ◌∙◌, ap, ap₂}
use mathlib.Core.List.{List, []}
use Prim.Native.Nat.{ℕ, ◌+◌, ◌-◌, ◌*◌, ◌^◌, ◌<◌, ◌≤◌, min}
use native.Mathlib.Omega.{arith}
use lib.IntN.{ℤ}
use lib.ListN.{length, take}
use lib.Seq.{length-take-le, take_all}
use Rattle.algebra.specs.Ring.{pow}
use Rattle.algebra.specs.Sum.{sum}
use Rattle.algebra.specs.Listed.{listed}
use Rattle.algebra.proofs.Lists.{listed_cong}
use Rattle.algebra.proofs.RingLaws as Laws
use Rattle.algebra.proofs.Expression.{:0, :1, ◌:+◌, ◌:*◌, ◌:=◌}
use Rattle.algebra.proofs.Solver.{solve}
use Rattle.field.specs.Element.{Elem, F, ◌⊕◌, ◌⊗◌, half_elem, elem_of, words_of}
use Rattle.field.specs.Powers.{root}
use Rattle.field.specs.Slice.{elem_at}
use Rattle.field.proofs.Elements.{elem_of_words, length_words_of}
use Rattle.field.proofs.ElementWords.{elem_at_zero, elem_at_take}
use Rattle.tables.specs.Lagrange.{lagrange}
use Rattle.tables.specs.InUni.{in_uni}
use Rattle.tables.specs.AtField.{lack, in_uni_f, eq_prism_f, rot_prism_f}
use Rattle.tables.specs.Points.{coordinates, shared}
use Rattle.tables.specs.OnSlices.{eq_prism_of, rot_prism_of}
use Rattle.weights.specs.LambdaPowers.{if_flagged}
use Rattle.verifier.specs.HeightKernels.{prism_weight, height_weight}

coordinates-take : (m : ℕ) (xs : List ℕ) → coordinates (take (4 * (m + 1)) xs) 1 m ≡ coordinates xs 1 m
coordinates-take m xs = listed_cong m (λ j h. elem_at_take (4 * (m + 1)) xs (1 + j) (omega arith))

module _ (l m f : ℕ) (lambda : Elem) (us rs : List ℕ) (enough : 4 * (m + 1) ≤ length us) (enough' : 4 * (m + 1) ≤ length rs) where
  abbrev u : List ℕ
  u = take (4 * (m + 1)) us

  abbrev r : List ℕ
  r = take (4 * (m + 1)) rs

  shared_is : shared u r - 1 ≡ m
  shared_is = omega (arith, length-take-le (4 * (m + 1)) us enough, length-take-le (4 * (m + 1)) rs enough')

  first_u : elem_at u 0 ≡ elem_at us 0
  first_u = elem_at_take (4 * (m + 1)) us 0 (omega arith)

  first_r : elem_at r 0 ≡ elem_at rs 0
  first_r = elem_at_take (4 * (m + 1)) rs 0 (omega arith)

  -- the kernels at the first m + 1 elements of both
  pub prism-part : eq_prism_of l (take (4 * (m + 1)) us) (take (4 * (m + 1)) rs) ⊕ if_flagged F f (lambda ⊗ rot_prism_of l (take (4 * (m + 1)) us) (take (4 * (m + 1)) rs))
      ≡ prism_weight l m f lambda (elem_at us 0) us (elem_at rs 0) rs
  unfolding eq_prism_of rot_prism_of prism_weight
  prism-part = λ i.
      eq_prism_f l (first_u i) (points us i) (first_r i) (points rs i) ⊕ if_flagged F f (lambda ⊗ rot_prism_f l (first_u i) (points us i) (first_r i) (points rs i))
    where
      points : (xs : List ℕ) → coordinates (take (4 * (m + 1)) xs) 1 (shared u r - 1) ≡ coordinates xs 1 m
      points xs = ap (coordinates (take (4 * (m + 1)) xs) 1) shared_is ∙ coordinates-take m xs

-- no coordinate: only r_0 is read of r
prism-point : (l f : ℕ) (lambda u y : Elem) (us rs rs' : List ℕ) → prism_weight l 0 f lambda u us y rs ≡ prism_weight l 0 f lambda u us y rs'
unfolding prism_weight listed
prism-point l f lambda u y us rs rs' = refl

-- the factor of short columns, and that of others
in_uni_is : (l h : ℕ) (n : ℤ) (z : Elem) → h ≤ l → l ≤ 10 → lack n ≡ l - h → in_uni_f (min l 10) n z ≡ in_uni F half_elem (min l h) (l - h) (root l) z
unfolding in_uni_f
in_uni_is l h n z low small e = λ i. in_uni F half_elem (o i) (d i) (root (s i)) z
  where
    s : min l 10 ≡ l
    s = omega arith

    d : min (lack n) (min l 10) ≡ l - h
    d = omega arith

    o : min l 10 - min (lack n) (min l 10) ≡ min l h
    o = omega arith

in_uni_long : (h : ℕ) (w z : Elem) → in_uni F half_elem h 0 w z ≡ F.one
unfolding in_uni lagrange pow sum
in_uni_long h w z = solve F [] (:1 :* (:0 :+ :1 :* :1) := :1) refl

module _ (l h f : ℕ) (lambda rs us : List ℕ) (small : l ≤ 10) where
  pub short_weight : (n : ℤ) → h < l → 4 ≤ length us → lack n ≡ l - h → {u r₀ r₁ ind b e : List ℕ} → u ≡ words_of (elem_at us 0) → r₀ ≡ words_of (elem_at rs 0)
      → ind ≡ words_of (in_uni_f (min l 10) n (elem_of u)) → r₁ ≡ words_of (pow F (elem_of r₀) (2 ^ (l - h)))
      → b ≡ words_of (eq_prism_of (min h 10) (take 4 us) r₁ ⊕ if_flagged F f (elem_of lambda ⊗ rot_prism_of (min h 10) (take 4 us) r₁))
      → e ≡ words_of (elem_of ind ⊗ elem_of b) → e ≡ words_of (height_weight l h f lambda rs us)
  unfolding height_weight
  short_weight n low enough en {u} {r₀} {r₁} eu er ei e₁ eb ee =
      ee
      ∙ ap₂ (λ v w. words_of (v ⊗ w)) (elem_of_words _ ei ∙ ap (in_uni_f (min l 10) n) (elem_of_words _ eu) ∙ in_uni_is l h n (elem_at us 0) (omega arith) small en)
      (elem_of_words _ eb
      ∙ ap (λ v. eq_prism_of (min h 10) (take 4 us) v ⊕ if_flagged F f (elem_of lambda ⊗ rot_prism_of (min h 10) (take 4 us) v)) (sym (take_all 4 r₁ (omega (arith, four))))
      ∙ prism-part (min h 10) 0 f (elem_of lambda) us r₁ enough (omega (arith, four))
      ∙ prism-point (min h 10) f (elem_of lambda) (elem_at us 0) (elem_at r₁ 0) us r₁ rs
      ∙ ap₂ (λ o m. prism_weight o m f (elem_of lambda) (elem_at us 0) us (elem_at r₁ 0) rs) orders lifts
      ∙ ap (λ y. prism_weight (min l h) (h - l) f (elem_of lambda) (elem_at us 0) us y rs) raise)
    where
      four : length r₁ ≡ 4
      four = ap length e₁ ∙ length_words_of (pow F (elem_of r₀) (2 ^ (l - h)))

      orders : min h 10 ≡ min l h
      orders = omega arith

      lifts : 0 ≡ h - l
      lifts = omega arith

      raise : elem_at r₁ 0 ≡ pow F (elem_at rs 0) (2 ^ (l - h))
      raise = elem_at_zero r₁ ∙ elem_of_words _ e₁ ∙ ap (λ x. pow F x (2 ^ (l - h))) (elem_of_words _ er)

  pub tall_weight : l ≤ h → 4 * (h - l + 1) ≤ length rs → 4 * (h - l + 1) ≤ length us → {e : List ℕ}
      → e ≡ words_of (eq_prism_of (min l 10) (take (4 * (h - l + 1)) us) (take (4 * (h - l + 1)) rs)
      ⊕ if_flagged F f (elem_of lambda ⊗ rot_prism_of (min l 10) (take (4 * (h - l + 1)) us) (take (4 * (h - l + 1)) rs)))
      → e ≡ words_of (height_weight l h f lambda rs us)
  unfolding height_weight pow
  tall_weight high enough' enough ee =
      ee
      ∙ ap words_of
      (prism-part (min l 10) (h - l) f (elem_of lambda) us rs enough enough'
      ∙ ap (λ o. prism_weight o (h - l) f (elem_of lambda) (elem_at us 0) us (elem_at rs 0) rs) orders
      ∙ ap (λ y. prism_weight (min l h) (h - l) f (elem_of lambda) (elem_at us 0) us y rs) raise
      ∙ sym (Laws.one_mul F _)
      ∙ ap (λ x. x ⊗ prism_weight (min l h) (h - l) f (elem_of lambda) (elem_at us 0) us (pow F (elem_at rs 0) (2 ^ (l - h))) rs)
      (sym (in_uni_long (min l h) (root l) (elem_at us 0)) ∙ ap (λ d. in_uni F half_elem (min l h) d (root l) (elem_at us 0)) none))
    where
      none : 0 ≡ l - h
      none = omega arith

      orders : min l 10 ≡ min l h
      orders = omega arith

      raise : elem_at rs 0 ≡ pow F (elem_at rs 0) (2 ^ (l - h))
      raise = sym (pow_once (elem_at rs 0)) ∙ ap (λ d. pow F (elem_at rs 0) (2 ^ d)) none
        where
          pow_once : (x : Elem) → pow F x (2 ^ 0) ≡ x
          pow_once x = F.mul_one x
