-- The polynomial through H values on the prism: it has document 01's degrees, and any other that has them and the values is it.
use mathlib.Core.Path.{◌≡◌, sym, ◌∙◌, ap, ap₂}
use mathlib.Core.List.{List, ◌∷◌, ◌++◌}
use Prim.Native.Nat.{ℕ, suc, ◌+◌, ◌-◌, ◌*◌, ◌^◌, ◌/◌, ◌%◌, ◌<◌, ◌≤◌}
use native.Mathlib.Nat
use native.Mathlib.Omega.{arith}
use lib.ListN.{length, length-append}
use Rattle.algebra.specs.Ring.{Ring, pow}
use Rattle.algebra.specs.Sum.{sum}
use Rattle.algebra.specs.Polynomial.{Degree}
use Rattle.algebra.specs.Multilinear.{cube_factor, mle, bits}
use Rattle.algebra.proofs.Sums.{sum_cong_below}
use Rattle.algebra.proofs.Powers.{two_pow-pos}
use Rattle.algebra.proofs.Degrees.{degree_same, degree_scale, degree_sum}
use Rattle.algebra.proofs.Multilinears.{mle_cong}
use Rattle.algebra.proofs.Corners.{length-bits}
use Rattle.field.specs.Element.{Elem, F, half_elem}
use Rattle.field.specs.Powers.{root}
use Rattle.tables.specs.Root.{Skip}
use Rattle.tables.specs.Lagrange.{lagrange}
use Rattle.tables.specs.FoldPle.{fold_ple}
use Rattle.tables.specs.Prism.{row_factor, prism}
use Rattle.tables.specs.PrismDegrees.{PrismPolynomial}
use Rattle.tables.proofs.Indices.{grid_mod, grid_div}
use Rattle.tables.proofs.Interpolation.{lagrange_list, lagrange_list-length, lagrange_list-value, interpolate}
use Rattle.tables.proofs.PrismFolds.{prism_fold, prism_at_row}
use Rattle.tables.proofs.CubeDegrees.{cube_degree, degree_mle}
use Rattle.tables.proofs.FieldSkip.{field_skip}

module _ {A : Type 0} (R : Ring A) (half : A) (l : ℕ) (w : A) where
  infixl 70 ◌⊗◌
  open R use {mul as ◌⊗◌, mul_comm}

  -- at most 2^l − 1
  order : 2 ^ l ≡ suc (2 ^ l - 1)
  order = omega (arith, two_pow-pos l)

  lagrange_degree : (i : ℕ) → Degree R (2 ^ l - 1) (lagrange R half l w i)
  lagrange_degree i = (lagrange_list R half l w i, lagrange_list-length R half l w i ∙ order, λ z. sym (lagrange_list-value R half l w i z))

  pub prism_in_z : (v : ℕ → A) (xs : List A) → Degree R (2 ^ l - 1) (λ z. prism R half l w v z xs)
  unfolding prism row_factor
  prism_in_z v xs =
      degree_sum R (2 ^ l - 1) (2 ^ l * 2 ^ length xs) (λ t z. v t ⊗ (lagrange R half l w (t % 2 ^ l) z ⊗ cube_factor R xs (t / 2 ^ l))) (λ t h.
      degree_scale R (2 ^ l - 1) (v t) _
      (degree_same R (2 ^ l - 1) (λ z. cube_factor R xs (t / 2 ^ l) ⊗ lagrange R half l w (t % 2 ^ l) z) _ (λ z. mul_comm _ _)
      (degree_scale R (2 ^ l - 1) (cube_factor R xs (t / 2 ^ l)) (lagrange R half l w (t % 2 ^ l)) (lagrange_degree (t % 2 ^ l)))))

  prism_in_each_x : (v : ℕ → A) (z : A) (xs ys : List A) → Degree R 1 (λ x. prism R half l w v z (xs ++ (x ∷ ys)))
  unfolding prism row_factor
  prism_in_each_x v z xs ys =
      degree_same R 1 (λ x. sum R (2 ^ l * 2 ^ (length xs + suc (length ys))) (λ t. v t ⊗ row_factor R half l w z (xs ++ (x ∷ ys)) t)) _
      (λ x. ap (λ m. sum R (2 ^ l * 2 ^ m) (λ t. v t ⊗ row_factor R half l w z (xs ++ (x ∷ ys)) t)) (length-append xs (x ∷ ys)))
      (degree_sum R 1 (2 ^ l * 2 ^ (length xs + suc (length ys))) (λ t x. v t ⊗ row_factor R half l w z (xs ++ (x ∷ ys)) t) (λ t h.
      degree_scale R 1 (v t) _
      (degree_scale R 1 (lagrange R half l w (t % 2 ^ l) z) (λ x. cube_factor R (xs ++ (x ∷ ys)) (t / 2 ^ l)) (cube_degree R xs ys (t / 2 ^ l)))))

module _ {A : Type 0} {R : Ring A} {half : A} {l : ℕ} {w : A} (skip : Skip R half l w) (n : ℕ) (v : ℕ → A) where
  infixl 70 ◌⊗◌
  open R use {mul as ◌⊗◌}

  -- the prism is such a polynomial
  pub prism_polynomial : PrismPolynomial R l w n v (prism R half l w v)
  prism_polynomial = record {
    at_row = λ t h.
        prism_at_row skip v n (t % 2 ^ l) (t / 2 ^ l) (Nat.mod-lt t (two_pow-pos l)) (below t h) ∙ ap v (Nat.mod-add-div t (2 ^ l));
    in_z = λ xs _. prism_in_z R half l w v xs;
    in_each_x = λ z xs ys _. prism_in_each_x R half l w v z xs ys;
  }
    where
      below : (t : ℕ) → t < 2 ^ l * 2 ^ n → t / 2 ^ l < 2 ^ n
      below t h = (Nat.div-lt_iff_lt-mul (two_pow-pos l)).1 (rw Nat.mul_comm at h)

  module _ {f : A → List A → A} (p : PrismPolynomial R l w n v f) where
    -- in the coordinates: through its values at the corners
    by_corners : (z : A) (xs : List A) → length xs ≡ n → f z xs ≡ mle R (λ y. f z (bits R n y)) xs
    by_corners z xs e = degree_mle R n (f z) (p.in_each_x z) xs e

    -- in z at a corner: through its values at the powers, which are those of a block of rows
    at_corner : (y : ℕ) → Degree R (2 ^ l - 1) (λ z. f z (bits R n y))
    at_corner y = p.in_z (bits R n y) (length-bits R n y)

    row : (i y : ℕ) → i < 2 ^ l → y < 2 ^ n → f (pow R w i) (bits R n y) ≡ v (i + 2 ^ l * y)
    row i y h s =
        sym (ap₂ (λ a b. f (pow R w a) (bits R n b)) (grid_mod (2 ^ l) i y h) (grid_div (2 ^ l) i y h))
        ∙ p.at_row (i + 2 ^ l * y) (omega (arith, Nat.mul-le-mul_left (2 ^ l) s, Nat.mul-suc (2 ^ l) y))

    by_rows : (z : A) (y : ℕ) → y < 2 ^ n → f z (bits R n y) ≡ fold_ple R half l w v z y
    unfolding fold_ple
    by_rows z y s =
        (at_corner y).2 z ∙ sym (interpolate skip (at_corner y).0 z (Nat.le_of_eq ((at_corner y).1 ∙ sym (order R half l w))))
        ∙ sum_cong_below R (2 ^ l) (λ i h. ap (λ a. a ⊗ lagrange R half l w i z) (sym ((at_corner y).2 (pow R w i)) ∙ row i y h s))

    -- so no other polynomial has these degrees and these values
    pub prism_unique : (z : A) (xs : List A) → length xs ≡ n → f z xs ≡ prism R half l w v z xs
    prism_unique z xs e = by_corners z xs e ∙ mle_cong R _ _ xs (λ y h. by_rows z y (rw e at h)) ∙ sym (prism_fold R half l w v z xs)

-- at the field, for every l_skip
module _ (l n : ℕ) (v : ℕ → Elem) (h : l ≤ 27) where
  pub field_prism_polynomial : PrismPolynomial F l (root l) n v (prism F half_elem l (root l) v)
  field_prism_polynomial = prism_polynomial (field_skip l h) n v

  pub field_prism_unique : {f : Elem → List Elem → Elem} → PrismPolynomial F l (root l) n v f
      → (z : Elem) (xs : List Elem) → length xs ≡ n → f z xs ≡ prism F half_elem l (root l) v z xs
  field_prism_unique = prism_unique (field_skip l h) n v
