-- The kernels of the fold at u_0 on their way into four tables.
use Rattle.std.specs.Prelude.{◌≡◌, ℕ, ◌-◌, ◌*◌, ◌^◌, ◌<◌, true, List}
use Rattle.algebra.specs.Ring.{pow}
use Rattle.field.specs.Element.{Elem, F, ◌⊗◌, words_of}
use Rattle.field.specs.Powers.{root}
use Rattle.field.specs.Slice.{elem_at, canonical_words, words_at}
use Rattle.tables.specs.AtField.{lagrange_f}
use Rattle.prover.specs.RowSum.{coefficients}

-- the kernels L_0(u), L_1(u), .. of the skip subgroup of order 2^l, one element after the other
pub record KernelsAt (l : ℕ) (u : Elem) (k : List ℕ) : Type 0 where
  pub entries : (i : ℕ) → i < 2 ^ l → words_at k i ≡ words_of (lagrange_f l i u)
  pub canonical : canonical_words k ≡ true

-- the first 4·m elements of k, split into four tables of coefficients
pub record Split (m : ℕ) (k r : List ℕ) : Type 0 where
  pub elements : (i : ℕ) → i < 4 * m → coefficients m r i ≡ elem_at k i
  pub canonical : canonical_words r ≡ true

-- the kernels of order 2^o at r_0 raised to that order, and at that times the generator of the order
pub record OrderKernels (l o : ℕ) (r plain rotated : List ℕ) : Type 0 where
  pub here : (t : ℕ) → t < 2 ^ o → words_at plain t ≡ words_of (lagrange_f o t (pow F (elem_at r 0) (2 ^ (l - o))))
  pub turned : (t : ℕ) → t < 2 ^ o → words_at rotated t ≡ words_of (lagrange_f o t (root o ⊗ pow F (elem_at r 0) (2 ^ (l - o))))
