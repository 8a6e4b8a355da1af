-- A table of powers by its step rule: the first entry is 1, and each entry is the one before times entry 1. One test, which is computed, and one law.
use mathlib.Core.Path.{◌≡◌, sym, ◌∙◌, ap}
use mathlib.Core.Bool.{Bool, true, false, ◌&&◌}
use mathlib.Core.List.{List, [], ◌∷◌}
use Prim.Native.Nat.{ℕ, zero, suc, ◌+◌, ◌*◌, ◌-◌, ◌%◌, ◌^◌, ◌<◌, ◌≤◌, min}
use native.Mathlib.Nat
use native.Mathlib.Omega.{arith}
use lib.Dec.{T, eqb, eqb→eq}
use lib.ListN.{length, get_or}
use Rattle.algebra.specs.Ring.{pow}
use Rattle.algebra.specs.Zmod.{class, zneg}
use Rattle.algebra.proofs.Powers.{two_pow-pos, two_pow-add, shift_exact}
use Rattle.field.specs.Word.{p, Fp, word_of, number}
use Rattle.field.specs.Powers.{generator}
use Rattle.field.specs.PowerTable.{PowerTable}
use Rattle.field.proofs.Residues.{product-residue, word_of_number}
use Rattle.field.proofs.Generators.{generator_10, generator_half, power_in_table}

-- each entry is the one before, first x, times g
abbrev pub steps : ℕ → ℕ → List ℕ → Bool
steps g x [] = true
steps g x (y ∷ ys) = eqb y (g * x % p) && steps g y ys

abbrev pub step_rule : List ℕ → Bool
step_rule [] = true
step_rule (x ∷ xs) = eqb x 1 && steps (get_or (x ∷ xs) 1 0) x xs

both : (a b : Bool) → T (a && b) → T a × T b
both true b t = (tt, t)
both false b t = absurd t

first_power : (g x : ℕ) → x ≡ 1 → x ≡ number (pow Fp (word_of g) 0)
unfolding pow class
first_power g x e = e

next_power : (g e x y : ℕ) → x ≡ number (pow Fp (word_of g) e) → y ≡ g * x % p → y ≡ number (pow Fp (word_of g) (suc e))
unfolding pow
next_power g e x y f h = h ∙ product-residue g x ∙ ap (λ v. number (Fp.mul (word_of g) v)) (ap (λ n. word_of n) f ∙ word_of_number (pow Fp (word_of g) e))

from : (g e x : ℕ) (xs : List ℕ) → T (steps g x xs) → x ≡ number (pow Fp (word_of g) e) → (k : ℕ) → k < length (x ∷ xs)
    → get_or (x ∷ xs) k 0 ≡ number (pow Fp (word_of g) (e + k))
from g e x xs t f zero h = f ∙ ap (λ n. number (pow Fp (word_of g) n)) (sym (Nat.add-zero e))
from g e x [] t f (suc k) h = absurd (omega arith)
from g e x (y ∷ ys) t f (suc k) h =
    let (s, r) = both (eqb y (g * x % p)) (steps g y ys) t in
    from g (suc e) y ys r (next s) k (omega arith) ∙ ap (λ n. number (pow Fp (word_of g) n)) (Nat.suc-add e k ∙ sym (Nat.add-suc e k))
  where
    next : T (eqb y (g * x % p)) → y ≡ number (pow Fp (word_of g) (suc e))
    next s = next_power g e x y f (eqb→eq y (g * x % p) s)

pub entry : (xs : List ℕ) → T (step_rule xs) → (k : ℕ) → k < length xs → get_or xs k 0 ≡ number (pow Fp (word_of (get_or xs 1 0)) k)
entry [] t k h = absurd (Nat.not-suc-le-zero h)
entry (x ∷ xs) t k h =
    let (s, r) = both (eqb x 1) (steps (get_or (x ∷ xs) 1 0) x xs) t in
    from (get_or (x ∷ xs) 1 0) 0 x xs r (first_power _ x (eqb→eq x 1 s)) k h ∙ ap (λ n. number (pow Fp (word_of (get_or (x ∷ xs) 1 0)) n)) (Nat.zero-add k)

-- a table whose entry 1 is the generator of order 1,024
pub generator-entry : (xs : List ℕ) → T (step_rule xs) → get_or xs 1 0 ≡ 341742893 → (k : ℕ) → k < length xs → get_or xs k 0 ≡ number (pow Fp (generator 10) k)
generator-entry xs t e k h = entry xs t k h ∙ ap (λ g. number (pow Fp g k)) (ap (λ n. word_of n) e ∙ sym generator_10)

pub power_table : (xs : List ℕ) → length xs ≡ 1024 → T (step_rule xs) → get_or xs 1 0 ≡ 341742893 → PowerTable xs
power_table xs size t e = record { size = size; entries = λ k h. generator-entry xs t e k (omega arith) }

-- the index of a power in the table, from the shifts that the code makes
module _ (s l i : ℕ) (lim : l ≡ min s 10) where
  pub index_small : i % (1 * 2 ^ l % 4294967296) * (1 * 2 ^ (10 - l) % 4294967296) < 1024
  index_small =
      rw (shift_exact l 32 (omega (arith, lim)), shift_exact (10 - l) 32 (omega arith))
      (let r : i % 2 ^ l < 2 ^ l = Nat.mod-lt i (two_pow-pos l) in
      let m : suc (i % 2 ^ l) * 2 ^ (10 - l) ≤ 2 ^ l * 2 ^ (10 - l) = Nat.mul-le-mul_right (2 ^ (10 - l)) r in
      let e : 2 ^ l * 2 ^ (10 - l) ≡ 1024 = sym (two_pow-add l (10 - l)) ∙ ap (λ n. 2 ^ n) {x = l + (10 - l)} {y = 10} (omega (arith, lim)) in
      omega (arith, two_pow-pos (10 - l), Nat.suc-mul (i % 2 ^ l) (2 ^ (10 - l))))

  pub indexed : number (pow Fp (generator 10) (i % (1 * 2 ^ l % 4294967296) * (1 * 2 ^ (10 - l) % 4294967296))) ≡ number (pow Fp (generator (min s 10)) i)
  indexed =
      rw (shift_exact l 32 (omega (arith, lim)), shift_exact (10 - l) 32 (omega arith))
      (ap (λ x. number x) (sym (power_in_table l i (omega (arith, lim)))) ∙ ap (λ n. number (pow Fp (generator n) i)) lim)

-- entry 512 is p − 1
pub half_way_entry : number (pow Fp (generator 10) 512) ≡ 2013265920
unfolding class zneg
half_way_entry = ap (λ x. number x) (generator_half 9 (omega arith))
