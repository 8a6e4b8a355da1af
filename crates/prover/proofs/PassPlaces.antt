-- Where a turn of a pass writes: the two entries that come from entry i, and what they are, by one product with a power of 1/w.
use Rattle.std.proofs.Common.{◌≡◌, ℕ, zero, suc, ◌+◌, ◌-◌, ◌*◌, ◌/◌, ◌%◌, ◌^◌, ◌<◌, ◌≤◌, ◌⊎◌, sym, refl, ap, ◌∙◌, ap₂, inl, inr, arith}
use native.Mathlib.Nat
use native.Mathlib.Nat.{two-pow-succ}
use Rattle.algebra.specs.Ring.{pow}
use Rattle.algebra.proofs.Powers.{two_pow-pos, two_pow-add, pow_back, pow-inverse}
use Rattle.field.specs.Element.{Elem, F, ◌⊕◌, ◌⊖◌, ◌⊗◌, neg}
use Rattle.field.specs.Powers.{root}
use Rattle.field.proofs.Embedding.{root-raised}
use Rattle.tables.specs.Root.{IsRoot}
use Rattle.tables.specs.Passes.{source, of_order}
use Rattle.tables.proofs.Indices.{grid_mod, grid_div}
use Rattle.tables.proofs.FieldSkip.{field_skip}
use Rattle.tables.proofs.Roots.{root_power, root-inverse, inverse, mul-inverse}
use Rattle.tables.proofs.Passing.{mod_twice, half_way}
use Rattle.tables.proofs.Butterflies.{low_source, high-source, pass_low, pass-high}
use Rattle.prover.specs.Transforms.{backward, pass_f}

-- the index that the code makes of i
module _ (s i : ℕ) where
  abbrev pub target : ℕ
  target = 2 * i - i % 2 ^ s

  whole : i % 2 ^ s + 2 ^ s * (i / 2 ^ s) ≡ i
  whole = Nat.mod-add-div i (2 ^ s)

  pub small : i % 2 ^ s < 2 ^ s
  small = Nat.mod-lt i (two_pow-pos s)

  pub target_is : target ≡ i % 2 ^ s + 2 ^ suc s * (i / 2 ^ s)
  target_is = omega (arith, whole, ap (λ n. n * (i / 2 ^ s)) (two-pow-succ s), Nat.add-mul (2 ^ s) (2 ^ s) (i / 2 ^ s))

  pub target_further : target + 2 ^ s ≡ 2 ^ s + i % 2 ^ s + 2 ^ suc s * (i / 2 ^ s)
  target_further = omega (arith, target_is)

  pub source_low : source s target ≡ i
  source_low = ap (source s) target_is ∙ low_source s (i % 2 ^ s) (i / 2 ^ s) small ∙ whole

  pub source-high : source s (target + 2 ^ s) ≡ i
  source-high = ap (source s) target_further ∙ high-source s (i % 2 ^ s) (i / 2 ^ s) small ∙ whole

  -- no other entry comes from i
  pub only_these : (n : ℕ) → source s n ≡ i → (n ≡ target) ⊎ (n ≡ target + 2 ^ s)
  unfolding source
  only_these n e = side (n / 2 ^ s % 2) refl (omega arith)
    where
      k : n % 2 ^ s ≡ i % 2 ^ s
      k = sym (grid_mod (2 ^ s) (n % 2 ^ s) (n / 2 ^ suc s) (Nat.mod-lt n (two_pow-pos s))) ∙ ap (λ m. m % 2 ^ s) e

      p : n / 2 ^ suc s ≡ i / 2 ^ s
      p = sym (grid_div (2 ^ s) (n % 2 ^ s) (n / 2 ^ suc s) (Nat.mod-lt n (two_pow-pos s))) ∙ ap (λ m. m / 2 ^ s) e

      parts : n ≡ i % 2 ^ s + 2 ^ s * (n / 2 ^ s % 2) + 2 ^ suc s * (i / 2 ^ s)
      parts =
          sym (Nat.mod-add-div n (2 ^ suc s)) ∙ ap₂ (λ a b. a + 2 ^ suc s * b) (ap (λ m. n % m) (Nat.pow-suc 2 s) ∙ mod_twice (2 ^ s) n ∙ ap (λ a. a + 2 ^ s * (n / 2 ^ s % 2)) k) p

      side : (b : ℕ) → n / 2 ^ s % 2 ≡ b → b < 2 → (n ≡ target) ⊎ (n ≡ target + 2 ^ s)
      side zero q h = inl (omega (arith, parts, target_is, ap (λ b. 2 ^ s * b) q, Nat.mul-zero (2 ^ s)))
      side (suc zero) q h = inr (omega (arith, parts, target_is, ap (λ b. 2 ^ s * b) q, Nat.mul-one (2 ^ s)))
      side (suc (suc b)) q h = absurd (omega arith)

-- all entries come from the first half
pub source-small : (l s n : ℕ) → s < l → n < 2 ^ l → source s n < 2 ^ (l - 1)
unfolding source
source-small l s n lt h =
    let D : ℕ = 2 ^ (l - suc s) in
    let e : 2 ^ l ≡ 2 ^ suc s * D = ap (λ k. 2 ^ k) {x = l} {y = suc s + (l - suc s)} (omega arith) ∙ two_pow-add (suc s) (l - suc s) in
    let q : n / 2 ^ suc s < D = (Nat.div-lt_iff_lt-mul (two_pow-pos (suc s))).1 (omega (arith, Nat.mul_comm D (2 ^ suc s))) in
    let m : 2 ^ s * (n / 2 ^ suc s) + 2 ^ s ≤ 2 ^ s * D = omega (arith, Nat.mul-le-mul_left (2 ^ s) q, Nat.mul-suc (2 ^ s) (n / 2 ^ suc s)) in
    omega (arith, half_way l s lt, Nat.mod-lt n (two_pow-pos s))

module _ (l : ℕ) (fits : l ≤ 10) where
  abbrev u : Elem
  u = backward l

  abbrev w : Elem
  w = root l

  pub w-u : w ⊗ u ≡ F.one
  unfolding inverse
  w-u = mul-inverse F l w (field_skip l (omega arith)).root

  half_turn : 0 < l → pow F u (2 ^ (l - 1)) ≡ neg F.one
  half_turn pos = at l pos (root-inverse F l w u w-u (field_skip l (omega arith)).root)
    where
      at : (n : ℕ) → 0 < n → IsRoot F n u → pow F u (2 ^ (n - 1)) ≡ neg F.one
      at zero h r = absurd (omega arith)
      at (suc n) h r = ap (λ k. pow F u (2 ^ k)) {x = suc n - 1} {y = n} (omega arith) ∙ r

  -- the factor as the code has it, by a power of the generator of order 2^(s+1)
  pub factor : (s k : ℕ) → s < l → k ≤ 2 ^ suc s → pow F (root (s + 1)) (2 ^ suc s - k) ≡ pow F (of_order F l u (suc s)) k
  factor s k lt h =
      pow_back F (root (s + 1)) U (2 ^ suc s) k (ap (λ x. x ⊗ U) (sym raised) ∙ pow-inverse F w u (2 ^ (l - suc s)) w-u)
      (ap (λ n. pow F (root n) (2 ^ suc s)) {x = s + 1} {y = suc s} (omega arith) ∙ root_power F (suc s) (root (suc s)) (field_skip (suc s) (omega arith)).root) h
    where
      U : Elem
      U = of_order F l u (suc s)

      raised : pow F w (2 ^ (l - suc s)) ≡ root (s + 1)
      raised = ap (λ n. pow F (root n) (2 ^ (l - suc s))) {x = l} {y = s + 1 + (l - suc s)} (omega arith) ∙ root-raised (s + 1) (l - suc s) (omega arith)

  module _ (s : ℕ) (lt : s < l) (a : ℕ → Elem) (i : ℕ) where
    abbrev product : Elem
    product = pow F (of_order F l u (suc s)) (i % 2 ^ s) ⊗ a (i + 2 ^ (l - 1))

    pub made_low : pass_f l s a (target s i) ≡ a i ⊕ product
    made_low =
        ap (pass_f l s a) (target_is s i) ∙ pass_low s (i % 2 ^ s) (i / 2 ^ s) (small s i) F l u a
        ∙ ap (λ n. a n ⊕ pow F (of_order F l u (suc s)) (i % 2 ^ s) ⊗ a (n + 2 ^ (l - 1))) (whole s i)

    pub made-high : pass_f l s a (target s i + 2 ^ s) ≡ a i ⊖ product
    made-high =
        ap (pass_f l s a) (target_further s i) ∙ pass-high s (i % 2 ^ s) (i / 2 ^ s) (small s i) F l u a lt (half_turn (omega arith))
        ∙ ap (λ n. a n ⊖ pow F (of_order F l u (suc s)) (i % 2 ^ s) ⊗ a (n + 2 ^ (l - 1))) (whole s i)

-- both places are there
pub target_space : (l s i : ℕ) → s < l → i < 2 ^ (l - 1) → target s i + 2 ^ s < 2 ^ l
target_space l s i lt more =
    let D : ℕ = 2 ^ (l - suc s) in
    let e : 2 ^ l ≡ 2 ^ suc s * D = ap (λ k. 2 ^ k) {x = l} {y = suc s + (l - suc s)} (omega arith) ∙ two_pow-add (suc s) (l - suc s) in
    let q : i / 2 ^ s < D = (Nat.div-lt_iff_lt-mul (two_pow-pos s)).1 (omega (arith, Nat.mul_comm D (2 ^ s), half_way l s lt)) in
    omega (arith, target_further s i, small s i, two-pow-succ s, Nat.mul-le-mul_left (2 ^ suc s) q, Nat.mul-suc (2 ^ suc s) (i / 2 ^ s))

-- the halves that a pass reads from
pub half_room : (l : ℕ) → 0 < l → 2 ^ l ≡ 2 ^ (l - 1) + 2 ^ (l - 1)
half_room l h = ap (λ n. 2 ^ n) {x = l} {y = suc (l - 1)} (omega arith) ∙ two-pow-succ (l - 1)
