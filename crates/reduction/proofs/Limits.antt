-- What document 01's limits make of the bound: at most 65,536 columns, and a share below one in 2^106.
use mathlib.Core.Path.{◌≡◌, sym, ◌∙◌, ap, subst}
use mathlib.Core.List.{List}
use Prim.Native.Nat.{ℕ, zero, suc, ◌+◌, ◌-◌, ◌*◌, ◌^◌, ◌<◌, ◌≤◌}
use native.Mathlib.Nat
use native.Mathlib.Omega.{arith}
use lib.ListN.{length}
use Rattle.field.specs.Enumeration.{field_size}
use Rattle.layout.specs.Triples.{count_of, columns_before, column_count}
use Rattle.layout.specs.Lists.{first_count}
use Rattle.layout.proofs.Passed.{columns_few, widths_passed}
use Rattle.layout.proofs.RunLaws.{Listed}

module _ (l n : ℕ) (counts lists : List ℕ) (listed : Listed l n counts lists) where
  -- 4,096 columns of the first commitment and of each later one
  columns_before_lem : (j : ℕ) → first_count counts + j ≤ count_of lists → columns_before lists (first_count counts + j) ≤ 4096 * (1 + j)
  unfolding columns_before
  columns_before_lem zero h =
      rw (Nat.add-zero (first_count counts))
      (let c = columns_few (first_count counts) lists listed.columns (first_count counts) (Nat.le_refl _) (omega arith) in omega arith)
  columns_before_lem (suc j) h =
      rw (Nat.add-suc (first_count counts) j)
      (omega (arith, columns_before_lem j (omega arith), widths_passed (first_count counts) lists listed.columns (first_count counts + j) (omega arith)))

  pub columns_all : column_count lists ≤ 65536
  columns_all =
      let all : first_count counts + (length counts - 1) ≡ count_of lists = omega (arith, listed.size) in
      let c = columns_before_lem (length counts - 1) (omega arith) in
      subst (λ i. columns_before lists i ≤ 65536) all (omega (arith, listed.counted.few))

-- a share b of r · q, where b · s is below q
share : (k b s q r : ℕ) → k ≤ b * r → b * s < q → 0 < r → k * s < r * q
share k b s q r h l z =
    let x : k * s ≤ b * r * s = Nat.mul-le-mul_right s h in
    let e : b * r * s ≡ b * s * r = Nat.mul_assoc b r s ∙ ap (λ y. b * y) (Nat.mul_comm r s) ∙ sym (Nat.mul_assoc b s r) in
    let m : suc (b * s) * r ≤ q * r = Nat.mul-le-mul_right r l in
    let w : suc (b * s) * r ≡ b * s * r + r = Nat.suc-mul (b * s) r in
    let c : q * r ≡ r * q = Nat.mul_comm q r in
    omega arith

within_limits : (E D n : ℕ) → E ≤ 131071 → D ≤ 2046 → n ≤ 20 → (E + D + 2 * n) * 2 ^ 106 < field_size
within_limits E D n e d h = omega arith

pub one_in_share : (k E D n : ℕ) → E ≤ 131071 → D ≤ 2046 → n ≤ 20 → k ≤ (E + D + 2 * n) * field_size ^ suc n → k * 2 ^ 106 < field_size ^ suc (suc n)
one_in_share k E D n e d h l =
    rw (Nat.pow-suc field_size (suc n))
    (share k (E + D + 2 * n) (2 ^ 106) field_size (field_size ^ suc n) l (within_limits E D n e d h) (Nat.one-le-pow (suc n) field_size (omega arith)))
