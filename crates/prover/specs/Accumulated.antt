-- The number that an accumulator stands for, and what one more term does to it; and four of them.
use Rattle.std.specs.Prelude.{◌≡◌, ℕ, ◌+◌, ◌-◌, ◌*◌, ◌%◌, ◌^◌, ◌≤◌, List, [], ◌∷◌}
use Rattle.field.specs.Word.{p}
use Rattle.prover.specs.declared.accumulator.Acc.{Acc}
use Rattle.prover.specs.declared.accumulator.Sums.{Sums}

-- what it has above hi times 2^40: lo less that, modulo 2^64
unfoldable pub rest : Acc → ℕ
rest s = (s.lo + (18446744073709551616 - 1099511627776 * (s.hi % 16777216))) % 18446744073709551616

abbrev pub held : Acc → ℕ
held s = rest s + 1099511627776 * s.hi

pub record Took (s : Acc) (x : ℕ) (r : Acc) : Type 0 where
  pub value : held r ≡ held s + x
  pub low : rest r ≤ rest s + 1099511627775
  pub high : r.hi ≤ s.hi + 16777215

-- room for one term more
pub record Room (s : Acc) : Type 0 where
  pub low : rest s ≤ 2 ^ 63
  pub high : s.hi ≤ 2 ^ 63

-- few enough terms for the reduction
pub record Few (s : Acc) : Type 0 where
  pub low : rest s ≤ 2 ^ 62
  pub high : s.hi ≤ 2 ^ 32

-- one term more in each of four
pub record TookEach (s : Sums) (x0 x1 x2 x3 : ℕ) (r : Sums) : Type 0 where
  pub w0 : Took s.s0 x0 r.s0
  pub w1 : Took s.s1 x1 r.s1
  pub w2 : Took s.s2 x2 r.s2
  pub w3 : Took s.s3 x3 r.s3

-- the four numbers modulo p
abbrev pub remainders : Sums → List ℕ
remainders s = held s.s0 % p ∷ held s.s1 % p ∷ held s.s2 % p ∷ held s.s3 % p ∷ []
