-- What `slices_number` asks: few stack columns and claims; and the number of coefficients, as it computes it.
use mathlib.Core.Path.{◌≡◌, sym, ◌∙◌, ap}
use mathlib.Core.List.{List}
use Prim.Native.Nat.{ℕ, ◌+◌, ◌-◌, ◌*◌, ◌%◌, ◌^◌, ◌≤◌}
use native.Mathlib.Omega.{arith}
use Rattle.algebra.proofs.Powers.{shift_exact}
use Rattle.std.specs.declared.result.Result.TheVariants.{Ok}
use Rattle.layout.specs.declared.runs.RunLists.{RunLists}
use Rattle.layout.specs.Lists.{run_lists}
use Rattle.layout.proofs.Passed.{limits_passed}
use Rattle.layout.proofs.ColumnWalks.{columns_few}
use Rattle.layout.proofs.ReadRuns.{read_listed, read_stacked, read_walked}
use Rattle.weights.specs.LambdaPowers.{claims_before}
use Rattle.weights.specs.RunOf.{run_of}
use Rattle.weights.proofs.ClaimCounts.{claims-within}
use Rattle.weights.proofs.PlacedColumns.{stacked-small}

module _ (l n : ℕ) (counts lists : List ℕ) (s : RunLists) (is : run_lists l n counts lists ≡ Ok s) {u : Unit {0}} (q : s.length ≡ Ok u) where
  pub read_small : (claims : ℕ) → ((point lambda : List ℕ) → claims ≡ claims_before (run_of l n s.first lists point lambda) s.columns)
      → (l ≤ 10) × (n ≤ 20) × (s.stacked ≤ 2 ^ 32) × (claims ≤ 2 ^ 32)
  read_small claims e =
      let listed = read_listed l n counts lists s is q in
      let lim = limits_passed l n listed.limits in (
        lim.0,
        lim.1,
        omega (arith, read_stacked l n counts lists s is q, stacked-small listed),
        omega (arith, e lists lists, claims-within (run_of l n s.first lists lists lists) s.columns, columns_few (read_walked l n counts lists s is q)),
      )

order_is : (l : ℕ) → l ≤ 10 → 1 * 2 ^ (l + 1) % 18446744073709551616 ≡ 2 ^ (l + 1)
order_is l h = shift_exact (l + 1) 64 (omega arith)

pub coefficients_are : (l has : ℕ) → l ≤ 10 → has ≡ 4 * (1 * 2 ^ (l + 1) % 18446744073709551616 - 1) → has ≡ 4 * (2 ^ (l + 1) - 1)
coefficients_are l has h e = e ∙ ap (λ k. 4 * (k - 1)) (order_is l h)

pub coefficients-not : (l has : ℕ) → l ≤ 10 → (has ≡ 4 * (1 * 2 ^ (l + 1) % 18446744073709551616 - 1) → ⊥) → has ≡ 4 * (2 ^ (l + 1) - 1) → ⊥
coefficients-not l has h n e = n (e ∙ ap (λ k. 4 * (k - 1)) (sym (order_is l h)))
