-- Two polynomials of degree at most d that are not the same agree at d points at most.
use mathlib.Core.Path.{◌≡◌, sym, ◌∙◌, ap}
use Prim.Native.Nat.{ℕ, ◌≤◌}
use native.Mathlib.Omega.{arith}
use native.Mathlib.Decide.{dec_le}
use lib.ListN.{length}
use Rattle.algebra.specs.Ring.{Ring, Domain}
use Rattle.algebra.specs.Polynomial.{value, Degree}
use Rattle.algebra.specs.Count.{AtMost}
use Rattle.algebra.proofs.Polynomials.{all_map, same_of_points}

module _ {A : Type 0} {P Q : A → Type 0} where
  -- what asks more is satisfied by no more elements
  pub at_most_of : (d : ℕ) → ((v : A) → P v → Q v) → AtMost d Q → AtMost d P
  at_most_of d h few vs distinct all = few vs distinct (all_map h vs all)

module _ {A : Type 0} (R : Ring A) (domain : Domain R) where
  pub agree_at_most : (d : ℕ) (f g : A → A) → Degree R d f → Degree R d g → ¬ ((x : A) → f x ≡ g x) → AtMost d (λ v. f v ≡ g v)
  agree_at_most d f g (p, l, e) (r, m, k) differ vs distinct agree = by (dec_le (length vs) d)
    where
      by : Dec (length vs ≤ d) → length vs ≤ d
      by (yes s) = s
      by (no s) =
          let t = same_of_points R domain p r vs (l ∙ sym m) (omega arith) distinct (all_map (λ v q. sym (e v) ∙ q ∙ k v) vs agree) in
          absurd (differ (λ x. e x ∙ ap (λ cs. value R cs x) t ∙ sym (k x)))
