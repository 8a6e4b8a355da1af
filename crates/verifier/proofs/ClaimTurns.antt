-- The weighted sum of the claims, over plain variables, a column more.
use mathlib.Core.Path.{◌≡◌, refl, sym, ◌∙◌, ap, ap₂}
use mathlib.Core.List.{List, [], ◌∷◌}
use Prim.Native.Nat.{ℕ, zero, suc, ◌+◌, ◌*◌}
use native.Mathlib.Numerals.{add-one}
use Rattle.algebra.specs.Ring.{pow}
use Rattle.algebra.specs.Sum.{sum}
use Rattle.algebra.proofs.Expression.{:0, ◌:+◌, ◌:*◌, ◌:=◌}
use Rattle.algebra.proofs.Solver.{solve}
use Rattle.field.specs.Element.{Elem, F, ◌⊕◌, ◌⊗◌, elem_of, words_of}
use Rattle.field.proofs.Elements.{elem_of_words}
use Rattle.weights.specs.Run.{Run}
use Rattle.weights.specs.LambdaPowers.{claims_of, claims_before, if_flagged, plain_power, rotated_power, weighted_claims}
use Rattle.weights.specs.AtField.{weighted_claims_f}
use Rattle.weights.proofs.ClaimCounts.{claims_start, claims_turn}
use Rattle.weights.proofs.PowerWalks.{power_start, two_more, flag_some, only_plain, flagged_powers, sum_start}
use Rattle.verifier.specs.declared.claims.Weighed.{Weighed}
use Rattle.verifier.specs.Weighing.{weighed}

-- the two steps of a column, from words
words_weighed : (s p : Elem) {a b : List ℕ} → a ≡ words_of s → b ≡ words_of p → record { sum = a; power = b } ≡ weighed s p
words_weighed s p ea eb = ap₂ (λ (u v : List ℕ). record { sum = u; power = v }) ea eb

module _ {w : Weighed} (s p : Elem) (e : w ≡ weighed s p) (l : Elem) {q : List ℕ} (eq : q ≡ words_of (elem_of w.power ⊗ l)) where
  next_power : q ≡ words_of (p ⊗ l)
  next_power = eq ∙ ap (λ u. words_of (u ⊗ l)) (elem_of_words p (ap (λ (w : Weighed). w.power) e))

  pub claim_added : (y : Elem) {t x a : List ℕ} → t ≡ words_of y → x ≡ words_of (elem_of w.power ⊗ elem_of t) → a ≡ words_of (elem_of w.sum ⊕ elem_of x)
      → record { sum = a; power = q } ≡ weighed (s ⊕ p ⊗ y) (p ⊗ l)
  claim_added y et ex ea =
      words_weighed _ _
      (ea ∙ ap₂ (λ u v. words_of (u ⊕ v)) (elem_of_words s (ap (λ (w : Weighed). w.sum) e))
      (elem_of_words _ ex ∙ ap₂ (λ u v. u ⊗ v) (elem_of_words p (ap (λ (w : Weighed). w.power) e)) (elem_of_words y et)))
      next_power

  pub rotated_added : (f : ℕ) (y : Elem) {t x a : List ℕ} → (f ≡ 0 → ⊥) → t ≡ words_of y → x ≡ words_of (elem_of w.power ⊗ elem_of t) → a ≡ words_of (elem_of w.sum ⊕ elem_of x)
      → record { sum = a; power = q } ≡ weighed (s ⊕ if_flagged F f (p ⊗ y)) (p ⊗ l)
  rotated_added f y n et ex ea = claim_added y et ex ea ∙ ap (λ v. weighed (s ⊕ v) (p ⊗ l)) (sym (flag_some f (p ⊗ y) n))

  pub power_passed : (f : ℕ) (y : Elem) → f ≡ 0 → record { sum = w.sum; power = q } ≡ weighed (s ⊕ if_flagged F f y) (p ⊗ l)
  power_passed f y z = words_weighed _ _ (only_plain f s y z (ap (λ (w : Weighed). w.sum) e)) next_power

one_by_one : (f : ℕ) (q x s a b : Elem) → s ⊕ q ⊗ a ⊕ if_flagged F f (q ⊗ x ⊗ b) ≡ s ⊕ q ⊗ (a ⊕ if_flagged F f (x ⊗ b))
unfolding if_flagged
one_by_one zero q x s a b = solve F (s ∷ q ∷ a ∷ []) (λ s q a. s :+ q :* a :+ :0 := s :+ q :* (a :+ :0)) refl
one_by_one (suc f) q x s a b = solve F (s ∷ q ∷ x ∷ a ∷ b ∷ []) (λ s q x a b. s :+ q :* a :+ q :* x :* b := s :+ q :* (a :+ x :* b)) refl

module _ (run : Run Elem) where
  module _ (claims : ℕ → Elem) where
    abbrev pub claim_term : ℕ → Elem
    claim_term k = plain_power F run k ⊗ claims (claims_before run k) ⊕ rotated_power F run k ⊗ claims (claims_before run k + 1)

    -- the claims of the first k columns, of which there are i
    pub record Weighing (k i : ℕ) (w : Weighed) : Type 0 where
      pub index : i ≡ claims_before run k
      pub weighted : w ≡ weighed (sum F k claim_term) (pow F run.lambda (2 * k))

    pub weighing_start : {a b : List ℕ} → a ≡ words_of F.zero → b ≡ words_of F.one → Weighing 0 0 (record { sum = a; power = b })
    weighing_start ea eb = record { index = claims_start run; weighted = words_weighed _ _ (sum_start claim_term ea) (power_start run.lambda eb) }

    pub weighing_turn : (k : ℕ) {i f m : ℕ} {w v u : Weighed} → Weighing k i w → f ≡ run.flag k → m ≡ claims_of f
        → ((s p : Elem) → w ≡ weighed s p → v ≡ weighed (s ⊕ p ⊗ claims i) (p ⊗ run.lambda))
        → ((s p : Elem) → v ≡ weighed s p → u ≡ weighed (s ⊕ if_flagged F f (p ⊗ claims (i + 1))) (p ⊗ run.lambda)) → Weighing (k + 1) (i + m) u
    unfolding plain_power rotated_power sum
    weighing_turn k {i} {f} o ef em ev eu = record {
      index = claims_turn run k o.index ef em;
      weighted =
          eu _ _ (ev _ _ o.weighted)
          ∙ ap₂ (λ i f. weighed (total ⊕ power ⊗ claims i ⊕ if_flagged F f (power ⊗ run.lambda ⊗ claims (i + 1))) (power ⊗ run.lambda ⊗ run.lambda)) o.index ef
          ∙ ap₂ weighed (one_by_one (run.flag k) power run.lambda total _ _ ∙ ap (λ t. total ⊕ t) (flagged_powers (run.flag k) k run.lambda _ _) ∙ ap (λ n. sum F n claim_term) (sym (add-one k)))
          (F.mul_assoc power run.lambda run.lambda ∙ two_more run.lambda k);
    }
      where
        total : Elem
        total = sum F k claim_term

        power : Elem
        power = pow F run.lambda (2 * k)

    pub weighing_end : (k : ℕ) {i : ℕ} {w : Weighed} → k ≡ run.count → Weighing k i w → w.sum ≡ words_of (weighted_claims_f run claims)
    unfolding weighted_claims
    weighing_end k e o = ap (λ (w : Weighed). w.sum) o.weighted ∙ ap (λ n. words_of (sum F n claim_term)) e
