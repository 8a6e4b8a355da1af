-- The price of a lie, for everything that the verdict can be asked: where the lists are refused, nothing gets a yes.
use mathlib.Core.Path.{◌≡◌, sym, ◌∙◌, ap, subst, subst₂, subst₃}
use mathlib.Core.Bool.{Bool, true}
use mathlib.Core.List.{List, ◌∷◌, ◌++◌, append-nil}
use Prim.Native.Nat.{ℕ, suc, ◌+◌, ◌-◌, ◌*◌, ◌^◌, ◌<◌, ◌≤◌}
use native.Mathlib.Nat
use native.Mathlib.Omega.{arith}
use native.Mathlib.Decide.{ℕ_discrete}
use lib.ListN.{length}
use Rattle.algebra.proofs.Counts.{count_mono, count_none}
use Rattle.field.specs.Element.{Elem, F, half_elem}
use Rattle.field.specs.Enumeration.{field_size, how_many_f}
use Rattle.field.specs.Powers.{root}
use Rattle.field.proofs.ElementField.{element_domain}
use Rattle.field.proofs.Embedding.{half_two}
use Rattle.field.proofs.Enumerated.{each_once}
use Rattle.layout.specs.Triples.{column_count}
use Rattle.layout.specs.Lists.{lists_number, lists_length}
use Rattle.layout.proofs.RunLaws.{Listed, lists-passed}
use Rattle.reduction.specs.Senders.{Instance, Sender, run_at, cells, says_yes, first_at, carried_at}
use Rattle.reduction.specs.Lies.{FalseClaim, FalseSum, FalseCarried}
use Rattle.reduction.specs.Price.{most_yes, most_yes_first, most_yes_later, PriceOfALie}
use Rattle.reduction.proofs.FoldedDegrees.{first_degree, true-values, true-from}
use Rattle.reduction.proofs.GameCounts.{first_count_lem, later_count}
use Rattle.reduction.proofs.FieldGame.{tells, sent_pair, sent_quadratics}
use Rattle.reduction.proofs.Played.{over_powers, claims_at, true_at}
use Rattle.reduction.proofs.PlayedOn.{Unrefused, played_first, played_later, played_lists}
use Rattle.reduction.proofs.FalseClaims.{first_sent_lem, sum-true, cost, rare}

module _ (t : Instance) (s : Sender) where
  abbrev n : ℕ
  n = t.stack

  abbrev N : ℕ
  N = 2 ^ t.skip

  degree_is : (N - 1) + (N - 1) ≡ 2 * N - 2
  degree_is = omega arith

  -- whether the lists are refused
  by_lists_lem : (m : ℕ) (test : List Elem → Bool) → ((v : List Elem) → length v ≡ m → test v ≡ true → Unrefused t)
      → (P : ℕ → Type 0) → P 0 → (Listed t.skip t.stack t.counts t.lists → P (how_many_f m test)) → P (how_many_f m test)
  by_lists_lem m test passed P none some = by (ℕ_discrete (lists_number t.skip t.stack t.counts t.lists) 0) (ℕ_discrete (lists_length t.counts t.lists) 0)
    where
      refused : ((v : List Elem) → length v ≡ m → test v ≡ true → ⊥) → P (how_many_f m test)
      refused r = subst P (sym (count_none each_once m test r)) none

      by : Dec (lists_number t.skip t.stack t.counts t.lists ≡ 0) → Dec (lists_length t.counts t.lists ≡ 0) → P (how_many_f m test)
      by (yes a) (yes b) = some (lists-passed t.skip t.stack t.counts t.lists a b)
      by (yes a) (no b) = refused (λ v e h. b (passed v e h).1)
      by (no a) b = refused (λ v e h. a (passed v e h).0)

  one_more : suc n ≡ n + 1
  one_more = omega arith

  two_more : suc (suc n) ≡ n + 2
  two_more = omega arith

  from_lambda : FalseClaim t → how_many_f (n + 2) (says_yes t s) ≤ most_yes t
  from_lambda wrong =
      subst₃ (λ m k d. how_many_f m (says_yes t s) ≤ (2 * column_count t.lists - 1 + d + 2 * n) * field_size ^ k) two_more one_more degree_is
      (by_lists_lem (suc (suc n)) (says_yes t s) (played_lists t s) (λ c. c ≤ (2 * column_count t.lists - 1 + ((N - 1) + (N - 1)) + 2 * n) * field_size ^ suc n) (omega arith)
      (λ l. cost t l s wrong))

  one_in : FalseClaim t → how_many_f (n + 2) (says_yes t s) * 2 ^ 106 < field_size ^ (n + 2)
  one_in wrong =
      subst (λ m. how_many_f m (says_yes t s) * 2 ^ 106 < field_size ^ m) two_more
      (by_lists_lem (suc (suc n)) (says_yes t s) (played_lists t s) (λ c. c * 2 ^ 106 < field_size ^ suc (suc n)) (Nat.one-le-pow (suc (suc n)) field_size (omega arith))
      (λ l. rare t l s wrong))

  from_first : (lambda : Elem) → FalseSum t lambda → how_many_f (n + 1) (λ v. says_yes t s (lambda ∷ v)) ≤ most_yes_first t
  from_first lambda wrong =
      subst₂ (λ m d. how_many_f m (λ v. says_yes t s (lambda ∷ v)) ≤ (d + 2 * n) * field_size ^ n) one_more degree_is
      (by_lists_lem (suc n) (λ v. says_yes t s (lambda ∷ v)) (λ v e. played_lists t s (lambda ∷ v) (ap suc e)) (λ c. c ≤ ((N - 1) + (N - 1) + 2 * n) * field_size ^ n) (omega arith) (λ l.
      Nat.le_trans (count_mono each_once (suc n) (λ v. says_yes t s (lambda ∷ v)) _ (λ v e h. played_first t s lambda v e h))
      (first_count_lem F element_domain tells sent_pair sent_quadratics each_once ((N - 1) + (N - 1)) n (over_powers t) (claims_at t lambda) (first_at t s lambda) (s.pair lambda)
      (true_at t lambda) (first_sent_lem t s lambda) (first_degree F half_elem (root t.skip) (run_at t lambda) (cells t))
      (true-values F half_elem (root t.skip) (run_at t lambda) (cells t) half_two) (λ k. wrong (k ∙ sum-true t l lambda)))))

  from_round : (lambda u : Elem) (us : List Elem) (m : ℕ) → length us + m ≡ n → FalseCarried t s lambda u us
      → how_many_f m (λ v. says_yes t s (lambda ∷ u ∷ (us ++ v))) ≤ most_yes_later t m
  from_round lambda u us m e wrong =
      Nat.le_trans (count_mono each_once m (λ v. says_yes t s (lambda ∷ u ∷ (us ++ v))) _ (λ v l h. played_later t s lambda u us v (ap (λ k. length us + k) l ∙ e) h))
      (later_count F element_domain tells sent_pair sent_quadratics each_once m (carried_at t s lambda u us) (λ w. s.pair lambda u (us ++ w)) (λ w. true_at t lambda u (us ++ w))
      (true-from F half_elem (root t.skip) (run_at t lambda) (cells t) half_two u m us e) (λ k. wrong (k ∙ ap (true_at t lambda u) (append-nil us))))

  pub price_of_a_lie : PriceOfALie t s
  price_of_a_lie = record { from_lambda = from_lambda; one_in = one_in; from_first = from_first; from_round = from_round }
