-- Where nothing is refused, the hopeful sender gets a yes from all challenges if the claims are true, and from those with u_1 = 2 whatever they are.
use mathlib.Core.Path.{◌≡◌, sym, ◌∙◌, ap, subst, subst₂}
use mathlib.Core.List.{List, [], ◌∷◌}
use mathlib.Core.Bool.{true}
use Prim.Native.Nat.{ℕ, suc, ◌+◌, ◌-◌, ◌*◌, ◌^◌, ◌<◌, ◌≤◌}
use native.Mathlib.Nat
use native.Mathlib.Nat.{suc_inj}
use native.Mathlib.Omega.{arith}
use lib.ListN.{length, get_or}
use Rattle.algebra.specs.Ring.{num}
use Rattle.algebra.proofs.Counts.{count_all, count_at, count_least}
use Rattle.field.specs.Element.{Elem, F, half_elem, elem_of, words_of}
use Rattle.field.specs.Enumeration.{field_size, how_many_f}
use Rattle.field.specs.Powers.{root}
use Rattle.field.specs.Slice.{elem_at}
use Rattle.field.proofs.Enumerated.{each_once}
use Rattle.layout.proofs.RunLaws.{Listed, lists-passed}
use Rattle.reduction.specs.Senders.{Instance, Sender, run_at, cells, says_yes}
use Rattle.reduction.specs.Lies.{columns_of, AllTrue, WellFormed}
use Rattle.reduction.specs.Price.{NotVacuous}
use Rattle.reduction.proofs.LambdaPolynomials.{before_any}
use Rattle.reduction.proofs.TrueSums.{trues_any, weigh_true}
use Rattle.reduction.proofs.Played.{claims_at, game}
use Rattle.reduction.proofs.FalseClaims.{sum-true}
use Rattle.reduction.proofs.Exactly.{exactly}
use Rattle.reduction.proofs.Hopeful.{true_sum, hopeful, two_won, right-won}

module _ (t : Instance) (formed : WellFormed t) where
  claims-right : AllTrue t → (l : Elem) → claims_at t l ≡ true_sum t l
  claims-right right l =
      weigh_true F half_elem (root t.skip) (run_at t l) (cells t) (elem_at t.claims) (λ i h.
      right i (subst (λ m. i < m) (before_any (columns_of t) (elem_of (words_of l)) (columns_of t).count) h)
      ∙ sym (ap (λ xs. get_or xs i F.zero) (trues_any F half_elem (root t.skip) (columns_of t) (cells t) (elem_of (words_of l)))))
      ∙ sym (sum-true t passed l)
    where
      passed : Listed t.skip t.stack t.counts t.lists
      passed = lists-passed t.skip t.stack t.counts t.lists formed.lists formed.sizes

  -- true claims: every list is won
  all_won : AllTrue t → (v : List Elem) → length v ≡ suc (suc t.stack) → game t (hopeful t) v ≡ true
  all_won right [] k = absurd (omega arith)
  all_won right (l ∷ []) k = absurd (omega arith)
  all_won right (l ∷ u ∷ us) k = right-won t l u us (claims-right right l) (suc_inj (suc_inj k))

  -- any claims: those with u_1 = 2
  two_count : (m : ℕ) → suc m ≡ t.stack → field_size * (field_size * field_size ^ m) ≤ how_many_f (suc (suc t.stack)) (says_yes t (hopeful t))
  two_count m e =
      rw (exactly t (hopeful t) formed)
      (subst (λ k. field_size * (field_size * field_size ^ m) ≤ how_many_f (suc (suc k)) (game t (hopeful t))) e
      (count_least each_once (suc (suc m)) (field_size * field_size ^ m) (game t (hopeful t)) (λ l.
      count_least each_once (suc m) (field_size ^ m) (λ v. game t (hopeful t) (l ∷ v)) (λ u.
      Nat.le_trans (Nat.le_of_eq (sym (count_all each_once m (λ v. game t (hopeful t) (l ∷ u ∷ num F 2 ∷ v)) (λ v k. two_won t l u m v e k))))
      (count_at each_once m (num F 2) (λ v. game t (hopeful t) (l ∷ u ∷ v)))))))

  two : suc (suc t.stack) ≡ t.stack + 2
  two = omega arith

  some_yes : 0 < t.stack → (s : Sender) × (field_size ^ (t.stack + 1) ≤ how_many_f (t.stack + 2) (says_yes t s))
  some_yes h =
      let m : ℕ = t.stack - 1 in
      let e : suc m ≡ t.stack = omega arith in
      let k : suc (suc m) ≡ t.stack + 1 = omega arith in (
        hopeful t,
        subst₂ (λ a b. a ≤ how_many_f b (says_yes t (hopeful t)))
            (ap (λ x. field_size * x) (sym (Nat.pow-succ' field_size m)) ∙ sym (Nat.pow-succ' field_size (suc m)) ∙ ap (λ j. field_size ^ j) k) two (two_count m e),
      )

  pub not_vacuous : NotVacuous t
  not_vacuous = record {
    all_yes = λ right. (
      hopeful t,
      subst (λ m. how_many_f m (says_yes t (hopeful t)) ≡ field_size ^ m) two
          (exactly t (hopeful t) formed ∙ count_all each_once (suc (suc t.stack)) (game t (hopeful t)) (all_won right)),
    );
    some_yes = some_yes;
  }
