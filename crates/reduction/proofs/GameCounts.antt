-- From a wrong claim the game is won only by luck, and how many lists of challenges that is.
use mathlib.Core.Path.{◌≡◌, refl, sym, ◌∙◌, ap, ap₂, subst, subst₂, fun_ext}
use mathlib.Core.Logic.{◌≢◌}
use mathlib.Core.Bool.{Bool, true, false, ◌&&◌}
use mathlib.Core.List.{List, [], ◌∷◌}
use Prim.Native.Nat.{ℕ, zero, suc, ◌+◌, ◌*◌, ◌-◌, ◌^◌, ◌≤◌}
use native.Mathlib.Nat
use lib.ListN.{replicate, length-replicate}
use Rattle.algebra.specs.Ring.{Ring, Domain}
use Rattle.algebra.specs.Polynomial.{Degree}
use Rattle.algebra.specs.Count.{EachOnce, how_many, AtMost}
use Rattle.algebra.proofs.Agreements.{at_most_of, agree_at_most}
use Rattle.algebra.proofs.Luck.{add_up, add_up-replicate, OnlyLuck, none_lucky, never, luck_count, luck_first}
use Rattle.reduction.proofs.Game.{Tells, not_same, not_equal, Quadratics, TrueValues, won, won_first, won_whole}

module _ {A : Type 0} (R : Ring A) (domain : Domain R) {same : A → A → Bool} (tells : Tells same) where
  -- the challenges at which two polynomials that are not the same pass for equal
  few_same : (d : ℕ) (f g : A → A) → Degree R d f → Degree R d g → ¬ ((x : A) → f x ≡ g x) → AtMost d (λ v. same (f v) (g v) ≡ true)
  few_same d f g a b differ = at_most_of d (λ v e. tells.equal (f v) (g v) e) (agree_at_most R domain d f g a b differ)

  module _ {M : Type 0} (sent : A → M → A → A) (quadratics : Quadratics R sent) where
    later : (n : ℕ) (c : A) (s : List A → M) (g : List A → A) → TrueValues R n g → c ≢ g [] → OnlyLuck (replicate n 2) (won same sent c s g)
    unfolding won
    later zero c s g t wrong = not_same tells c (g []) wrong
    later (suc n) c s g (degree, sums, rest) wrong = (
      (λ u. same (sent c (s []) u) (g (u ∷ []))),
      few_same 2 (sent c (s [])) (λ u. g (u ∷ [])) (quadratics.degree c (s [])) degree
          (λ e. wrong (sym (quadratics.sums c (s [])) ∙ ap₂ R.add (e R.zero) (e R.one) ∙ sums)),
      λ u e. later n (sent c (s []) u) (λ v. s (u ∷ v)) (λ v. g (u ∷ v)) (rest u) (not_equal tells (sent c (s []) u) (g (u ∷ [])) e),
    )

    -- round zero, of degree D
    first : (D n : ℕ) (S : (A → A) → A) (c : A) (f : A → A) (s : A → List A → M) (g : A → List A → A)
        → Degree R D f → Degree R D (λ u. g u []) → ((u : A) → TrueValues R n (g u)) → c ≢ S (λ u. g u [])
        → OnlyLuck (D ∷ replicate n 2) (won_first same sent S c f s g)
    unfolding won_first
    first D n S c f s g degree true-degree t wrong = by (same c (S f)) (tells.equal c (S f))
      where
        by : (b : Bool) → (b ≡ true → c ≡ S f)
            → (lucky : A → Bool) × AtMost D (λ v. lucky v ≡ true)
            × ((u : A) → lucky u ≡ false → OnlyLuck (replicate n 2) (λ us. b && won same sent (f u) (s u) (g u) us))
        by false h = ((λ u. false), none_lucky D, λ u e. never (replicate n 2) (λ us. false) (λ us. refl))
        by true h = (
          (λ u. same (f u) (g u [])),
          few_same D f (λ u. g u []) degree true-degree (λ e. wrong (h refl ∙ ap S (fun_ext e))),
          λ u e. later n (f u) (s u) (g u) (t u) (not_equal tells (f u) (g u []) e),
        )

    -- lambda, of degree E: the claims c are not the true ones v as functions of lambda
    whole : (E D n : ℕ) (S : (A → A) → A) (c v : A → A) (f : A → A → A) (s : A → A → List A → M) (g : A → A → List A → A)
        → Degree R E c → Degree R E v → ((l : A) → S (λ u. g l u []) ≡ v l) → ((l : A) → Degree R D (f l)) → ((l : A) → Degree R D (λ u. g l u []))
        → ((l u : A) → TrueValues R n (g l u)) → ¬ ((l : A) → c l ≡ v l) → OnlyLuck (E ∷ D ∷ replicate n 2) (won_whole same sent S c f s g)
    unfolding won_whole
    whole E D n S c v f s g c-degree v-degree sums f-degree g-degree t wrong = (
      (λ l. same (c l) (v l)),
      few_same E c v c-degree v-degree wrong,
      λ l e. first D n S (c l) (f l) (s l) (g l) (f-degree l) (g-degree l) (t l) (λ k. not_equal tells (c l) (v l) e (k ∙ sums l)),
    )

    module _ {q : ℕ} {element : ℕ → A} (fin : EachOnce q element) where
      -- a wrong claim with n rounds left
      pub later_count : (n : ℕ) (c : A) (s : List A → M) (g : List A → A) → TrueValues R n g → c ≢ g []
          → how_many q element n (won same sent c s g) ≤ 2 * n * q ^ (n - 1)
      later_count n c s g t wrong =
          subst₂ (λ k b. how_many q element k (won same sent c s g) ≤ b * q ^ (k - 1)) (length-replicate n 2) (add_up-replicate n 2)
          (luck_count fin (replicate n 2) (won same sent c s g) (later n c s g t wrong))

      -- a wrong sum before round zero
      pub first_count_lem : (D n : ℕ) (S : (A → A) → A) (c : A) (f : A → A) (s : A → List A → M) (g : A → List A → A)
          → Degree R D f → Degree R D (λ u. g u []) → ((u : A) → TrueValues R n (g u)) → c ≢ S (λ u. g u [])
          → how_many q element (suc n) (won_first same sent S c f s g) ≤ (D + 2 * n) * q ^ n
      first_count_lem D n S c f s g degree true-degree t wrong =
          subst₂ (λ k b. how_many q element (suc k) (won_first same sent S c f s g) ≤ (D + b) * q ^ k) (length-replicate n 2) (add_up-replicate n 2)
          (luck_first fin D (replicate n 2) (won_first same sent S c f s g) (first D n S c f s g degree true-degree t wrong))

      -- wrong claims before lambda
      pub whole_count : (E D n : ℕ) (S : (A → A) → A) (c v : A → A) (f : A → A → A) (s : A → A → List A → M) (g : A → A → List A → A)
          → Degree R E c → Degree R E v → ((l : A) → S (λ u. g l u []) ≡ v l) → ((l : A) → Degree R D (f l)) → ((l : A) → Degree R D (λ u. g l u []))
          → ((l u : A) → TrueValues R n (g l u)) → ¬ ((l : A) → c l ≡ v l)
          → how_many q element (suc (suc n)) (won_whole same sent S c f s g) ≤ (E + D + 2 * n) * q ^ suc n
      unfolding add_up
      whole_count E D n S c v f s g c-degree v-degree sums f-degree g-degree t wrong =
          subst (λ b. how_many q element (suc (suc n)) (won_whole same sent S c f s g) ≤ b * q ^ suc n) (sym (Nat.add_assoc E D (2 * n)))
          (subst₂ (λ k b. how_many q element (suc (suc k)) (won_whole same sent S c f s g) ≤ (E + (D + b)) * q ^ suc k) (length-replicate n 2) (add_up-replicate n 2)
          (luck_first fin E (D ∷ replicate n 2) (won_whole same sent S c f s g) (whole E D n S c v f s g c-degree v-degree sums f-degree g-degree t wrong)))
