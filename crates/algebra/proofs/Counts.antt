-- How many lists pass: by what a test asks, all of them, none of them, and at least so many.
use mathlib.Core.Path.{◌≡◌, refl, sym, ◌∙◌, ap, subst}
use mathlib.Core.Bool.{Bool, true, false, false≢true}
use mathlib.Core.List.{List, [], ◌∷◌}
use Prim.Native.Nat.{ℕ, zero, suc, ◌*◌, ◌^◌, ◌≤◌}
use native.Mathlib.Nat
use native.Mathlib.Omega.{arith}
use lib.ListN.{length}
use Rattle.algebra.specs.Count.{total, EachOnce, tally, how_many}
use Rattle.algebra.proofs.Totals.{total_at, total_le, total_same, total_const}

tally_mono : (b c : Bool) → (b ≡ true → c ≡ true) → tally b ≤ tally c
tally_mono false c h = omega arith
tally_mono true true h = omega arith
tally_mono true false h = absurd (false≢true (h refl))

tally_none : (b : Bool) → (b ≡ true → ⊥) → tally b ≡ 0
tally_none true h = absurd (h refl)
tally_none false h = refl

module _ {A : Type 0} {q : ℕ} {element : ℕ → A} (fin : EachOnce q element) where
  -- the first element put in
  abbrev put : ℕ → (List A → Bool) → List A → Bool
  put i test v = test (element i ∷ v)

  -- a test that asks more passes no more lists
  pub count_mono : (m : ℕ) (s t : List A → Bool) → ((v : List A) → length v ≡ m → s v ≡ true → t v ≡ true) → how_many q element m s ≤ how_many q element m t
  unfolding how_many
  count_mono zero s t h = tally_mono (s []) (t []) (h [] refl)
  count_mono (suc m) s t h = total_le q _ _ (λ i l. count_mono m (put i s) (put i t) (λ v e. h (element i ∷ v) (ap suc e)))

  pub count_same : (m : ℕ) (s t : List A → Bool) → ((v : List A) → length v ≡ m → s v ≡ t v) → how_many q element m s ≡ how_many q element m t
  unfolding how_many
  count_same zero s t h = ap tally (h [] refl)
  count_same (suc m) s t h = total_same q _ _ (λ i l. count_same m (put i s) (put i t) (λ v e. h (element i ∷ v) (ap suc e)))

  -- all lists pass
  count-true : (m : ℕ) → how_many q element m (λ v. true) ≡ q ^ m
  unfolding how_many
  count-true zero = sym (Nat.pow-zero q)
  count-true (suc m) = total_same q _ _ (λ i l. count-true m) ∙ total_const q (q ^ m) ∙ sym (Nat.pow-succ' q m)

  pub count_all : (m : ℕ) (t : List A → Bool) → ((v : List A) → length v ≡ m → t v ≡ true) → how_many q element m t ≡ q ^ m
  count_all m t h = count_same m t (λ v. true) h ∙ count-true m

  pub count_le_all : (m : ℕ) (t : List A → Bool) → how_many q element m t ≤ q ^ m
  count_le_all m t = rw (count-true m) at (count_mono m t (λ v. true) (λ v l e. refl))

  -- none passes
  pub count_none : (m : ℕ) (t : List A → Bool) → ((v : List A) → length v ≡ m → t v ≡ true → ⊥) → how_many q element m t ≡ 0
  unfolding how_many
  count_none zero t h = tally_none (t []) (h [] refl)
  count_none (suc m) t h =
      total_same q _ (λ i. 0) (λ i l. count_none m (put i t) (λ v e. h (element i ∷ v) (ap suc e))) ∙ total_const q 0 ∙ Nat.mul-zero q

  -- at least so many: by every first element
  pub count_least : (m b : ℕ) (t : List A → Bool) → ((a : A) → b ≤ how_many q element m (λ v. t (a ∷ v))) → q * b ≤ how_many q element (suc m) t
  unfolding how_many
  count_least m b t h = rw (total_const q b) at (total_le q (λ i. b) (λ i. how_many q element m (put i t)) (λ i l. h (element i)))

  -- and by one first element
  pub count_at : (m : ℕ) (a : A) (t : List A → Bool) → how_many q element m (λ v. t (a ∷ v)) ≤ how_many q element (suc m) t
  unfolding how_many
  count_at m a t =
      subst (λ b. how_many q element m (λ v. t (b ∷ v)) ≤ total q (λ i. how_many q element m (put i t))) (fin.there a)
      (total_at q (λ i. how_many q element m (put i t)) (fin.index a) (fin.below a))
