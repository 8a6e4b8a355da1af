-- Lists of the values of a function: their length, their entries, one value more at either end, and equality by entries.
use mathlib.Core.Path.{◌≡◌, refl, sym, ◌∙◌, ap, ap₂, fun_ext}
use mathlib.Core.List.{[], ◌∷◌, ◌++◌}
use Prim.Native.Nat.{ℕ, zero, suc, ◌+◌, ◌<◌}
use native.Mathlib.Nat
use native.Mathlib.Omega.{arith}
use lib.ListN.{length, get_or}
use Rattle.algebra.specs.Listed.{listed}

module _ {A : Type 0} where
  pub length-listed : (n : ℕ) (f : ℕ → A) → length (listed n f) ≡ n
  unfolding listed
  length-listed zero f = refl
  length-listed (suc n) f = ap suc (length-listed n (λ i. f (suc i)))

  pub get_d_listed : (n : ℕ) (f : ℕ → A) (i : ℕ) (a : A) → i < n → get_or (listed n f) i a ≡ f i
  unfolding listed
  get_d_listed zero f i a h = absurd (omega arith)
  get_d_listed (suc n) f zero a h = refl
  get_d_listed (suc n) f (suc i) a h = get_d_listed n (λ k. f (suc k)) i a (omega arith)

  pub listed_cong : (n : ℕ) {f g : ℕ → A} → ((i : ℕ) → i < n → f i ≡ g i) → listed n f ≡ listed n g
  unfolding listed
  listed_cong zero h = refl
  listed_cong (suc n) h = ap₂ ◌∷◌ (h 0 (omega arith)) (listed_cong n (λ i l. h (suc i) (omega arith)))

  pub listed_last : (n : ℕ) (f : ℕ → A) → listed (suc n) f ≡ listed n f ++ (f n ∷ [])
  unfolding listed
  listed_last zero f = refl
  listed_last (suc n) f = ap (λ l. f 0 ∷ l) (listed_last n (λ i. f (suc i)))

  pub listed_append : (m n : ℕ) (f : ℕ → A) → listed (m + n) f ≡ listed m f ++ listed n (λ i. f (m + i))
  unfolding listed
  listed_append zero n f = ap (λ k. listed k f) (Nat.zero-add n) ∙ ap (listed n) (fun_ext (λ i. ap f (sym (Nat.zero-add i))))
  listed_append (suc m) n f =
      ap (λ k. listed k f) (Nat.suc-add m n)
      ∙ ap (λ l. f 0 ∷ l) (listed_append m n (λ i. f (suc i)) ∙ ap (λ g. listed m (λ i. f (suc i)) ++ listed n g) (fun_ext (λ i. ap f (sym (Nat.suc-add m i)))))
