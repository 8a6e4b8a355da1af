-- Tests on challenges, drawn one after the other, that pass only by luck, and how many lists of challenges pass them.
use mathlib.Core.Path.{◌≡◌, sym, ◌∙◌, ap, subst}
use mathlib.Core.Bool.{Bool, true, false, false≢true}
use mathlib.Core.List.{List, [], ◌∷◌}
use Prim.Native.Nat.{ℕ, zero, suc, ◌+◌, ◌*◌, ◌-◌, ◌^◌, ◌≤◌}
use native.Mathlib.Nat
use native.Mathlib.Omega.{arith}
use lib.ListN.{length, replicate}
use Rattle.algebra.specs.Count.{EachOnce, how_many, AtMost}
use Rattle.algebra.proofs.FewPass.{count_split}

-- the sum of a list of numbers
unfoldable pub add_up : List ℕ → ℕ
add_up [] = 0
add_up (d ∷ ds) = d + add_up ds

pub add_up-replicate : (n d : ℕ) → add_up (replicate n d) ≡ d * n
unfolding add_up
add_up-replicate zero d = sym (Nat.mul-zero d)
add_up-replicate (suc n) d = ap (λ x. d + x) (add_up-replicate n d) ∙ Nat.add_comm d (d * n) ∙ sym (Nat.mul-suc d n)

module _ {A : Type 0} where
  -- in each round at most so many challenges are lucky as the list says; and where none of the challenges was, the answer is no
  abbrev pub OnlyLuck : List ℕ → (List A → Bool) → Type 0
  OnlyLuck [] test = test [] ≡ false
  OnlyLuck (d ∷ ds) test =
      (lucky : A → Bool) × AtMost d (λ v. lucky v ≡ true) × ((a : A) → lucky a ≡ false → OnlyLuck ds (λ v. test (a ∷ v)))

  pub none_lucky : (d : ℕ) → AtMost {A = A} d (λ v. false ≡ true)
  none_lucky d [] distinct all = omega arith
  none_lucky d (v ∷ vs) distinct (a, all) = absurd (false≢true a)

  -- a test that never passes
  pub never : (ds : List ℕ) (test : List A → Bool) → ((v : List A) → test v ≡ false) → OnlyLuck ds test
  never [] test h = h []
  never (d ∷ ds) test h = ((λ a. false), none_lucky d, λ a e. never ds (λ v. test (a ∷ v)) (λ v. h (a ∷ v)))

module _ {A : Type 0} {q : ℕ} {element : ℕ → A} (fin : EachOnce q element) where
  -- q times a share of the power one lower
  raise : (ds : List ℕ) → q * (add_up ds * q ^ (length ds - 1)) ≡ add_up ds * q ^ length ds
  unfolding add_up
  raise [] = rw (Nat.zero-mul (q ^ 0)) (Nat.mul-zero q)
  raise (d ∷ ds) =
      Nat.mul_left_comm q (add_up (d ∷ ds)) (q ^ (suc (length ds) - 1))
      ∙ ap (λ x. add_up (d ∷ ds) * (q * q ^ x)) {x = suc (length ds) - 1} {y = length ds} (omega arith)
      ∙ ap (λ x. add_up (d ∷ ds) * x) (sym (Nat.pow-succ' q (length ds)))

  step : (d : ℕ) (ds : List ℕ) (test : List A → Bool)
      → ((t : List A → Bool) → OnlyLuck ds t → how_many q element (length ds) t ≤ add_up ds * q ^ (length ds - 1))
      → OnlyLuck (d ∷ ds) test → how_many q element (suc (length ds)) test ≤ (d + add_up ds) * q ^ length ds
  step d ds test ih (lucky, few, rest) =
      let a = count_split fin d (add_up ds * q ^ (length ds - 1)) (length ds) lucky test few (λ a e. ih (λ v. test (a ∷ v)) (rest a e)) in
      let b = raise ds in
      let c = Nat.add-mul d (add_up ds) (q ^ length ds) in
      omega arith

  -- the numbers added up, times q once for every challenge but one
  pub luck_count : (ds : List ℕ) (test : List A → Bool) → OnlyLuck ds test → how_many q element (length ds) test ≤ add_up ds * q ^ (length ds - 1)
  unfolding how_many add_up
  luck_count [] test h = rw (h, Nat.zero-mul (q ^ (0 - 1))) (Nat.le_refl 0)
  luck_count (d ∷ ds) test h =
      subst (λ k. how_many q element (suc (length ds)) test ≤ (d + add_up ds) * q ^ k) {x = length ds} {y = suc (length ds) - 1} (omega arith)
      (step d ds test (luck_count ds) h)

  -- the same with a first challenge
  pub luck_first : (d : ℕ) (ds : List ℕ) (test : List A → Bool) → OnlyLuck (d ∷ ds) test
      → how_many q element (suc (length ds)) test ≤ (d + add_up ds) * q ^ length ds
  luck_first d ds test h = step d ds test (luck_count ds) h
