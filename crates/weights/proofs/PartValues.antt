-- The weighted sum before any fold is the sum of the parts by orders, at every z.
use mathlib.Core.Path.{◌≡◌, refl, sym, ◌∙◌, ap, ap₂}
use mathlib.Core.Logic.{◌≢◌}
use mathlib.Core.List.{[], ◌∷◌}
use Prim.Native.Nat.{ℕ, zero, suc, ◌+◌, ◌*◌, ◌-◌, ◌/◌, ◌^◌, ◌<◌}
use native.Mathlib.Nat
use native.Mathlib.Omega.{arith}
use lib.ListN.{take}
use Rattle.algebra.specs.Ring.{Ring, sub, pow}
use Rattle.algebra.specs.Sum.{sum}
use Rattle.algebra.proofs.RingLaws as Laws
use Rattle.algebra.proofs.Expression.{◌:+◌, ◌:-◌, ◌:*◌, ◌:=◌}
use Rattle.algebra.proofs.Solver.{solve}
use Rattle.algebra.proofs.Sums.{sum_cong, sum-add, sum-mul, sum-mul-right, sum_swap, sum_delta}
use Rattle.tables.specs.Index.{before}
use Rattle.tables.specs.Lagrange.{lagrange}
use Rattle.tables.specs.EqUni.{eq_uni}
use Rattle.tables.specs.InUni.{in_uni}
use Rattle.tables.specs.FoldPle.{fold_ple}
use Rattle.tables.specs.FoldMany.{fold_many}
use Rattle.tables.specs.AtStride.{on_zero}
use Rattle.weights.specs.Run.{Run, stack_of, start_block, lift, gap, order}
use Rattle.weights.specs.ColumnFactor.{raised}
use Rattle.weights.specs.LambdaPowers.{plain_power, rotated_power}
use Rattle.weights.specs.HeightTables.{plain_entry, indicator, eq_entry, rot_entry, table_weight}
use Rattle.weights.specs.StackColumns.{stack_rows, folded_column}
use Rattle.weights.proofs.WeightsFoldedOn.{column_weight_one}
use Rattle.weights.proofs.WindowSums.{window_term}
use Rattle.weights.specs.Parts.{if_equal, table_rows, plain_rows, turned_rows, at_order, kernel_at, through, wrap}

module _ {A : Type 0} (R : Ring A) where
  infixl 60 ◌⊕◌ ◌⊖◌
  infixl 70 ◌⊗◌
  open R use {zero as 𝟘, one as 𝟙, add as ◌⊕◌, mul as ◌⊗◌, neg, mul_one, mul_assoc}

  abbrev ◌⊖◌ : A → A → A
  a ⊖ b = sub R a b

  pub equal_same : (n m : ℕ) (a : A) → n ≡ m → if_equal R n m a ≡ a
  unfolding if_equal on_zero
  equal_same n m a e = ap (λ k. on_zero R k a) {x = n - m + (m - n)} {y = 0} (omega arith)

  at : (k : ℕ) (a : A) → (k ≡ 0 → ⊥) → on_zero R k a ≡ 𝟘
  unfolding on_zero
  at zero a h = absurd (h refl)
  at (suc k) a h = refl

  pub equal_other : (n m : ℕ) (a : A) → n ≢ m → if_equal R n m a ≡ 𝟘
  unfolding if_equal
  equal_other n m a ne = at (n - m + (m - n)) a (λ e. ne (omega arith))

  -- one of the orders below n is a column's
  pub by_order : (n m : ℕ) (f : ℕ → A) (a b : A) → m < n → sum R n (λ o. f o ⊗ (if_equal R m o a ⊗ b)) ≡ f m ⊗ (a ⊗ b)
  by_order n m f a b h =
      sum_delta R n (λ o. f o ⊗ (if_equal R m o a ⊗ b)) m h
      (λ o l ne. ap (λ x. f o ⊗ (x ⊗ b)) (equal_other m o a (λ e. ne (sym e))) ∙ ap (λ x. f o ⊗ x) (Laws.zero-mul R b) ∙ Laws.mul-zero R _)
      ∙ ap (λ x. f m ⊗ (x ⊗ b)) (equal_same m m a refl)

  no_fold : (t : ℕ → A) (n : ℕ) → fold_many R t (take n []) ≡ t
  unfolding fold_many
  no_fold t zero = refl
  no_fold t (suc n) = refl

module _ {A : Type 0} (R : Ring A) (half w : A) (run : Run A) (cells : ℕ → A) where
  infixl 60 ◌⊕◌ ◌⊖ᴿ◌
  infixl 70 ◌⊗◌
  open R use {zero as 𝟘, one as 𝟙, add as ◌⊕◌, mul as ◌⊗◌, neg, mul_one, mul_assoc, mul_comm}

  abbrev ◌⊖ᴿ◌ : A → A → A
  a ⊖ᴿ b = sub R a b

  abbrev K : ℕ → A → A → A
  K = kernel_at R half w run cells

  abbrev thru : (ℕ → A) → A → A
  thru v z = through R half w run cells v z

  -- sums of multiples go through
  pub through-sum : (n : ℕ) (c : ℕ → A) (v : ℕ → ℕ → A) (z : A) → thru (λ i. sum R n (λ k. c k ⊗ v k i)) z ≡ sum R n (λ k. c k ⊗ thru (v k) z)
  unfolding through
  through-sum n c v z =
      sum_cong R (2 ^ run.skip) (λ i. sym (sum-mul-right R n (lagrange R half run.skip w i z) (λ k. c k ⊗ v k i)))
      ∙ sum_swap R (2 ^ run.skip) n (λ i k. c k ⊗ v k i ⊗ lagrange R half run.skip w i z)
      ∙ sum_cong R n (λ k. sum_cong R (2 ^ run.skip) (λ i. mul_assoc _ _ _) ∙ sum-mul R (2 ^ run.skip) (c k) (λ i. v k i ⊗ lagrange R half run.skip w i z))

  -- the rows of a column's blocks
  table_through : (t : ℕ → A) (k : ℕ) (z : A)
      → sum R (2 ^ lift run (run.log k)) (λ x. t x ⊗ fold_ple R half run.skip w (stack_rows run cells (stack_of run k)) z (start_block run k + x)) ≡ thru (table_rows R run cells t k) z
  unfolding fold_ple table_rows through
  table_through t k z =
      sym (through-sum (2 ^ lift run (run.log k)) t (λ x i. stack_rows run cells (stack_of run k) (i + 2 ^ run.skip * (start_block run k + x))) z)

  -- a column's part on its window
  pub window-plain : (z : A) (k : ℕ) → window_term R half w run cells z [] k
      ≡ sum R (2 ^ lift run (run.log k)) (λ x. table_weight R half w run k z x ⊗ fold_ple R half run.skip w (stack_rows run cells (stack_of run k)) z (start_block run k + x))
  unfolding window_term folded_column fold_many
  window-plain z k =
      ap₂ ◌⊗◌ (column_weight_one R run k [] (omega arith))
      (ap (λ n. sum R (2 ^ n) (λ x. fold_many R (table_weight R half w run k z) (take (lift run (run.log k)) []) x ⊗ f (start_block run k / 1 + x))) (Nat.sub-zero (lift run (run.log k)))
      ∙ sum_cong R (2 ^ lift run (run.log k)) (λ x. ap₂ (λ t b. t x ⊗ f (b + x)) (no_fold R (table_weight R half w run k z) (lift run (run.log k))) (Nat.div-one (start_block run k))))
      ∙ Laws.one_mul R _
    where
      f : ℕ → A
      f = fold_ple R half run.skip w (stack_rows run cells (stack_of run k)) z

  module _ (k : ℕ) (z : A) where
    abbrev h : ℕ
    h = run.log k

    abbrev o : ℕ
    o = order run h

    abbrev y : A
    y = at_order R half w run cells o run.r0

    abbrev wy : A
    wy = at_order R half w run cells o w ⊗ y

    -- the third factor of a rotation entry
    abbrev E : A
    E = indicator R half w run h z ⊗ eq_uni R half run.skip w z 𝟙

    gap_is : gap run h ≡ run.skip - o
    gap_is = omega arith

    eq_part : (x : ℕ) → eq_entry R half w run h z x ≡ K o y z ⊗ plain_entry R run h x
    unfolding eq_entry indicator raised kernel_at
    eq_part x = ap (λ g. in_uni R half o g w z ⊗ eq_uni R half o (pow R w (2 ^ g)) z (pow R run.r0 (2 ^ g)) ⊗ plain_entry R run h x) gap_is

    rot_part : (x : ℕ) → rot_entry R half w run h z x
        ≡ K o wy z ⊗ plain_entry R run h x ⊕ E ⊗ wrap R half w run cells ⊗ (plain_entry R run h (before (2 ^ lift run h) x) ⊖ᴿ plain_entry R run h x)
    unfolding rot_entry raised kernel_at wrap indicator
    rot_part x =
        solve R (in_uni R half o (gap run h) w z ∷ e2 ∷ plain_entry R run h x ∷ eq_uni R half run.skip w z 𝟙 ∷ eq_uni R half run.skip w (w ⊗ run.r0) 𝟙 ∷ plain_entry R run h (before (2 ^ lift run h) x) ∷ [])
        (λ i e p a c q. i :* (e :* p :+ a :* c :* (q :- p)) := i :* e :* p :+ i :* a :* c :* (q :- p)) refl
        ∙ ap (λ g. in_uni R half o g w z ⊗ eq_uni R half o (pow R w (2 ^ g)) z (pow R w (2 ^ g) ⊗ pow R run.r0 (2 ^ g)) ⊗ plain_entry R run h x
        ⊕ E ⊗ wrap R half w run cells ⊗ (plain_entry R run h (before (2 ^ lift run h) x) ⊖ᴿ plain_entry R run h x)) gap_is
      where
        e2 : A
        e2 = eq_uni R half o (pow R w (2 ^ gap run h)) z (pow R w (2 ^ gap run h) ⊗ pow R run.r0 (2 ^ gap run h))

    abbrev P : A
    P = thru (plain_rows R run cells k) z

    abbrev Q : A
    Q = thru (turned_rows R run cells k) z

    -- a column's part by its tables
    pub column-part : window_term R half w run cells z [] k
        ≡ plain_power R run k ⊗ (K o y z ⊗ P) ⊕ rotated_power R run k ⊗ (K o wy z ⊗ P ⊕ E ⊗ wrap R half w run cells ⊗ (Q ⊖ᴿ P))
    unfolding table_weight
    column-part =
        window-plain z k
        ∙ sum_cong R n (λ x.
        ap₂ (λ a b. (plain_power R run k ⊗ a ⊕ rotated_power R run k ⊗ b) ⊗ f x) (eq_part x) (rot_part x)
        ∙ solve R (plain_power R run k ∷ rotated_power R run k ∷ K o y z ∷ K o wy z ∷ E ⊗ wrap R half w run cells ∷ p x ∷ q x ∷ f x ∷ [])
        (λ a b k l e p q f. (a :* (k :* p) :+ b :* (l :* p :+ e :* (q :- p))) :* f := (a :* k :+ b :* l :- b :* e) :* (p :* f) :+ b :* e :* (q :* f)) refl)
        ∙ sum-add R n (λ x. c1 ⊗ (p x ⊗ f x)) (λ x. c2 ⊗ (q x ⊗ f x))
        ∙ ap₂ ◌⊕◌ (sum-mul R n c1 (λ x. p x ⊗ f x) ∙ ap (λ s. c1 ⊗ s) (table_through p k z)) (sum-mul R n c2 (λ x. q x ⊗ f x) ∙ ap (λ s. c2 ⊗ s) (table_through q k z))
        ∙ solve R (plain_power R run k ∷ rotated_power R run k ∷ K o y z ∷ K o wy z ∷ E ⊗ wrap R half w run cells ∷ P ∷ Q ∷ [])
        (λ a b k l e p q. (a :* k :+ b :* l :- b :* e) :* p :+ b :* e :* q := a :* (k :* p) :+ b :* (l :* p :+ e :* (q :- p))) refl
      where
        n : ℕ
        n = 2 ^ lift run h

        p : ℕ → A
        p = plain_entry R run h

        q : ℕ → A
        q x = plain_entry R run h (before (2 ^ lift run h) x)

        f : ℕ → A
        f x = fold_ple R half run.skip w (stack_rows run cells (stack_of run k)) z (start_block run k + x)

        c1 : A
        c1 = plain_power R run k ⊗ K o y z ⊕ rotated_power R run k ⊗ K o wy z ⊖ᴿ rotated_power R run k ⊗ (E ⊗ wrap R half w run cells)

        c2 : A
        c2 = rotated_power R run k ⊗ (E ⊗ wrap R half w run cells)
