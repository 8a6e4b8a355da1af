-- The parts of all columns together: by orders, each with its kernel; and so the coefficients of the first polynomial are those that the algorithm adds up.
use mathlib.Core.Path.{◌≡◌, refl, sym, ◌∙◌, ap, ap₂}
use mathlib.Core.Logic.{◌⊎◌, inl, inr}
use mathlib.Core.List.{[], ◌∷◌}
use Prim.Native.Nat.{ℕ, zero, suc, ◌+◌, ◌*◌, ◌-◌, ◌^◌, ◌<◌}
use native.Mathlib.Nat.{eq-or-lt_of_le}
use native.Mathlib.Omega.{arith}
use Rattle.algebra.specs.Ring.{Ring, sub, pow}
use Rattle.algebra.specs.Sum.{sum}
use Rattle.algebra.proofs.RingLaws as Laws
use Rattle.algebra.proofs.Expression.{◌:+◌, ◌:-◌, ◌:*◌, :0, ◌:=◌, ◌given◌⋆◌≈◌}
use Rattle.algebra.proofs.Solver.{solve}
use Rattle.algebra.proofs.Sums.{sum_cong, sum_cong_below, sum-add, sum-mul, sum_swap}
use Rattle.tables.specs.Index.{before}
use Rattle.tables.specs.Root.{Skip}
use Rattle.tables.specs.Lagrange.{lagrange}
use Rattle.tables.specs.EqUni.{eq_uni}
use Rattle.tables.specs.InUni.{in_uni}
use Rattle.weights.specs.Run.{Run, stack_of, start_block, lift, gap, order}
use Rattle.weights.specs.LambdaPowers.{if_flagged, plain_power, rotated_power}
use Rattle.weights.specs.HeightTables.{plain_entry, indicator}
use Rattle.weights.specs.StackColumns.{stack_rows}
use Rattle.weights.specs.FoldedSum.{folded_sum}
use Rattle.weights.specs.Fits.{Planned}
use Rattle.weights.proofs.WindowSums.{window_term, folded_sum_windows}
use Rattle.weights.specs.Parts.{if_equal, table_rows, plain_rows, turned_rows, flagged_power, class_rows, flagged_rows, rotated_rows, at_order, kernel_at, through, wrap}
use Rattle.weights.proofs.PartValues.{equal_same, equal_other, by_order, through-sum, column-part}

module _ {A : Type 0} (R : Ring A) where
  infixl 60 ◌⊕◌ ◌⊖◌
  infixl 70 ◌⊗◌
  open R use {zero as 𝟘, one as 𝟙, add as ◌⊕◌, mul as ◌⊗◌, neg, mul_one, mul_assoc}

  abbrev ◌⊖◌ : A → A → A
  a ⊖ b = sub R a b

  pub sum_sub : (n : ℕ) (f g : ℕ → A) → sum R n (λ i. f i ⊖ g i) ≡ sum R n f ⊖ sum R n g
  unfolding sum
  sum_sub zero f g = sym (R.add_neg 𝟘)
  sum_sub (suc n) f g =
      ap (λ x. x ⊕ (f n ⊖ g n)) (sum_sub n f g)
      ∙ solve R (sum R n f ∷ sum R n g ∷ f n ∷ g n ∷ []) (λ a b c d. a :- b :+ (c :- d) := a :+ c :- (b :+ d)) refl

  -- lambda^(2k+1) is lambda times lambda^(2k), flagged or not
  flagged_power_lem : (f k : ℕ) (x : A) → if_flagged R f (pow R x (2 * k + 1)) ≡ x ⊗ if_flagged R f (pow R x (2 * k))
  unfolding if_flagged pow
  flagged_power_lem zero k x = sym (Laws.mul-zero R x)
  flagged_power_lem (suc f) k x = ap (pow R x) {x = 2 * k + 1} {y = suc (2 * k)} (omega arith)

-- the only block is before itself
only_block : (n x : ℕ) → n ≡ 0 → x < 2 ^ n → before (2 ^ n) x ≡ x
unfolding before
only_block n zero e h = ap (λ k. 2 ^ k - 1) e
only_block n (suc x) e h = absurd (omega (arith, ap (λ k. 2 ^ k) e))

module _ {A : Type 0} (R : Ring A) (half w : A) (run : Run A) (cells : ℕ → A) where
  infixl 60 ◌⊕◌ ◌⊖ᴿ◌
  infixl 70 ◌⊗◌
  open R use {zero as 𝟘, one as 𝟙, add as ◌⊕◌, mul as ◌⊗◌, neg, mul_one, mul_assoc, mul_comm}

  abbrev ◌⊖ᴿ◌ : A → A → A
  a ⊖ᴿ b = sub R a b

  abbrev K : ℕ → A → A → A
  K = kernel_at R half w run cells

  abbrev thru : (ℕ → A) → A → A
  thru v z = through R half w run cells v z

  abbrev s : ℕ
  s = run.skip

  abbrev o : ℕ → ℕ
  o k = order run (run.log k)

  abbrev y : ℕ → A
  y n = at_order R half w run cells n run.r0

  abbrev wy : ℕ → A
  wy n = at_order R half w run cells n w ⊗ y n

  abbrev C : A
  C = wrap R half w run cells

  rotated_is : (k : ℕ) → rotated_power R run k ≡ run.lambda ⊗ flagged_power R run cells k
  unfolding rotated_power plain_power
  rotated_is k = flagged_power_lem R (run.flag k) k run.lambda

  through_sub : (f g : ℕ → A) (z : A) → thru (λ i. f i ⊖ᴿ g i) z ≡ thru f z ⊖ᴿ thru g z
  unfolding through
  through_sub f g z =
      sum_cong R (2 ^ s) (λ i. solve R (f i ∷ g i ∷ lagrange R half s w i z ∷ []) (λ f g l. (f :- g) :* l := f :* l :- g :* l) refl)
      ∙ sum_sub R (2 ^ s) (λ i. f i ⊗ lagrange R half s w i z) (λ i. g i ⊗ lagrange R half s w i z)

  module _ (z : A) where
    abbrev P : ℕ → A
    P k = thru (plain_rows R run cells k) z

    abbrev Q : ℕ → A
    Q k = thru (turned_rows R run cells k) z

    abbrev E : ℕ → A
    E k = indicator R half w run (run.log k) z ⊗ eq_uni R half s w z 𝟙

    -- a short column has one block
    short_same : (k : ℕ) → o k < s → Q k ≡ P k
    unfolding through table_rows
    short_same k h =
        sum_cong R (2 ^ s) (λ i. ap (λ x. x ⊗ lagrange R half s w i z)
        (sum_cong_below R (2 ^ lift run (run.log k)) (λ x l.
        ap (λ n. plain_entry R run (run.log k) n ⊗ stack_rows run cells (stack_of run k) (i + 2 ^ run.skip * (start_block run k + x))) (only_block (lift run (run.log k)) x (omega arith) l))))

    full_kernel : (k : ℕ) → o k ≡ s → E k ≡ K s 𝟙 z
    unfolding indicator kernel_at pow
    full_kernel k e =
        ap₂ (λ m g. in_uni R half m g w z ⊗ eq_uni R half s w z 𝟙) e (let g : gap run (run.log k) ≡ s - s = omega arith in g)
        ∙ ap (λ x. in_uni R half s (s - s) w z ⊗ eq_uni R half s x z 𝟙) (sym (mul_one w) ∙ ap (λ n. pow R w (2 ^ n)) {x = 0} {y = s - s} (omega arith))

    third : (k : ℕ) → flagged_power R run cells k ⊗ (E k ⊗ (Q k ⊖ᴿ P k)) ≡ K s 𝟙 z ⊗ (if_equal R (o k) s (flagged_power R run cells k) ⊗ Q k ⊖ᴿ if_equal R (o k) s (flagged_power R run cells k) ⊗ P k)
    third k = side (eq-or-lt_of_le (omega arith))
      where
        φ : A
        φ = flagged_power R run cells k

        side : (o k ≡ s) ⊎ (o k < s) → φ ⊗ (E k ⊗ (Q k ⊖ᴿ P k)) ≡ K s 𝟙 z ⊗ (if_equal R (o k) s φ ⊗ Q k ⊖ᴿ if_equal R (o k) s φ ⊗ P k)
        side (inl e) =
            solve R (φ ∷ E k ∷ Q k ∷ P k ∷ K s 𝟙 z ∷ if_equal R (o k) s φ ∷ [])
            (λ f e q p k i. f :* (e :* (q :- p)) := k :* (i :* q :- i :* p) given f :* (q :- p) ⋆ e ≈ k given k :* (p :- q) ⋆ i ≈ f) refl (full_kernel k e) (equal_same R (o k) s φ e)
        side (inr l) =
            solve R (φ ∷ E k ∷ Q k ∷ P k ∷ K s 𝟙 z ∷ if_equal R (o k) s φ ∷ [])
            (λ f e q p k i. f :* (e :* (q :- p)) := k :* (i :* q :- i :* p) given f :* e ⋆ q ≈ p given k :* (p :- q) ⋆ i ≈ :0) refl (short_same k l) (equal_other R (o k) s φ (λ e. omega arith))

    -- all columns, by their orders
    orders : (f c v : ℕ → A) → sum R run.count (λ k. f (o k) ⊗ (c k ⊗ v k)) ≡ sum R (suc s) (λ n. f n ⊗ sum R run.count (λ k. if_equal R (o k) n (c k) ⊗ v k))
    orders f c v =
        sum_cong R run.count (λ k. sym (by_order R (suc s) (o k) f (c k) (v k) (omega arith)))
        ∙ sum_swap R run.count (suc s) (λ k n. f n ⊗ (if_equal R (o k) n (c k) ⊗ v k))
        ∙ sum_cong R (suc s) (λ n. sum-mul R run.count (f n) (λ k. if_equal R (o k) n (c k) ⊗ v k))

    parts : sum R run.count (window_term R half w run cells z [])
        ≡ sum R (suc s) (λ n. K n (y n) z ⊗ thru (class_rows R run cells n) z ⊕ run.lambda ⊗ (K n (wy n) z ⊗ thru (flagged_rows R run cells n) z))
        ⊕ run.lambda ⊗ C ⊗ (K s 𝟙 z ⊗ thru (λ i. rotated_rows R run cells i ⊖ᴿ flagged_rows R run cells s i) z)
    unfolding class_rows flagged_rows rotated_rows
    parts =
        sum_cong R run.count (λ k.
        column-part R half w run cells k z
        ∙ ap (λ r. π k ⊗ (K (o k) (y (o k)) z ⊗ P k) ⊕ r ⊗ (K (o k) (wy (o k)) z ⊗ P k ⊕ E k ⊗ C ⊗ (Q k ⊖ᴿ P k))) (rotated_is k)
        ∙ solve R (π k ∷ K (o k) (y (o k)) z ∷ P k ∷ run.lambda ∷ φ k ∷ K (o k) (wy (o k)) z ∷ E k ∷ C ∷ Q k ∷ [])
        (λ a g p l f k e c q. a :* (g :* p) :+ l :* f :* (k :* p :+ e :* c :* (q :- p)) := g :* (a :* p) :+ l :* (k :* (f :* p)) :+ l :* c :* (f :* (e :* (q :- p)))) refl
        ∙ ap (λ x. K (o k) (y (o k)) z ⊗ (π k ⊗ P k) ⊕ run.lambda ⊗ (K (o k) (wy (o k)) z ⊗ (φ k ⊗ P k)) ⊕ run.lambda ⊗ C ⊗ x) (third k))
        ∙ sum-add R run.count (λ k. a1 k ⊕ run.lambda ⊗ a2 k) (λ k. run.lambda ⊗ C ⊗ a3 k)
        ∙ ap₂ ◌⊕◌
        (sum-add R run.count a1 (λ k. run.lambda ⊗ a2 k)
        ∙ ap₂ ◌⊕◌
        (orders (λ n. K n (y n) z) π P ∙ sum_cong R (suc s) (λ n. ap (λ x. K n (y n) z ⊗ x) (sym (through-sum R half w run cells run.count (λ k. if_equal R (o k) n (π k)) (plain_rows R run cells) z))))
        (sum-mul R run.count run.lambda a2
        ∙ ap (λ x. run.lambda ⊗ x) (orders (λ n. K n (wy n) z) φ P ∙ sum_cong R (suc s) (λ n. ap (λ x. K n (wy n) z ⊗ x) (sym (through-sum R half w run cells run.count (λ k. if_equal R (o k) n (φ k)) (plain_rows R run cells) z))))
        ∙ sym (sum-mul R (suc s) run.lambda (λ n. K n (wy n) z ⊗ thru (flagged_rows R run cells n) z)))
        ∙ sym (sum-add R (suc s) (λ n. K n (y n) z ⊗ thru (class_rows R run cells n) z) (λ n. run.lambda ⊗ (K n (wy n) z ⊗ thru (flagged_rows R run cells n) z))))
        (sum-mul R run.count (run.lambda ⊗ C) a3
        ∙ ap (λ x. run.lambda ⊗ C ⊗ x)
        (sum-mul R run.count (K s 𝟙 z) (λ k. i k ⊗ Q k ⊖ᴿ i k ⊗ P k)
        ∙ ap (λ x. K s 𝟙 z ⊗ x)
        (sum_sub R run.count (λ k. i k ⊗ Q k) (λ k. i k ⊗ P k)
        ∙ ap₂ ◌⊖ᴿ◌ (sym (through-sum R half w run cells run.count i (turned_rows R run cells) z)) (sym (through-sum R half w run cells run.count i (plain_rows R run cells) z))
        ∙ sym (through_sub (rotated_rows R run cells) (flagged_rows R run cells s) z))))
      where
        π : ℕ → A
        π k = plain_power R run k

        φ : ℕ → A
        φ k = flagged_power R run cells k

        i : ℕ → A
        i k = if_equal R (o k) s (φ k)

        a1 : ℕ → A
        a1 k = K (o k) (y (o k)) z ⊗ (π k ⊗ P k)

        a2 : ℕ → A
        a2 k = K (o k) (wy (o k)) z ⊗ (φ k ⊗ P k)

        a3 : ℕ → A
        a3 k = K s 𝟙 z ⊗ (i k ⊗ Q k ⊖ᴿ i k ⊗ P k)

    -- the weighted sum before any fold
    pub first_parts : Skip R half s w → Planned run
        → folded_sum R half w run cells z []
        ≡ sum R (suc s) (λ n. K n (y n) z ⊗ thru (class_rows R run cells n) z ⊕ run.lambda ⊗ (K n (wy n) z ⊗ thru (flagged_rows R run cells n) z))
        ⊕ run.lambda ⊗ C ⊗ (K s 𝟙 z ⊗ thru (λ i. rotated_rows R run cells i ⊖ᴿ flagged_rows R run cells s i) z)
    first_parts skip planned = folded_sum_windows run skip planned cells z [] (omega arith) ∙ parts
