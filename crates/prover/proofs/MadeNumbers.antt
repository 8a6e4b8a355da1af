-- The first polynomial and the trace columns' openings refuse alike but for 8, which is the first one's where it is not its turn; and neither gives 3, or a
-- number above 10. Assumes nothing.
use Rattle.std.proofs.Common.{◌≡◌, ℕ, ◌+◌, ◌*◌, ◌^◌, ◌≤◌, Bool, true, false, not, eqb, ◌≢◌, List, length, sym, refl, ap, ◌∙◌, arith, eq-eqb, ne_eqb}
use native.Mathlib.Decide.{ℕ_discrete}
use Rattle.layout.specs.Checks.{refuse, or_else, length_number, word_number}
use Rattle.layout.specs.Lists.{lists_number, lists_length}
use Rattle.layout.proofs.Firsts.{or_skip, or_stop, stops}
use Rattle.layout.proofs.NumberChains.{check_has, chain_has, lists_have}
use Rattle.prover.specs.declared.turns.Turn.{Turn}
use Rattle.prover.specs.Given.{Given, stacked}
use Rattle.prover.specs.Turns.{first_turn}
use Rattle.prover.specs.CallNumbers.{point_number, listed_number, made_words, made_number, coefficients_asked, claims_asked, first_number, claims_number}

module _ (g : Given) where
  abbrev number : ℕ
  number = lists_number g.skip g.stack g.counts g.lists

  -- a property of 0, 1, 2, 4 to 7, 9 and 10, and of the turn's number
  module _ (P : ℕ → Type 0) (each : (m : ℕ) → m ≤ 10 → m ≢ 3 → m ≢ 8 → P m) where
    none : P 0
    none = each 0 (omega arith) (λ e. omega arith) (λ e. omega arith)

    nine : (t : Bool) → P (refuse 9 t)
    nine t = check_has P none 9 t (each 9 (omega arith) (λ e. omega arith) (λ e. omega arith))

    ten : (t : Bool) → P (refuse 10 t)
    ten t = check_has P none 10 t (each 10 (omega arith) (λ e. omega arith) (λ e. omega arith))

    chain : {a b : ℕ} → P a → P b → P (or_else a b)
    chain {a} {b} = chain_has P none a b

    listed : P number
    listed =
        lists_have P none (each 1 (omega arith) (λ e. omega arith) (λ e. omega arith)) (each 2 (omega arith) (λ e. omega arith) (λ e. omega arith))
        (each 4 (omega arith) (λ e. omega arith) (λ e. omega arith)) (each 5 (omega arith) (λ e. omega arith) (λ e. omega arith))
        (each 6 (omega arith) (λ e. omega arith) (λ e. omega arith)) (each 7 (omega arith) (λ e. omega arith) (λ e. omega arith))
        g.skip g.stack g.counts g.lists

    made_has : (turned : Bool) (asked : ℕ) (matrices : List ℕ) (out : ℕ) → P (refuse 8 (not turned)) → P (made_number g turned asked matrices out)
    unfolding made_number listed_number lists_length made_words point_number
    made_has turned asked matrices out eight =
        chain (chain listed (chain eight (nine _))) (chain (nine _) (chain (nine _) (chain (nine _) (chain (chain (ten _) (ten _)) (ten _)))))

  -- 1, 2 and 4 to 10 where refused
  abbrev pub Refusal : ℕ → Type 0
  Refusal m = (m ≤ 10) × (m ≢ 3)

  made_range : (turned : Bool) (asked : ℕ) (matrices : List ℕ) (out : ℕ) → Refusal (made_number g turned asked matrices out)
  made_range turned asked matrices out =
      made_has Refusal (λ m h k e. (h, k)) turned asked matrices out (check_has Refusal (omega arith, λ e. omega arith) 8 _ (omega arith, λ e. omega arith))

  pub first_range : (t : Turn) (matrices out : List ℕ) → Refusal (first_number g t matrices out)
  first_range t matrices out = made_range (first_turn t) (coefficients_asked g) matrices (length out)

  pub claims_range : (matrices out : List ℕ) → Refusal (claims_number g matrices out)
  claims_range matrices out = made_range true (claims_asked g) matrices (length out)

  -- a call in its turn, or without one, does not give 8
  turned_other : (asked : ℕ) (matrices : List ℕ) (out : ℕ) → made_number g true asked matrices out ≢ 8
  unfolding refuse
  turned_other asked matrices out = made_has (λ m. m ≢ 8) (λ m h k e. e) true asked matrices out (λ e. omega arith)

  pub claims_turnless : (matrices out : List ℕ) → claims_number g matrices out ≢ 8
  claims_turnless matrices out = turned_other (claims_asked g) matrices (length out)

  -- by the lists where they are refused, else 8 where it is not the turn
  by_lists_lem : (turned : Bool) (asked : ℕ) (matrices : List ℕ) (out : ℕ) → number ≢ 0 → made_number g turned asked matrices out ≡ number
  unfolding made_number listed_number
  by_lists_lem turned asked matrices out h = or_stop _ _ (λ e. h (sym (or_stop number _ h) ∙ e)) ∙ or_stop number _ h

  by_turn : (asked : ℕ) (matrices : List ℕ) (out : ℕ) → number ≡ 0 → made_number g false asked matrices out ≡ 8
  unfolding made_number listed_number
  by_turn asked matrices out z = or_stop _ _ (λ e. omega (arith, listed_eight, e)) ∙ listed_eight
    where
      listed_eight : or_else number (or_else (refuse 8 true) (lists_length g.counts g.lists)) ≡ 8
      listed_eight = or_skip number _ z ∙ sym (stops 8 true _ (omega arith) refl)

  untaken : (turned : Bool) (asked : ℕ) (matrices : List ℕ) (out : ℕ) → made_number g turned asked matrices out ≡ 8 → (number ≡ 0) × (turned ≡ false)
  untaken true asked matrices out e = absurd (turned_other asked matrices out e)
  untaken false asked matrices out e = by (ℕ_discrete number 0)
    where
      by : Dec (number ≡ 0) → (number ≡ 0) × (false ≡ false)
      by (yes z) = (z, refl)
      by (no h) = absurd (listed (λ m. m ≢ 8) (λ m a b c. c) (sym (by_lists_lem false asked matrices out h) ∙ e))

  -- 8 exactly where the lists pass and it is not the first polynomial's turn
  pub alike_turned : (t : Turn) (matrices out : List ℕ)
      → (first_number g t matrices out ≡ 8 → (number ≡ 0) × (first_turn t ≡ false)) × (number ≡ 0 → first_turn t ≡ false → first_number g t matrices out ≡ 8)
  alike_turned t matrices out = (
    untaken (first_turn t) (coefficients_asked g) matrices (length out),
    λ z e. ap (λ b. made_number g b (coefficients_asked g) matrices (length out)) e ∙ by_turn (coefficients_asked g) matrices (length out) z,
  )

  -- the slices that are lent for the two results are both as long as asked, or neither is
  pub record FitAlike (coefficients claims : List ℕ) : Type 0 where
    pub claims_fit : length coefficients ≡ coefficients_asked g → length claims ≡ claims_asked g
    pub coefficients_fit : length claims ≡ claims_asked g → length coefficients ≡ coefficients_asked g

  module _ (matrices coefficients claims : List ℕ) (fit : FitAlike coefficients claims) where
    lengths : eqb (length coefficients) (coefficients_asked g) ≡ eqb (length claims) (claims_asked g)
    lengths = by (ℕ_discrete (length coefficients) (coefficients_asked g))
      where
        by : Dec (length coefficients ≡ coefficients_asked g) → eqb (length coefficients) (coefficients_asked g) ≡ eqb (length claims) (claims_asked g)
        by (yes e) = eq-eqb _ _ e ∙ sym (eq-eqb _ _ (fit.claims_fit e))
        by (no h) = ne_eqb _ _ h ∙ sym (ne_eqb _ _ (λ e. h (fit.coefficients_fit e)))

    same_turned : made_number g true (coefficients_asked g) matrices (length coefficients) ≡ claims_number g matrices claims
    unfolding made_number made_words
    same_turned =
        ap (λ b.
        or_else (listed_number g true)
        (or_else (length_number (length g.r) (4 * (g.stack + 1)))
        (or_else (length_number (length matrices) (stacked g * 2 ^ (g.skip + g.stack))) (or_else (refuse 9 (not b)) (or_else (point_number g.r g.lambda) (word_number matrices))))))
        lengths

    same : (turned : Bool) → made_number g turned (coefficients_asked g) matrices (length coefficients) ≢ 8
        → made_number g turned (coefficients_asked g) matrices (length coefficients) ≡ claims_number g matrices claims
    same true h = same_turned
    same false h = by (ℕ_discrete number 0)
      where
        by : Dec (number ≡ 0) → made_number g false (coefficients_asked g) matrices (length coefficients) ≡ claims_number g matrices claims
        by (yes z) = absurd (h (by_turn (coefficients_asked g) matrices (length coefficients) z))
        by (no k) = by_lists_lem false (coefficients_asked g) matrices (length coefficients) k ∙ sym (by_lists_lem true (claims_asked g) matrices (length claims) k)

    -- for the same arguments the two calls give the same number but for 8
    pub alike : (t : Turn) → first_number g t matrices coefficients ≢ 8 → first_number g t matrices coefficients ≡ claims_number g matrices claims
    alike t = same (first_turn t)
