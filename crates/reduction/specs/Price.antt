-- The price of a lie: of all challenges that could be drawn, how many get a yes. For every shape, every r, all stacked matrices and claims, and every
-- sender; the openings are the true column values. What the verdict refuses is counted as a no.
use Rattle.std.specs.Prelude.{◌≡◌, List, ◌∷◌, ◌++◌, ℕ, ◌+◌, ◌-◌, ◌*◌, ◌^◌, ◌<◌, ◌≤◌, length}
use Rattle.algebra.specs.Count.{EachOnce}
use Rattle.field.specs.Element.{Elem}
use Rattle.field.specs.Enumeration.{field_size, enumeration, how_many_f}
use Rattle.layout.specs.Triples.{column_count}
use Rattle.reduction.specs.Senders.{Instance, Sender, says_yes}
use Rattle.reduction.specs.Lies.{FalseClaim, AllTrue, FalseSum, FalseCarried, WellFormed}
use Rattle.reduction.specs.WorkedLies.{one_too_high, six_and_four}

-- the number of the field's elements
abbrev q : ℕ
q = field_size

module _ (t : Instance) where
  -- K columns, N = 2^l_skip, n = n_stack
  abbrev K : ℕ
  K = column_count t.lists

  abbrev N : ℕ
  N = 2 ^ t.skip

  abbrev n : ℕ
  n = t.stack

  -- How many lists of challenges may get a yes. From lambda on: 2K − 1 values of lambda, then 2N − 2 of u_0, then two a round, each with any other
  -- challenges. From u_0 on; and with m rounds left.
  abbrev pub most_yes : ℕ
  most_yes = (2 * K - 1 + (2 * N - 2) + 2 * n) * q ^ (n + 1)

  abbrev pub most_yes_first : ℕ
  most_yes_first = (2 * N - 2 + 2 * n) * q ^ n

  abbrev pub most_yes_later : ℕ → ℕ
  most_yes_later m = 2 * m * q ^ (m - 1)

  pub record PriceOfALie (s : Sender) : Type 0 where
    -- where some claim is false, of the q^(n+2) lists lambda, u_0, .., u_n
    pub from_lambda : FalseClaim t → how_many_f (n + 2) (says_yes t s) ≤ most_yes
    -- which is fewer than one in 2^106
    pub one_in : FalseClaim t → how_many_f (n + 2) (says_yes t s) * 2 ^ 106 < q ^ (n + 2)
    -- where at this lambda the weighted sum of the claims is false, of the q^(n+1) lists u_0, .., u_n
    pub from_first : (lambda : Elem) → FalseSum t lambda → how_many_f (n + 1) (λ v. says_yes t s (lambda ∷ v)) ≤ most_yes_first
    -- where a carried claim is false and m rounds are left, of the q^m lists of their challenges
    pub from_round : (lambda u : Elem) (us : List Elem) (m : ℕ) → length us + m ≡ n → FalseCarried t s lambda u us
        → how_many_f m (λ v. says_yes t s (lambda ∷ u ∷ (us ++ v))) ≤ most_yes_later m

  -- It is about something: where nothing is refused, some sender gets a yes from all lists if the claims are true, and, if there is a round, some sender
  -- gets it from q^(n+1) of them whatever the claims.
  pub record NotVacuous : Type 0 where
    pub all_yes : AllTrue t → (s : Sender) × (how_many_f (n + 2) (says_yes t s) ≡ q ^ (n + 2))
    pub some_yes : 0 < n → (s : Sender) × (q ^ (n + 1) ≤ how_many_f (n + 2) (says_yes t s))

-- a false claim between its bounds, and one at which the bound is met
pub record WorkedPrices : Type 0 where
  pub lie : FalseClaim one_too_high
  pub at_most : (s : Sender) → how_many_f 3 (says_yes one_too_high s) ≤ 5 * q ^ 2
  pub at_least : (s : Sender) × (q ^ 2 ≤ how_many_f 3 (says_yes one_too_high s))
  pub tight_lie : FalseClaim six_and_four
  pub met : (s : Sender) × (how_many_f 2 (says_yes six_and_four s) ≡ most_yes six_and_four)

pub record Price : Type 0 where
  -- the field's elements are enumeration i for i below q, each once
  pub elements : EachOnce q enumeration
  pub lies : (t : Instance) (s : Sender) → PriceOfALie t s
  pub not_vacuous : (t : Instance) → WellFormed t → NotVacuous t
  pub worked : WorkedPrices
