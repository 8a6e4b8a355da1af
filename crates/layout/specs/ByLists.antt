-- What is made of a run's lists alone: one thing where they are taken, and else what their number says.
use Rattle.std.specs.Prelude.{cond, List, ℕ, eqb}
use Rattle.layout.specs.Checks.{or_else}
use Rattle.layout.specs.Lists.{lists_number, lists_length}

-- 1, 2, 4 to 7, then 9
abbrev pub whole_number : ℕ → ℕ → List ℕ → List ℕ → ℕ
whole_number l n counts lists = or_else (lists_number l n counts lists) (lists_length counts lists)

unfoldable pub by_lists : {A : Type 0} → ℕ → ℕ → List ℕ → List ℕ → A → (ℕ → A) → A
by_lists l n counts lists taken refused = cond (eqb (whole_number l n counts lists) 0) taken (refused (whole_number l n counts lists))
