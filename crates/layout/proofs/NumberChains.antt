-- A property of 0 and of the numbers of some checks is one of the number of their chain: so of the number of the lists of a run or a verdict, where it is
-- one of 0, 1, 2, 4, 5, 6 and 7. Assumes nothing.
use mathlib.Core.Bool.{Bool, true, false}
use mathlib.Core.List.{List}
use Prim.Native.Nat.{ℕ, zero, suc, ◌-◌}
use lib.ListN.{length}
use Rattle.layout.specs.Checks.{refuse, or_else, first_of}
use Rattle.layout.specs.Refusals.{limits_number, flag_number, flags_number, width_number, columns_number, column_number, matrix_number, place_number, higher_number, rise_number, laid_number}
use Rattle.layout.specs.Lists.{first_count, present, commitment_number, counts_number, later_number, empty_number, there_number, lists_number}

module _ (P : ℕ → Type 0) (none : P 0) where
  -- one check, a check and then another, and the first of many
  pub check_has : (n : ℕ) (t : Bool) → P n → P (refuse n t)
  unfolding refuse
  check_has n true h = h
  check_has n false h = none

  pub chain_has : (a b : ℕ) → P a → P b → P (or_else a b)
  unfolding or_else
  chain_has zero b h g = g
  chain_has (suc a) b h g = h

  pub first_has : (m : ℕ) (f : ℕ → ℕ) → ((i : ℕ) → P (f i)) → P (first_of m f)
  unfolding first_of
  first_has zero f h = none
  first_has (suc m) f h = chain_has (first_of m f) (f m) (first_has m f h) (h m)

  pub limits_have : P 1 → (l n : ℕ) → P (limits_number l n)
  unfolding limits_number
  limits_have one l n = chain_has _ _ (check_has 1 _ one) (chain_has _ _ (check_has 1 _ one) (check_has 1 _ one))

  pub flags_have : P 1 → (list : List ℕ) → P (flags_number list)
  unfolding flag_number
  flags_have one list = first_has _ _ (λ i. check_has 1 _ one)

  pub columns_have : P 2 → (first : ℕ) (list : List ℕ) → P (columns_number first list)
  unfolding width_number
  columns_have two first list = first_has _ _ (λ i. check_has 2 _ two)

  pub laid_has : P 4 → P 5 → P 6 → (l n first : ℕ) (list : List ℕ) → P (laid_number l n first list)
  unfolding laid_number place_number matrix_number column_number rise_number higher_number
  laid_has four five six l n first list =
      chain_has _ _ (first_has _ _ (λ i. first_has _ _ (λ j. chain_has _ _ (check_has 4 _ four) (check_has 5 _ five))))
      (first_has _ _ (λ b. first_has _ _ (λ a. check_has 6 _ six)))

  module _ (one : P 1) (two : P 2) (four : P 4) (five : P 5) (six : P 6) (seven : P 7) where
    there_has : (l n first later : ℕ) (list : List ℕ) → P (there_number l n first later list)
    unfolding there_number empty_number later_number
    there_has l n first later list =
        chain_has _ _ (flags_have one list)
        (chain_has _ _ (columns_have two first list)
        (chain_has _ _ (laid_has four five six l n first list) (chain_has _ _ (check_has 7 _ seven) (first_has _ _ (λ c. check_has 7 _ seven)))))

    pub lists_have : (l n : ℕ) (counts lists : List ℕ) → P (lists_number l n counts lists)
    unfolding lists_number counts_number commitment_number
    lists_have l n counts lists =
        chain_has _ _ (limits_have one l n)
        (chain_has _ _
        (chain_has _ _ (check_has 1 _ one) (chain_has _ _ (check_has 1 _ one) (chain_has _ _ (check_has 1 _ one) (first_has _ _ (λ c. check_has 1 _ one)))))
        (there_has l n (first_count counts) (length counts - 1) (present counts lists)))
