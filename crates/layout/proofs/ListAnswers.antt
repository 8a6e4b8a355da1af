-- What is made of a run's lists alone, from the answers of `read_lists`; and that it is taken only where the lists have no number.
use mathlib.Core.Path.{◌≡◌, refl, sym, ◌∙◌, ap, subst}
use mathlib.Core.Bool.{Bool, true, false, cond}
use mathlib.Core.List.{List}
use Prim.Native.Nat.{ℕ}
use lib.Dec.{eqb}
use borrow.Author.Tests.{eq-eqb, ne_eqb, eqb-true}
use Rattle.layout.specs.Lists.{lists_number, lists_length}
use Rattle.layout.specs.ByLists.{whole_number, by_lists}
use Rattle.layout.proofs.Firsts.{skip, stop}

-- the number of the whole: that of the lists, and where they have none that of their length
module _ (l n : ℕ) (counts lists : List ℕ) where
  pub whole_lists : (lists_number l n counts lists ≡ 0 → ⊥) → lists_number l n counts lists ≡ whole_number l n counts lists
  whole_lists h = stop _ _ _ refl h

  pub whole_length : lists_number l n counts lists ≡ 0 → lists_length counts lists ≡ whole_number l n counts lists
  whole_length p = skip _ _ p refl

module _ {A : Type 0} (l n : ℕ) (counts lists : List ℕ) (taken : A) (refused : ℕ → A) where
  abbrev number : ℕ
  number = whole_number l n counts lists

  by_test : {t u : Bool} → t ≡ u → cond t taken (refused number) ≡ cond u taken (refused number)
  by_test e = ap (λ t. cond t taken (refused number)) e

  pub by_taken : number ≡ 0 → by_lists l n counts lists taken refused ≡ taken
  unfolding by_lists
  by_taken e = by_test (eq-eqb number 0 e)

  by_refused : (m : ℕ) → m ≡ number → (m ≡ 0 → ⊥) → refused m ≡ by_lists l n counts lists taken refused
  unfolding by_lists
  by_refused m e h = ap refused e ∙ sym (by_test (ne_eqb number 0 (λ z. h (e ∙ z))))

  -- done only where the lists have no number
  pub by_done : (done : A → Type 0) → ((m : ℕ) → done (refused m) → m ≡ 0) → done (by_lists l n counts lists taken refused) → number ≡ 0
  unfolding by_lists
  by_done done says d = by_case (eqb number 0) refl
    where
      by_case : (t : Bool) → eqb number 0 ≡ t → number ≡ 0
      by_case true h = eqb-true number 0 h
      by_case false h = says number (subst done (by_test h) d)

  -- the returns of a function that makes it
  pub lists-refused : {x : A} → (lists_number l n counts lists ≡ 0 → ⊥) → x ≡ refused (lists_number l n counts lists) → x ≡ by_lists l n counts lists taken refused
  lists-refused h e = e ∙ by_refused _ (whole_lists l n counts lists h) h

  module _ (p : lists_number l n counts lists ≡ 0) where
    pub length-refused : {x : A} → (lists_length counts lists ≡ 0 → ⊥) → x ≡ refused (lists_length counts lists) → x ≡ by_lists l n counts lists taken refused
    length-refused h e = e ∙ by_refused _ (whole_length l n counts lists p) h

    pub lists-taken : {x : A} → lists_length counts lists ≡ 0 → x ≡ taken → x ≡ by_lists l n counts lists taken refused
    lists-taken q e = e ∙ sym (by_taken (sym (whole_length l n counts lists p) ∙ q))
