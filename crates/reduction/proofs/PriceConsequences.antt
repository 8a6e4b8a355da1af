-- What follows from the price of a lie, a law for each part of the statement, as `Consequences` has for the others.
use mathlib.Core.Path.{◌≡◌, ap, sym, ◌∙◌}
use mathlib.Core.List.{List, ◌∷◌, ◌++◌}
use Prim.Native.Nat.{ℕ, ◌+◌, ◌*◌, ◌^◌, ◌<◌, ◌≤◌}
use lib.ListN.{length}
use Rattle.field.specs.Element.{Elem}
use Rattle.field.specs.Enumeration.{field_size, enumeration, how_many_f}
use Rattle.reduction.specs.Senders.{Instance, Sender, says_yes}
use Rattle.reduction.specs.Lies.{FalseClaim, AllTrue, FalseSum, FalseCarried, WellFormed}
use Rattle.reduction.specs.WorkedLies.{one_too_high, six_and_four}
use Rattle.reduction.specs.Price.{most_yes, most_yes_first, most_yes_later}
use Rattle.reduction.proofs.Demands.{demand}

-- every element has one number below q
pub numbered : (x : Elem) → (i : ℕ) × (i < field_size) × (enumeration i ≡ x)
numbered x = let e = demand.price.elements in (e.index x, e.below x, e.there x)

pub numbered_once : (i j : ℕ) → i < field_size → j < field_size → enumeration i ≡ enumeration j → i ≡ j
numbered_once i j h k same = let e = demand.price.elements in sym (e.once i h) ∙ ap e.index same ∙ e.once j k

module _ (t : Instance) (s : Sender) where
  -- a false claim gets a yes from few lists of challenges, fewer than one in 2^106
  pub seldom_pays : FalseClaim t → (how_many_f (t.stack + 2) (says_yes t s) ≤ most_yes t) × (how_many_f (t.stack + 2) (says_yes t s) * 2 ^ 106 < field_size ^ (t.stack + 2))
  seldom_pays lie = let p = demand.price.lies t s in (p.from_lambda lie, p.one_in lie)

  -- and so where a sum, or a claim that is carried, is false
  pub seldom_from_first : (lambda : Elem) → FalseSum t lambda → how_many_f (t.stack + 1) (λ v. says_yes t s (lambda ∷ v)) ≤ most_yes_first t
  seldom_from_first = (demand.price.lies t s).from_first

  pub seldom_from_round : (lambda u : Elem) (us : List Elem) (m : ℕ) → length us + m ≡ t.stack → FalseCarried t s lambda u us
      → how_many_f m (λ v. says_yes t s (lambda ∷ u ∷ (us ++ v))) ≤ most_yes_later t m
  seldom_from_round = (demand.price.lies t s).from_round

-- true claims can always be paid, and a round leaves some luck to any claims
pub truth_pays : (t : Instance) → WellFormed t → AllTrue t → (s : Sender) × (how_many_f (t.stack + 2) (says_yes t s) ≡ field_size ^ (t.stack + 2))
truth_pays t formed = (demand.price.not_vacuous t formed).all_yes

pub luck_pays : (t : Instance) → WellFormed t → 0 < t.stack → (s : Sender) × (field_size ^ (t.stack + 1) ≤ how_many_f (t.stack + 2) (says_yes t s))
luck_pays t formed = (demand.price.not_vacuous t formed).some_yes

-- a lie that pays sometimes and seldom, and one that pays as often as the bound allows
pub between : FalseClaim one_too_high × ((s : Sender) → how_many_f 3 (says_yes one_too_high s) ≤ 5 * field_size ^ 2)
    × ((s : Sender) × (field_size ^ 2 ≤ how_many_f 3 (says_yes one_too_high s)))
between = let w = demand.price.worked in (w.lie, w.at_most, w.at_least)

pub met_exactly : FalseClaim six_and_four × ((s : Sender) × (how_many_f 2 (says_yes six_and_four s) ≡ most_yes six_and_four))
met_exactly = let w = demand.price.worked in (w.tight_lie, w.met)
