-- The game at the field: the sent quadratics of pairs, and the claim that they carry on.
use mathlib.Core.Path.{◌≡◌, refl, sym, ◌∙◌, ap}
use mathlib.Core.List.{List, [], ◌∷◌}
use Prim.Native.Nat.{ℕ, zero, suc}
use lib.ListN.{length, take, get_or}
use Rattle.field.specs.Element.{Elem, F, half_elem}
use Rattle.field.specs.Same.{same}
use Rattle.field.proofs.Embedding.{half_two}
use Rattle.field.proofs.FourWords.{same_true, same_equal}
use Rattle.weights.specs.Carried.{sent, carried}
use Rattle.weights.specs.AtField.{carried_f}
use Rattle.weights.proofs.AnyPairs.{sent-sum, sent_degree}
use Rattle.reduction.proofs.Game.{Tells, Quadratics, won}

pub tells : Tells same
tells = record { equal = same_true; passes = same_equal }

-- the sent quadratic of a pair
abbrev pub sent_pair : Elem → Elem × Elem → Elem → Elem
sent_pair c m x = sent F half_elem c m.0 m.1 x

pub sent_quadratics : Quadratics F sent_pair
sent_quadratics = record { degree = λ c m. sent_degree F half_elem half_two c m.0 m.1; sums = λ c m. sent-sum F half_elem half_two c m.0 m.1 }

-- the first round taken off
carried_front : (c : Elem) (p q u : ℕ → Elem) (n : ℕ)
    → carried_f c p q u (suc n) ≡ carried_f (sent F half_elem c (p 0) (q 0) (u 0)) (λ j. p (suc j)) (λ j. q (suc j)) (λ j. u (suc j)) n
unfolding carried
carried_front c p q u zero = refl
carried_front c p q u (suc n) = ap (λ x. sent F half_elem x (p (suc n)) (q (suc n)) (u (suc n))) (carried_front c p q u n)

-- the claim carried on by a sender's pairs
abbrev pub carried_by : Elem → (List Elem → Elem × Elem) → List Elem → Elem
carried_by c pair us = carried_f c (λ j. (pair (take j us)).0) (λ j. (pair (take j us)).1) (λ j. get_or us j F.zero) (length us)

pub carried_by_lem : (c : Elem) (pair : List Elem → Elem × Elem) (u : Elem) (us : List Elem)
    → carried_by (sent_pair c (pair []) u) (λ v. pair (u ∷ v)) us ≡ carried_by c pair (u ∷ us)
carried_by_lem c pair u us =
    sym (carried_front c (λ j. (pair (take j (u ∷ us))).0) (λ j. (pair (take j (u ∷ us))).1) (λ j. get_or (u ∷ us) j F.zero) (length us))

pub won_is : (c : Elem) (pair : List Elem → Elem × Elem) (g : List Elem → Elem) (us : List Elem) → won same sent_pair c pair g us ≡ same (carried_by c pair us) (g us)
unfolding won carried
won_is c pair g [] = refl
won_is c pair g (u ∷ us) =
    won_is (sent_pair c (pair []) u) (λ v. pair (u ∷ v)) (λ v. g (u ∷ v)) us ∙ ap (λ x. same x (g (u ∷ us))) (carried_by_lem c pair u us)
