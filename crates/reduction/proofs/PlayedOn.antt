-- A yes on a list of challenges is a win of the game: from lambda on, from u_0 on, from a later round on. And then the lists are not refused.
use mathlib.Core.Path.{◌≡◌, refl, sym, ◌∙◌, ap}
use mathlib.Core.Bool.{Bool, true, false, ◌&&◌, false≢true}
use mathlib.Core.List.{List, [], ◌∷◌, ◌++◌}
use Prim.Native.Nat.{ℕ, suc, ◌+◌}
use native.Mathlib.Omega.{arith}
use lib.ListN.{length, length-append}
use borrow.Author.Tests.{eqb-true}
use Rattle.field.specs.Number.{number_of}
use Rattle.field.specs.Element.{Elem}
use Rattle.field.specs.Same.{same}
use Rattle.std.specs.declared.result.Result.TheVariants.{Ok}
use Rattle.weights.specs.Carried.{carried}
use Rattle.layout.specs.Lists.{lists_number, lists_length}
use Rattle.field.specs.Number.{settled, refusal_of, refusals}
use Rattle.layout.specs.Answers.{answer_of}
use Rattle.layout.proofs.Firsts.{or_passed}
use Rattle.layout.proofs.Answered.{number-answer}
use Rattle.verifier.specs.Numbers.{asked_number, verdict_number}
use Rattle.verifier.specs.Verdicts.{verdict}
use Rattle.verifier.proofs.Yes.{yes_exactly}
use Rattle.reduction.specs.Senders.{Instance, Sender, asked_at, says_yes, first_at, carried_at}
use Rattle.reduction.proofs.Game.{won, won_first, won_whole}
use Rattle.reduction.proofs.FieldGame.{sent_pair, carried_by, carried_by_lem}
use Rattle.reduction.proofs.Played.{over_powers, claims_at, true_at, game, won_of_yes}

-- an answer with number 0 is done
number_done : (n : ℕ) → number_of (answer_of n) ≡ 0 → answer_of n ≡ Ok tt
unfolding answer_of settled refusal_of refusals
number_done n e = ap answer_of {x = n} {y = 0} (omega (arith, number-answer n))

-- the lists are not refused
abbrev pub Unrefused : Instance → Type 0
Unrefused t = (lists_number t.skip t.stack t.counts t.lists ≡ 0) × (lists_length t.counts t.lists ≡ 0)

module _ (t : Instance) (s : Sender) where
  done_there : (l u : Elem) (us : List Elem) → says_yes t s (l ∷ u ∷ us) ≡ true → (verdict (asked_at t s l u us)).answer ≡ Ok tt
  unfolding says_yes verdict
  done_there l u us h = number_done (verdict_number (asked_at t s l u us)) (eqb-true _ _ h)

  pub played : (v : List Elem) → length v ≡ suc (suc t.stack) → says_yes t s v ≡ true → game t s v ≡ true
  played [] e h = absurd (omega arith)
  played (l ∷ []) e h = absurd (omega arith)
  played (l ∷ u ∷ us) e h = won_of_yes t s l u us (omega arith) (done_there l u us h)

  pub played_first : (l : Elem) (v : List Elem) → length v ≡ suc t.stack → says_yes t s (l ∷ v) ≡ true
      → won_first same sent_pair (over_powers t) (claims_at t l) (first_at t s l) (s.pair l) (true_at t l) v ≡ true
  unfolding won_whole
  played_first l v e h = played (l ∷ v) (ap suc e) h

  -- the rounds at us taken off
  won_on : (c : Elem) (pair : List Elem → Elem × Elem) (g : List Elem → Elem) (us v : List Elem)
      → won same sent_pair c pair g (us ++ v) ≡ won same sent_pair (carried_by c pair us) (λ w. pair (us ++ w)) (λ w. g (us ++ w)) v
  unfolding won carried
  won_on c pair g [] v = refl
  won_on c pair g (u ∷ us) v =
      won_on (sent_pair c (pair []) u) (λ w. pair (u ∷ w)) (λ w. g (u ∷ w)) us v
      ∙ ap (λ x. won same sent_pair x (λ w. pair (u ∷ (us ++ w))) (λ w. g (u ∷ (us ++ w))) v) (carried_by_lem c pair u us)

  second : (b c : Bool) → b && c ≡ true → c ≡ true
  second true c e = e
  second false c e = absurd (false≢true e)

  pub played_later : (l u : Elem) (us v : List Elem) → length us + length v ≡ t.stack → says_yes t s (l ∷ u ∷ (us ++ v)) ≡ true
      → won same sent_pair (carried_at t s l u us) (λ w. s.pair l u (us ++ w)) (λ w. true_at t l u (us ++ w)) v ≡ true
  unfolding won_first
  played_later l u us v e h =
      sym (won_on (first_at t s l u) (s.pair l u) (true_at t l u) us v)
      ∙ second (same (claims_at t l) (over_powers t (first_at t s l))) _ (played_first l (u ∷ (us ++ v)) (ap suc (length-append us v ∙ e)) h)

  pub played_lists : (v : List Elem) → length v ≡ suc (suc t.stack) → says_yes t s v ≡ true → Unrefused t
  unfolding asked_number
  played_lists [] e h = absurd (omega arith)
  played_lists (l ∷ []) e h = absurd (omega arith)
  played_lists (l ∷ u ∷ us) e h =
      let y = (yes_exactly (asked_at t s l u us)).0 (done_there l u us h) in
      let b = or_passed (lists_number t.skip t.stack t.counts t.lists) _ y.0 in
      let c = or_passed (lists_length t.counts t.lists) _ b.1 in
      (b.0, c.0)
