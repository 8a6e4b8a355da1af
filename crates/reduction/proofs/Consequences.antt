-- What follows from demand 3, a law for each part of the statement: every field of it is used here or in `FirstConsequences`, `BatchConsequences` and
-- `PriceConsequences`, so that none can be taken out and the check still pass.
use mathlib.Core.Path.{◌≡◌, refl, sym, ◌∙◌, ap, subst}
use mathlib.Core.Logic.{◌≢◌, inl, inr, ⊎_elim}
use mathlib.Core.Bool.{true}
use mathlib.Core.List.{List, [], ◌∷◌}
use mathlib.Core.Option.{some}
use Prim.Native.Nat.{ℕ, ◌+◌, ◌-◌, ◌*◌, ◌^◌, ◌<◌, ◌≤◌}
use native.Mathlib.Omega.{arith}
use lib.ListN.{length}
use Rattle.algebra.specs.Polynomial.{All, Distinct}
use Rattle.algebra.proofs.RingLaws.{add_cancel, neg-add}
use Rattle.field.specs.Element.{Elem, F, half_elem, elem_of, ◌⊕◌, ◌⊖◌, neg}
use Rattle.field.specs.Slice.{elem_at, canonical_words, canonical_four}
use Rattle.std.specs.declared.result.Result.TheVariants.{Ok}
use Rattle.field.proofs.Elements.{elem_of_words}
use Rattle.tables.specs.AtField.{quadratic_f}
use Rattle.tables.specs.Points.{coordinates, count}
use Rattle.tables.specs.OnSlices.{value_of}
use Rattle.weights.specs.Carried.{sent, OneOrTwo, Slip}
use Rattle.weights.specs.AtField.{weighted_claims_f, first_sum_f, folded_sum_f}
use Rattle.verifier.specs.Asked.{Asked}
use Rattle.verifier.specs.Sides as Sides
use Rattle.verifier.specs.Verdicts.{verdict}
use Rattle.prover.specs.declared.turns.Turn.{Turn}
use Rattle.prover.specs.RowSum.{from_words}
use Rattle.prover.specs.Given.{Given, Work, run, stacked}
use Rattle.prover.specs.Slots.{entries, slot_start}
use Rattle.prover.specs.CallNumbers.{live}
use Rattle.prover.specs.OwnSum.{tables_of, own_sum}
use Rattle.reduction.specs.Calls.{ask_pair, Call, State, Event, refused, paired, opened, lent_slice}
use Rattle.reduction.specs.Steps.{lent_to}
use Rattle.reduction.specs.Lists.{begun, Started, events, outcome, Proper, Among}
use Rattle.reduction.specs.Verdict.{head_of, later_of, challenge_at, Fitting, judged}
use Rattle.reduction.specs.Zeros.{ZeroAt}
use Rattle.reduction.specs.Demand.{sum_so_far, honest_so_far, true_values, sum_at_first, Demand3}
use Rattle.reduction.specs.Sent.{u, sent_quadratic, honest_quadratic, TruthTold, SameBefore}
use Rattle.reduction.specs.HonestRun.{follow, honest_tasks, Lent, HonestRun}
use Rattle.reduction.proofs.BufferLaws.{elem_at_elem_words}
use Rattle.reduction.proofs.Demands.{demand}

less : (a b c : Elem) → a ⊕ b ≡ c → a ≡ c ⊖ b
less a b c e = add_cancel F a (c ⊖ b) b (e ∙ sym (F.add_assoc c (neg b) b ∙ ap (λ x. c ⊕ x) (neg-add F b) ∙ F.add_zero c))

module _ (g : Given) (t : Turn) (w : Work) (started : Started g t w) (cs : List Call) (proper : Proper g (begun g t w) cs) where
  all : Demand3 g (begun g t w) cs
  all = demand.lists g t w started cs proper

  module _ (e : Event) (among : Among e (events (begun g t w) cs)) where
    -- a pair is returned to a call for it, of a round of 1..n_stack
    pub pair_of_a_round : (one two : List ℕ) → e.reply ≡ paired one two → (j : ℕ) × (e.call.task ≡ ask_pair j) × (1 ≤ j) × (j ≤ g.stack)
    pair_of_a_round one two q =
        let h = all.pairs e among one two q in
        (length e.before.challenges, h.round, h.begun, h.within)

    -- sent with the weighted sum folded so far as the claim, the pair's words give the honest quadratic everywhere
    pub pair_is_enough : (one two : List ℕ) → e.reply ≡ paired one two → (x : Elem)
        → honest_so_far g e.before x ≡ sent F half_elem (sum_so_far g e.before) (elem_of one) (elem_of two) x
    unfolding sent
    pair_is_enough one two q x =
        let h = all.pairs e among one two q in
        let at_1 = sym (elem_of_words _ h.at_one) in
        let at-2 = sym (elem_of_words _ h.at_two) in
        let at-0 = less _ _ _ h.sums_so_far ∙ ap (λ v. sum_so_far g e.before ⊖ v) at_1 in
        h.quadratic x ∙ (λ i. quadratic_f (at-0 i) (at_1 i) (at-2 i) x)

    -- openings are returned once every challenge is there, and each is the true one
    pub opening_by_opening : (out : List ℕ) → e.reply ≡ opened out
        → (length e.before.challenges ≡ g.stack + 1) × ((c : ℕ) → c < stacked g → elem_at out c ≡ true_values g e.before c)
    opening_by_opening out q =
        let h = all.openings e among out q in
        (h.all, λ c k. ap (λ xs. elem_at xs c) h.values ∙ elem_at_elem_words (stacked g) (true_values g e.before) c k)

    -- a refused call can be left out of the list
    pub refused-left-out : (k : ℕ) → e.reply ≡ refused k → (ds : List Call) → outcome e.after ds ≡ outcome e.before ds
    refused-left-out k q ds = ap (λ s. outcome s ds) (all.refusals e among k q).after

    -- and its lender gets back what it lent
    pub lent_comes_back : (k : ℕ) → e.reply ≡ refused k
        → (e.turned ≡ e.before.turn) × (e.left ≡ lent_to e.before e.call) × (e.slice ≡ lent_slice e.call.task)
    lent_comes_back k q = let h = all.refusals e among k q in (h.turn, h.work, h.slice)

    -- two calls after which the same matrices were lent and the same challenges accepted leave buffers of one sum
    pub one_sum : (f : Event) → Among f (events (begun g t w) cs) → 0 < length e.after.challenges → e.after.challenges ≡ f.after.challenges
        → e.after.matrices ≡ f.after.matrices
        → own_sum (run g) (length (later_of e.after.challenges)) (tables_of g.skip g.lists e.after.work)
        ≡ own_sum (run g) (length (later_of f.after.challenges)) (tables_of g.skip g.lists f.after.work)
    one_sum f other some-drawn same-drawn same_lent =
        all.buffers e among some-drawn
        ∙ (λ i. folded_sum_f (run g) (from_words (same_lent i)) (head_of (same-drawn i)) (later_of (same-drawn i)))
        ∙ sym (all.buffers f other (subst (λ us. 0 < length us) same-drawn some-drawn))

    -- behind the values of the stack columns, and behind the live entries of both tables of a height, stand zeros
    pub zeros-behind : 0 < length e.after.challenges → (i : ℕ) → stacked g * 2 ^ (g.stack - length (later_of e.after.challenges)) ≤ i
        → i < stacked g * 2 ^ g.stack → ZeroAt e.after.work.q i
    zeros-behind d i a b = (all.zeros e among d).values i a b

    pub zeros_in_tables : 0 < length e.after.challenges → (h x : ℕ) → h ≤ g.skip + g.stack
        → live (entries g.skip g.lists h) (length (later_of e.after.challenges)) ≤ x → x < entries g.skip g.lists h
        → ZeroAt e.after.work.eq (slot_start g.skip g.lists h + x) × ZeroAt e.after.work.rot (slot_start g.skip g.lists h + x)
    zeros_in_tables d h x a b c = let z = all.zeros e among d in (z.eq h x a b c, z.rot h x a b c)

  -- a yes on a wrong value at u_0 needs a later challenge of 1 or 2
  pub wrong_needs_luck : (out : List ℕ) → (outcome (begun g t w) cs).openings ≡ some out → (claims coefficients observed : List ℕ)
      → Fitting g claims coefficients observed → value_of coefficients (head_of (outcome (begun g t w) cs).challenges) ≢ sum_at_first g (outcome (begun g t w) cs)
      → (verdict (judged g (outcome (begun g t w) cs) out claims coefficients observed)).answer ≡ Ok tt
      → OneOrTwo F (challenge_at (outcome (begun g t w) cs).challenges) g.stack
  wrong_needs_luck out finished claims coefficients observed fitting wrong done =
      ⊎_elim (λ right. absurd (wrong right)) (λ luck. luck) ((all.verdicts out finished claims coefficients observed fitting).0 done).1

  -- and such a challenge is all it needs: the verdict is then 13's alone, whatever the value at u_0
  pub luck_is_enough : (out : List ℕ) → (outcome (begun g t w) cs).openings ≡ some out → (claims coefficients observed : List ℕ)
      → Fitting g claims coefficients observed → weighted_claims_f (run g) (elem_at claims) ≡ first_sum_f (run g) (coordinates coefficients 0 (count coefficients))
      → OneOrTwo F (challenge_at (outcome (begun g t w) cs).challenges) g.stack
      → (verdict (judged g (outcome (begun g t w) cs) out claims coefficients observed)).answer ≡ Ok tt
  luck_is_enough out finished claims coefficients observed fitting sums-right luck =
      (all.verdicts out finished claims coefficients observed fitting).1 (sums-right, inr luck)

-- from every accepted start there is a run whose verdict is yes, on claims that pass 13 and a first polynomial that is right at u_0
module _ (g : Given) (t : Turn) (w : Work) (started : Started g t w) (matrices u₀ : List ℕ) (vs : List (List ℕ)) (lent : Lent g matrices u₀ vs)
    (claims coefficients observed : List ℕ) (fitting : Fitting g claims coefficients observed)
    (sums-right : weighted_claims_f (run g) (elem_at claims) ≡ first_sum_f (run g) (coordinates coefficients 0 (count coefficients)))
    (value-right : value_of coefficients (elem_of u₀) ≡ folded_sum_f (run g) (from_words matrices) (elem_of u₀) []) where
  abbrev honest : HonestRun g (begun g t w) matrices u₀ vs
  honest = demand.honest g t w started matrices u₀ vs lent

  abbrev left : State
  left = outcome (begun g t w) (follow g (honest_tasks g matrices u₀ vs))

  pub honest_yes : (verdict (judged g left honest.finished.0 claims coefficients observed)).answer ≡ Ok tt
  honest_yes =
      ((demand.lists g t w started (follow g (honest_tasks g matrices u₀ vs)) honest.proper).verdicts honest.finished.0 honest.finished.1 claims
      coefficients observed fitting).1 (
        sums-right,
        inl (subst (λ us. value_of coefficients (head_of us) ≡ folded_sum_f (run g) (from_words left.matrices) (head_of us) []) (sym honest.challenges)
            (subst (λ ms. value_of coefficients (elem_of u₀) ≡ folded_sum_f (run g) (from_words ms) (elem_of u₀) []) (sym honest.lent) value-right)),
      )

-- a bring-up at u_0 = 1, which lies in every skip subgroup: from every accepted start all its calls are accepted
pub one_is_taken : (g : Given) (t : Turn) (w : Work) → Started g t w → (matrices : List ℕ) (vs : List (List ℕ))
    → length matrices ≡ stacked g * 2 ^ (g.skip + g.stack) → canonical_words matrices ≡ true → length vs ≡ g.stack → All (λ v. canonical_four v ≡ true) vs
    → HonestRun g (begun g t w) matrices (1 ∷ 0 ∷ 0 ∷ 0 ∷ []) vs
unfolding canonical_four
one_is_taken g t w started matrices vs size words many later =
    demand.honest g t w started matrices (1 ∷ 0 ∷ 0 ∷ 0 ∷ []) vs (record { size = size; words = words; first = refl; many = many; later = later })

module _ (a : Asked) (matrices : List ℕ) where
  -- a yes with true openings on a wrong value at u_0 has a round that slips
  pub wrong_slips : TruthTold a matrices → (verdict a).answer ≡ Ok tt → value_of a.coefficients (u a) ≢ folded_sum_f (Sides.run a) (from_words matrices) (u a) []
      → (j : ℕ) × (j < a.stack) × Slip (sent_quadratic a j) (honest_quadratic a matrices j) (elem_at a.challenges (1 + j))
  wrong_slips told done wrong = ⊎_elim (λ right. absurd (wrong right)) (λ slip. slip) ((demand.sent a matrices).right_or_slip told done)

  -- no round slips at three challenges
  pub no_third : (j : ℕ) (x y z : Elem) → Distinct (x ∷ y ∷ z ∷ []) → ((v : Elem) × (sent_quadratic a j v ≢ honest_quadratic a matrices j v))
      → All (λ v. sent_quadratic a j v ≡ honest_quadratic a matrices j v) (x ∷ y ∷ z ∷ []) → ⊥
  no_third j x y z distinct differ agree = omega (arith, (demand.sent a matrices).at_most_two j differ (x ∷ y ∷ z ∷ []) distinct agree)

  -- whether a challenge slips is settled before it is drawn
  pub slip_settled : (j : ℕ) → j < a.stack → (b : Asked) → SameBefore j a b → (x : Elem)
      → sent_quadratic a j x ≡ honest_quadratic a matrices j x → sent_quadratic b j x ≡ honest_quadratic b matrices j x
  slip_settled j h b same x agree = let s = (demand.sent a matrices).settled j h b same x in sym s.0 ∙ agree ∙ s.1
