-- The answers of the calls: a refused one leaves everything as it was, one whose number is 0 is done.
use Rattle.std.proofs.Common.{◌≡◌, ℕ, ◌+◌, ◌*◌, ◌<◌, ◌≤◌, Bool, true, false, cond, eqb, List, [], ◌∷◌, ◌++◌, length, refl, sym, ap, ◌∙◌, subst, zero-add, eq-eqb, ne_eqb}
use Rattle.algebra.specs.Zmod.{class}
use Rattle.algebra.specs.Ring.{num}
use Rattle.field.specs.Element.{F, elem_of, words_of}
use Rattle.field.specs.Canonical.{Canonical}
use Rattle.field.specs.Slice.{elem_at, words_at, put}
use Rattle.field.specs.declared.answer.Refusal.{Refusal}
use Rattle.std.specs.declared.result.Result.{Result}
use Rattle.std.specs.declared.result.Result.TheVariants.{Ok, Err}
use Rattle.field.specs.Number.{settled}
use Rattle.field.proofs.ElementWords.{elem_of_words_at}
use Rattle.layout.specs.Answers.{answer_of}
use Rattle.layout.specs.Lists.{first_count}
use Rattle.weights.specs.RunOf.{run_of}
use Rattle.prover.specs.declared.turns.Turn.{Turn}
use Rattle.prover.specs.declared.sumcheck.Evals.{Evals}
use Rattle.prover.specs.declared.stacked_reduction.Step.{Step}
use Rattle.prover.specs.declared.stacked_reduction.RoundPair.{RoundPair}
use Rattle.prover.specs.Given.{Given, Work, run}
use Rattle.prover.specs.Written.{Written}
use Rattle.prover.specs.RoundValues.{Values}
use Rattle.prover.specs.OwnSum.{tables_of, own_quadratic}
use Rattle.prover.specs.Live.{Held}
use Rattle.prover.specs.Calls.{step_of, one_more, leaves, pair_value, pair_of}
use Rattle.prover.proofs.Refusing.{some_number}
use Rattle.prover.proofs.Writing.{first_turn_lem}
use Rattle.prover.proofs.TableTurns.{canonical_from}

-- an answer beside the turn, and beside zeros
abbrev pub answered : Result (Unit {0}) Refusal → Turn → Step
answered a t = record { answer = a; turn = t }

abbrev pub zeros : Result (Unit {0}) Refusal → Turn → RoundPair
zeros a t = record { answer = a; turn = t; one = words_of F.zero; two = words_of F.zero }

abbrev pub paired : Turn → Evals → RoundPair
paired t r = record { answer = Ok tt; turn = t; one = r.one; two = r.two }

pub zeros_are : (a : Result (Unit {0}) Refusal) (t : Turn) → ◌≡◌ {A = RoundPair} (record { answer = a; turn = t; one = 0 ∷ 0 ∷ 0 ∷ 0 ∷ []; two = 0 ∷ 0 ∷ 0 ∷ 0 ∷ [] }) (zeros a t)
unfolding words_of class
zeros_are a t = refl

-- a pair by whether its call is done
abbrev pair_by : Given → Turn → ℕ → Work → Result (Unit {0}) Refusal → Bool → RoundPair
pair_by g t j w a b = record {
  answer = a;
  turn = cond b (one_more t) t;
  one = words_of (cond b (own_quadratic (run g) j (tables_of g.skip g.lists w) F.one) F.zero);
  two = words_of (cond b (own_quadratic (run g) j (tables_of g.skip g.lists w) (num F 2)) F.zero);
}

-- a call that is refused
module _ (number : ℕ) {e : Refusal} (is : answer_of number ≡ Err e) where
  unequal : eqb number 0 ≡ false
  unequal = ne_eqb number 0 (some_number number is)

  pub step-refused : (t next : Turn) {s : Step} → s ≡ answered (Err e) t → s ≡ step_of number t next
  unfolding step_of
  step-refused t next k = k ∙ ap (λ (a : Result (Unit {0}) Refusal). answered a t) (sym is) ∙ ap (λ b. answered (answer_of number) (cond b next t)) (sym unequal)

  pub left_old : (new old : List ℕ) → old ≡ leaves number new old
  unfolding leaves
  left_old new old = ap (λ b. cond b new old) (sym unequal)

  pub pair-refused : (g : Given) (t : Turn) (j : ℕ) (w : Work) {s : RoundPair} → s ≡ zeros (Err e) t → s ≡ pair_of g t j w number
  unfolding pair_of pair_value
  pair-refused g t j w k = k ∙ ap (λ (a : Result (Unit {0}) Refusal). zeros a t) (sym is) ∙ ap (pair_by g t j w (answer_of number)) (sym unequal)

-- a call whose number is 0
module _ (number : ℕ) (is : number ≡ 0) where
  equal : eqb number 0 ≡ true
  equal = eq-eqb number 0 is

  done : answer_of number ≡ Ok tt
  unfolding answer_of settled
  done = ap answer_of is

  pub step_done : (t next : Turn) → answered (Ok tt) next ≡ step_of number t next
  unfolding step_of
  step_done t next = ap (λ (a : Result (Unit {0}) Refusal). answered a next) (sym done) ∙ ap (λ b. answered (answer_of number) (cond b next t)) (sym equal)

  pub left_new : (new old : List ℕ) → new ≡ leaves number new old
  unfolding leaves
  left_new new old = ap (λ b. cond b new old) (sym equal)

  pub pair_done : (g : Given) (t : Turn) (j : ℕ) (w : Work) {first : ℕ} → first ≡ first_count g.counts → {r : Evals}
      → Values (own_quadratic (run_of g.skip g.stack first g.lists g.r g.lambda) j (tables_of g.skip g.lists w)) r
      → paired (one_more t) r ≡ pair_of g t j w number
  unfolding pair_of pair_value
  pair_done g t j w {first} e {r} v =
      (λ i. record { answer = Ok tt; turn = one_more t; one = value.at_one i; two = value.at_two i })
      ∙ ap (λ (a : Result (Unit {0}) Refusal). pair_by g t j w a true) (sym done) ∙ ap (pair_by g t j w (answer_of number)) (sym equal)
    where
      value : Values (own_quadratic (run g) j (tables_of g.skip g.lists w)) r
      value =
          subst (λ f. Values (own_quadratic (run_of g.skip g.stack f g.lists g.r g.lambda) j (tables_of g.skip g.lists w)) r) e v

-- an element that is copied
pub copied_canonical : (xs : List ℕ) (n i : ℕ) {e : List ℕ} → Held xs 0 n → i < n → e ≡ words_at xs i → Canonical e
copied_canonical xs n i h l e = canonical_from xs 0 n i h.below l (e ∙ ap (words_at xs) (sym (zero-add i)))

pub copied_turn : (xs : List ℕ) {old : List ℕ} {i : ℕ} {mid : List ℕ} → Written old 0 i (elem_at xs) mid → 4 * i + 3 < length old
    → {e new : List ℕ} → e ≡ words_at xs i → new ≡ put mid i (elem_of e) → Written old 0 (i + 1) (elem_at xs) new
copied_turn xs {i = i} s room f h = first_turn_lem s room (ap elem_of f ∙ elem_of_words_at xs i) h
