-- The accepted first polynomial, the accepted fold at u_0 and the accepted pair keep what holds along the list; polynomial and pair are honest.
use mathlib.Core.Path.{◌≡◌, refl, sym, ◌∙◌, ap, ap₂, subst}
use mathlib.Core.Bool.{cond}
use mathlib.Core.List.{List, [], ◌∷◌, ◌++◌, append-nil}
use mathlib.Core.Option.{Option, none, some}
use Prim.Native.Nat.{ℕ, zero, suc, ◌+◌, ◌*◌, ◌<◌}
use native.Mathlib.Omega.{arith}
use lib.ListN.{length}
use borrow.Author.Tests.{eq-eqb}
use Rattle.algebra.specs.Ring.{num}
use Rattle.field.specs.Element.{Elem, F, half_elem, elem_of, words_of, ◌⊕◌}
use Rattle.field.specs.Powers.{root}
use Rattle.field.proofs.Embedding.{half_two}
use Rattle.weights.specs.AtField.{folded_sum_f, honest_f}
use Rattle.weights.proofs.HonestQuadratics.{honest-sum, honest-quadratic}
use Rattle.prover.specs.declared.turns.Turn.{Turn}
use Rattle.prover.specs.RowSum.{from_words}
use Rattle.prover.specs.Given.{Given, Work, run}
use Rattle.prover.specs.OwnSum.{tables_of, own_quadratic}
use Rattle.prover.specs.CallNumbers.{start_number}
use Rattle.prover.specs.Calls.{one_more, step_of, start_work, uni_work, pair_value, pair_of}
use Rattle.prover.specs.FirstCalls.{first_words, first_out}
use Rattle.reduction.specs.Calls.{ask_first, fold_first, ask_pair, State, task_reply, task_work, lent_by, challenge_of, first_in, pair_in, openings_in, task_turn, lent_work, kept_work}
use Rattle.reduction.specs.Steps.{step_by}
use Rattle.reduction.specs.Verdict.{head_of, later_of}
use Rattle.reduction.specs.Demand.{HonestPair}
use Rattle.reduction.proofs.Stands.{Laid, Stands}
use Rattle.reduction.proofs.StandsFolded.{stands_quadratic}
use Rattle.reduction.proofs.FoldedWork.{leaves_new}
use Rattle.reduction.proofs.UniWork.{stands_uni_work}
use Rattle.reduction.proofs.ZerosKept.{zeros_first}
use Rattle.reduction.proofs.CallNumbers.{first_turn_lem, uni_turn_lem}
use Rattle.reduction.proofs.TaskNumbers.{task_number}
use Rattle.reduction.proofs.FirstWords.{honest_first_lem}
use Rattle.reduction.proofs.Invariant.{Pairs, to_pair, to_fold, Early, to_first, to_uni, Fresh, Going, Promise, own_call}
use Rattle.reduction.proofs.ReturnedWords.{pairs_none, pairs_more}

-- the turn that an accepted call leaves
pub one_call : (number : ℕ) (t : Turn) → number ≡ 0 → (step_of number t (one_more t)).turn.calls ≡ t.calls + 1
unfolding step_of
one_call number t e = ap (λ b. (cond b (one_more t) t).calls) (eq-eqb number 0 e)

pub pair-call : (g : Given) (t : Turn) (j : ℕ) (w : Work) (number : ℕ) → number ≡ 0 → (pair_of g t j w number).turn.calls ≡ t.calls + 1
unfolding pair_of
pair-call g t j w number e = ap (λ b. (cond b (one_more t) t).calls) (eq-eqb number 0 e)

module _ (g : Given) (laid : Laid g) (s : State) where
  -- the first polynomial, for the matrices that it was lent
  pub first_step_lem : (w : Work) (matrices out : List ℕ) → Fresh g w s → task_number g s.turn s.work (ask_first matrices out) ≡ 0
      → Promise g (step_by zero s (own_call g (ask_first matrices out))) (step_by zero s (own_call g (ask_first matrices out))).reply
      × Fresh g w (step_by zero s (own_call g (ask_first matrices out))).after
  unfolding task_number step_by task_turn task_work lent_work kept_work task_reply lent_by challenge_of first_in pair_in openings_in first_out
  first_step_lem w matrices out f n =
      let made = leaves_new _ (first_words g matrices) out n in (
        honest_first_lem g matrices laid _ made,
        record {
          early =
              to_uni (one_call _ s.turn n ∙ (let e : s.turn.calls + 1 ≡ 2 = omega (arith, first_turn_lem g s.turn matrices out n) in e)) (ap some made);
          work = f.work;
          challenges = append-nil s.challenges ∙ f.challenges;
          pairs = append-nil s.pairs ∙ f.pairs;
          openings = f.openings;
        },
      )

  -- the first polynomial has been returned where the fold at u_0 is due
  returned : {t : ℕ} {f : Option (List ℕ)} {right : List ℕ} → Early t f right → t ≡ 2 → f ≡ some right
  returned (to_first a b) e = absurd (omega arith)
  returned (to_uni a b) e = b

  pub first_fold : (w : Work) → start_number g w ≡ 0 → (matrices v : List ℕ) → Fresh g w s → matrices ≡ s.matrices → task_number g s.turn s.work (fold_first matrices v) ≡ 0
      → Going g (step_by zero s (own_call g (fold_first matrices v))).after
  unfolding task_number step_by task_turn task_work lent_work kept_work task_reply lent_by challenge_of first_in pair_in openings_in start_work
  first_fold w started matrices v f same n =
      let drawn = uni_turn_lem g s.turn matrices v s.work n in
      record {
        first = elem_of v;
        later = [];
        challenges = ap (λ l. l ++ (elem_of v ∷ [])) f.challenges;
        polynomial = returned f.early drawn;
        few = omega arith;
        stands =
            subst (λ ms. Stands g (from_words ms) (elem_of v) [] (tables_of g.skip g.lists (uni_work g s.turn matrices v s.work))) same
            (stands_uni_work g laid s.turn matrices v s.work (ap (λ x. x.eq) f.work ∙ leaves_new _ _ w.eq started)
            (ap (λ x. x.ub) f.work ∙ leaves_new _ _ w.ub started) n);
        zeros = zeros_first g _;
        rounds = 0;
        pairs = subst (λ ws. Pairs g (from_words s.matrices) (elem_of v) [] 0 (ws ++ [])) (sym f.pairs) (pairs_none g (from_words s.matrices) (elem_of v) []);
        clock = to_pair (one_call _ s.turn n ∙ (let e : s.turn.calls + 1 ≡ 3 = omega arith in e)) refl f.openings;
      }

  module _ (a : Going g s) where
    abbrev cells : ℕ → Elem
    cells = from_words s.matrices

    -- the pair's words
    pair_words_lem : (number : ℕ) (x : Elem) → number ≡ 0 → length a.later < g.stack
        → words_of (pair_value g (suc (length a.later)) s.work number x) ≡ words_of (honest_f (run g) cells a.first a.later x)
    unfolding pair_value
    pair_words_lem number x e l =
        ap (λ b. words_of (cond b (own_quadratic (run g) (suc (length a.later)) (tables_of g.skip g.lists s.work) x) F.zero)) (eq-eqb number 0 e)
        ∙ ap words_of (stands_quadratic g cells a.first a.later x (tables_of g.skip g.lists s.work) a.stands l laid)

    honest-pair : (one two : List ℕ) → length a.later < g.stack → one ≡ words_of (honest_f (run g) cells a.first a.later F.one)
        → two ≡ words_of (honest_f (run g) cells a.first a.later (num F 2)) → HonestPair g s (ask_pair (suc (length a.later))) one two
    honest-pair one two l e f =
        record {
          round = ap ask_pair (sym (ap length a.challenges));
          begun = omega (arith, ap length a.challenges);
          within = omega (arith, ap length a.challenges);
          at_one = e ∙ ap (λ cs. words_of (honest_f (run g) cells (head_of cs) (later_of cs) F.one)) (sym a.challenges);
          at_two = f ∙ ap (λ cs. words_of (honest_f (run g) cells (head_of cs) (later_of cs) (num F 2))) (sym a.challenges);
          sums_so_far =
              subst (λ cs. honest_f (run g) cells (head_of cs) (later_of cs) F.zero ⊕ honest_f (run g) cells (head_of cs) (later_of cs) F.one
              ≡ folded_sum_f (run g) cells (head_of cs) (later_of cs)) (sym a.challenges)
              (honest-sum F half_elem (root g.skip) (run g) cells a.first a.later l);
          quadratic = honest-quadratic F half_elem (root g.skip) (run g) cells (head_of s.challenges) half_two (later_of s.challenges);
        }

    -- the pair of the round that is due
    pub pair_step_lem : task_number g s.turn s.work (ask_pair (suc (length a.later))) ≡ 0 → length a.later < g.stack
        → a.rounds ≡ length a.later → s.turn.calls ≡ 2 * length a.later + 3 → s.openings ≡ none
        → Promise g (step_by zero s (own_call g (ask_pair (suc (length a.later))))) (step_by zero s (own_call g (ask_pair (suc (length a.later))))).reply × Going g (step_by zero s (own_call g (ask_pair (suc (length a.later))))).after
    unfolding task_number step_by task_turn task_work lent_work kept_work task_reply lent_by challenge_of first_in pair_in openings_in pair_of
    pair_step_lem n l m t o = (
      honest-pair _ _ l (pair_words_lem _ F.one n l) (pair_words_lem _ (num F 2) n l),
      record {
        first = a.first;
        later = a.later;
        challenges = append-nil s.challenges ∙ a.challenges;
        polynomial = a.polynomial;
        few = a.few;
        stands = a.stands;
        zeros = a.zeros;
        rounds = suc a.rounds;
        pairs =
            subst (λ ws. Pairs g cells a.first a.later (suc a.rounds) (s.pairs ++ ws))
            (sym (ap₂ ◌++◌ (pair_words_lem _ F.one n l) (pair_words_lem _ (num F 2) n l))) (pairs_more g cells a.first a.later a.rounds s.pairs m a.pairs);
        clock = to_fold (pair-call g s.turn (suc (length a.later)) s.work _ n ∙ (let e : s.turn.calls + 1 ≡ 2 * length a.later + 4 = omega arith in e)) l (ap suc m) o;
      },
    )
