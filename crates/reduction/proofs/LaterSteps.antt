-- The accepted fold of a round and the accepted openings keep what holds along the list, and the openings are the true column values.
use mathlib.Core.Path.{◌≡◌, sym, ◌∙◌, ap, subst}
use mathlib.Core.List.{List, [], ◌∷◌, ◌++◌, append-nil}
use mathlib.Core.Option.{none, some}
use Prim.Native.Nat.{ℕ, zero, suc, ◌+◌, ◌-◌, ◌*◌, ◌^◌, ◌<◌}
use native.Mathlib.Nat
use native.Mathlib.Omega.{arith}
use lib.ListN.{length, length-append}
use Rattle.field.specs.Element.{Elem, F, half_elem, elem_of}
use Rattle.field.specs.Powers.{root}
use Rattle.field.specs.Slice.{elem_at, elem_words}
use Rattle.weights.specs.AtField.{folded_column_f, true_opening_f}
use Rattle.weights.proofs.HonestQuadratics.{true_opening-folded}
use Rattle.prover.specs.RowSum.{from_words}
use Rattle.prover.specs.Given.{Given, run, stacked}
use Rattle.prover.specs.OwnSum.{tables_of}
use Rattle.prover.specs.Calls.{leaves, fold_work, openings_out}
use Rattle.reduction.specs.Calls.{fold_next, ask_openings, State, task_reply, task_work, lent_by, challenge_of, first_in, pair_in, openings_in, task_turn, lent_work, kept_work}
use Rattle.reduction.specs.Steps.{step_by}
use Rattle.reduction.specs.Verdict.{head_of, later_of}
use Rattle.reduction.specs.Zeros.{ZerosAfter}
use Rattle.reduction.proofs.Stands.{Laid}
use Rattle.reduction.proofs.FoldedWork.{leaves_new, stands_fold_work}
use Rattle.reduction.proofs.ZerosKept.{zeros-fold_work}
use Rattle.reduction.proofs.TaskNumbers.{task_number}
use Rattle.reduction.proofs.Invariant.{Pairs, to_pair, over, Going, Promise, own_call}
use Rattle.reduction.proofs.Steps.{one_call}
use Rattle.reduction.proofs.ReturnedWords.{elem_words_cong, pairs_fold}

module _ (g : Given) (laid : Laid g) (s : State) (a : Going g s) where
  abbrev cells : ℕ → Elem
  cells = from_words s.matrices

  -- the fold of the round that is due
  pub fold_step_lem : (v : List ℕ) → task_number g s.turn s.work (fold_next (suc (length a.later)) v) ≡ 0 → length a.later < g.stack
      → a.rounds ≡ suc (length a.later) → s.turn.calls ≡ 2 * length a.later + 4 → s.openings ≡ none
      → Going g (step_by zero s (own_call g (fold_next (suc (length a.later)) v))).after
  unfolding task_number step_by task_turn task_work lent_work kept_work task_reply lent_by challenge_of first_in pair_in openings_in
  fold_step_lem v n l m t o =
      record {
        first = a.first;
        later = a.later ++ (elem_of v ∷ []);
        challenges = ap (λ l. l ++ (elem_of v ∷ [])) a.challenges;
        polynomial = a.polynomial;
        few = omega (arith, longer);
        stands = stands_fold_work g laid cells a.first a.later s.turn v s.work a.stands l n;
        zeros =
            subst (λ k. ZerosAfter g k (fold_work g s.turn (suc (length a.later)) v s.work)) (sym longer)
            (zeros-fold_work g s.turn (length a.later) v s.work l n a.zeros);
        rounds = a.rounds;
        pairs =
            subst (λ ws. Pairs g cells a.first (a.later ++ (elem_of v ∷ [])) a.rounds ws) (sym (append-nil s.pairs))
            (pairs_fold g cells a.first a.later (elem_of v) a.rounds s.pairs (omega arith) a.pairs);
        clock =
            to_pair (one_call _ s.turn n ∙ (let e : s.turn.calls + 1 ≡ 2 * length (a.later ++ (elem_of v ∷ [])) + 3 = omega (arith, longer) in e))
            (m ∙ sym longer) o;
      }
    where
      longer : length (a.later ++ (elem_of v ∷ [])) ≡ suc (length a.later)
      longer = length-append a.later (elem_of v ∷ []) ∙ (let e : length a.later + 1 ≡ suc (length a.later) = omega arith in e)

  -- the openings: the one value left of each stack column
  opened_words : (number : ℕ) (out : List ℕ) → number ≡ 0 → length a.later ≡ g.stack
      → leaves number (elem_words (stacked g) (elem_at s.work.q)) out ≡ elem_words (stacked g) (true_opening_f (run g) cells a.first a.later)
  unfolding tables_of
  opened_words number out e l = leaves_new _ _ out e ∙ elem_words_cong (stacked g) (λ c h. left c h ∙ sym (true_opening-folded F half_elem (root g.skip) (run g) cells a.first a.later c))
    where
      left : (c : ℕ) → c < stacked g → elem_at s.work.q c ≡ folded_column_f (run g) cells a.first a.later c 0
      left c h =
          ap (elem_at s.work.q) {x = c} {y = c * 2 ^ (g.stack - length a.later) + 0} (omega (arith, ap (λ i. c * i) one, Nat.mul-one c))
          ∙ a.stands.values c 0 h (omega (arith, one))
        where
          one : 2 ^ (g.stack - length a.later) ≡ 1
          one = ap (λ i. 2 ^ i) {x = g.stack - length a.later} {y = 0} (omega arith)

  pub openings-step : (out : List ℕ) → task_number g s.turn s.work (ask_openings out) ≡ 0 → length a.later ≡ g.stack → a.rounds ≡ g.stack
      → s.turn.calls ≡ 2 * g.stack + 3
      → Promise g (step_by zero s (own_call g (ask_openings out))) (step_by zero s (own_call g (ask_openings out))).reply × Going g (step_by zero s (own_call g (ask_openings out))).after
  unfolding task_number step_by task_turn task_work lent_work kept_work task_reply lent_by challenge_of first_in pair_in openings_in openings_out
  openings-step out n l m t = (
    record {
      all = ap length a.challenges ∙ (let e : suc (length a.later) ≡ g.stack + 1 = omega arith in e);
      values = opened_words _ out n l ∙ ap (λ cs. elem_words (stacked g) (true_opening_f (run g) cells (head_of cs) (later_of cs))) (sym a.challenges);
    },
    record {
      first = a.first;
      later = a.later;
      challenges = append-nil s.challenges ∙ a.challenges;
      polynomial = a.polynomial;
      few = a.few;
      stands = a.stands;
      zeros = a.zeros;
      rounds = a.rounds;
      pairs = subst (λ ws. Pairs g cells a.first a.later a.rounds ws) (sym (append-nil s.pairs)) a.pairs;
      clock = over (one_call _ s.turn n ∙ (let e : s.turn.calls + 1 ≡ 2 * g.stack + 4 = omega arith in e)) l m (ap some (opened_words _ out n l));
    },
  )
