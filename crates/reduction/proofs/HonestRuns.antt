-- From every accepted start the calls in their order are accepted, and the list is finished.
use mathlib.Core.Path.{◌≡◌, refl, sym, ◌∙◌, ap, subst}
use mathlib.Core.Bool.{true}
use mathlib.Core.List.{List, [], ◌∷◌, ◌++◌, append-nil, append_assoc}
use mathlib.Core.Option.{some}
use Prim.Native.Nat.{ℕ, zero, suc, ◌+◌, ◌-◌, ◌*◌, ◌^◌, ◌≤◌}
use native.Mathlib.Omega.{arith}
use lib.ListN.{length}
use Rattle.algebra.specs.Polynomial.{All}
use Rattle.field.specs.Element.{F, elem_of}
use Rattle.field.specs.Slice.{elem_words, canonical_four}
use Rattle.field.proofs.ElementWords.{length-elem_words}
use Rattle.prover.specs.declared.turns.Turn.{Turn}
use Rattle.prover.specs.Given.{Given, Work, stacked}
use Rattle.prover.specs.CallNumbers.{start_number}
use Rattle.prover.specs.FirstCalls.{first_words, first_out}
use Rattle.reduction.specs.Calls.{Task, ask_first, fold_first, ask_pair, fold_next, ask_openings, State, task_reply, task_work, lent_by, challenge_of, first_in, openings_in, task_turn, lent_work, kept_work}
use Rattle.reduction.specs.Steps.{step_by, step}
use Rattle.reduction.specs.Lists.{begun, Started, outcome, SameMatrices, Proper}
use Rattle.reduction.specs.HonestRun.{follow, rounds, honest_tasks, elems, Lent, HonestRun}
use Rattle.reduction.proofs.FoldedWork.{leaves_new}
use Rattle.reduction.proofs.CallNumbers.{Begun, start_passed}
use Rattle.reduction.proofs.TaskNumbers.{task_number, start_number_lem, start_calls, zero_accepted}
use Rattle.reduction.proofs.Invariant.{own_call}
use Rattle.reduction.proofs.Steps.{one_call, pair-call}
use Rattle.reduction.proofs.SoundWork.{Sound, sound_start, sound_uni, sound_fold}
use Rattle.reduction.proofs.Accepted.{first_accepted, uni_accepted, pair_accepted, fold_accepted, openings_accepted}

module _ (g : Given) where
  -- the run's own call is proper where the fold at u_0 is lent the first polynomial's matrices
  own_proper : (s : State) (t : Task) (ts : List Task) → SameMatrices s t → Proper g (step s (own_call g t)).after (follow g ts) → Proper g s (follow g (t ∷ ts))
  unfolding follow Proper
  own_proper s t ts same rest = (λ e. record { given = refl; buffers = refl; lent = same }, rest)

  rounds_proper : (vs : List (List ℕ)) (j : ℕ) (s : State) → Proper g s (follow g (rounds g j vs))
  unfolding rounds follow Proper SameMatrices
  rounds_proper [] j s = own_proper s (ask_openings (elem_words (stacked g) (λ c. F.zero))) [] tt tt
  rounds_proper (v ∷ vs) j s =
      own_proper s (ask_pair (suc j)) (fold_next (suc j) v ∷ rounds g (suc j) vs) tt
      (own_proper (step s (own_call g (ask_pair (suc j)))).after (fold_next (suc j) v) (rounds g (suc j) vs) tt (rounds_proper vs (suc j) _))

  -- the next state where the call is accepted
  abbrev next : State → Task → State
  next s t = (step_by zero s (own_call g t)).after

  along : (s : State) (t : Task) (ts : List Task) → task_number g s.turn s.work t ≡ 0
      → outcome s (follow g (t ∷ ts)) ≡ outcome (next s t) (follow g ts)
  unfolding follow outcome lent_work
  along s t ts e = ap (λ k. outcome (step_by k s (own_call g t)).after (follow g ts)) (zero_accepted g s.turn s.work t e)

  module _ (start : Begun g) where
    -- what a list from s on comes to
    pub record Ends (s left : State) (vs : List (List ℕ)) : Type 0 where
      pub finished : (out : List ℕ) × (left.openings ≡ some out)
      pub challenges : left.challenges ≡ s.challenges ++ elems vs
      pub matrices : left.matrices ≡ s.matrices
      pub first : left.first ≡ s.first

    last : (s : State) → Sound g s.work → s.turn.calls ≡ 2 * g.stack + 3 → Ends s (outcome s (follow g (rounds g g.stack []))) []
    unfolding task_number rounds follow outcome step_by task_turn task_work lent_work kept_work task_reply lent_by challenge_of first_in openings_in elems
    last s sound t =
        let e : task_number g s.turn s.work (ask_openings (elem_words (stacked g) (λ c. F.zero))) ≡ 0
        = openings_accepted g start s.work sound s.turn _ t (length-elem_words (stacked g) (λ c. F.zero)) in
        subst (λ left. Ends s left []) (sym (along s (ask_openings (elem_words (stacked g) (λ c. F.zero))) [] e))
        (record { finished = (_, refl); challenges = refl; matrices = refl; first = refl })

    -- a round: its pair, then its fold
    module _ (s : State) (sound : Sound g s.work) (j : ℕ) (v : List ℕ) (t : s.turn.calls ≡ 2 * j + 3) (room : suc j ≤ g.stack) (below : canonical_four v ≡ true) where
      abbrev paired : State
      paired = next s (ask_pair (suc j))

      abbrev folded : State
      folded = next paired (fold_next (suc j) v)

      pair-number : task_number g s.turn s.work (ask_pair (suc j)) ≡ 0
      unfolding task_number
      pair-number = pair_accepted g start s.work sound s.turn (suc j) (omega arith) room (omega arith)

      pair-calls : paired.turn.calls ≡ 2 * suc j + 2
      unfolding step_by task_turn task_work lent_work kept_work task_number
      pair-calls = pair-call g s.turn (suc j) s.work _ pair-number ∙ (let e : s.turn.calls + 1 ≡ 2 * suc j + 2 = omega arith in e)

      pair_sound : Sound g paired.work
      unfolding step_by task_turn task_work lent_work kept_work
      pair_sound = sound

      fold_number_lem : task_number g paired.turn paired.work (fold_next (suc j) v) ≡ 0
      unfolding task_number
      fold_number_lem = fold_accepted g start paired.work pair_sound paired.turn (suc j) v (omega arith) room pair-calls below

      fold_calls : folded.turn.calls ≡ 2 * suc j + 3
      unfolding step_by task_turn task_work lent_work kept_work task_number
      fold_calls = one_call _ paired.turn fold_number_lem ∙ (let e : paired.turn.calls + 1 ≡ 2 * suc j + 3 = omega (arith, pair-calls) in e)

      fold_sound : Sound g folded.work
      unfolding step_by task_turn task_work lent_work kept_work task_number
      fold_sound = sound_fold g paired.turn (suc j) v paired.work fold_number_lem pair_sound

      round_ends : (left : State) (vs : List (List ℕ)) → Ends folded left vs → Ends s left (v ∷ vs)
      unfolding step_by task_turn task_work lent_work kept_work task_reply lent_by challenge_of first_in elems
      round_ends left vs r =
          record {
            finished = r.finished;
            challenges =
                r.challenges ∙ append_assoc (s.challenges ++ []) (elem_of v ∷ []) (elems vs) ∙ ap (λ l. l ++ (elem_of v ∷ elems vs)) (append-nil s.challenges);
            matrices = r.matrices;
            first = r.first;
          }

    go : (vs : List (List ℕ)) (j : ℕ) (s : State) → Sound g s.work → s.turn.calls ≡ 2 * j + 3 → j + length vs ≡ g.stack
        → All (λ v. canonical_four v ≡ true) vs → Ends s (outcome s (follow g (rounds g j vs))) vs
    unfolding rounds
    go [] j s sound t many below = subst (λ i. Ends s (outcome s (follow g (rounds g i []))) []) {x = g.stack} {y = j} (omega arith) (last s sound (omega arith))
    go (v ∷ vs) j s sound t many below =
        let room : suc j ≤ g.stack = omega arith in
        let b : canonical_four v ≡ true = below.0 in
        subst (λ left. Ends s left (v ∷ vs))
        (sym (along s (ask_pair (suc j)) (fold_next (suc j) v ∷ rounds g (suc j) vs) (pair-number s sound j v t room b)
        ∙ along (paired s sound j v t room b) (fold_next (suc j) v) (rounds g (suc j) vs) (fold_number_lem s sound j v t room b)))
        (round_ends s sound j v t room b _ vs
        (go vs (suc j) (folded s sound j v t room b) (fold_sound s sound j v t room b) (fold_calls s sound j v t room b) (omega arith) below.1))

-- the whole run
module _ (g : Given) (t : Turn) (w : Work) (begins : Started g t w) (matrices u : List ℕ) (vs : List (List ℕ)) (lent : Lent g matrices u vs) where
  started : start_number g w ≡ 0
  started = start_number_lem g t w begins

  start : Begun g
  start = start_passed g w started

  sound : Sound g (begun g t w).work
  unfolding begun
  sound = sound_start g w started

  abbrev asks : Task
  asks = ask_first matrices (elem_words (2 ^ (g.skip + 1) - 1) (λ i. F.zero))

  first_number_lem : task_number g (begun g t w).turn (begun g t w).work asks ≡ 0
  unfolding task_number
  first_number_lem =
      first_accepted g start _ matrices (elem_words (2 ^ (g.skip + 1) - 1) (λ i. F.zero)) (start_calls g t w begins) lent.size lent.words (length-elem_words (2 ^ (g.skip + 1) - 1) (λ i. F.zero))

  abbrev second : State
  second = next g (begun g t w) asks

  second-calls : second.turn.calls ≡ 2
  unfolding step_by task_turn task_work lent_work kept_work task_number
  second-calls = one_call _ (begun g t w).turn first_number_lem ∙ ap (λ n. n + 1) (start_calls g t w begins)

  second_sound : Sound g second.work
  unfolding step_by task_turn task_work lent_work kept_work
  second_sound = sound

  uni_number_lem : task_number g second.turn second.work (fold_first matrices u) ≡ 0
  unfolding task_number
  uni_number_lem = uni_accepted g start _ second_sound _ matrices u second-calls lent.size lent.words lent.first

  abbrev third : State
  third = next g second (fold_first matrices u)

  third-calls : third.turn.calls ≡ 3
  unfolding step_by task_turn task_work lent_work kept_work task_number
  third-calls = one_call _ second.turn uni_number_lem ∙ ap (λ n. n + 1) second-calls

  third_sound : Sound g third.work
  unfolding step_by task_turn task_work lent_work kept_work task_number
  third_sound = sound_uni g second.turn matrices u second.work uni_number_lem second_sound

  ends : Ends g start third (outcome (begun g t w) (follow g (honest_tasks g matrices u vs))) vs
  ends =
      subst (λ left. Ends g start third left vs)
      (sym (along g (begun g t w) asks (fold_first matrices u ∷ rounds g 0 vs) first_number_lem ∙ along g second (fold_first matrices u) (rounds g 0 vs) uni_number_lem))
      (go g start vs 0 third third_sound third-calls (omega (arith, lent.many)) lent.later)

  -- the fold at u_0 is lent what the first polynomial was lent
  same_lent : matrices ≡ (step (begun g t w) (own_call g asks)).after.matrices
  unfolding step_by lent_by lent_work
  same_lent = ap (λ k. (step_by k (begun g t w) (own_call g asks)).after.matrices) (sym (zero_accepted g (begun g t w).turn (begun g t w).work asks first_number_lem))

  all_proper : Proper g (begun g t w) (follow g (honest_tasks g matrices u vs))
  unfolding SameMatrices
  all_proper =
      own_proper g (begun g t w) asks (fold_first matrices u ∷ rounds g 0 vs) tt
      (own_proper g (step (begun g t w) (own_call g asks)).after (fold_first matrices u) (rounds g 0 vs) same_lent (rounds_proper g vs 0 _))

  pub honest-run : HonestRun g (begun g t w) matrices u vs
  unfolding step_by task_turn task_work lent_work kept_work task_reply task_number lent_by challenge_of first_in first_out begun
  honest-run =
      record {
        proper = all_proper;
        finished = ends.finished;
        challenges = ends.challenges;
        lent = ends.matrices;
        first = ends.first ∙ ap some (leaves_new _ (first_words g matrices) _ first_number_lem);
      }
