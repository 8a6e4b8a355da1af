-- Along every list of a run's calls, refused ones included, the invariant holds and each call keeps its promise.
use mathlib.Core.Path.{◌≡◌, refl, sym, ◌∙◌, ap, subst}
use mathlib.Core.Logic.{inl, inr, ⊎_elim}
use mathlib.Core.List.{List, [], ◌∷◌}
use mathlib.Core.Option.{Option, none}
use Prim.Native.Nat.{ℕ, zero, suc, ◌+◌, ◌*◌, ◌<◌, ◌≤◌}
use native.Mathlib.Omega.{arith}
use Rattle.prover.specs.declared.turns.Turn.{Turn}
use Rattle.prover.specs.Given.{Given, Work}
use Rattle.prover.specs.CallNumbers.{start_number}
use Rattle.reduction.specs.Calls.{Task, ask_first, fold_first, ask_pair, fold_next, ask_openings, Call, State, Event, task_reply, task_turn, task_work, lent_work, kept_work}
use Rattle.reduction.specs.Steps.{call_number, step_by, step}
use Rattle.reduction.specs.Lists.{begun, Started, events, outcome, SameMatrices, Ours, Proper, Among}
use Rattle.reduction.proofs.CallNumbers.{first_turn_lem, uni_turn_lem, pair_turn_lem, fold_turn_lem, openings_turn_lem}
use Rattle.reduction.proofs.Stands.{Laid}
use Rattle.reduction.proofs.TaskNumbers.{task_number, start_number_lem, start_calls, accepted_zero}
use Rattle.reduction.proofs.Invariant.{Clock, to_pair, to_fold, over, Early, to_first, to_uni, Inv, Promise, Kept, own_call, summed, polynomial_at, zeroed}
use Rattle.reduction.proofs.Steps.{first_step_lem, first_fold, pair_step_lem}
use Rattle.reduction.proofs.LaterSteps.{fold_step_lem, openings-step}
use Rattle.reduction.proofs.Refusals.{state-kept, untouched, no_refusal}

-- which call the clock lets pass
module _ {n t j m : ℕ} {o : Option (List ℕ)} {right : List ℕ} where
  past_two : Clock n t j m o right → 2 < t
  past_two (to_pair a b c) = omega arith
  past_two (to_fold a b c d) = omega arith
  past_two (over a b c d) = omega arith

  due-pair : Clock n t j m o right → (i : ℕ) → 1 ≤ i → i ≤ n → t ≡ 2 * i + 1 → (i ≡ suc j) × (m ≡ j) × (o ≡ none)
  due-pair (to_pair a b c) i h k e = (omega arith, b, c)
  due-pair (to_fold a b c d) i h k e = absurd (omega arith)
  due-pair (over a b c d) i h k e = absurd (omega arith)

  due_fold : Clock n t j m o right → (i : ℕ) → 1 ≤ i → i ≤ n → t ≡ 2 * i + 2 → (i ≡ suc j) × (m ≡ suc j) × (o ≡ none)
  due_fold (to_pair a b c) i h k e = absurd (omega arith)
  due_fold (to_fold a b c d) i h k e = (omega arith, c, d)
  due_fold (over a b c d) i h k e = absurd (omega arith)

  due-openings : Clock n t j m o right → t ≡ 2 * n + 3 → (j ≡ n) × (m ≡ n)
  due-openings (to_pair a b c) e = (omega arith, omega arith)
  due-openings (to_fold a b c d) e = absurd (omega arith)
  due-openings (over a b c d) e = absurd (omega arith)

at_most_two : {t : ℕ} {f : Option (List ℕ)} {right : List ℕ} → Early t f right → t ≤ 2
at_most_two (to_first a b) = omega arith
at_most_two (to_uni a b) = omega arith

module _ (g : Given) (laid : Laid g) (t : Turn) (w : Work) (begins : Started g t w) where
  started : start_number g w ≡ 0
  started = start_number_lem g t w begins

  -- what an accepted call of the run's own does
  abbrev Does : State → Task → Type 0
  Does s task =
      task_number g s.turn s.work task ≡ 0
      → Promise g (step_by zero s (own_call g task)) (step_by zero s (own_call g task)).reply × Inv g w (step_by zero s (own_call g task)).after

  accepted : (s : State) (task : Task) → SameMatrices s task → Inv g w s → Does s task
  unfolding task_number step_by task_turn task_work lent_work kept_work task_reply SameMatrices
  accepted s (ask_first matrices out) same (inl f) n = let r = first_step_lem g laid s w matrices out f n in (r.0, inl r.1)
  accepted s (ask_first matrices out) same (inr a) n = absurd (omega (arith, past_two a.clock, first_turn_lem g s.turn matrices out n))
  accepted s (fold_first matrices v) same (inl f) n = (tt, inr (first_fold g laid s w started matrices v f same n))
  accepted s (fold_first matrices v) same (inr a) n = absurd (omega (arith, past_two a.clock, uni_turn_lem g s.turn matrices v s.work n))
  accepted s (ask_pair j) same (inl f) n = let p = pair_turn_lem g s.turn j s.work n in absurd (omega (arith, at_most_two f.early, p.0, p.2))
  accepted s (ask_pair j) same (inr a) n =
      let p = pair_turn_lem g s.turn j s.work n in
      let d = due-pair a.clock j p.0 p.1 p.2 in
      subst (λ i. Does s (ask_pair i)) (sym d.0)
      (λ n. let r = pair_step_lem g laid s a n (omega (arith, d.0, p.1)) d.1 (omega (arith, d.0, p.2)) d.2 in (r.0, inr r.1)) n
  accepted s (fold_next j v) same (inl f) n = let p = fold_turn_lem g s.turn j v s.work n in absurd (omega (arith, at_most_two f.early, p.0, p.2))
  accepted s (fold_next j v) same (inr a) n =
      let p = fold_turn_lem g s.turn j v s.work n in
      let d = due_fold a.clock j p.0 p.1 p.2 in
      subst (λ i. Does s (fold_next i v)) (sym d.0)
      (λ n. (tt, inr (fold_step_lem g laid s a v n (omega (arith, d.0, p.1)) d.1 (omega (arith, d.0, p.2)) d.2))) n
  accepted s (ask_openings out) same (inl f) n = let t = openings_turn_lem g s.turn out s.work n in absurd (omega (arith, at_most_two f.early))
  accepted s (ask_openings out) same (inr a) n =
      let t = openings_turn_lem g s.turn out s.work n in
      let d = due-openings a.clock t in
      let r = openings-step g laid s a out n d.0 d.1 t in
      (r.0, inr r.1)

  -- any call, by its number
  one : (s : State) (c : Call) (k : ℕ) → call_number s c ≡ k → (k ≡ 0 → Ours g s c) → Inv g w s → Kept g (step_by k s c) × Inv g w (step_by k s c).after
  unfolding step_by task_turn task_work lent_work kept_work
  one s c zero e ours i =
      let o = ours refl in
      let same : c ≡ own_call g c.task = λ k. record { given = o.given k; buffers = o.buffers k; task = c.task } in
      let r = accepted s c.task o.lent i (accepted_zero g s.turn s.work c.task (ap (call_number s) (sym same) ∙ e)) in
      let left = (step_by zero s (own_call g c.task)).after in
      subst (λ d. Kept g (step_by zero s d) × Inv g w (step_by zero s d).after) (sym same) (
        record {
          reply = r.0;
          refusal = λ k q. absurd (no_refusal g s.turn s.work c.task k q);
          at_u = polynomial_at g laid w left r.1;
          buffers = summed g laid w left r.1;
          zeros = zeroed g laid w left r.1;
        },
        r.1,
      )
  one s c (suc k) e ours i =
      let left = (step_by (suc k) s c).after in
      let j = subst (Inv g w) (sym (state-kept s c k e)) i in
      (record { reply = tt; refusal = λ n q. untouched s c k e; at_u = polynomial_at g laid w left j; buffers = summed g laid w left j; zeros = zeroed g laid w left j }, j)

  every : (cs : List Call) (s : State) → Inv g w s → Proper g s cs → ((e : Event) → Among e (events s cs) → Kept g e) × Inv g w (outcome s cs)
  unfolding events outcome Proper Among
  every [] s i p = (λ e a. absurd a, i)
  every (c ∷ cs) s i p =
      let r = one s c (call_number s c) refl p.0 i in
      let q = every cs (step s c).after r.1 p.1 in (
        λ e a. ⊎_elim (λ h. subst (Kept g) (sym h) r.0) (λ h. q.0 e h) a,
        q.1,
      )

  -- run from what the start left
  begun_fresh : Inv g w (begun g t w)
  unfolding begun
  begun_fresh = inl (record { early = to_first (start_calls g t w begins) refl; work = refl; challenges = refl; pairs = refl; openings = refl })

  module _ (cs : List Call) (proper : Proper g (begun g t w) cs) where
    pub each_kept : (e : Event) → Among e (events (begun g t w) cs) → Kept g e
    each_kept = (every cs (begun g t w) begun_fresh proper).0

    pub left_going : Inv g w (outcome (begun g t w) cs)
    left_going = (every cs (begun g t w) begun_fresh proper).1
