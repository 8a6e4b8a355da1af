-- In a run the fold at u_0 leaves in eq_r the words that it left when it scaled the tables that it was lent: until it is accepted they are as start left
-- them.
use mathlib.Core.Path.{◌≡◌, refl, sym, ◌∙◌, ap, subst}
use mathlib.Core.Logic.{⊎_elim}
use mathlib.Core.List.{List, [], ◌∷◌}
use Prim.Native.Nat.{ℕ, zero, suc, ◌+◌, ◌-◌, ◌<◌, ◌≤◌}
use native.Mathlib.Omega.{arith}
use Rattle.algebra.specs.Multilinear.{cube_factor}
use Rattle.field.specs.Element.{Elem, F, ◌⊗◌, elem_of, words_of}
use Rattle.field.specs.Slice.{words_at}
use Rattle.field.proofs.Elements.{elem_of_words_of, length_words_of}
use Rattle.tables.specs.Points.{coordinates}
use Rattle.prover.specs.declared.turns.Turn.{Turn}
use Rattle.prover.specs.Given.{Given, Work, run}
use Rattle.prover.specs.Slots.{entries, slot_start}
use Rattle.prover.specs.UniKernels.{eq_scale}
use Rattle.prover.specs.CallNumbers.{start_number, uni_number}
use Rattle.prover.specs.Calls.{lent, start_eq, start_work, uni_eq, uni_work}
use Rattle.prover.proofs.Filled.{filled_end}
use Rattle.reduction.specs.Calls.{Task, ask_first, fold_first, ask_pair, fold_next, ask_openings, Buffers, own, other, Call, State, Event, task_turn, task_work, lent_work, kept_work}
use Rattle.reduction.specs.Steps.{lent_to, call_number, work_left, step_by, step}
use Rattle.reduction.specs.Lists.{begun, Started, events, Ours, Proper, Among}
use Rattle.reduction.specs.ScaledTables.{scaled_eq, scaled_left, SameTables}
use Rattle.reduction.proofs.SlotTables.{words_at-tables, elem_at_tables}
use Rattle.reduction.proofs.FoldedWork.{leaves_new}
use Rattle.reduction.proofs.SoundWork.{words_hold}
use Rattle.reduction.proofs.CallNumbers.{uni_turn_lem, fold_turn_lem}
use Rattle.reduction.proofs.TaskNumbers.{task_number, start_number_lem, start_calls, accepted_zero, refused-number}
use Rattle.reduction.proofs.Steps.{one_call, pair-call}
use Rattle.reduction.proofs.Refusals.{leaves_old, state-kept}

-- the eq tables of a start
abbrev plain : Given → List ℕ
plain g = start_eq g.skip g.stack g.lists g.r

-- on these, word by word
module _ (g : Given) (u : Elem) where
  start_entry : (h x : ℕ) → h ≤ g.skip + g.stack → x < entries g.skip g.lists h → lent g u (plain g) h x ≡ cube_factor F (coordinates g.r 1 (h - g.skip)) x
  unfolding start_eq
  start_entry h x s k =
      elem_at_tables g.skip g.lists g.stack (λ h x. words_of (cube_factor F (coordinates g.r 1 (h - g.skip)) x)) (λ h x. length_words_of _) h x s k ∙ elem_of_words_of _

  pub same_tables : scaled_eq g u (plain g) ≡ uni_eq g u
  unfolding scaled_eq uni_eq
  same_tables =
      filled_end g.skip g.lists (scaled_eq g u (plain g)) _ g.stack
      (record { entry = λ h x s k. entry h x (omega arith) k; rest = λ i k. refl; length_kept = refl }) (words_hold g (λ h x. lent g u (plain g) h x ⊗ eq_scale (run g) h u)).size
    where
      entry : (h x : ℕ) → h ≤ g.skip + g.stack → x < entries g.skip g.lists h
          → words_at (scaled_eq g u (plain g)) (slot_start g.skip g.lists h + x) ≡ words_of (eq_scale (run g) h u ⊗ cube_factor F (coordinates g.r 1 (h - g.skip)) x)
      entry h x s k =
          words_at-tables g.skip g.lists g.stack (λ h x. words_of (lent g u (plain g) h x ⊗ eq_scale (run g) h u)) (λ h x. length_words_of _) h x s k
          ∙ ap words_of (ap (λ e. e ⊗ eq_scale (run g) h u) (start_entry h x s k) ∙ F.mul_comm _ _)

-- an accepted call counts
counted : (g : Given) (t : Turn) (w : Work) (task : Task) → task_number g t w task ≡ 0 → (task_turn g t w task).calls ≡ t.calls + 1
unfolding task_number task_turn
counted g t w (ask_first matrices out) n = one_call _ t n
counted g t w (fold_first matrices u) n = one_call _ t n
counted g t w (ask_pair j) n = pair-call g t j w _ n
counted g t w (fold_next j u) n = one_call _ t n
counted g t w (ask_openings out) n = one_call _ t n

-- the first call that is accepted, that for the first polynomial, is lent no work buffer
first_keeps : (g : Given) (t : Turn) (w : Work) (task : Task) → task_number g t w task ≡ 0 → t.calls ≡ 1 → task_work g t w task ≡ w
unfolding task_number task_work
first_keeps g t w (ask_first matrices out) n e = refl
first_keeps g t w (fold_first matrices u) n e = absurd (omega (arith, uni_turn_lem g t matrices u w n))
first_keeps g t w (ask_pair j) n e = refl
first_keeps g t w (fold_next j u) n e = absurd (omega (arith, (fold_turn_lem g t j u w n).2))
first_keeps g t w (ask_openings out) n e = refl

own_keeps : (g : Given) (t : Turn) (mine : Work) (b : Buffers) (task : Task) → task_number g t (lent_work b mine) task ≡ 0 → t.calls ≡ 1
    → kept_work b (task_work g t (lent_work b mine) task) mine ≡ mine
unfolding lent_work kept_work
own_keeps g t mine own task n e = first_keeps g t mine task n e
own_keeps g t mine (other w) task n e = refl

module _ (g : Given) (w : Work) (started : start_number g w ≡ 0) where
  -- until the fold at u_0 is accepted the buffers are as start left them
  record Early (s : State) : Type 0 where
    calls : 1 ≤ s.turn.calls
    work : s.turn.calls ≤ 2 → s.work ≡ start_work g w

  after_one : (s : State) (c : Call) (k : ℕ) → call_number s c ≡ k → Early s → Early (step_by k s c).after
  unfolding step_by
  after_one s c zero e i =
      let n = accepted_zero c.given s.turn (lent_to s c) c.task e in
      let more = counted c.given s.turn (lent_to s c) c.task n in
      record {
        calls = omega (arith, more);
        work = λ early.
            own_keeps c.given s.turn s.work c.buffers c.task n (omega (arith, more, i.calls, early)) ∙ i.work (omega (arith, more, early));
      }
  after_one s c (suc k) e i = subst Early (sym (state-kept s c k e)) i

  module _ (s : State) (matrices u : List ℕ) (early : Early s) where
    -- the fold of the run's own, accepted
    own_left : uni_number g s.turn matrices u s.work ≡ 0 → (uni_work g s.turn matrices u s.work).eq ≡ scaled_left g s.turn matrices u s.work
    unfolding uni_work scaled_left start_work
    own_left n =
        let held : s.work.eq ≡ plain g = ap (λ x. x.eq) (early.work (omega (arith, uni_turn_lem g s.turn matrices u s.work n))) ∙ leaves_new _ _ w.eq started in
        leaves_new _ _ s.work.eq n ∙ sym (same_tables g (elem_of u)) ∙ ap (scaled_eq g (elem_of u)) (sym held) ∙ sym (leaves_new _ _ _ n)

  -- any fold at u_0, by its number
  left_by : (s : State) (c : Call) (k : ℕ) → call_number s c ≡ k → (k ≡ 0 → Ours g s c) → Early s → (matrices u : List ℕ) → c.task ≡ fold_first matrices u
      → (work_left s c).eq ≡ scaled_left c.given s.turn matrices u (lent_to s c)
  unfolding task_work task_number lent_work uni_work scaled_left
  left_by s c zero e ours i matrices u is =
      let o = ours refl in
      let same : c ≡ record { given = g; buffers = own; task = fold_first matrices u } = λ k. record { given = o.given k; buffers = o.buffers k; task = is k } in
      subst (λ d. (work_left s d).eq ≡ scaled_left d.given s.turn matrices u (lent_to s d)) (sym same)
      (own_left s matrices u i (accepted_zero g s.turn s.work (fold_first matrices u) (ap (call_number s) (sym same) ∙ e)))
  left_by s c (suc k) e ours i matrices u is =
      let n = refused-number c.given s.turn (lent_to s c) (fold_first matrices u) k (subst (λ task. call_number s (record { given = c.given; buffers = c.buffers; task = task }) ≡ suc k) is e) in
      ap (λ task. (task_work c.given s.turn (lent_to s c) task).eq) is ∙ leaves_old _ _ (lent_to s c).eq n ∙ sym (leaves_old _ _ (lent_to s c).eq n)

  abbrev Same : Event → Type 0
  Same e = (matrices u : List ℕ) → e.call.task ≡ fold_first matrices u → e.left.eq ≡ scaled_left e.call.given e.before.turn matrices u (lent_to e.before e.call)

  step_same : (s : State) (c : Call) (k : ℕ) → call_number s c ≡ k → (k ≡ 0 → Ours g s c) → Early s → Same (step_by k s c)
  unfolding step_by
  step_same s c zero e ours i = left_by s c zero e ours i
  step_same s c (suc k) e ours i = left_by s c (suc k) e ours i

  each_same : (cs : List Call) (s : State) → Early s → Proper g s cs → (e : Event) → Among e (events s cs) → Same e
  unfolding events Proper Among
  each_same [] s i p e a = absurd a
  each_same (c ∷ cs) s i p e a =
      ⊎_elim (λ h. subst Same (sym h) (step_same s c (call_number s c) refl p.0 i))
      (λ h. each_same cs (step s c).after (after_one s c (call_number s c) refl i) p.1 e h) a

begun_early : (g : Given) (t : Turn) (w : Work) (begins : Started g t w) → Early g w (start_number_lem g t w begins) (begun g t w)
unfolding begun
begun_early g t w begins = record { calls = omega (arith, start_calls g t w begins); work = λ once. refl }

pub same_in_runs : SameTables
same_in_runs =
    record { same = λ g t w begins calls proper. each_same g w (start_number_lem g t w begins) calls (begun g t w) (begun_early g t w begins) proper }
