-- A refused call leaves the turn and every word of what it was lent, by the definitions of its own contract; so the list has come to what it had.
use mathlib.Core.Path.{◌≡◌, refl, sym, ap, subst}
use mathlib.Core.Bool.{cond}
use mathlib.Core.List.{List}
use Prim.Native.Nat.{ℕ, suc}
use borrow.Author.Tests.{ne_eqb}
use Rattle.prover.specs.declared.turns.Turn.{Turn}
use Rattle.prover.specs.Given.{Given, Work}
use Rattle.prover.specs.Calls.{one_more, step_of, leaves, uni_work, fold_work, pair_of, openings_out}
use Rattle.prover.specs.FirstCalls.{first_out}
use Rattle.prover.proofs.WorkBuffers.{work_is}
use Rattle.reduction.specs.Calls.{Task, ask_first, fold_first, ask_pair, fold_next, ask_openings, Buffers, own, other, Call, Reply, refused, first_sent, folded, paired, opened, State, task_reply, task_turn, task_work, task_slice, lent_slice, lent_work, kept_work}
use Rattle.reduction.specs.Steps.{lent_to, call_number, step_by}
use Rattle.reduction.specs.Demand.{Untouched}
use Rattle.reduction.proofs.TaskNumbers.{task_number, refused-number}

abbrev pub Not-zero : ℕ → Type 0
Not-zero number = number ≡ 0 → ⊥

turn_left : (number : ℕ) (next t : Turn) → Not-zero number → (step_of number t next).turn ≡ t
unfolding step_of
turn_left number next t h = ap (λ b. cond b next t) (ne_eqb number 0 h)

pair_left : (g : Given) (t : Turn) (j : ℕ) (w : Work) (number : ℕ) → Not-zero number → (pair_of g t j w number).turn ≡ t
unfolding pair_of
pair_left g t j w number h = ap (λ b. cond b (one_more t) t) (ne_eqb number 0 h)

pub leaves_old : (number : ℕ) (new old : List ℕ) → Not-zero number → leaves number new old ≡ old
unfolding leaves
leaves_old number new old h = ap (λ b. cond b new old) (ne_eqb number 0 h)

module _ (g : Given) (t : Turn) (w : Work) where
  turn_kept : (task : Task) → Not-zero (task_number g t w task) → task_turn g t w task ≡ t
  unfolding task_number task_turn
  turn_kept (ask_first matrices out) h = turn_left _ (one_more t) t h
  turn_kept (fold_first matrices u) h = turn_left _ (one_more t) t h
  turn_kept (ask_pair j) h = pair_left g t j w _ h
  turn_kept (fold_next j u) h = turn_left _ (one_more t) t h
  turn_kept (ask_openings out) h = turn_left _ (one_more t) t h

  work-kept : (task : Task) → Not-zero (task_number g t w task) → task_work g t w task ≡ w
  unfolding task_number task_work uni_work fold_work
  work-kept (ask_first matrices out) h = refl
  work-kept (fold_first matrices u) h = work_is (leaves_old _ _ w.q h) (leaves_old _ _ w.eq h) (leaves_old _ _ w.rot h) refl
  work-kept (ask_pair j) h = refl
  work-kept (fold_next j u) h = work_is (leaves_old _ _ w.q h) (leaves_old _ _ w.eq h) (leaves_old _ _ w.rot h) (leaves_old _ _ w.ub h)
  work-kept (ask_openings out) h = refl

  slice_kept : (task : Task) → Not-zero (task_number g t w task) → task_slice g t w task ≡ lent_slice task
  unfolding task_number task_slice lent_slice first_out openings_out
  slice_kept (ask_first matrices out) h = leaves_old _ _ out h
  slice_kept (fold_first matrices u) h = refl
  slice_kept (ask_pair j) h = refl
  slice_kept (fold_next j u) h = refl
  slice_kept (ask_openings out) h = leaves_old _ _ out h

-- the run's own buffers after a refused call
own_kept : (g : Given) (t : Turn) (mine : Work) (b : Buffers) (task : Task) → Not-zero (task_number g t (lent_work b mine) task)
    → kept_work b (task_work g t (lent_work b mine) task) mine ≡ mine
unfolding lent_work kept_work
own_kept g t mine own task h = work-kept g t mine task h
own_kept g t mine (other w) task h = refl

module _ (s : State) (c : Call) (k : ℕ) (number : call_number s c ≡ suc k) where
  refuses : Not-zero (task_number c.given s.turn (lent_to s c) c.task)
  refuses = refused-number c.given s.turn (lent_to s c) c.task k number

  pub state-kept : (step_by (suc k) s c).after ≡ s
  unfolding step_by
  state-kept = λ i.
      record {
        turn = turn_kept c.given s.turn (lent_to s c) c.task refuses i;
        work = own_kept c.given s.turn s.work c.buffers c.task refuses i;
        matrices = s.matrices;
        first = s.first;
        challenges = s.challenges;
        pairs = s.pairs;
        openings = s.openings;
      }

  pub untouched : Untouched (step_by (suc k) s c)
  unfolding step_by
  untouched =
      record {
        turn = turn_kept c.given s.turn (lent_to s c) c.task refuses;
        work = work-kept c.given s.turn (lent_to s c) c.task refuses;
        slice = slice_kept c.given s.turn (lent_to s c) c.task refuses;
        after = state-kept;
      }

-- an accepted call's reply is none of a refusal
abbrev IsRefusal : Reply → Type 0
IsRefusal (refused k) = Unit {0}
IsRefusal (first_sent out) = ⊥
IsRefusal folded = ⊥
IsRefusal (paired one two) = ⊥
IsRefusal (opened out) = ⊥

none_refused : (g : Given) (t : Turn) (w : Work) (task : Task) → IsRefusal (task_reply g t w task) → ⊥
unfolding task_reply
none_refused g t w (ask_first matrices out) h = h
none_refused g t w (fold_first matrices u) h = h
none_refused g t w (ask_pair j) h = h
none_refused g t w (fold_next j u) h = h
none_refused g t w (ask_openings out) h = h

pub no_refusal : (g : Given) (t : Turn) (w : Work) (task : Task) (k : ℕ) → task_reply g t w task ≡ refused k → ⊥
no_refusal g t w task k e = none_refused g t w task (subst IsRefusal (sym e) tt)
