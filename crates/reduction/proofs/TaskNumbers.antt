-- A call's number before it is an answer: the answer of each call is that of its number, so that 0 alone is accepted.
use mathlib.Core.Path.{◌≡◌, refl, sym, ◌∙◌, ap}
use mathlib.Core.Bool.{cond}
use Prim.Native.Nat.{ℕ, suc}
use native.Mathlib.Omega.{arith}
use borrow.Author.Tests.{eq-eqb}
use Rattle.field.specs.Number.{number_of}
use Rattle.layout.specs.Answers.{answer_of}
use Rattle.layout.proofs.Answered.{number-answer, done_alone}
use Rattle.prover.specs.declared.turns.Turn.{Turn}
use Rattle.prover.specs.Given.{Given, Work}
use Rattle.prover.specs.Turns.{after}
use Rattle.prover.specs.CallNumbers.{start_number, uni_number, pair_number, fold_number, openings_number, first_number}
use Rattle.prover.specs.Calls.{step_of, pair_of}
use Rattle.reduction.specs.Calls.{Task, ask_first, fold_first, ask_pair, fold_next, ask_openings, task_answer}
use Rattle.reduction.specs.Lists.{begun, Started}

pub start_number_lem : (g : Given) (t : Turn) (w : Work) → Started g t w → start_number g w ≡ 0
unfolding step_of
start_number_lem g t w e = done_alone (start_number g w) e

pub start_calls : (g : Given) (t : Turn) (w : Work) → Started g t w → (begun g t w).turn.calls ≡ 1
unfolding begun step_of
start_calls g t w e = ap (λ b. (cond b (after 1) t).calls) (eq-eqb (start_number g w) 0 (start_number_lem g t w e))

module _ (g : Given) (t : Turn) (w : Work) where
  unfoldable pub task_number : Task → ℕ
  task_number (ask_first matrices out) = first_number g t matrices out
  task_number (fold_first matrices u) = uni_number g t matrices u w
  task_number (ask_pair j) = pair_number g t j w
  task_number (fold_next j u) = fold_number g t j u w
  task_number (ask_openings out) = openings_number g t out w

  answer_is : (task : Task) → task_answer g t w task ≡ answer_of (task_number task)
  unfolding task_answer task_number step_of pair_of
  answer_is (ask_first matrices out) = refl
  answer_is (fold_first matrices u) = refl
  answer_is (ask_pair j) = refl
  answer_is (fold_next j u) = refl
  answer_is (ask_openings out) = refl

  pub accepted_zero : (task : Task) → number_of (task_answer g t w task) ≡ 0 → task_number task ≡ 0
  accepted_zero task e = omega (arith, sym (number-answer (task_number task)) ∙ ap number_of (sym (answer_is task)) ∙ e)

  pub zero_accepted : (task : Task) → task_number task ≡ 0 → number_of (task_answer g t w task) ≡ 0
  zero_accepted task e = omega (arith, ap number_of (answer_is task) ∙ number-answer (task_number task), e)

  pub refused-number : (task : Task) (k : ℕ) → number_of (task_answer g t w task) ≡ suc k → task_number task ≡ 0 → ⊥
  refused-number task k e z = omega (arith, zero_accepted task z, e)
