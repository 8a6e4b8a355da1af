-- One call of a list: its number is its answer's, and only an accepted call adds to what the list has come to. The turn and the buffers are what the call
-- left, refused or not.
use Rattle.std.specs.Prelude.{List, ◌++◌, ℕ, zero, suc}
use Rattle.std.proofs.Math.Option.{Option}
use Rattle.field.specs.Element.{Elem}
use Rattle.field.specs.Number.{number_of}
use Rattle.prover.specs.declared.turns.Turn.{Turn}
use Rattle.prover.specs.Given.{Work}
use Rattle.reduction.specs.Calls.{Call, Reply, refused, State, Event, task_answer, task_turn, task_work, task_slice, task_reply, lent_by, challenge_of, first_in, pair_in, openings_in, lent_work, kept_work}

module _ (s : State) (c : Call) where
  -- the buffers that the call is lent
  abbrev pub lent_to : Work
  lent_to = lent_work c.buffers s.work

  -- document 01's number of the call: that of its answer
  abbrev pub call_number : ℕ
  call_number = number_of (task_answer c.given s.turn lent_to c.task)

  abbrev pub turn_after : Turn
  turn_after = task_turn c.given s.turn lent_to c.task

  abbrev pub work_left : Work
  work_left = task_work c.given s.turn lent_to c.task

  abbrev pub reply_of : Reply
  reply_of = task_reply c.given s.turn lent_to c.task

  -- the call with its reply and what the list has come to after it
  abbrev pub event : Reply → List ℕ → Option (List ℕ) → List Elem → List ℕ → Option (List ℕ) → Event
  event reply matrices first challenges pairs openings =
      record {
        before = s;
        call = c;
        turned = turn_after;
        left = work_left;
        slice = task_slice c.given s.turn lent_to c.task;
        reply = reply;
        after =
            record {
              turn = turn_after;
              work = kept_work c.buffers work_left s.work;
              matrices = matrices;
              first = first;
              challenges = challenges;
              pairs = pairs;
              openings = openings;
            };
      }

-- one call with its number: 0 is accepted, any other returns that number alone
unfoldable pub step_by : ℕ → State → Call → Event
step_by zero s c =
    event s c (reply_of s c) (lent_by c.task s.matrices) (first_in (reply_of s c) s.first) (s.challenges ++ challenge_of c.task)
    (s.pairs ++ pair_in (reply_of s c)) (openings_in (reply_of s c) s.openings)
step_by (suc k) s c = event s c (refused (suc k)) s.matrices s.first s.challenges s.pairs s.openings

abbrev pub step : State → Call → Event
step s c = step_by (call_number s c) s c
