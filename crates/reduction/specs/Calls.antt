-- The calls of a run after its start, each with everything that it is given; what the list has come to; and one call's step. Answer, turn, buffers and
-- returned words are those of the call's own contract, whether it is refused or not.
use Rattle.std.specs.Prelude.{List, [], ◌∷◌, ◌++◌, ℕ}
use Rattle.std.proofs.Math.Option.{Option, some}
use Rattle.field.specs.Element.{Elem, elem_of}
use Rattle.field.specs.declared.answer.Refusal.{Refusal}
use Rattle.std.specs.declared.result.Result.{Result}
use Rattle.prover.specs.declared.turns.Turn.{Turn}
use Rattle.prover.specs.Given.{Given, Work}
use Rattle.prover.specs.Calls.{uni_step, uni_work, pair_step, fold_step, fold_work, openings_step, openings_out}
use Rattle.prover.specs.FirstCalls.{first_step, first_out}

-- The first polynomial takes the stacked matrices and the slice that is lent for it, the fold at u_0 the stacked matrices and u_0's words, round j's pair
-- the round, round j's fold the round and the challenge's words, the openings the slice that is lent for them.
pub data Task : Type 0 where
  ask_first : List ℕ → List ℕ → Task
  fold_first : List ℕ → List ℕ → Task
  ask_pair : ℕ → Task
  fold_next : ℕ → List ℕ → Task
  ask_openings : List ℕ → Task

-- the work buffers that a call is lent: the run's own, as the last call left them, or any others
pub data Buffers : Type 0 where
  own : Buffers
  other : Work → Buffers

-- a call: l_skip, n_stack, lists, r and lambda; the work buffers; what is asked. The turn is the one that the last call left.
pub record Call : Type 0 where
  pub given : Given
  pub buffers : Buffers
  pub task : Task

-- what comes back: document 01's number, or the words of the first polynomial's coefficients, or nothing but that it is done, or a pair's words at 1 and
-- at 2, or the words of the openings
pub data Reply : Type 0 where
  refused : ℕ → Reply
  first_sent : List ℕ → Reply
  folded : Reply
  paired : List ℕ → List ℕ → Reply
  opened : List ℕ → Reply

-- The turn and the run's own work buffers as they were left. And what the list has come to, which no call reads: the stacked matrices lent to the call
-- that returned the first polynomial, that polynomial, the challenges of the accepted folds, the words of the pairs returned, the openings returned.
pub record State : Type 0 where
  pub turn : Turn
  pub work : Work
  pub matrices : List ℕ
  pub first : Option (List ℕ)
  pub challenges : List Elem
  pub pairs : List ℕ
  pub openings : Option (List ℕ)

-- a call of the list: what stood before it; the call; the turn, the buffers and the slice for returned words that it left; its reply; what stands after it
pub record Event : Type 0 where
  pub before : State
  pub call : Call
  pub turned : Turn
  pub left : Work
  pub slice : List ℕ
  pub reply : Reply
  pub after : State

module _ (g : Given) (t : Turn) (w : Work) where
  -- the answer of each call, and the turn that it leaves
  unfoldable pub task_answer : Task → Result (Unit {0}) Refusal
  task_answer (ask_first matrices out) = (first_step g t matrices out).answer
  task_answer (fold_first matrices u) = (uni_step g t matrices u w).answer
  task_answer (ask_pair j) = (pair_step g t j w).answer
  task_answer (fold_next j u) = (fold_step g t j u w).answer
  task_answer (ask_openings out) = (openings_step g t out w).answer

  unfoldable pub task_turn : Task → Turn
  task_turn (ask_first matrices out) = (first_step g t matrices out).turn
  task_turn (fold_first matrices u) = (uni_step g t matrices u w).turn
  task_turn (ask_pair j) = (pair_step g t j w).turn
  task_turn (fold_next j u) = (fold_step g t j u w).turn
  task_turn (ask_openings out) = (openings_step g t out w).turn

  -- what it leaves in the work buffers, which the first polynomial is not lent and pair and openings are lent shared, and in the slice that is lent for the
  -- first polynomial or the openings
  unfoldable pub task_work : Task → Work
  task_work (ask_first matrices out) = w
  task_work (fold_first matrices u) = uni_work g t matrices u w
  task_work (ask_pair j) = w
  task_work (fold_next j u) = fold_work g t j u w
  task_work (ask_openings out) = w

  unfoldable pub task_slice : Task → List ℕ
  task_slice (ask_first matrices out) = first_out g t matrices out
  task_slice (fold_first matrices u) = []
  task_slice (ask_pair j) = []
  task_slice (fold_next j u) = []
  task_slice (ask_openings out) = openings_out g t out w

  -- what it returns where it is accepted
  unfoldable pub task_reply : Task → Reply
  task_reply (ask_first matrices out) = first_sent (first_out g t matrices out)
  task_reply (fold_first matrices u) = folded
  task_reply (ask_pair j) = paired (pair_step g t j w).one (pair_step g t j w).two
  task_reply (fold_next j u) = folded
  task_reply (ask_openings out) = opened (openings_out g t out w)

-- the slice that is lent for the first polynomial or the openings
unfoldable pub lent_slice : Task → List ℕ
lent_slice (ask_first matrices out) = out
lent_slice (fold_first matrices u) = []
lent_slice (ask_pair j) = []
lent_slice (fold_next j u) = []
lent_slice (ask_openings out) = out

-- what an accepted call adds to the list's matrices, first polynomial, challenges, pairs and openings
unfoldable pub lent_by : Task → List ℕ → List ℕ
lent_by (ask_first matrices out) old = matrices
lent_by (fold_first matrices u) old = old
lent_by (ask_pair j) old = old
lent_by (fold_next j u) old = old
lent_by (ask_openings out) old = old

unfoldable pub challenge_of : Task → List Elem
challenge_of (ask_first matrices out) = []
challenge_of (fold_first matrices u) = elem_of u ∷ []
challenge_of (ask_pair j) = []
challenge_of (fold_next j u) = elem_of u ∷ []
challenge_of (ask_openings out) = []

unfoldable pub first_in : Reply → Option (List ℕ) → Option (List ℕ)
first_in (refused k) old = old
first_in (first_sent out) old = some out
first_in folded old = old
first_in (paired one two) old = old
first_in (opened out) old = old

unfoldable pub pair_in : Reply → List ℕ
pair_in (refused k) = []
pair_in (first_sent out) = []
pair_in folded = []
pair_in (paired one two) = one ++ two
pair_in (opened out) = []

unfoldable pub openings_in : Reply → Option (List ℕ) → Option (List ℕ)
openings_in (refused k) old = old
openings_in (first_sent out) old = old
openings_in folded old = old
openings_in (paired one two) old = old
openings_in (opened out) old = some out

-- the buffers that are lent; and the run's own after the call, which only a call that is lent them writes
unfoldable pub lent_work : Buffers → Work → Work
lent_work own mine = mine
lent_work (other w) mine = w

unfoldable pub kept_work : Buffers → Work → Work → Work
kept_work own left mine = left
kept_work (other w) left mine = mine
