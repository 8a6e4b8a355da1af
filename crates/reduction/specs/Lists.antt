-- Lists of calls, run from what an accepted start left. Document 01: each call gets the turn as the last one left it; accepted calls get the work
-- buffers as they were left and the run's l_skip, n_stack, lists, r and lambda; beside the turn, a refused one may get anything. Document 02: the first
-- polynomial and the fold at u_0 are lent the same stacked matrices.
use Rattle.std.specs.Prelude.{◌≡◌, ◌⊎◌, List, [], ◌∷◌}
use Rattle.std.proofs.Math.Option.{none}
use Rattle.std.specs.declared.result.Result.TheVariants.{Ok}
use Rattle.prover.specs.declared.turns.Turn.{Turn}
use Rattle.prover.specs.Given.{Given, Work}
use Rattle.prover.specs.Calls.{start_step, start_work}
use Rattle.reduction.specs.Calls.{Task, ask_first, fold_first, ask_pair, fold_next, ask_openings, own, Call, State, Event}
use Rattle.reduction.specs.Steps.{call_number, step}

-- what a start of the run g leaves, handed any turn and lent the buffers w
unfoldable pub begun : Given → Turn → Work → State
begun g t w = record { turn = (start_step g t w).turn; work = start_work g w; matrices = []; first = none; challenges = []; pairs = []; openings = none }

-- an accepted start
abbrev pub Started : Given → Turn → Work → Type 0
Started g t w = (start_step g t w).answer ≡ Ok tt

-- the events of a list, and what it leaves
unfoldable pub events : State → List Call → List Event
events s [] = []
events s (c ∷ cs) = step s c ∷ events (step s c).after cs

unfoldable pub outcome : State → List Call → State
outcome s [] = s
outcome s (c ∷ cs) = outcome (step s c).after cs

-- the fold at u_0 is lent the matrices that the first polynomial was lent; no call can see it
unfoldable pub SameMatrices : State → Task → Type 0
SameMatrices s (ask_first matrices out) = Unit {0}
SameMatrices s (fold_first matrices u) = matrices ≡ s.matrices
SameMatrices s (ask_pair j) = Unit {0}
SameMatrices s (fold_next j u) = Unit {0}
SameMatrices s (ask_openings out) = Unit {0}

-- a call with the run's own arguments, its own buffers and its own matrices
pub record Ours (g : Given) (s : State) (c : Call) : Type 0 where
  pub given : c.given ≡ g
  pub buffers : c.buffers ≡ own
  pub lent : SameMatrices s c.task

-- of accepted calls this is asked, of refused ones nothing
unfoldable pub Proper : Given → State → List Call → Type 0
Proper g s [] = Unit {0}
Proper g s (c ∷ cs) = (call_number s c ≡ 0 → Ours g s c) × Proper g (step s c).after cs

-- one of a list
unfoldable pub Among : Event → List Event → Type 0
Among e [] = ⊥
Among e (f ∷ fs) = (e ≡ f) ⊎ Among e fs
