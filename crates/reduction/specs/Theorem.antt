-- Demand 3, whole: of every list of a run's calls from what an accepted start left, and of whatever is sent to the verdict. And there are such lists: from
-- every accepted start the calls in their order are accepted, and an honest batch is accepted from its traces to its verdict. And its price: how many
-- challenges let a false claim pass.
--
-- What a yes means. It says that the weighted claims are the first polynomial's sum over the skip subgroup, and that the rounds lead from its value at u_0 to
-- the final sum of the openings. If the openings are the true values of the stacked columns, then the weighted claims are the weighted sum of the trace
-- columns' true openings, or in some round, round zero included, the sent and the honest polynomial differ and agree at the challenge, which was one of two
-- at most, of 2^(l_skip + 1) − 2 in round zero, settled before it was drawn (`sent`). The verdict checks neither that the openings are true nor that lambda
-- and the challenges were drawn after what they bind; and a later challenge of 1 or 2 lets a wrong value at u_0 pass with honest pairs (`lists`, its
-- `verdicts`). On a run's own first polynomial a yes says that the weighted claims are true, whatever the challenges (its `own_verdicts`).
use Rattle.std.specs.Prelude.{List, ℕ}
use Rattle.verifier.specs.Asked.{Asked}
use Rattle.prover.specs.declared.turns.Turn.{Turn}
use Rattle.prover.specs.Given.{Given, Work}
use Rattle.reduction.specs.Calls.{Call}
use Rattle.reduction.specs.Lists.{begun, Started, Proper}
use Rattle.reduction.specs.Demand.{Demand3}
use Rattle.reduction.specs.Sent.{SentPairs}
use Rattle.reduction.specs.HonestRun.{Lent, HonestRun}
use Rattle.reduction.specs.HonestBatch.{Batches}
use Rattle.reduction.specs.Price.{Price}

pub record Demand : Type 0 where
  pub lists : (g : Given) (t : Turn) (w : Work) → Started g t w → (cs : List Call) → Proper g (begun g t w) cs → Demand3 g (begun g t w) cs
  pub sent : (a : Asked) (matrices : List ℕ) → SentPairs a matrices
  pub honest : (g : Given) (t : Turn) (w : Work) → Started g t w → (matrices u : List ℕ) (vs : List (List ℕ)) → Lent g matrices u vs
      → HonestRun g (begun g t w) matrices u vs
  pub batch : Batches
  pub price : Price
