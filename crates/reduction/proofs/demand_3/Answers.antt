-- `demand_3` meets its contract: demand 3 is proved. Assumes nothing.
use Rattle.reduction.proofs.Demands.{demand}
use Rattle.reduction.proofs.demand_3.Goals as goal

pub returns : goal.returns
returns c = demand
