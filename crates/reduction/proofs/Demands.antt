-- Demand 3, proved.
use Rattle.reduction.specs.Theorem.{Demand}
use Rattle.reduction.proofs.SentPairs.{sent_pairs}
use Rattle.reduction.proofs.HonestRuns.{honest-run}
use Rattle.reduction.proofs.ListDemands.{every_list}
use Rattle.reduction.proofs.Batches.{batches}
use Rattle.reduction.proofs.Prices.{price}

pub demand : Demand
demand = record { lists = every_list; sent = sent_pairs; honest = honest-run; batch = batches; price = price }
