-- The claims of all columns of given lists, which no point and no lambda changes.
use Rattle.std.specs.Prelude.{List, [], ℕ}
use Rattle.layout.specs.Triples.{column_count}
use Rattle.layout.specs.Lists.{first_count}
use Rattle.weights.specs.LambdaPowers.{claims_before}
use Rattle.weights.specs.RunOf.{run_of}

abbrev pub claim_count : ℕ → ℕ → List ℕ → List ℕ → ℕ
claim_count l n counts lists = claims_before (run_of l n (first_count counts) lists [] []) (column_count lists)
