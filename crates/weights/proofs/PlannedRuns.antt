-- Lists that are not refused give a run that the laws of the weighted sum are about.
use mathlib.Core.List.{List}
use Prim.Native.Nat.{ℕ}
use Rattle.tables.proofs.PointLaws.{coordinates-length}
use Rattle.layout.specs.Lists.{first_count}
use Rattle.layout.proofs.RunLaws.{Listed}
use Rattle.weights.specs.RunOf.{run_of}
use Rattle.weights.specs.Fits.{Planned}
use Rattle.weights.proofs.PlacedColumns.{column_fits}

pub planned-run : (l n : ℕ) (counts lists r lambda : List ℕ) → Listed l n counts lists → Planned (run_of l n (first_count counts) lists r lambda)
planned-run l n counts lists r lambda listed =
    record { limit = listed.laid.shaped.skip; point = coordinates-length r 1 n; fits = column_fits listed }
