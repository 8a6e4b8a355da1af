-- What the weights ask holds for lists that no lower number refuses.
use mathlib.Core.Path.{◌≡◌, sym, subst}
use mathlib.Core.List.{List}
use Prim.Native.Nat.{ℕ, ◌+◌, ◌-◌, ◌*◌, ◌<◌}
use native.Mathlib.Omega.{arith}
use lib.ListN.{length}
use Rattle.layout.specs.Triples.{column_count}
use Rattle.layout.specs.Columns.{column_at}
use Rattle.layout.specs.Lists.{first_count}
use Rattle.layout.proofs.RunLaws.{Listed}
use Rattle.weights.specs.Fits.{Fits}
use Rattle.weights.proofs.PlacedColumns.{some-column, column_fits, lists_walked}
use Rattle.verifier.specs.Walked.{Placed}

module _ {l n : ℕ} {counts lists : List ℕ} (listed : Listed l n counts lists) (first columns : ℕ) (is_first : first ≡ first_count counts) (all : columns ≡ column_count lists) where
  pub lists-placed : (r challenges : List ℕ) → length r ≡ 4 * (n + 1) → length challenges ≡ 4 * (n + 1) → Placed l n first lists columns r challenges
  lists-placed r challenges e f = record {
    walked = lists_walked listed first columns is_first all;
    some = omega (arith, some-column (first_count counts) (length counts - 1) lists listed.filled);
    fits = subst (λ m. (k : ℕ) → k < column_count lists → Fits l n (column_at l n m lists k).log (column_at l n m lists k).start) (sym is_first) (column_fits listed);
    point = e;
    all = f;
  }
