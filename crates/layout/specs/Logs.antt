-- The stacking call's list has heights in place of log heights. Document 01: a trace height must have exactly one bit set,
-- at width 0 too; the count of trailing zeros gives its log.
use Rattle.std.specs.Prelude.{ℕ, ◌*◌, ◌%◌, cond, not, List, get_or, eqb}
use Rattle.std.specs.Int.Count.{ones, count_trailing_zeros}
use Rattle.algebra.specs.Listed.{listed}
use Rattle.layout.specs.Checks.{refuse, first_of}
use Rattle.layout.specs.Triples.{count_of, log_at}

-- word k of the list with log heights
unfoldable pub log_word : List ℕ → ℕ → ℕ
log_word list k = cond (eqb (k % 3) 1) (count_trailing_zeros 32 (get_or list k 0)) (get_or list k 0)

abbrev pub logged : List ℕ → List ℕ
logged list = listed (3 * count_of list) (log_word list)

-- 3: a height lacks its one bit
unfoldable pub height_number : List ℕ → ℕ → ℕ
height_number list i = refuse 3 (not (eqb (ones (log_at list i)) 1))

abbrev pub heights_number : List ℕ → ℕ
heights_number list = first_of (count_of list) (height_number list)
