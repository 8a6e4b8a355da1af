-- What the program `plan` prints of a layout. Bytes: 10 newline, 32 space.
use Rattle.std.specs.Prelude.{Result, ℕ, zero, suc, ◌+◌, ◌*◌, ◌/◌, min, List, [], ◌∷◌, ◌++◌, length, get_or}
use Rattle.field.specs.Number.{refusal_number}
use Rattle.std.specs.declared.result.Result.TheVariants.{Ok, Err}
use Rattle.field.specs.declared.answer.Refusal.{Refusal}
use Rattle.layout.specs.declared.stacked_pcs.StackedLayout.{StackedLayout}
use Rattle.text.specs.Printed.{decimal_of, record_of}

-- a number in decimal, and the byte behind it
abbrev pub behind : ℕ → ℕ → List ℕ
behind x byte = decimal_of x ++ byte ∷ []

-- `refused`, a space and the number
unfoldable pub refusal : ℕ → List ℕ
refusal number = (114 ∷ 101 ∷ 102 ∷ 117 ∷ 115 ∷ 101 ∷ 100 ∷ 32 ∷ []) ++ behind number 10

-- stack width, H and the number of columns
unfoldable pub header : StackedLayout → List ℕ
header p = behind p.width 32 ++ behind p.height 32 ++ behind p.columns 10

-- record k of two words each, and the first k, a line each
abbrev pub record_line : List ℕ → ℕ → List ℕ
record_line records k = record_of (get_or records (2 * k) 0) (get_or records (2 * k + 1) 0) ++ 10 ∷ []

unfoldable pub record_lines : List ℕ → ℕ → List ℕ
record_lines records zero = []
record_lines records (suc k) = record_lines records k ++ record_line records k

unfoldable pub printed : Result StackedLayout Refusal → List ℕ → List ℕ
printed (Ok p) records = header p ++ record_lines records (min p.columns (length records / 2))
printed (Err e) records = refusal (refusal_number e)
