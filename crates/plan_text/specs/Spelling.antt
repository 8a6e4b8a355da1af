-- Document 01's text of the program `plan`: decimal numbers below 2³², one space between, a newline after each line. The first
-- line is l_skip and n_stack, and each line after it a matrix of three numbers.
use Rattle.std.specs.Prelude.{ℕ, ◌+◌, ◌%◌, ◌<◌, ◌≡◌, List, [], ◌∷◌, ◌++◌, length}
use Rattle.text.specs.Numeral.{value_from, Digits}
use Rattle.plan_text.specs.Steps.{ending}

-- the digits spell x, a number below 2³²
pub record Numeral (x : ℕ) (text : List ℕ) : Type 0 where
  pub some : 0 < length text
  pub digits : Digits text
  pub value : value_from 0 text ≡ x
  pub small : x < 4294967296

-- the text is the numbers from the k-th on, each in digits and with the byte behind it that its place asks
unfoldable pub Spelled : ℕ → List ℕ → List ℕ → Type 0
Spelled k [] text = text ≡ []
Spelled k (x ∷ xs) text = (ds : List ℕ) × (rest : List ℕ) × Numeral x ds × (text ≡ ds ++ ending k ∷ rest) × Spelled (k + 1) xs rest

-- a whole text of these numbers: two on the first line, and lines of three
pub record Text (numbers text : List ℕ) : Type 0 where
  pub lines : length numbers % 3 ≡ 2
  pub spelled : Spelled 0 numbers text
