-- Numbers as decimal digits, the most significant first.
use Rattle.std.specs.Prelude.{ℕ, ◌+◌, ◌*◌, ◌-◌, ◌≤◌, ◌<◌, List, [], ◌∷◌}
use Rattle.text.specs.Reading.{Reader, step_of}

-- the value that digits make of a value before them
unfoldable pub value_from : ℕ → List ℕ → ℕ
value_from v [] = v
value_from v (d ∷ ds) = value_from (v * 10 + (d - 48)) ds

-- every byte is a digit
unfoldable pub Digits : List ℕ → Type 0
Digits [] = Unit
Digits (d ∷ ds) = (48 ≤ d) × (d < 58) × Digits ds

-- what is left of a reader after some bytes, none a newline
unfoldable pub steps_of : Reader → List ℕ → Reader
steps_of s [] = s
steps_of s (b ∷ bs) = steps_of (step_of s b) bs
