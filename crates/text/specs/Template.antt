-- A template: text in which each mark `@` stands for a number in decimal, the first mark for the first number and so on.
use Rattle.std.specs.Prelude.{ℕ, ◌+◌, cond, List, [], ◌∷◌, ◌++◌, get_or, eqb}
use Prim.Native.Char.{code}
use Prim.Native.String.{String}
use Prim.Native.String.{[] as none, ◌∷◌ as ◌before◌}
use Rattle.text.specs.Printed.{decimal_of}

-- the bytes of a text of ASCII characters
unfoldable pub bytes_of : String → List ℕ
bytes_of none = []
bytes_of (c before s) = code c ∷ bytes_of s

-- what a byte stands for where the next number is x; 64 is `@`
unfoldable pub stands_for : ℕ → ℕ → List ℕ
stands_for b x = cond (eqb b 64) (decimal_of x) (b ∷ [])

-- the marks passed after a byte
unfoldable pub marks_after : ℕ → ℕ → ℕ
marks_after b k = cond (eqb b 64) (k + 1) k

-- the k-th number, 0 past the last
abbrev pub number_at : List ℕ → ℕ → ℕ
number_at numbers k = get_or numbers k 0

-- a template with its numbers from the k-th on
unfoldable pub instance_from : List ℕ → ℕ → List ℕ → List ℕ
instance_from numbers k [] = []
instance_from numbers k (b ∷ bs) = stands_for b (number_at numbers k) ++ instance_from numbers (marks_after b k) bs

abbrev pub instance_of : List ℕ → List ℕ → List ℕ
instance_of template numbers = instance_from numbers 0 template
