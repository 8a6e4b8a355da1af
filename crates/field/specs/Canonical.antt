-- Words below p, as what the functions under the total ones ask for.
use Rattle.std.specs.Prelude.{List, ℕ, ◌<◌, get_or}
use Rattle.field.specs.Word.{p}

pub record Below (a b c d : ℕ) : Type 0 where
  pub w0 : a < p
  pub w1 : b < p
  pub w2 : c < p
  pub w3 : d < p

-- the four words of an element
abbrev pub Canonical : List ℕ → Type 0
Canonical a = Below (get_or a 0 0) (get_or a 1 0) (get_or a 2 0) (get_or a 3 0)
