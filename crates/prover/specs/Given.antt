-- What every call of a run is given, each slice by its words: l_skip and n_stack, the lists, r and lambda; and the four work buffers.
use Rattle.std.specs.Prelude.{ℕ, List}
use Rattle.field.specs.Element.{Elem}
use Rattle.layout.specs.Triples.{column_count}
use Rattle.layout.specs.Lists.{first_count}
use Rattle.layout.specs.Placing.{stack_width}
use Rattle.weights.specs.Run.{Run}
use Rattle.weights.specs.RunOf.{run_of}
use Rattle.prover.specs.declared.given.Given as Rust

pub record Given : Type 0 where
  pub skip : ℕ
  pub stack : ℕ
  pub counts : List ℕ
  pub lists : List ℕ
  pub r : List ℕ
  pub lambda : List ℕ

abbrev pub given : ℕ → ℕ → List ℕ → List ℕ → List ℕ → List ℕ → Given
given l n counts lists r lambda = record { skip = l; stack = n; counts = counts; lists = lists; r = r; lambda = lambda }

abbrev pub given_of : Rust.Given → Given
given_of g = given g.l_skip g.n_stack g.counts.now g.lists.now g.r.now g.lambda

-- q_evals, eq_r, k_rot_r and eq_ub
pub record Work : Type 0 where
  pub q : List ℕ
  pub eq : List ℕ
  pub rot : List ℕ
  pub ub : List ℕ

abbrev pub work : List ℕ → List ℕ → List ℕ → List ℕ → Work
work q eq rot ub = record { q = q; eq = eq; rot = rot; ub = ub }

module _ (g : Given) where
  abbrev pub run : Run Elem
  run = run_of g.skip g.stack (first_count g.counts) g.lists g.r g.lambda

  -- the stack columns and the columns of all commitments
  abbrev pub stacked : ℕ
  stacked = stack_width g.skip g.stack (first_count g.counts) g.lists

  abbrev pub columns : ℕ
  columns = column_count g.lists
