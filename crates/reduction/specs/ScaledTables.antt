-- The eq tables that the fold at u_0 left before it made them from r: each entry of those that it is lent times its height's factor. In a run both are the
-- same words, whatever the calls.
use Rattle.std.specs.Prelude.{◌≡◌, List, ℕ}
use Rattle.field.specs.Element.{Elem, ◌⊗◌, elem_of, words_of}
use Rattle.prover.specs.declared.turns.Turn.{Turn}
use Rattle.prover.specs.Given.{Given, Work, run}
use Rattle.prover.specs.UniKernels.{eq_scale}
use Rattle.prover.specs.CallNumbers.{uni_number}
use Rattle.prover.specs.Calls.{leaves, tables, lent}
use Rattle.reduction.specs.Calls.{fold_first, Call, Event}
use Rattle.reduction.specs.Steps.{lent_to}
use Rattle.reduction.specs.Lists.{begun, Started, events, Proper, Among}

unfoldable pub scaled_eq : Given → Elem → List ℕ → List ℕ
scaled_eq g u eq = tables g.skip g.stack g.lists (λ h x. words_of (lent g u eq h x ⊗ eq_scale (run g) h u))

-- what such a fold leaves in eq_r, refused or not
unfoldable pub scaled_left : Given → Turn → List ℕ → List ℕ → Work → List ℕ
scaled_left g t matrices u w = leaves (uni_number g t matrices u w) (scaled_eq g (elem_of u) w.eq) w.eq

-- in every list of calls on what an accepted start left, every fold at u_0 leaves in eq_r what such a fold leaves there
pub record SameTables : Type 0 where
  pub same : (g : Given) (t : Turn) (w : Work) → Started g t w → (calls : List Call) → Proper g (begun g t w) calls
      → (e : Event) → Among e (events (begun g t w) calls) → (matrices u : List ℕ) → e.call.task ≡ fold_first matrices u
      → e.left.eq ≡ scaled_left e.call.given e.before.turn matrices u (lent_to e.before e.call)
