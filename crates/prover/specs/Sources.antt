-- What the first polynomial is made of, and what its loops ask of it.
use Rattle.std.specs.Prelude.{◌≡◌, ℕ, ◌+◌, ◌*◌, ◌^◌, true, length}
use Rattle.field.specs.Canonical.{Canonical}
use Rattle.field.specs.Element.{Elem, F, ◌⊗◌, words_of}
use Rattle.field.specs.PowerTable.{PowerTable}
use Rattle.field.specs.Powers.{root}
use Rattle.field.specs.Slice.{elem_at, canonical_words}
use Rattle.tables.specs.AtField.{eq_uni_f}
use Rattle.weights.specs.Run.{Run}
use Rattle.weights.specs.RunOf.{run_of}
use Rattle.prover.specs.declared.first.Source.{Source}
use Rattle.prover.specs.RowSum.{from_words}
use Rattle.prover.specs.Live.{Placed}

abbrev pub run_from : Source → Run Elem
run_from s = run_of s.l_skip s.n_stack s.first s.lists.now s.r.now s.lambda

abbrev pub cells_of : Source → ℕ → Elem
cells_of s = from_words s.matrices.now

pub record Taken (s : Source) : Type 0 where
  pub placed : Placed s.l_skip s.n_stack s.first s.lists.now s.columns s.stacked
  pub r_len : length s.r.now ≡ 4 * (s.n_stack + 1)
  pub r_value : canonical_words s.r.now ≡ true
  pub canonical : Canonical s.lambda
  pub matrices_len : length s.matrices.now ≡ s.stacked * 2 ^ (s.l_skip + s.n_stack)
  pub power_table : PowerTable s.powers.now
  pub wrap_value : s.wrap ≡ words_of (eq_uni_f s.l_skip (root s.l_skip ⊗ elem_at s.r.now 0) F.one)
