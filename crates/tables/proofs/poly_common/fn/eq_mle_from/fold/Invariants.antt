use mathlib.Core.Path.{◌≡◌}
use Rattle.field.specs.Element.{◌⊗◌, elem_of, words_of}
use Rattle.field.specs.Slice.{elem_at}
use Rattle.tables.proofs.KernelLoops.{eq_factor}
use Rattle.tables.proofs.poly_common.fn.eq_mle_from.fold.Given as goal

abbrev pub ensures : goal.ensures
ensures l r = r ≡ words_of (elem_of l.acc ⊗ eq_factor (elem_at l.x.entry.now l.k) (elem_at l.y.entry.now l.k))
