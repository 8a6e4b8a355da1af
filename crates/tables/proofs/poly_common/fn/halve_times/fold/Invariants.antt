use mathlib.Core.Path.{◌≡◌}
use Rattle.field.specs.Element.{◌⊗◌, half_elem, elem_of, words_of}
use Rattle.tables.proofs.poly_common.fn.halve_times.fold.Given as goal

abbrev pub ensures : goal.ensures
ensures l r = r ≡ words_of (half_elem ⊗ elem_of l.x)
