use mathlib.Core.Path.{◌≡◌}
use Rattle.field.specs.Element.{◌⊗◌, elem_of, words_of}
use Rattle.field.proofs.element.fn.exp_power_of_2.fold.Given as goal

abbrev pub ensures : goal.ensures
ensures l r = r ≡ words_of (elem_of l.x ⊗ elem_of l.x)
