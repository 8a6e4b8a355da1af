use mathlib.Core.Path.{◌∙◌}
use borrow.Author.Rules.{rules}
use Rattle.field.proofs.FourWords.{canonical_words_four}
use Rattle.field.proofs.slice.canonical_four.Goals as goal

pub returns : goal.returns
returns c = c.canonical.ensures ∙ canonical_words_four _ (search rules)
