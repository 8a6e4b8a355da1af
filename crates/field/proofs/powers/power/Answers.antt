use borrow.Author.Rules.{rules}
use Rattle.field.proofs.PowerTable.{generator-entry}
use Rattle.field.proofs.powers.power.Goals as goal

-- The list is the constant's: the step rule is computed over it.
pub returns : goal.returns
returns c = search (rules, generator-entry)
