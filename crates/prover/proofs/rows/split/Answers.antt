use Rattle.std.proofs.Common.{refl}
use Rattle.field.specs.Slice.{canonical_words}
use Rattle.prover.proofs.CoefficientTables.{splitting_start, splitting_turn, splitting_end}
use Rattle.prover.proofs.rows.split.Goals as goal

pub loop-i-init : goal.loop-i-init
unfolding canonical_words
loop-i-init c = splitting_start _ _ _ refl refl

pub loop-i-preserved : goal.loop-i-preserved
loop-i-preserved c = splitting_turn _ _ c.loop-i.invariant c.loop-i-test.true c.requires.k_value

pub returns : goal.returns
returns c = splitting_end _ _ c.loop-i.invariant c.loop-i-test.false c.requires.groups_bound
