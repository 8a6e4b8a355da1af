-- `runs::there_number` meets its contract. Assumes nothing.
use mathlib.Core.Path.{refl, ◌∙◌, ap}
use Rattle.layout.specs.Answers.{answer_of}
use Rattle.layout.specs.Lists.{there_number}
use Rattle.layout.proofs.Answering.{zero_by, not_zero_by, refused_by}
use Rattle.layout.proofs.Firsts.{skip, stop}
use Rattle.layout.proofs.RunLaws.{columns-shaped, shaped-columns}
use Rattle.layout.proofs.runs.there_number.Goals as goal

pub returns-in_err-flags : goal.returns-in_err-flags
unfolding there_number answer_of
returns-in_err-flags c = refused_by _ _ _ _ c.flags.ensures c.in_err-flags.was c.from_residual.ensures.1 (stop _ _ _ refl (not_zero_by _ _ c.flags.ensures c.in_err-flags.was))

pub returns-in_err-columns : goal.returns-in_err-columns
unfolding there_number answer_of
returns-in_err-columns c = refused_by _ _ _ _ c.columns.ensures c.in_err-columns.was c.from_residual-in_err-columns.ensures.1 (skip _ _ (zero_by _ _ c.flags.ensures c.in_ok-flags.was) (stop _ _ _ refl (not_zero_by _ _ c.columns.ensures c.in_err-columns.was)))

pub laid-requires : goal.laid-requires
unfolding answer_of
laid-requires c = columns-shaped _ _ _ _ c.requires.0 c.requires.3 (zero_by _ _ c.columns.ensures c.in_ok-columns.was)

pub returns-in_err-laid : goal.returns-in_err-laid
unfolding there_number answer_of
returns-in_err-laid c = refused_by _ _ _ _ c.laid.ensures c.in_err-laid.was c.from_residual-in_err-laid.ensures.1 (skip _ _ (zero_by _ _ c.flags.ensures c.in_ok-flags.was) (skip _ _ (zero_by _ _ c.columns.ensures c.in_ok-columns.was) (stop _ _ _ refl (not_zero_by _ _ c.laid.ensures c.in_err-laid.was))))

pub empty_number-requires : goal.empty_number-requires
unfolding answer_of
empty_number-requires c = (c.requires.1, c.requires.2, shaped-columns _ _ _ (columns-shaped _ _ _ _ c.requires.0 c.requires.3 (zero_by _ _ c.columns.ensures c.in_ok-columns.was)))

pub returns : goal.returns
unfolding there_number answer_of
returns c = c.empty_number.ensures ∙ ap answer_of (skip _ _ (zero_by _ _ c.flags.ensures c.in_ok-flags.was) (skip _ _ (zero_by _ _ c.columns.ensures c.in_ok-columns.was) (skip _ _ (zero_by _ _ c.laid.ensures c.in_ok-laid.was) refl)))
