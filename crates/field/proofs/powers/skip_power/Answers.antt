use mathlib.Core.Path.{◌∙◌}
use Rattle.field.proofs.PowerTable.{index_small, indexed}
use Rattle.field.proofs.powers.skip_power.Goals as goal

pub power-requires : goal.power-requires
power-requires c = index_small c.args.l_skip _ c.args.i c.min-l.ensures

pub returns : goal.returns
returns c = c.power.ensures ∙ indexed c.args.l_skip _ c.args.i c.min-l.ensures
