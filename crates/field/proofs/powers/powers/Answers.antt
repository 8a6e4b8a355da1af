use mathlib.Core.Path.{refl}
use Rattle.field.proofs.PowerTable.{power_table}
use Rattle.field.proofs.powers.powers.Goals as goal

pub returns : goal.returns
returns c = power_table _ refl tt refl
