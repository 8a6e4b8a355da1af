use Rattle.std.proofs.Common.{◌∙◌, arith}
use Rattle.prover.proofs.WordSums.{plus_is}
use Rattle.prover.proofs.canonical.plus.Goals as goal

pub returns : goal.returns
returns c = c.brought_up.ensures ∙ plus_is _ _ _ c.requires.a_lt_p c.requires.b_lt_p (omega arith) c.wrapping_sub_u32-t.ensures.value
