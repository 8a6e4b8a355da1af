use mathlib.Core.Path.{sym, ◌∙◌}
use native.Mathlib.Omega.{arith}
use Rattle.layout.proofs.Slices.{slice-tall, slice-short}
use Rattle.layout.proofs.placing.slice_len.Goals as goal

pub returns-then-l_skip-log : goal.returns-then-l_skip-log
returns-then-l_skip-log c = c.pow2.ensures ∙ sym (slice-tall _ _ c.if-l_skip-log.true)

pub returns : goal.returns
returns c = c.pow2-2.ensures ∙ sym (slice-short _ _ (omega arith))
