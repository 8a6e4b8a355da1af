use mathlib.Core.Path.{◌≡◌}
use Prim.Native.Nat.{◌*◌, ◌≤◌}
use Rattle.algebra.specs.Ring.{pow}
use Rattle.algebra.specs.Sum as Sum
use Rattle.field.specs.Element.{F, elem_of, words_of}
use Rattle.layout.specs.Columns.{column_at}
use Rattle.verifier.specs.HeightKernels.{height_of}
use Rattle.verifier.specs.RowKernels.{upper_of}
use Rattle.verifier.proofs.FinalTurns.{final_term}
use Rattle.verifier.proofs.final_sum.final_sum.Given as goal

abbrev pub invariant-loop-k : goal.invariant-loop-k
invariant-loop-k l = (l._k ≤ l.shape.columns) × (l.c ≡ column_at l.asked.l_skip l.asked.n_stack l.shape.first l.asked.lists.now l._k) × (l.power ≡ words_of (pow F (elem_of l.asked.lambda) (2 * l._k))) × (l.w ≡ height_of l.asked.l_skip l.w.log l.w.flag l.asked.lambda l.asked.r.now l.asked.challenges.now) × (l.q ≡ upper_of l.asked.n_stack l.q.lift l.q.upper l.asked.challenges.now) × (l.sum ≡ words_of (Sum.sum F l._k (final_term l.asked.l_skip l.asked.n_stack l.shape.first l.asked.lists.now l.asked.r.now l.asked.lambda l.asked.challenges.now l.asked.openings.now)))
