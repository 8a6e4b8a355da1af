use mathlib.Core.Path.{◌≡◌, sym, ◌∙◌, ap}
use Rattle.layout.proofs.ColumnWalks.{walk_start, walk_turn}
use Rattle.weights.proofs.PowerWalks.{power_start, power_turn, sum_start}
use Rattle.verifier.specs.declared.column_weights.HeightWeight.{HeightWeight}
use Rattle.verifier.specs.declared.column_weights.UpperWeight.{UpperWeight}
use Rattle.verifier.specs.HeightKernels.{height_of}
use Rattle.verifier.specs.RowKernels.{upper_of}
use Rattle.verifier.proofs.FinalTurns.{final_turn, final_end, column_pointed}
use native.Mathlib.Omega.{arith}
use Rattle.verifier.proofs.final_sum.final_sum.Goals as goal

pub height_weight-w-requires : goal.height_weight-w-requires
height_weight-w-requires c = column_pointed c.requires 0 _ c.requires.some (walk_start c.requires.walked _ c.walk_first-c.ensures)

pub loop-k-init : goal.loop-k-init
loop-k-init c = (
  omega arith,
  walk_start c.requires.walked _ c.walk_first-c.ensures,
  power_start _ c.from_word-power.ensures,
  c.height_weight-w.ensures ∙ ap (λ (x : HeightWeight). height_of c.args.asked.l_skip x.log x.flag c.args.asked.lambda c.args.asked.r.now c.args.asked.challenges.now) (sym c.height_weight-w.ensures),
  c.upper_weight-q.ensures ∙ ap (λ (x : UpperWeight). upper_of c.args.asked.n_stack x.lift x.upper c.args.asked.challenges.now) (sym c.upper_weight-q.ensures),
  sum_start _ c.from_word-sum.ensures,
)

pub loop-k-preserved : goal.loop-k-preserved
loop-k-preserved c = (
  omega arith,
  walk_turn c.requires.walked _ _ _ (omega arith) c.loop-k.invariant.1 c.walk_next-c.ensures,
  power_turn _ _ c.loop-k.invariant.2 c.square-step.ensures c.mul-p.ensures,
  c.renewed-w.ensures ∙ ap (λ (x : HeightWeight). height_of c.args.asked.l_skip x.log x.flag c.args.asked.lambda c.args.asked.r.now c.args.asked.challenges.now) (sym c.renewed-w.ensures),
  c.renewed_upper-q.ensures ∙ ap (λ (x : UpperWeight). upper_of c.args.asked.n_stack x.lift x.upper c.args.asked.challenges.now) (sym c.renewed_upper-q.ensures),
  final_turn c.args.asked.l_skip c.args.asked.n_stack c.args.shape.first c.args.asked.lists.now c.args.asked.r.now c.args.asked.lambda c.args.asked.challenges.now c.args.asked.openings.now _ _ c.loop-k.invariant.1 c.loop-k.invariant.5 c.loop-k.invariant.2 (ap (λ (x : HeightWeight). x.weight) c.renewed-w.ensures) c.row_weight-bits.ensures c.load-opening.ensures c.column_term-x.ensures c.add-s.ensures,
)

pub returns : goal.returns
returns c =
    let done : c.loop-k._k ≡ c.args.shape.columns = omega arith in
    final_end c.args.asked.l_skip c.args.asked.n_stack c.args.shape.first c.args.asked.lists.now c.args.asked.r.now c.args.asked.lambda c.args.asked.challenges.now c.args.asked.openings.now _ c.requires _ done c.loop-k.invariant.5
