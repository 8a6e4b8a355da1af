use mathlib.Core.Path.{◌≡◌, ◌∙◌, ap}
use Rattle.field.specs.Slice.{elem_at}
use Rattle.layout.specs.declared.columns.Column.{Column}
use Rattle.layout.proofs.ColumnWalks.{columns_few, walk_start, walk_turn}
use Rattle.weights.specs.RunOf.{run_of}
use Rattle.weights.proofs.ClaimCounts.{few_claims}
use Rattle.verifier.proofs.ClaimTurns.{weighing_start, weighing_turn, weighing_end}
use native.Mathlib.Omega.{arith}
use Rattle.verifier.proofs.claims.weighted_claims.Goals as goal

pub loop-k-init : goal.loop-k-init
loop-k-init c = (omega arith, omega arith, walk_start c.requires _ c.walk_first-c.ensures, λ point. weighing_start _ _ c.from_word-zero.ensures c.from_word-one.ensures)

pub add_rotated-w-requires : goal.add_rotated-w-requires
add_rotated-w-requires c = omega (arith, columns_few c.requires)

pub overflow_add-i : goal.overflow_add-i
overflow_add-i c = omega (arith, columns_few c.requires, few_claims _ c.claims_of-i.ensures)

pub loop-k-preserved : goal.loop-k-preserved
loop-k-preserved c = (
  omega arith,
  omega (arith, few_claims _ c.claims_of-i.ensures),
  walk_turn c.requires _ _ _ (omega arith) c.loop-k.invariant.2 c.walk_next-c.ensures,
  λ point. weighing_turn (run_of c.args.asked.l_skip c.args.asked.n_stack c.args.shape.first c.args.asked.lists.now point c.args.asked.lambda) (elem_at c.args.asked.claims.now) _ (c.loop-k.invariant.3 point) (ap (λ (x : Column). x.flag) c.loop-k.invariant.2) c.claims_of-i.ensures c.add_plain-plain.ensures c.add_rotated-w.ensures,
)

pub returns : goal.returns
returns c =
    let done : c.loop-k._k ≡ c.args.shape.columns = omega arith in
    λ point. weighing_end (run_of c.args.asked.l_skip c.args.asked.n_stack c.args.shape.first c.args.asked.lists.now point c.args.asked.lambda) (elem_at c.args.asked.claims.now) _ (done ∙ c.requires.all) (c.loop-k.invariant.3 point)
