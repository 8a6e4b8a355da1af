use Rattle.std.proofs.Common.{[], refl, ◌∙◌, arith}
use Rattle.layout.proofs.ColumnWalks.{columns_few, walk_start, walk_turn}
use Rattle.weights.specs.RunOf.{run_of}
use Rattle.weights.proofs.ClaimCounts.{few_claims, claims-within}
use Rattle.prover.proofs.KernelRows.{order_small}
use Rattle.prover.proofs.ColumnParts.{column-inside, column_lift}
use Rattle.prover.proofs.ClaimSums.{order_code}
use Rattle.prover.proofs.ClaimWalk.{claimed_start, claimed_turn, claims_room, claimed_end, kernels_known, kernels_next, kernels_order}
use Rattle.prover.proofs.claims.column_claims.Goals as goal

pub loop-k-init : goal.loop-k-init
loop-k-init c = (omega arith, refl, refl, refl, walk_start c.requires.placed.walked _ c.walk_first-c.ensures, λ o h. cc, claimed_start c.requires.placed _ _ _)

pub open_column-more-requires : goal.open_column-more-requires
open_column-more-requires c =
    let p = c.requires.placed in
    let k = c.loop-k-test.true in
    let here = c.loop-k.invariant.4 in
    let few = order_small c.args.given.l_skip p.limit refl in record { l_skip_bound = (p.limit, omega (arith, column_lift p _ k here, p.stack)); l_skip_in_bounds = omega (arith, column-inside p _ k here, c.requires.matrices_len); l_skip_in_bounds_2 = omega (arith, column_lift p _ k here, c.requires.r_len); r_value = c.requires.r_value; l_skip_in_bounds_3 = (omega (arith, few, c.kernels_at.auto.plain, c.loop-k.invariant.2), omega (arith, few, c.kernels_at.auto.rotated, c.loop-k.invariant.3), omega (arith, few, c.loop-k.invariant.1)); order_kernels = kernels_order _ (order_code _ _ c.lifted.ensures c.lifted-o.ensures) c.kernels_at.ensures; flag_in_bounds = claims_room p _ _ _ _ k here c.loop-k.invariant.6 c.requires.by_index (c.loop-k.invariant.6.written []).length_kept }

pub loop-k-preserved : goal.loop-k-preserved
loop-k-preserved c = (
  omega arith,
  c.open_column-more.auto.acc ∙ c.loop-k.invariant.1,
  c.kernels_at.auto.plain ∙ c.loop-k.invariant.2,
  c.kernels_at.auto.rotated ∙ c.loop-k.invariant.3,
  walk_turn c.requires.placed.walked _ _ _ c.loop-k-test.true c.loop-k.invariant.4 c.walk_next-c.ensures,
  (λ o. kernels_next c.kernels_at.ensures),
  claimed_turn c.requires.placed _ _ _ _ c.loop-k-test.true c.loop-k.invariant.4 c.loop-k.invariant.6 c.open_column-more.ensures.value c.open_column-more.ensures.written,
)

pub overflow_add-i : goal.overflow_add-i
overflow_add-i c = omega (arith, few_claims _ c.open_column-more.ensures.value, claims-within (run_of c.args.given.l_skip c.args.given.n_stack c.args.made.first c.args.given.lists.now c.args.given.r.now []) c.loop-k._k, c.loop-k.invariant.6.index [], columns_few c.requires.placed.walked, c.loop-k.invariant.0)

pub kernels_at-requires : goal.kernels_at-requires
kernels_at-requires c =
    let low = c.requires.placed.limit in
    let few = order_small c.lifted-o.result (omega (arith, c.lifted-o.ensures)) refl in
    record { l_skip_bound = (low, omega (arith, c.lifted-o.ensures)); o_in_bounds = omega (arith, few, c.loop-k.invariant.2); o_in_bounds_2 = omega (arith, few, c.loop-k.invariant.3); order_kernels = kernels_known _ c.loop-k.invariant.5 c.eq.ensures }

pub returns : goal.returns
returns c = claimed_end c.requires.placed _ _ _ c.loop-k.invariant.0 c.loop-k-test.false c.loop-k.invariant.6 c.requires.by_index
