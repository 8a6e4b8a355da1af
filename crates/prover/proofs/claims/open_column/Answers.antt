use Rattle.std.proofs.Common.{◌^◌, ap, ◌∙◌, arith}
use Rattle.field.proofs.Elements.{canonical_words_lem}
use Rattle.weights.proofs.ClaimCounts.{claims_one, claims_two, claims-some}
use Rattle.prover.proofs.WeightWalk.{put-length}
use Rattle.prover.proofs.ClaimSums.{order_code, kernel-asks, plain_canonical, rotated_canonical, rows_canonical, turned_canonical, plain-opened, rotated-opened, one_written, two_written}
use Rattle.prover.proofs.claims.open_column.Goals as goal

pub kernel_sum-x-requires : goal.kernel_sum-x-requires
kernel_sum-x-requires c =
    let eo = order_code c.args.l_skip c.args.log c.lifted-gap.ensures c.lifted-o.ensures in
    let es = c.two_to-stride.ensures.value ∙ ap (λ m. 2 ^ m) c.lifted-gap.ensures in
    let whole = kernel-asks c.args.l_skip c.args.log eo es _ _ c.requires.l_skip_bound.0 c.requires.l_skip_in_bounds_3.0 (plain_canonical _ _ _ _ _ c.requires.order_kernels eo) (omega (arith, c.column_rows.ensures.length_kept, c.requires.l_skip_in_bounds_3.2)) (rows_canonical _ _ _ _ _ _ _ c.requires.order_kernels eo es c.column_rows.ensures) in record { o_bound = whole.0; o_in_bounds = whole.1.0; canonical_from = whole.1.1.0; o_in_bounds_2 = whole.1.1.1.0; canonical_from_2 = whole.1.1.1.1 }

pub write-requires : goal.write-requires
write-requires c = record { i_in_bounds = omega (arith, claims-some c.args.flag, c.requires.flag_in_bounds); canonical = canonical_words_lem _ c.kernel_sum-x.ensures }

pub returns-then-flag-eq0 : goal.returns-then-flag-eq0
returns-then-flag-eq0 c =
    let eo = order_code c.args.l_skip c.args.log c.lifted-gap.ensures c.lifted-o.ensures in
    let es = c.two_to-stride.ensures.value ∙ ap (λ m. 2 ^ m) c.lifted-gap.ensures in
    record { value = claims_one _ c.if-flag-eq0.true; written = one_written _ _ _ _ c.requires.flag_in_bounds (plain-opened _ _ _ _ _ _ _ c.requires.order_kernels eo es c.column_rows.ensures c.kernel_sum-x.ensures) c.write.ensures c.if-flag-eq0.true }

pub kernel_sum-y-requires : goal.kernel_sum-y-requires
kernel_sum-y-requires c =
    let eo = order_code c.args.l_skip c.args.log c.lifted-gap.ensures c.lifted-o.ensures in
    let es = c.two_to-stride.ensures.value ∙ ap (λ m. 2 ^ m) c.lifted-gap.ensures in
    let whole = kernel-asks c.args.l_skip c.args.log eo es _ _ c.requires.l_skip_bound.0 c.requires.l_skip_in_bounds_3.1 (rotated_canonical _ _ _ _ _ c.requires.order_kernels eo) (omega (arith, c.first_turned.ensures.length_kept, c.column_rows.ensures.length_kept, c.requires.l_skip_in_bounds_3.2)) (turned_canonical _ _ _ _ _ _ _ c.requires.order_kernels eo es c.column_rows.ensures c.first_turned.ensures) in record { o_bound = whole.0; o_in_bounds = whole.1.0; canonical_from = whole.1.1.0; o_in_bounds_2 = whole.1.1.1.0; canonical_from_2 = whole.1.1.1.1 }

pub write-requires-2 : goal.write-requires-2
write-requires-2 c = record { i_in_bounds = omega (arith, claims_two _ c.if-flag-eq0.false, put-length c.args.out.now _ _ c.write.ensures, c.requires.flag_in_bounds); canonical = canonical_words_lem _ c.kernel_sum-y.ensures }

pub returns : goal.returns
returns c =
    let eo = order_code c.args.l_skip c.args.log c.lifted-gap.ensures c.lifted-o.ensures in
    let es = c.two_to-stride.ensures.value ∙ ap (λ m. 2 ^ m) c.lifted-gap.ensures in record { value = claims_two _ c.if-flag-eq0.false; written = two_written _ _ _ _ c.requires.flag_in_bounds (plain-opened _ _ _ _ _ _ _ c.requires.order_kernels eo es c.column_rows.ensures c.kernel_sum-x.ensures) c.write.ensures c.if-flag-eq0.false (rotated-opened _ _ _ _ _ _ _ c.requires.order_kernels eo es c.column_rows.ensures c.first_turned.ensures c.kernel_sum-y.ensures) c.write-2.ensures }
