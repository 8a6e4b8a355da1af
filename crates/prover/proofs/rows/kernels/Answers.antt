use Rattle.std.proofs.Common.{refl, arith}
use Rattle.field.specs.Slice.{canonical_words}
use Rattle.prover.proofs.KernelRows.{order_small, room_for, kernels_made}
use Rattle.prover.proofs.rows.kernels.Goals as goal

pub returns : goal.returns
unfolding canonical_words
returns c = kernels_made _ _ _ c.requires.l_skip_bound c.requires.n_value (omega (arith, order_small _ c.requires.l_skip_bound c.requires.n_value)) c.eq_uni_kernels.ensures.out_after refl

pub slice_bounds-eq_uni_kernels-end : goal.slice_bounds-eq_uni_kernels-end
slice_bounds-eq_uni_kernels-end c = room_for _ _ (omega (arith, order_small _ c.requires.l_skip_bound c.requires.n_value))

pub slice_bounds-k-end : goal.slice_bounds-k-end
slice_bounds-k-end c = omega (arith, order_small _ c.requires.l_skip_bound c.requires.n_value)
