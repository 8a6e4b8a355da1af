use Rattle.prover.proofs.HeightScales.{none_written, eq_canonical, rot_canonical, shift_canonical, started_is, turned_is, rotate_asks, table_asks}
use Rattle.prover.proofs.heights.scale_height.Goals as goal

pub returns-then-entries-eq0 : goal.returns-then-entries-eq0
returns-then-entries-eq0 c = record { by_index = (λ n first lists lambda. none_written _ _ _ _ c.if-entries-eq0.true); by_index_2 = (λ n first lists lambda. none_written _ _ _ _ c.if-entries-eq0.true) }

pub rotate-requires : goal.rotate-requires
rotate-requires c =
    let k = c.height_kernels-k.ensures 0 0 c.args.r.now c.args.r.now in
    let a = rotate_asks c.args.eq.now c.args.k_rot.now _ _ _ _ (c.requires.entries_value c.if-entries-eq0.false) c.lifted-lift.ensures c.requires.l_skip_bound.2 c.requires.held c.requires.entries_in_bounds in
    record { n_bound = a.0; n_in_bounds = a.1.0; n_in_bounds_2 = a.1.1.0; canonical_from = a.1.1.1; canonical = rot_canonical _ _ _ k; canonical_2 = shift_canonical _ _ _ k }

pub eq_table-requires : goal.eq_table-requires
eq_table-requires c =
    let k = c.height_kernels-k.ensures 0 0 c.args.r.now c.args.r.now in
    let a = table_asks c.args.r.now c.args.eq.now _ _ _ _ (c.requires.entries_value c.if-entries-eq0.false) c.lifted-lift.ensures c.requires.l_skip_bound.2 c.requires.l_skip_in_bounds c.requires.held in
    record { canonical = eq_canonical _ _ _ k; n_bound = a.0; n_in_bounds = a.1.0; r_value = c.requires.r_value; n_in_bounds_2 = a.1.1 }

pub returns : goal.returns
returns c = record { by_index = (λ n first lists lambda. started_is _ _ _ (c.height_kernels-k.ensures n first lists lambda) _ _ _ _ _ _ (c.requires.entries_value c.if-entries-eq0.false) c.lifted-lift.ensures c.eq_table.ensures); by_index_2 = (λ n first lists lambda. turned_is _ _ _ (c.height_kernels-k.ensures n first lists lambda) _ _ _ _ _ _ (c.requires.entries_value c.if-entries-eq0.false) c.lifted-lift.ensures c.rotate.ensures) }
