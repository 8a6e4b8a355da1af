use native.Mathlib.Omega.{arith}
use Rattle.layout.proofs.Packing.{write_start, write_packable, write_length, write_half_length, write_turn, write_end}
use Rattle.layout.proofs.records.write.Goals as goal

pub loop-k-init : goal.loop-k-init
loop-k-init c = write_start _ _ _ _ c.requires.0 c.requires.1 _ c.walk_first-c.ensures

pub pack-a-requires : goal.pack-a-requires
pack-a-requires c = write_packable _ _ _ _ c.requires.0 c.requires.1 _ _ _ c.loop-k.invariant c.loop-k-test.true

pub pack_log-b-requires : goal.pack_log-b-requires
pack_log-b-requires c = (write_packable _ _ _ _ c.requires.0 c.requires.1 _ _ _ c.loop-k.invariant c.loop-k-test.true).log

pub bounds-sorted_cols-k : goal.bounds-sorted_cols-k
bounds-sorted_cols-k c = omega (arith, write_length _ _ _ _ c.requires.0 c.requires.1 _ _ _ c.loop-k.invariant, c.loop-k-test.true)

pub bounds-sorted_cols-k-in-loop-k : goal.bounds-sorted_cols-k-in-loop-k
bounds-sorted_cols-k-in-loop-k c = omega (arith, write_half_length _ _ _ _ c.requires.0 c.requires.1 _ _ _ c.loop-k.invariant _ c.loop-k-test.true c.pack-a.ensures, c.loop-k-test.true)

pub loop-k-preserved : goal.loop-k-preserved
loop-k-preserved c = write_turn _ _ _ _ c.requires.0 c.requires.1 _ _ _ c.loop-k.invariant _ _ _ c.loop-k-test.true c.pack-a.ensures c.pack_log-b.ensures c.walk_next-c.ensures

pub shape_of-sorted_cols : goal.shape_of-sorted_cols
shape_of-sorted_cols c = write_length _ _ _ _ c.requires.0 c.requires.1 _ _ _ c.loop-k.invariant

pub returns : goal.returns
returns c = write_end _ _ _ _ c.requires.0 c.requires.1 _ _ _ c.loop-k.invariant c.loop-k-test.false
