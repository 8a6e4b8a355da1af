use Prim.Native.Nat.{ℕ, ◌+◌, ◌*◌, ◌^◌, ◌≤◌}
use mathlib.Core.Path.{refl, ap, ◌≡◌, ◌∙◌}
use native.Mathlib.Omega.{arith}
use lib.ListN.{length}
use Rattle.layout.specs.Triples.{log_at}
use Rattle.layout.specs.Shaped.{Spreadable}
use Rattle.layout.specs.Stacked.{cells_of}
use Rattle.layout.proofs.Turns.{asks}
use Rattle.layout.proofs.Fills.{filling_start, filling_length, filling_room, filling_spreadable, filling_turn, filling_end}
use Rattle.layout.proofs.stacking.lay.Goals.{After-stride-step}
use Rattle.layout.proofs.stacking.lay.Goals as goal

many : (c : After-stride-step) → c.cells_of-count.result ≡ cells_of c.args.list.now c.loop-i.i
unfolding cells_of
many c = c.cells_of-count.ensures ∙ ap (λ (w : ℕ). w * 2 ^ log_at c.args.list.now c.loop-i.i) refl

spreads : (c : After-stride-step)
    → Spreadable c.loop-i.out c.loop-i.at c.args.cells.now c.loop-i.from c.cells_of-count.result c.stride-step.result
spreads c =
    filling_spreadable _ _ _ _ _ c.requires.0 _ _ _ _ c.loop-i.invariant c.loop-i-test.true _ _ (many c) c.stride-step.ensures

room : (c : After-stride-step) → c.loop-i.at + c.cells_of-count.result * c.stride-step.result ≤ length c.args.out.now
room c = filling_room _ _ _ _ _ c.requires.0 _ _ _ _ c.loop-i.invariant c.loop-i-test.true _ _ (many c) c.stride-step.ensures

pub loop-i-init : goal.loop-i-init
loop-i-init c = filling_start _ _ _ _ _ c.requires.0 _ c.requires.1

pub cells_of-count-requires : goal.cells_of-count-requires
cells_of-count-requires c = asks _ _ _ _ _ c.requires.0.laid c.loop-i-test.true refl

pub stride-step-requires : goal.stride-step-requires
stride-step-requires c = c.requires.0.laid.shaped.skip

pub spread_at-requires : goal.spread_at-requires
spread_at-requires c = spreads (goal.at.spread_at-requires c).After-stride-step

pub overflow_mul-at : goal.overflow_mul-at
overflow_mul-at c = omega (arith, room (goal.at.overflow_mul-at c).After-stride-step, c.well_formed)

pub overflow_add-at : goal.overflow_add-at
overflow_add-at c = omega (arith, room (goal.at.overflow_add-at c).After-stride-step, c.well_formed)

pub overflow_add-from : goal.overflow_add-from
overflow_add-from c = omega (arith, (spreads (goal.at.overflow_add-from c).After-stride-step).there, c.well_formed)

pub loop-i-smaller : goal.loop-i-smaller
loop-i-smaller c = omega (arith, c.loop-i-test.true)

pub loop-i-preserved : goal.loop-i-preserved
loop-i-preserved c = filling_turn _ _ _ _ _ c.requires.0 _ _ _ _ c.loop-i.invariant c.loop-i-test.true _ _ (many (goal.at.loop-i-preserved c).After-stride-step) c.stride-step.ensures _ c.spread_at.ensures

pub shape_of-out : goal.shape_of-out
shape_of-out c = filling_length _ _ _ _ _ c.requires.0 _ _ _ _ c.loop-i.invariant

pub returns : goal.returns
returns c = filling_end _ _ _ _ _ c.requires.0 _ _ _ _ c.loop-i.invariant c.loop-i-test.false
