use Prim.Native.Nat.{◌<◌, ◌≤◌, ◌+◌}
use mathlib.Core.Path.{refl, ap}
use native.Mathlib.Omega.{arith}
use Rattle.field.specs.Number.{settled}
use Rattle.layout.specs.Answers.{answer_of}
use Rattle.layout.specs.Triples.{width_at, log_at}
use Rattle.layout.specs.Checks.{first_of}
use Rattle.layout.specs.Placing.{matrix_start}
use Rattle.layout.proofs.Answering.{zero_by, not_zero_by, refused_by}
use Rattle.layout.proofs.Firsts.{first_end}
use Rattle.layout.proofs.Turns.{place_turn, place_found, place_low, start_turn, start_small}
use Rattle.layout.proofs.refusals.walk.Goals.{In_ok-place}
use Rattle.layout.proofs.refusals.walk.Goals as goal

narrow : (c : In_ok-place) → width_at c.args.list.now c.loop-i.i ≤ 4096
narrow c =
    omega (
      arith,
      c.requires.widths c.loop-i.i
          c.loop-i-test.true,
    )

low : (c : In_ok-place) → 0 < width_at c.args.list.now c.loop-i.i → log_at c.args.list.now c.loop-i.i ≤ c.args.l_skip + c.args.n_stack
unfolding answer_of
low c h =
    place_low _ _ _ _ _ _ _ _ c.loop-i.invariant.2 refl refl
    (zero_by _ _ c.place.ensures c.in_ok-place.was) h

pub loop-i-init : goal.loop-i-init
unfolding first_of matrix_start
loop-i-init c = (omega arith, omega arith, refl, refl)

pub place-requires : goal.place-requires
place-requires c = (c.requires.sum, omega (arith, c.requires.widths c.loop-i.i c.loop-i-test.true))

pub returns-in_err-place : goal.returns-in_err-place
unfolding answer_of
returns-in_err-place c =
    refused_by _ _ _ _ c.place.ensures c.in_err-place.was c.from_residual.ensures.1
    (place_found _ _ _ _ _ _ _ _ c.loop-i.invariant.2 refl refl c.loop-i-test.true c.loop-i.invariant.3
    (not_zero_by _ _ c.place.ensures c.in_err-place.was))

pub after-s-requires : goal.after-s-requires
after-s-requires c = (c.requires.sum, omega (arith, c.loop-i.invariant.1, c.requires.few), narrow c, λ h. omega (arith, low c h, c.requires.sum))

pub loop-i-preserved : goal.loop-i-preserved
unfolding answer_of
loop-i-preserved c =
    let n = narrow (goal.at.loop-i-preserved c).In_ok-place in
    let i = c.loop-i in (
      omega arith,
      start_small _ _ _ _ _ _ _ _ c.requires.sum n
          (λ h. omega (arith, low (goal.at.loop-i-preserved c).In_ok-place h, c.requires.sum)) c.after-s.ensures i.invariant.1,
      start_turn _ _ _ _ _ _ _ _ _ i.invariant.2 refl refl c.after-s.ensures,
      place_turn _ _ _ _ _ _ _ _ i.invariant.2 refl refl i.invariant.3 (zero_by _ _ c.place.ensures c.in_ok-place.was),
    )

pub returns : goal.returns
unfolding answer_of settled
returns c = ap answer_of (first_end _ _ _ c.loop-i.invariant.0 c.loop-i-test.false c.loop-i.invariant.3)
