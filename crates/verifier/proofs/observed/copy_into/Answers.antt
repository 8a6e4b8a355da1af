use mathlib.Core.Path.{◌≡◌, sym, ◌∙◌, ap}
use Prim.Native.Nat.{◌+◌}
use native.Mathlib.Numerals.{add-one}
use lib.ListN.{length, get_or, set}
use lib.Seq.{paste, paste-zero, paste-suc, length-paste}
use native.Mathlib.Omega.{arith}
use Rattle.verifier.proofs.observed.copy_into.Goals as goal

pub loop-j-init : goal.loop-j-init
loop-j-init c = (omega arith, paste-zero c.args.observed.now c.args.at c.args.values.now)

pub bounds-observed-at : goal.bounds-observed-at
bounds-observed-at c = omega (arith, ap length c.loop-j.invariant.1, length-paste c.args.observed.now c.args.at c.args.values.now c.loop-j.j (omega arith) (omega arith))

pub loop-j-preserved : goal.loop-j-preserved
loop-j-preserved c = (omega arith, ap (λ o. set o (c.args.at + c.loop-j.j) (get_or c.args.values.now c.loop-j.j 0)) c.loop-j.invariant.1 ∙ paste-suc c.args.observed.now c.args.at c.args.values.now c.loop-j.j 0 (omega arith) (omega arith) ∙ ap (paste c.args.observed.now c.args.at c.args.values.now) (sym (add-one c.loop-j.j)))

pub shape_of-observed : goal.shape_of-observed
shape_of-observed c = ap length c.loop-j.invariant.1 ∙ length-paste c.args.observed.now c.args.at c.args.values.now c.loop-j.j (omega arith) (omega arith)

pub returns : goal.returns
returns c =
    let done : c.loop-j.j ≡ length c.args.values.now = omega arith in
    c.loop-j.invariant.1 ∙ ap (paste c.args.observed.now c.args.at c.args.values.now) done
