use Rattle.std.proofs.Common.{◌^◌, ◌≤◌, arith}
use native.Mathlib.Nat.{pow-le-pow_right}
use Rattle.algebra.proofs.Powers.{shift_exact, two_pow-pos}
use Rattle.prover.proofs.transforms.two_to.Goals as goal

pub returns : goal.returns
returns c =
    let e = shift_exact c.args.l 64 (omega arith) in
    let b : 2 ^ c.args.l ≤ 2 ^ 12 = pow-le-pow_right {n = 2} (omega arith) c.requires in
    record { value = e; result_nonzero = omega (arith, e, two_pow-pos c.args.l); upper_bound = omega (arith, e) }
