use Rattle.std.proofs.Common.{◌^◌, ◌<◌, arith}
use Rattle.field.proofs.Elements.{canonical_words_lem}
use Rattle.prover.proofs.ClaimSums.{first_canonical, kernel_start, kernel_turn, kernel_end, entry-inside}
use Rattle.prover.proofs.claims.kernel_sum.Goals as goal

pub mul_add-x-requires : goal.mul_add-x-requires
mul_add-x-requires c =
    let t : c.loop-t.t < 2 ^ c.args.o = omega (arith, c.two_to-n.ensures.value) in
    record { canonical = canonical_words_lem _ c.loop-t.invariant.1; canonical_2 = first_canonical _ c.requires.canonical_from _ (omega (arith, t)) c.read.ensures; canonical_3 = first_canonical _ c.requires.canonical_from_2 _ (entry-inside c.args.stride (2 ^ c.args.o) c.loop-t.t c.requires.o_bound.1 t) c.read-in-loop-t.ensures }

pub loop-t-preserved : goal.loop-t-preserved
loop-t-preserved c = (omega arith, kernel_turn _ _ _ _ c.loop-t.invariant.1 c.read.ensures c.read-in-loop-t.ensures c.mul_add-x.ensures)

pub loop-t-init : goal.loop-t-init
loop-t-init c = (omega arith, kernel_start _ _ _)

pub returns : goal.returns
returns c = kernel_end _ _ _ c.loop-t.invariant.0 c.loop-t-test.false c.two_to-n.ensures.value c.loop-t.invariant.1
