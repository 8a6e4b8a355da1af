use Rattle.std.proofs.Common.{refl, arith}
use Rattle.field.proofs.Elements.{canonical_words_lem}
use Rattle.prover.proofs.WeightWalk.{put-length}
use Rattle.prover.proofs.ElementTables.{element_read}
use Rattle.prover.proofs.PowerEntries.{power_entry}
use Rattle.prover.proofs.PassPlaces.{half_room}
use Rattle.prover.proofs.PassTurns.{made_start, turn_room, pass_turn, made_end}
use Rattle.prover.proofs.transforms.pass.Goals as goal

pub loop-i-init : goal.loop-i-init
loop-i-init c = made_start _ _ _ _ c.requires.b_len

pub add-lo-requires : goal.add-lo-requires
add-lo-requires c = record { canonical = element_read c.requires.elements _ (omega (arith, half_room c.args.l (omega arith), c.two_to-pairs.ensures.value)) c.read-x.ensures; canonical_2 = canonical_words_lem _ c.scale-y.ensures }

pub sub-hi-requires : goal.sub-hi-requires
sub-hi-requires c = record { canonical = element_read c.requires.elements _ (omega (arith, half_room c.args.l (omega arith), c.two_to-pairs.ensures.value)) c.read-x.ensures; canonical_2 = canonical_words_lem _ c.scale-y.ensures }

pub write-requires : goal.write-requires
write-requires c = record { i_in_bounds = omega (arith, turn_room c.args.l c.args.s c.loop-i.i c.requires.s_lt_l (omega (arith, c.two_to-pairs.ensures.value)) c.two_to-block.ensures.value, c.loop-i.invariant.size); canonical = canonical_words_lem _ c.add-lo.ensures }

pub write-requires-in-loop-i : goal.write-requires-in-loop-i
write-requires-in-loop-i c = record { i_in_bounds = omega (arith, turn_room c.args.l c.args.s c.loop-i.i c.requires.s_lt_l (omega (arith, c.two_to-pairs.ensures.value)) c.two_to-block.ensures.value, c.loop-i.invariant.size, put-length _ _ _ c.write.ensures); canonical = canonical_words_lem _ c.sub-hi.ensures }

pub loop-i-preserved : goal.loop-i-preserved
loop-i-preserved c = pass_turn _ _ _ _ _ c.requires.l_bound c.requires.s_lt_l c.loop-i.invariant c.loop-i-test.true c.two_to-block.ensures.value c.two_to-pairs.ensures.value c.read-x.ensures (power_entry _ _ _ (omega arith) c.requires.power_table c.two_to-step.ensures.value refl) c.read.ensures c.scale-y.ensures c.add-lo.ensures c.sub-hi.ensures c.write.ensures c.write-in-loop-i.ensures

pub returns : goal.returns
returns c = made_end _ _ _ _ _ c.requires.s_lt_l (omega (arith, c.two_to-pairs.ensures.value)) c.loop-i.invariant
