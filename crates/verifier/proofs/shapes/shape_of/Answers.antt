use Rattle.layout.proofs.ReadRuns.{read_walked}
use Rattle.verifier.specs.Asked.{asked_of}
use Rattle.verifier.proofs.SliceCounts.{read_small}
use Rattle.verifier.proofs.ShapeLaws.{lists-refused, length-refused, slices_refused, words_refused, shape_done}
use mathlib.Core.Path.{sym, ◌∙◌}
use Rattle.verifier.proofs.shapes.shape_of.Goals as goal

pub returns-in_err-run : goal.returns-in_err-run
returns-in_err-run c = lists-refused (asked_of c.args.asked c.args.observed.now) c.from_residual.result c.read_lists.ensures c.in_err-run.was c.from_residual.ensures.1

pub returns-in_err-run-2 : goal.returns-in_err-run-2
returns-in_err-run-2 c = length-refused (asked_of c.args.asked c.args.observed.now) _ (sym c.read_lists.ensures ∙ c.in_ok-run.was) c.from_residual-in_err-run-2.result c.in_err-run-2.was c.from_residual-in_err-run-2.ensures.1

pub slices_number-requires : goal.slices_number-requires
slices_number-requires c =
    let is = sym c.read_lists.ensures ∙ c.in_ok-run.was in
    read_small _ _ _ _ _ is c.in_ok-run-2.was _ (c.claim_count-asks.ensures (read_walked _ _ _ _ _ is c.in_ok-run-2.was))

pub returns-in_err-slices_number : goal.returns-in_err-slices_number
returns-in_err-slices_number c =
    let is = sym c.read_lists.ensures ∙ c.in_ok-run.was in
    slices_refused (asked_of c.args.asked c.args.observed.now) _ is c.in_ok-run-2.was _ (c.claim_count-asks.ensures (read_walked _ _ _ _ _ is c.in_ok-run-2.was)) c.slices_number.ensures c.from_residual-in_err-slices_number.result c.in_err-slices_number.was c.from_residual-in_err-slices_number.ensures.1

pub returns-in_err-words_number : goal.returns-in_err-words_number
returns-in_err-words_number c =
    let is = sym c.read_lists.ensures ∙ c.in_ok-run.was in
    words_refused (asked_of c.args.asked c.args.observed.now) _ is c.in_ok-run-2.was _ (c.claim_count-asks.ensures (read_walked _ _ _ _ _ is c.in_ok-run-2.was)) c.slices_number.ensures c.in_ok-slices_number.was c.words_number.ensures c.from_residual-in_err-words_number.result c.in_err-words_number.was c.from_residual-in_err-words_number.ensures.1

pub returns : goal.returns
returns c =
    let is = sym c.read_lists.ensures ∙ c.in_ok-run.was in
    shape_done (asked_of c.args.asked c.args.observed.now) _ is c.in_ok-run-2.was _ (c.claim_count-asks.ensures (read_walked _ _ _ _ _ is c.in_ok-run-2.was)) c.slices_number.ensures c.in_ok-slices_number.was c.words_number.ensures c.in_ok-words_number.was
