use mathlib.Core.Path.{sym, ◌∙◌}
use Rattle.layout.proofs.ReadRuns.{read_walked}
use Rattle.verifier.proofs.SliceCounts.{read_small}
use Rattle.verifier.proofs.RoomLaws.{lists-refused, length-refused, lists-taken}
use Rattle.verifier.proofs.rooms.verdict_room.Goals as goal

pub returns-in_err-run : goal.returns-in_err-run
returns-in_err-run c = lists-refused _ _ _ _ c.read_lists.ensures c.in_err-run.was c.from_residual.ensures.1

pub returns-in_err-run-2 : goal.returns-in_err-run-2
returns-in_err-run-2 c = length-refused _ _ _ _ _ (sym c.read_lists.ensures ∙ c.in_ok-run.was) c.in_err-run-2.was c.from_residual-in_err-run-2.ensures.1

pub taken_verdict-requires : goal.taken_verdict-requires
taken_verdict-requires c =
    let is = sym c.read_lists.ensures ∙ c.in_ok-run.was in
    read_small _ _ _ _ _ is c.in_ok-run-2.was _ (c.claim_count-claims.ensures (read_walked _ _ _ _ _ is c.in_ok-run-2.was))

pub returns : goal.returns
returns c =
    let is = sym c.read_lists.ensures ∙ c.in_ok-run.was in
    lists-taken _ _ _ _ _ is _ c.in_ok-run-2.was (c.claim_count-claims.ensures (read_walked _ _ _ _ _ is c.in_ok-run-2.was)) c.taken_verdict.ensures
