use mathlib.Core.Path.{sym, ◌∙◌, ap, ap₂}
use Rattle.verifier.specs.Rooms.{verdict_room}
use Rattle.legrudda.specs.Exported.{room_of}
use Rattle.legrudda.proofs.rooms.legrudda_room.Goals as goal

pub returns-in-Err : goal.returns-in-Err
unfolding room_of
returns-in-Err c = c.refused.ensures ∙ ap (λ a. room_of a (verdict_room c.args.l_skip c.args.n_stack c.args.counts.now c.args.lists.now)) (sym c.in-Err.is ∙ c.run_room.ensures)

pub returns-in-Ok-verdict_room : goal.returns-in-Ok-verdict_room
unfolding room_of
returns-in-Ok-verdict_room c = c.taken.ensures ∙ ap₂ room_of (sym c.in-Ok.is ∙ c.run_room.ensures) (sym c.in-Ok-verdict_room.is ∙ c.verdict_room.ensures)

pub returns-in-Err-verdict_room : goal.returns-in-Err-verdict_room
unfolding room_of
returns-in-Err-verdict_room c = c.refused-in-Err-verdict_room.ensures ∙ ap₂ room_of (sym c.in-Ok.is ∙ c.run_room.ensures) (sym c.in-Err-verdict_room.is ∙ c.verdict_room.ensures)
