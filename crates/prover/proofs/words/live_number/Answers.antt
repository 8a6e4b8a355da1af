use Rattle.field.specs.Number.{settled, refusal_of, refusals}
use Rattle.layout.specs.Answers.{answer_of}
use Rattle.prover.proofs.WordChecks.{left-room}
use Rattle.prover.proofs.LiveChecks.{live-q, live_eq, live_rot, live_ub, live_all}
use mathlib.Core.Path.{ap}
use mathlib.Core.Bool.{not}
use Rattle.prover.proofs.words.live_number.Goals as goal

pub canonical_part-requires : goal.canonical_part-requires
canonical_part-requires c =
    left-room c.args.q.now c.args.stacked c.args.heights.n_stack c.args.folds c.requires.n_stack_bound.3 c.requires.n_stack_bound.2 c.requires.q_len

pub returns-then-not-canonical_part : goal.returns-then-not-canonical_part
unfolding answer_of settled refusal_of refusals
returns-then-not-canonical_part c =
    let pre = c.requires.n_stack_bound in
    ap answer_of (live-q _ _ _ _ _ _ _ _ _ pre.3 pre.2 c.canonical_part.ensures (ap not c.if-not-canonical_part.true))

pub returns-then-not-live_tables : goal.returns-then-not-live_tables
unfolding answer_of settled refusal_of refusals
returns-then-not-live_tables c =
    let pre = c.requires.n_stack_bound in
    ap answer_of (live_eq _ _ _ _ _ _ _ _ _ pre.3 pre.2 c.canonical_part.ensures (ap not c.if-not-canonical_part.false) c.live_tables.ensures (ap not c.if-not-live_tables.true))

pub returns-then-not-live_tables-2 : goal.returns-then-not-live_tables-2
unfolding answer_of settled refusal_of refusals
returns-then-not-live_tables-2 c =
    let pre = c.requires.n_stack_bound in
    ap answer_of (live_rot _ _ _ _ _ _ _ _ _ pre.3 pre.2 c.canonical_part.ensures (ap not c.if-not-canonical_part.false) c.live_tables.ensures (ap not c.if-not-live_tables.false) c.live_tables-2.ensures (ap not c.if-not-live_tables-2.true))

pub returns-then-not-canonical : goal.returns-then-not-canonical
unfolding answer_of settled refusal_of refusals
returns-then-not-canonical c =
    let pre = c.requires.n_stack_bound in
    ap answer_of (live_ub _ _ _ _ _ _ _ _ _ pre.3 pre.2 c.canonical_part.ensures (ap not c.if-not-canonical_part.false) c.live_tables.ensures (ap not c.if-not-live_tables.false) c.live_tables-2.ensures (ap not c.if-not-live_tables-2.false) c.canonical.ensures (ap not c.if-not-canonical.true))

pub returns : goal.returns
unfolding answer_of settled refusal_of refusals
returns c =
    let pre = c.requires.n_stack_bound in
    ap answer_of (live_all _ _ _ _ _ _ _ _ _ pre.3 pre.2 c.canonical_part.ensures (ap not c.if-not-canonical_part.false) c.live_tables.ensures (ap not c.if-not-live_tables.false) c.live_tables-2.ensures (ap not c.if-not-live_tables-2.false) c.canonical.ensures (ap not c.if-not-canonical.false))
