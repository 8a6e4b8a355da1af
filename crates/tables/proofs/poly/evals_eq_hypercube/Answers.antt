use mathlib.Core.Path.{◌∙◌, ap}
use Prim.Native.Nat.{◌/◌}
use native.Mathlib.Omega.{arith}
use lib.ListN.{length}
use Rattle.tables.specs.EqTable.{eq_table}
use Rattle.tables.proofs.EqTableLoop.{stored_start}
use Rattle.tables.proofs.EqTableAnswers.{not_whole, too_many, entries_fit, other_room, room_is, not_canonical, answered, words_fail, start_fails, both-pass}
use mathlib.Core.Bool.{not}
use Rattle.tables.proofs.poly.evals_eq_hypercube.Goals as goal

pub returns-then-x-ne0 : goal.returns-then-x-ne0
returns-then-x-ne0 c = let whole = not_whole c.args.start c.args.x.now c.args.out.now c.if-x-ne0.true in record { value = whole.0; out_after = whole.1 }

pub returns-then-m-ge62 : goal.returns-then-m-ge62
returns-then-m-ge62 c = let whole = too_many c.args.start c.args.x.now c.args.out.now c.if-m-ge62.true (omega arith) in record { value = whole.0; out_after = whole.1 }

pub overflow_mul-entries : goal.overflow_mul-entries
overflow_mul-entries c = record { fits = entries_fit c.args.start c.args.x.now c.args.out.now c.if-m-ge62.false }

pub returns-then-out-entries : goal.returns-then-out-entries
returns-then-out-entries c = let whole = other_room c.args.start c.args.x.now c.args.out.now c.if-m-ge62.false c.if-out-entries.true in record { value = whole.0; out_after = whole.1 }

pub returns-then-not-canonical : goal.returns-then-not-canonical
returns-then-not-canonical c = let whole = not_canonical c.args.start c.args.x.now c.args.out.now c.if-m-ge62.false c.if-x-ne0.false c.if-out-entries.false (words_fail _ _ c.canonical.ensures (ap not c.if-not-canonical.true)) in record { value = whole.0; out_after = whole.1 }

pub returns-then-not-canonical_four : goal.returns-then-not-canonical_four
returns-then-not-canonical_four c = let whole = not_canonical c.args.start c.args.x.now c.args.out.now c.if-m-ge62.false c.if-x-ne0.false c.if-out-entries.false (start_fails c.args.x.now _ c.canonical_four.ensures (ap not c.if-not-canonical_four.true)) in record { value = whole.0; out_after = whole.1 }

pub fill_eq-requires-clause-out_value : goal.fill_eq-requires-clause-out_value
fill_eq-requires-clause-out_value c = (stored_start _ _ _ (room_is c.args.start c.args.x.now c.args.out.now c.if-m-ge62.false c.if-out-entries.false) c.store.ensures).1.0

pub returns : goal.returns
returns c =
    let s = stored_start _ _ _ (room_is c.args.start c.args.x.now c.args.out.now c.if-m-ge62.false c.if-out-entries.false) c.store.ensures in
    let whole = answered c.args.start c.args.x.now c.args.out.now c.if-m-ge62.false c.if-x-ne0.false c.if-out-entries.false
    (both-pass _ _ c.canonical.ensures (ap not c.if-not-canonical.false) c.canonical_four.ensures (ap not c.if-not-canonical_four.false))
    (c.fill_eq.ensures ∙ ap (λ e. eq_table e c.args.x.now (length c.args.x.now / 4)) s.1.1) in record { value = whole.0; out_after = whole.1 }
