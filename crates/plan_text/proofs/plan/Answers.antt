-- `plan_text::plan` meets its contract.
use mathlib.Core.Path.{refl, sym, ap, ◌∙◌}
use native.Mathlib.Omega.{arith}
use Prim.Native.Nat.{◌≤◌}
use lib.ListN.{length}
use lib.Seq.{length-take-le}
use Rattle.plan_text.specs.Steps.{count_of, whole_of}
use Rattle.plan_text.specs.Planned.{matrices}
use Rattle.plan_text.proofs.Plans.{places_fit, two_numbers, not_between, not_whole, too_few, in_words, refuses, plans}
use Rattle.plan_text.proofs.plan.Goals as goal
use Rattle.plan_text.proofs.plan.Goals.{then-not-whole-via-then-not-whole, then-not-whole-via-else-not-whole+then-words-count}

pub slice_bounds-list-count : goal.slice_bounds-list-count
slice_bounds-list-count c = omega (arith, two_numbers _ (sym c.whole.ensures ∙ c.if-not-whole.false))

pub slice_bounds-list-start : goal.slice_bounds-list-start
slice_bounds-list-start c = omega (arith, two_numbers _ (sym c.whole.ensures ∙ c.if-not-whole.false))

pub bounds-words-0 : goal.bounds-words-0
bounds-words-0 c = omega (arith, two_numbers _ (sym c.whole.ensures ∙ c.if-not-whole.false))

pub bounds-words-1 : goal.bounds-words-1
bounds-words-1 c = omega (arith, two_numbers _ (sym c.whole.ensures ∙ c.if-not-whole.false))

pub slice_bounds-new-end : goal.slice_bounds-new-end
slice_bounds-new-end c = rw c.places-n.ensures (places_fit _ _)

pub slice_bounds-new-end-in-Between : goal.slice_bounds-new-end-in-Between
slice_bounds-new-end-in-Between c =
    let p = c.places-n in
    sym (length-take-le p.result c.args.records.now (rw p.ensures (places_fit _ _)))

pub returns-else-words-count : goal.returns-else-words-count
unfolding matrices
returns-else-words-count c =
    let a = c.args in
    let h = ap whole_of c.in-Between.is ∙ sym c.whole.ensures ∙ c.if-not-whole.false in
    let e = ap count_of c.in-Between.is in
    let l : count_of a.r ≤ length a.words.now = omega (arith, e, c.if-words-count.false) in
    let n = c.new in
    plans a.r a.words.now a.records.now n.result (in_words a.r a.words.now h l) _ _ _ (rw e refl)
    c.places-n.ensures n.ensures.0 n.ensures.1

pub returns-then-not-whole : goal.returns-then-not-whole
returns-then-not-whole c =
    let a = c.args in
    let w = ap whole_of c.in-Between.is ∙ sym c.whole.ensures in
    refuses a.r a.words.now a.records.now _
    (elim c.then-not-whole.branch [
      | then-not-whole-via-then-not-whole t ↦ not_whole a.r a.words.now (w ∙ t.if-not-whole.true)
      | then-not-whole-via-else-not-whole+then-words-count t ↦
          too_few a.r a.words.now (w ∙ t.if-not-whole.false) (omega (arith, ap count_of c.in-Between.is, t.if-words-count.true))
    ])
    refl

pub returns-in_default : goal.returns-in_default
returns-in_default c =
    let a = c.args in
    refuses a.r a.words.now a.records.now _ (not_whole a.r a.words.now (not_between a.r c.in_default.not-Between)) refl
