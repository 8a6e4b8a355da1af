-- `runs::lists_number` meets its contract. Assumes nothing.
use Prim.Native.Nat.{ℕ, ◌*◌, ◌-◌, ◌≤◌, min}
use mathlib.Core.List.{List}
use mathlib.Core.Path.{refl, ◌≡◌, ap, subst, sym, ◌∙◌}
use native.Mathlib.Omega.{arith}
use lib.ListN.{length, take, length-take}
use Rattle.layout.specs.Answers.{answer_of}
use Rattle.layout.specs.Triples.{count_of}
use Rattle.layout.specs.Lists.{first_count, present, there_number, lists_number}
use Rattle.layout.proofs.Answering.{zero_by, not_zero_by, refused_by}
use Rattle.layout.proofs.Firsts.{skip, stop}
use Rattle.layout.proofs.RunLaws.{Counted, counts-passed, present_few}
use Rattle.layout.proofs.runs.lists_number.Goals.{After-min-end, After-there_number, In_ok-counts_number}
use Rattle.layout.proofs.runs.lists_number.Goals as goal

counted : (c : In_ok-counts_number) → Counted c.args.counts.now
unfolding answer_of
counted c = counts-passed _ (zero_by _ _ c.counts_number.ensures c.in_ok-counts_number.was)

cut : (c : After-min-end) → take c.min-end.result c.args.lists.now ≡ present c.args.counts.now c.args.lists.now
cut c =
    ap (λ (k : ℕ). take k c.args.lists.now)
    (c.min-end.ensures ∙ ap (λ (x : ℕ). min (3 * x) (length c.args.lists.now)) c.named_count.ensures)

rest : (c : After-there_number) → there_number c.args.l_skip c.args.n_stack c.first_count-first.result (length c.args.counts.now - 1) (take c.min-end.result c.args.lists.now) ≡ there_number c.args.l_skip c.args.n_stack (first_count c.args.counts.now) (length c.args.counts.now - 1) (present c.args.counts.now c.args.lists.now)
rest c =
    let a = c.args in
    ap (λ (x : ℕ). there_number a.l_skip a.n_stack x (length a.counts.now - 1) (take c.min-end.result a.lists.now)) c.first_count-first.ensures
    ∙ ap (there_number a.l_skip a.n_stack (first_count a.counts.now) (length a.counts.now - 1)) (ap (λ (k : ℕ). take k a.lists.now) (c.min-end.ensures ∙ ap (λ (x : ℕ). min (3 * x) (length a.lists.now)) c.named_count.ensures))

pub returns-in_err-limits : goal.returns-in_err-limits
unfolding lists_number answer_of
returns-in_err-limits c = refused_by _ _ _ _ c.limits.ensures c.in_err-limits.was c.from_residual.ensures.1 (stop _ _ _ refl (not_zero_by _ _ c.limits.ensures c.in_err-limits.was))

pub returns-in_err-counts_number : goal.returns-in_err-counts_number
unfolding lists_number answer_of
returns-in_err-counts_number c = refused_by _ _ _ _ c.counts_number.ensures c.in_err-counts_number.was c.from_residual-in_err-counts_number.ensures.1 (skip _ _ (zero_by _ _ c.limits.ensures c.in_ok-limits.was) (stop _ _ _ refl (not_zero_by _ _ c.counts_number.ensures c.in_err-counts_number.was)))

pub overflow_sub-later : goal.overflow_sub-later
overflow_sub-later c = omega (arith, (counted (goal.at.overflow_sub-later c).In_ok-counts_number).some)

pub overflow_mul-named_count : goal.overflow_mul-named_count
overflow_mul-named_count c = omega (arith, c.named_count.ensures, (counted (goal.at.overflow_mul-named_count c).In_ok-counts_number).few, (counted (goal.at.overflow_mul-named_count c).In_ok-counts_number).first)

pub slice_bounds-there_number-end : goal.slice_bounds-there_number-end
slice_bounds-there_number-end c = sym (length-take c.min-end.result c.args.lists.now ∙ omega (arith, c.min-end.ensures))

pub there_number-requires : goal.there_number-requires
unfolding answer_of
there_number-requires c =
    let k = counted (goal.at.there_number-requires c).In_ok-counts_number in (
      zero_by _ _ c.limits.ensures c.in_ok-limits.was,
      omega (arith, c.first_count-first.ensures, k.first),
      omega (arith, k.few),
      subst (λ (p : List ℕ). count_of p ≤ 4111) (sym (cut c)) (present_few _ c.args.lists.now k),
    )

pub returns : goal.returns
unfolding lists_number answer_of
returns c = c.there_number.ensures ∙ ap answer_of (skip _ _ (zero_by _ _ c.limits.ensures c.in_ok-limits.was) (skip _ _ (zero_by _ _ c.counts_number.ensures c.in_ok-counts_number.was) (rest c)))
