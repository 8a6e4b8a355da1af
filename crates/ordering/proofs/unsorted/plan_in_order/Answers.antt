-- `unsorted::plan_in_order` meets its contract. Assumes nothing.
use mathlib.Core.Path.{refl, sym, ap, ◌∙◌}
use native.Mathlib.Omega.{arith}
use lib.ListN.{take}
use lib.Seq.{length-take-le}
use Rattle.layout.specs.Answers.{answer_of}
use Rattle.layout.specs.Planning.{laid_out}
use Rattle.layout.proofs.Answering.{zero_by, not_zero_by, refused_by}
use Rattle.ordering.proofs.Unsorteds.{unless_refused_lem, unless_done, arrivals_size, planned_whole, planned-records}
use Rattle.ordering.proofs.unsorted.plan_in_order.Goals as goal

pub returns-in_err-number : goal.returns-in_err-number
unfolding laid_out answer_of
returns-in_err-number c =
    let h = not_zero_by _ _ c.number.ensures c.in_err-number.was in
    (refused_by _ _ _ _ c.number.ensures c.in_err-number.was c.from_residual.ensures.1 refl, unless_refused_lem _ _ _ h, unless_refused_lem _ _ _ h)

pub slice_bounds-copy_from_slice-end : goal.slice_bounds-copy_from_slice-end
unfolding answer_of
slice_bounds-copy_from_slice-end c =
    let z = zero_by _ _ c.number.ensures c.in_ok-number.was in
    sym (length-take-le _ _ (omega (arith, arrivals_size _ _ _ _ _ _ z, c.requires)))

pub copy_from_slice-requires : goal.copy_from_slice-requires
unfolding answer_of
copy_from_slice-requires c =
    let z = zero_by _ _ c.number.ensures c.in_ok-number.was in
    sym (length-take-le _ _ (omega (arith, arrivals_size _ _ _ _ _ _ z, c.requires)))

pub returns : goal.returns
unfolding answer_of
returns c =
    let z = zero_by _ _ c.number.ensures c.in_ok-number.was in (
      planned_whole _ _ _ _ _ _ z _ c.new.ensures.0,
      unless_done _ _ _ _ z (c.copy_from_slice.ensures.after ∙ ap (λ k. take k c.args.order.now) (arrivals_size _ _ _ _ _ _ z)),
      unless_done _ _ _ _ z (planned-records _ _ _ _ _ _ z _ _ refl c.new.ensures.1),
    )
