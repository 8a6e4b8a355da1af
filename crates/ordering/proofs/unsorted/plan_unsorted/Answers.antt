-- `unsorted::plan_unsorted` meets its contract: the order and the ordered list stand at the front of their arrays. Assumes
-- nothing.
use Rattle.ordering.proofs.Unsorteds.{many-answer, many_arrivals, many-records, order_front, ordered_front, whole_answer, whole_arrivals, whole_records}
use Rattle.ordering.proofs.unsorted.plan_unsorted.Goals as goal

pub returns-then-m-gt4096 : goal.returns-then-m-gt4096
returns-then-m-gt4096 c =
    let h = c.if-m-gt4096.true in
    (many-answer _ _ c.args.unsorted.now _ _ h, many_arrivals _ _ c.args.unsorted.now _ _ h, many-records _ _ c.args.unsorted.now _ _ h)

pub returns : goal.returns
returns c =
    let sorted = ordered_front c.args.unsorted.now _ _ c.gather.ensures in
    let order = order_front _ _ _ c.order_into.ensures in
    let planned = c.plan_in_order.ensures in (
      whole_answer _ _ _ _ _ sorted order _ _ _ planned.0,
      whole_arrivals _ _ _ _ _ sorted order _ _ _ planned.1,
      whole_records _ _ _ _ _ sorted order _ _ _ planned.2,
    )
