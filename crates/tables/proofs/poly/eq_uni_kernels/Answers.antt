use Rattle.field.specs.Element.{elem_of}
use Rattle.tables.proofs.KernelAnswers.{above_limit, other_length, kernels_done}
use Rattle.tables.proofs.poly.eq_uni_kernels.Goals as goal

pub returns-then-l_skip-gt10 : goal.returns-then-l_skip-gt10
returns-then-l_skip-gt10 c = let whole = above_limit c.args.l_skip (elem_of c.args.u) c.args.out.now c.if-l_skip-gt10.true in record { value = whole.0; out_after = whole.1 }

pub returns-then-out-entries : goal.returns-then-out-entries
returns-then-out-entries c = let whole = other_length c.args.l_skip (elem_of c.args.u) c.args.out.now c.if-l_skip-gt10.false c.if-out-entries.true in record { value = whole.0; out_after = whole.1 }

pub returns : goal.returns
returns c = let whole = kernels_done c.args.l_skip (elem_of c.args.u) c.args.out.now c.if-l_skip-gt10.false c.if-out-entries.false c.fill_kernels.ensures in record { value = whole.0; out_after = whole.1 }
