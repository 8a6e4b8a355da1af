-- `console_lines::memory::List::grow`: the words that are copied stand behind the list's.
use Rattle.std.proofs.Common.{◌++◌, take, ap, ◌∙◌}
use Rattle.console_lines.proofs.Lists.{grown}
use Rattle.console_lines.proofs.memory.List.grow.Goals as goal

pub returns : goal.returns
returns g c =
    let inside = c.self.inside in
    grown g.row.N inside.len c.min-n.result _ inside.words c.args.xs.now c.copy_from_slice.new.self c.self.told c.self.invariant c.min-n.ensures c.copy_from_slice.ensures.after
    ∙ ap (λ xs. take g.row.N (xs ++ c.args.xs.now)) c.self.view_is
