-- `console_lines::memory::List::set`: a word past the list's end is in no list.
use Rattle.std.proofs.Common.{ap, ◌∙◌, set}
use Rattle.console_lines.proofs.Lists.{take_set}
use Rattle.console_lines.proofs.memory.List.set.Goals as goal

pub returns : goal.returns
returns g c = take_set c.self.inside.words c.self.inside.len c.args.i c.args.x ∙ ap (λ xs. set xs c.args.i c.args.x) c.self.view_is
