-- `stacked_pcs::mat_view` meets its contract: the part, and the shape of it. Assumes nothing.
use mathlib.Core.Path.{sym, ◌∙◌}
use Rattle.views.proofs.stacked_pcs.mat_view.Goals as goal

pub returns : goal.returns
returns c = record { part = c.mat_view-values.ensures; shape = sym c.mat_shape.ensures ∙ c.in_ok-shape.was }
