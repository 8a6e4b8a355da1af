-- Where the tables of each height start, beside the lists that say so, and what the calls over the heights ask of it.
use Rattle.std.specs.Prelude.{ℕ}
use Rattle.prover.specs.declared.heights.Heights.{Heights}
use Rattle.prover.specs.Slots.{table_size, Slots}

abbrev pub Starting : Heights → Type 0
Starting h = Slots h.l_skip h.n_stack h.lists.now h.slots.now

abbrev pub size_of : Heights → ℕ
size_of h = table_size h.l_skip h.n_stack h.lists.now
