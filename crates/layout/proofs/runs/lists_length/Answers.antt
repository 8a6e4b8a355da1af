-- `runs::lists_length` meets its contract. Assumes nothing.
use Prim.Native.Nat.{ℕ, ◌*◌}
use mathlib.Core.Path.{sym, ap, ◌∙◌}
use native.Mathlib.Omega.{arith}
use Rattle.field.specs.Number.{settled, refusal_of, refusals}
use Rattle.layout.specs.Answers.{answer_of}
use Rattle.layout.specs.Lists.{lists_length}
use Rattle.layout.proofs.Firsts.{passed, refused, differs, same}
use Rattle.layout.proofs.runs.lists_length.Goals as goal

pub overflow_mul-named_count : goal.overflow_mul-named_count
overflow_mul-named_count c = omega (arith, c.named_count.ensures, c.shared_slice_known-1.given 0, c.well_formed)

pub returns-then-lists-named_count : goal.returns-then-lists-named_count
unfolding lists_length answer_of settled refusal_of refusals
returns-then-lists-named_count c = ap answer_of (sym (refused _ _ (differs _ _ (λ e. c.if-lists-named_count.true (e ∙ ap (λ (x : ℕ). 3 * x) (sym c.named_count.ensures))))))

pub returns : goal.returns
unfolding lists_length answer_of settled refusal_of refusals
returns c = ap answer_of (sym (passed _ _ (same _ _ (c.if-lists-named_count.false ∙ ap (λ (x : ℕ). 3 * x) c.named_count.ensures))))
