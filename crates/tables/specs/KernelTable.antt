-- The Lagrange kernels at u of all powers of the skip subgroup, L_0(u), L_1(u), .., the words of one element after the other:
-- the weights by which the fold at u_0 adds up rows.
use Rattle.std.specs.declared.result.Result.TheVariants.{Ok, Err}
use Rattle.std.specs.Prelude.{Result, Bool, cond, List, ℕ, ◌*◌, ◌^◌, eqb, leb, length}
use Rattle.field.specs.Element.{Elem}
use Rattle.field.specs.Slice.{elem_words}
use Rattle.field.specs.declared.answer.Refusal.{Refusal}
use Rattle.field.specs.declared.answer.Refusal.TheVariants.{LimitExceeded, WrongLength}
use Rattle.tables.specs.AtField.{lagrange_f}

unfoldable pub kernel_table : ℕ → Elem → List ℕ
kernel_table l u = elem_words (2 ^ l) (λ i. lagrange_f l i u)

unfoldable pub kernel_fits : ℕ → List ℕ → Bool
kernel_fits l out = eqb (length out) (4 * 2 ^ l)

unfoldable pub kernel_answer : ℕ → List ℕ → Result (Unit {0}) Refusal
kernel_answer l out = cond (leb l 10) (cond (kernel_fits l out) (Ok tt) (Err WrongLength)) (Err LimitExceeded)

unfoldable pub kernel_exit : ℕ → Elem → List ℕ → List ℕ
kernel_exit l u out = cond (leb l 10) (cond (kernel_fits l out) (kernel_table l u) out) out
