-- Texts put by a writer, one behind the other.
use Prim.Native.Nat.{ℕ}
use mathlib.Core.Path.{refl, ◌∙◌}
use mathlib.Core.List.{List, [], ◌++◌}
use Rattle.text.specs.declared.writer.Writer.{Writer}
use Rattle.text.specs.Writing.{Put}
use Rattle.text.proofs.Pages.{appended_both}
use Rattle.text.proofs.Templates.{appended_none}

pub put_none : (w : Writer) → Put w [] w
put_none w = record { page = refl; appended = appended_none w.out.now w.at }

pub put_both : (u v w : Writer) (a b : List ℕ) → Put u a v → Put v b w → Put u (a ++ b) w
put_both u v w a b p q = record {
  page = q.page ∙ p.page;
  appended = appended_both u.out.now v.out.now w.out.now a b u.at v.at w.at p.appended q.appended;
}
