-- Texts put by a test, and in turn.
use Prim.Native.Nat.{ℕ, ◌+◌}
use mathlib.Core.Path.{◌≡◌}
use mathlib.Core.Bool.{Bool, true, false, cond}
use mathlib.Core.List.{List}
use native.Mathlib.Numerals.{add-one}
use Rattle.text.specs.declared.writer.Writer.{Writer}
use Rattle.text.specs.Writing.{Put}
use Rattle.text.proofs.Writings.{put_none, put_both}
use Rattle.plan_picture.specs.Parts.{in_turn}

module _ (t : Bool) (page : Writer) (a b : List ℕ) (last : Writer) where
  pub put_true : t ≡ true → Put page a last → Put page (cond t a b) last
  put_true e p = rw e p

  pub put_false : t ≡ false → Put page b last → Put page (cond t a b) last
  put_false e p = rw e p

module _ (f : ℕ → List ℕ) (page : Writer) where
  pub turn_start : Put page (in_turn f 0) page
  unfolding in_turn
  turn_start = put_none page

  pub turn_next : (k : ℕ) (now after : Writer) → Put page (in_turn f k) now → Put now (f k) after → Put page (in_turn f (k + 1)) after
  unfolding in_turn
  turn_next k now after p q = rw add-one (put_both page now after (in_turn f k) (f k) p q)
