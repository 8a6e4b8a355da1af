-- Text put by a writer.
use Rattle.std.specs.Prelude.{ℕ, ◌≡◌, List}
use Rattle.text.specs.declared.writer.Writer.{Writer}
use Rattle.text.specs.Printed.{Appended}

-- the text stands in the page behind what stood there before, and the writer holds the same page
pub record Put (before : Writer) (text : List ℕ) (after : Writer) : Type 0 where
  pub page : after.out.ghost_name ≡ before.out.ghost_name
  pub appended : Appended before.out.now before.at text after.at after.out.now
