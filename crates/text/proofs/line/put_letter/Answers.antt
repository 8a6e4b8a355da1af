-- `text::line::put_letter` meets its contract.
use mathlib.Core.Path.{refl, sym}
use borrow.Author.Tests.{lt-ltb, le-ltb}
use lib.Seq.{set_out}
use Rattle.text.specs.Reading.{letter_place}
use Rattle.text.proofs.line.put_letter.Goals as goal

pub returns-then-letters-word : goal.returns-then-letters-word
unfolding letter_place
returns-then-letters-word c = (simp (lt-ltb _ _ c.if-letters-word.true), refl)

pub returns : goal.returns
unfolding letter_place
returns c = (simp (le-ltb _ _ c.if-letters-word.false), sym (set_out c.args.word.now _ _ c.if-letters-word.false))
