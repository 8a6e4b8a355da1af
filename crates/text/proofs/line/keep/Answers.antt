-- `text::line::keep` meets its contract.
use mathlib.Core.Path.{refl, sym}
use borrow.Author.Tests.{lt-ltb, le-ltb}
use lib.Seq.{set_out}
use Rattle.text.specs.Reading.{counted}
use Rattle.text.proofs.line.keep.Goals as goal

pub returns-then-count-room : goal.returns-then-count-room
unfolding counted
returns-then-count-room c = (simp (lt-ltb _ _ c.if-count-room.true), refl)

pub returns : goal.returns
unfolding counted
returns c = (simp (le-ltb _ _ c.if-count-room.false), sym (set_out c.args.numbers.now _ _ c.if-count-room.false))
