-- `plan_text::finish` meets its contract.
use mathlib.Core.Path.{refl, sym}
use borrow.Author.Tests.{lt-ltb, le-ltb}
use lib.Seq.{set_out}
use Rattle.plan_text.specs.Steps.{ended_of}
use Rattle.plan_text.proofs.finish.Goals as goal

pub returns-then-count-words : goal.returns-then-count-words
unfolding ended_of
returns-then-count-words c = (simp (lt-ltb _ _ c.if-count-words.true), refl)

pub returns : goal.returns
unfolding ended_of
returns c = (simp (le-ltb _ _ c.if-count-words.false) c.refuse.ensures, sym (set_out c.args.words.now _ _ c.if-count-words.false))
