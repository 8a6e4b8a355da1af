-- `text::line::from_number` meets its contract.
use mathlib.Core.Path.{refl, ap}
use borrow.Author.Tests.{eq-eqb, ne_eqb}
use Rattle.text.specs.declared.line.Place.TheVariants.{Gap}
use Rattle.text.specs.Reading.{number_place, numbers_after}
use Rattle.text.proofs.line.from_number.Goals as goal

pub returns-then-byte-eq32 : goal.returns-then-byte-eq32
unfolding number_place numbers_after
returns-then-byte-eq32 c =
    let k = c.keep in
    simp (eq-eqb _ _ c.if-byte-eq32.true) (ap (Gap c.args.letters) k.ensures.0, k.ensures.1)

pub returns : goal.returns
unfolding number_place numbers_after
returns c = simp (ne_eqb _ _ c.if-byte-eq32.false) (c.in_number.ensures, refl)
