-- `text::line::from_word` meets its contract.
use mathlib.Core.Path.{refl, sym, ◌∙◌}
use borrow.Author.Tests.{eq-eqb, ne_eqb}
use Rattle.text.specs.Reading.{word_place, word_after}
use Rattle.text.proofs.line.from_word.Goals as goal

pub returns-then-byte-eq32 : goal.returns-then-byte-eq32
unfolding word_place word_after
returns-then-byte-eq32 c = simp (eq-eqb _ _ c.if-byte-eq32.true) (refl, refl)

pub returns-then-is_letter : goal.returns-then-is_letter
unfolding word_place word_after
returns-then-is_letter c =
    let i = c.is_letter in
    let n = ne_eqb _ _ c.if-byte-eq32.false in
    let l = sym i.ensures ∙ c.if-is_letter.true in
    simp (n, l) c.put_letter.ensures

pub returns : goal.returns
unfolding word_place word_after
returns c =
    let n = ne_eqb _ _ c.if-byte-eq32.false in
    let l = sym c.is_letter.ensures ∙ c.if-is_letter.false in
    simp (n, l) (refl, refl)
