-- `text::line::from_start` meets its contract.
use mathlib.Core.Path.{refl, sym, ◌∙◌}
use borrow.Author.Tests.{eq-eqb, ne_eqb}
use Rattle.text.specs.Reading.{start_place, start_word}
use Rattle.text.proofs.line.from_start.Goals as goal

pub returns-then-byte-eq35 : goal.returns-then-byte-eq35
unfolding start_place start_word
returns-then-byte-eq35 c = simp (eq-eqb _ _ c.if-byte-eq35.true) (refl, refl)

pub returns-then-is_letter : goal.returns-then-is_letter
unfolding start_place start_word
returns-then-is_letter c =
    let i = c.is_letter in
    let n = ne_eqb _ _ c.if-byte-eq35.false in
    let l = sym i.ensures ∙ c.if-is_letter.true in
    simp (n, l) c.put_letter.ensures

pub returns : goal.returns
unfolding start_place start_word
returns c =
    let n = ne_eqb _ _ c.if-byte-eq35.false in
    let l = sym c.is_letter.ensures ∙ c.if-is_letter.false in
    simp (n, l) (refl, refl)
