-- `plan_text::step` meets its contract.
use mathlib.Core.Path.{refl, sym, ◌∙◌}
use borrow.Author.Tests.{eq-eqb, ne_eqb}
use Rattle.plan_text.specs.Steps.{reading_of, words_of, digit_of}
use Rattle.plan_text.proofs.Readings.{not_ending}
use Rattle.plan_text.proofs.step.Goals as goal

pub returns-in-Between : goal.returns-in-Between
unfolding reading_of words_of
returns-in-Between c = rw c.in-Between.is (c.digit.ensures, refl)

pub returns-then-is_digit : goal.returns-then-is_digit
unfolding reading_of words_of
returns-then-is_digit c =
    let d = sym c.is_digit.ensures ∙ c.if-is_digit.true in
    rw c.in-Within.is (simp (not_ending c.in-Within.count c.args.b d) (c.digit-then-is_digit.ensures, refl))

pub returns-then-b-ending_of : goal.returns-then-b-ending_of
unfolding reading_of words_of
returns-then-b-ending_of c =
    let e = eq-eqb _ _ (c.if-b-ending_of.true ∙ c.ending_of.ensures) in
    rw c.in-Within.is (simp e c.finish.ensures)

pub returns-else-b-ending_of : goal.returns-else-b-ending_of
unfolding reading_of words_of digit_of
returns-else-b-ending_of c =
    let d = sym c.is_digit.ensures ∙ c.if-is_digit.false in
    let e = ne_eqb _ _ (λ h. c.if-b-ending_of.false (h ∙ sym c.ending_of.ensures)) in
    rw c.in-Within.is (simp (e, d) (c.refuse.ensures, refl))

pub returns-in-Wrong : goal.returns-in-Wrong
unfolding reading_of words_of
returns-in-Wrong c = rw c.in-Wrong.is (refl, refl)
