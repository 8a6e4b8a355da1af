use mathlib.Core.Path.{◌≡◌, sym, ◌∙◌}
use mathlib.Core.Bool.{false≢true}
use mathlib.Core.List.{[]}
use native.Mathlib.Omega.{arith}
use borrow.Author.Count.{below_more}
use lib.ListN.{get_or, length}
use Rattle.std.proofs.lemmas.Bool.Decides.{Decides-eqb}
use Rattle.std.proofs.lemmas.Slice.Eq.{slice_eq-Decides}
use Rattle.text.specs.Names.{words_of}
use Rattle.text.proofs.Words.{here, below, next, all_passed}
use Rattle.text.proofs.name.search.Goals as goal

pub returns-then-eq : goal.returns-then-eq
returns-then-eq c =
    let a = c.args in
    let l = c.loop-at in
    let t = c.loop-at-test.true in
    let e = c.end_of-end in
    let names = a.names.now in
    let w = here names (words_of names) l.k l.at e.result l.invariant.0 t e.ensures.0 in
    let same = slice_eq-Decides Decides-eqb _ _ _ c.eq.ensures in (
      below names (words_of names) l.k l.at e.result l.invariant.0 t e.ensures.0,
      record { within = l.invariant.2; before = l.invariant.3; found = λ h. w ∙ same.0 c.if-eq.true },
    )

pub loop-at-preserved : goal.loop-at-preserved
loop-at-preserved c =
    let a = c.args in
    let l = c.loop-at in
    let t = c.loop-at-test.true in
    let e = c.end_of-end in
    let names = a.names.now in
    let w = here names (words_of names) l.k l.at e.result l.invariant.0 t e.ensures.0 in
    let same = slice_eq-Decides Decides-eqb _ _ _ c.eq.ensures in (
      next names (words_of names) l.k l.at e.result l.invariant.0 t e.ensures.0,
      omega arith,
      omega (arith, below names (words_of names) l.k l.at e.result l.invariant.0 t e.ensures.0),
      below_more (λ j. get_or (words_of names) j [] ≡ a.word.now → ⊥) l.k l.invariant.3 (λ q. false≢true (sym c.if-eq.false ∙ same.1 (sym w ∙ q))),
    )

pub returns : goal.returns
returns c =
    let a = c.args in
    let l = c.loop-at in
    let none = all_passed a.names.now (words_of a.names.now) l.k l.at 0 l.invariant.0 c.loop-at-test.false in
    let all : l.k ≡ length (words_of a.names.now) = omega arith in
    (all, record { within = l.invariant.2; before = l.invariant.3; found = λ h. absurd (omega arith) })
