use mathlib.Core.Path.{◌≡◌, ◌∙◌, ap, sym}
use Prim.Native.Nat.{ℕ, ◌+◌, ◌-◌}
use native.Mathlib.Omega.{arith}
use borrow.Author.Rules.{rules}
use Rattle.algebra.specs.Sum.{product}
use Rattle.field.specs.Slice.{elem_at}
use Rattle.field.specs.Element.{Elem, F, ◌⊗◌, elem_of, words_of}
use Rattle.field.proofs.Folds.{counted}
use Rattle.tables.proofs.KernelLoops.{eq_factor, eq_mle-listed, product_none, product_from}
use Rattle.tables.proofs.poly_common.eq_mle_from.Goals as goal

pub returns : goal.returns
returns c =
    let i = c.args.i in
    let factor : ℕ → Elem = λ k. eq_factor (elem_at c.args.x.now k) (elem_at c.args.y.now k) in
    counted (λ k acc. acc ≡ words_of (product F (k - i) (λ j. factor (i + j)))) (λ acc k. words_of (elem_of acc ⊗ factor k))
    (λ k acc above e. product_from factor i k above e) _ (λ acc k r f' q. search rules) (omega arith) (product_none _ i c.from_word.ensures) c.fold.ensures.ran
    ∙ ap (λ n. words_of (product F n (λ j. factor (i + j)))) {x = i + c.args.m - i} {y = c.args.m} (omega arith)
    ∙ ap words_of (sym (eq_mle-listed _ _ _))
