-- The loops that put into each row of one slice what it makes with the same row of another, over plain variables.
use Rattle.std.proofs.Common.{◌≡◌, ℕ, ◌+◌, ◌<◌, List, sym, ap, ◌∙◌, subst, ap₂, zero-add, arith}
use Rattle.field.specs.Canonical.{Canonical}
use Rattle.field.specs.Element.{Elem, elem_of, words_of}
use Rattle.field.specs.Slice.{elem_at, words_at, put}
use Rattle.field.proofs.Elements.{elem_of_words}
use Rattle.field.proofs.ElementWords.{elem_of_words_at}
use Rattle.prover.specs.Written.{Written}
use Rattle.prover.specs.Gained.{Elements}
use Rattle.prover.proofs.Writing.{written_turn}

-- a row that is not reached yet
pub row-left : {n : ℕ} {old mid : List ℕ} {f : ℕ → Elem} (i : ℕ) → Elements n old → Written old 0 i f mid → i < n → {y : List ℕ} → y ≡ words_at mid i → Canonical y
row-left i e w h q = subst Canonical (sym (q ∙ w.after i (omega arith))) (e.canonical i h)

pub pair_turn_lem : (op : Elem → Elem → Elem) (from : List ℕ) {n : ℕ} {old mid : List ℕ} (i : ℕ) → Elements n old → Written old 0 i (λ k. op (elem_at old k) (elem_at from k)) mid → i < n
    → {x y z new : List ℕ} → x ≡ words_at from i → y ≡ words_at mid i → z ≡ words_of (op (elem_of y) (elem_of x)) → new ≡ put mid i (elem_of z)
    → Written old 0 (i + 1) (λ k. op (elem_at old k) (elem_at from k)) new
pair_turn_lem op from {old = old} {mid} i e w h {x} {y} {z} ex ey ez en =
    written_turn w (omega (arith, e.size)) (elem_of_words _ ez ∙ ap₂ op (ap elem_of (ey ∙ w.after i (omega arith)) ∙ elem_of_words_at old i) (ap elem_of ex ∙ elem_of_words_at from i))
    (en ∙ ap (λ k. put mid k (elem_of z)) (sym (zero-add i)))
