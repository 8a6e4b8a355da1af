-- One column's values: parts of slices read from the column's own row, and a block's weights from parts of the tables.
use Rattle.std.proofs.Common.{◌≡◌, ℕ, ◌+◌, ◌-◌, ◌*◌, ◌<◌, ◌≤◌, List, take, drop, refl, ap, ◌∙◌, subst, ap₂, arith}
use Rattle.algebra.specs.Ring.{num}
use Rattle.algebra.specs.Multilinear.{line, fold_mle}
use Rattle.algebra.proofs.Sums.{sum_cong_below}
use Rattle.field.specs.Element.{Elem, F, ◌⊕◌, ◌⊗◌, elem_of, words_of}
use Rattle.field.specs.Canonical.{Canonical}
use Rattle.field.specs.Slice.{elem_at, words_at}
use Rattle.field.proofs.Elements.{elem_of_words}
use Rattle.weights.specs.LambdaPowers.{if_flagged}
use Rattle.prover.specs.declared.sumcheck.Evals.{Evals}
use Rattle.prover.specs.Words.{Words}
use Rattle.prover.specs.Written.{elems_from}
use Rattle.prover.specs.RoundValues.{round_bit, Values}
use Rattle.prover.specs.PointBlocks.{weight_line, times_eleven, point_sum, Weights, Ready}
use Rattle.prover.specs.Live.{Held}
use Rattle.prover.proofs.Parts.{part-element, canonical_part, round_bit_cong}

-- s + p · w · x, from words
pub term_is : (s p w x : List ℕ) {a b r : List ℕ} → a ≡ words_of (elem_of p ⊗ elem_of w) → b ≡ words_of (elem_of a ⊗ elem_of x) → r ≡ words_of (elem_of s ⊕ elem_of b)
    → r ≡ words_of (elem_of s ⊕ elem_of p ⊗ elem_of w ⊗ elem_of x)
term_is s p w x ea eb er =
    er ∙ ap (λ v. words_of (elem_of s ⊕ v)) (elem_of_words _ eb ∙ ap (λ v. v ⊗ elem_of x) (elem_of_words _ ea))

-- the part of m elements from index `at` on, as the code cuts it
abbrev pub cut : List ℕ → ℕ → ℕ → List ℕ
cut xs at m = take (4 * (at + m) - 4 * at) (drop (4 * at) xs)

cut-size : (at m : ℕ) → 4 * (at + m) - 4 * at ≡ 4 * m
cut-size at m = omega arith

pub held-part : (xs : List ℕ) (at m w : ℕ) → Held xs at m → w ≡ 4 * m → Words (cut xs at m) w
held-part xs at m w h ew =
    let p = canonical_part xs at m refl (cut-size at m) h.room h.below in
    let r = p.room in
    record { room = omega (arith, cut-size at m); canonical = p.canonical }

eight : (half : ℕ) → 8 * half ≡ 4 * (2 * half)
eight half = omega arith

pub held_pairs : (xs : List ℕ) (at half : ℕ) → Held xs at (2 * half) → Words (cut xs at (2 * half)) (8 * half)
held_pairs xs at half h = held-part xs at (2 * half) (8 * half) h (eight half)

pub values_cong : {f g : Elem → Elem} {r : Evals} → ((x : Elem) → f x ≡ g x) → Values f r → Values g r
values_cong e v = record { at_one = v.at_one ∙ ap words_of (e F.one); at_two = v.at_two ∙ ap words_of (e (num F 2)) }

-- past a column's height
pub short-values : (q : List ℕ) (i bit : ℕ) (weight : Elem) {v r : Evals} {w : List ℕ} → Values (round_bit (elem_at (cut q i 2)) bit) v
    → w ≡ words_of weight → r.one ≡ words_of (elem_of v.one ⊗ elem_of w) → r.two ≡ words_of (elem_of v.two ⊗ elem_of w) → Values (λ x. round_bit (elems_from q i) bit x ⊗ weight) r
short-values q i bit weight v ew e₁ e₂ = record {
  at_one = e₁ ∙ ap₂ (λ s t. words_of (s ⊗ t)) (elem_of_words _ v.at_one ∙ same F.one) (elem_of_words _ ew);
  at_two = e₂ ∙ ap₂ (λ s t. words_of (s ⊗ t)) (elem_of_words _ v.at_two ∙ same (num F 2)) (elem_of_words _ ew);
}
  where
    same : (x : Elem) → round_bit (elem_at (cut q i 2)) bit x ≡ round_bit (elems_from q i) bit x
    same x = round_bit_cong _ _ bit x (part-element q i 2 refl (cut-size i 2) 0 (omega arith)) (part-element q i 2 refl (cut-size i 2) 1 (omega arith))

-- a part of a part
pub held-within : {xs : List ℕ} {at m n : ℕ} (d : ℕ) → Held xs at m → d + n ≤ m → Held xs (at + d) n
held-within {xs} {at} {m} {n} d h k =
    let r = h.room in record { room = omega arith; below = λ i l. subst Canonical (ap (words_at xs) {x = at + (d + i)} {y = at + d + i} (omega arith)) (h.below (d + i) (omega arith)) }

-- the points of a part are those of the slice from there on
part-line : (xs : List ℕ) (at half : ℕ) (x : Elem) (y : ℕ) → y < half → fold_mle F (elem_at (cut xs at (2 * half))) x y ≡ fold_mle F (elems_from xs at) x y
unfolding fold_mle
part-line xs at half x y h =
    ap₂ (λ u v. line F u v x) (part-element xs at (2 * half) refl (cut-size at (2 * half)) (2 * y) (omega arith))
    (part-element xs at (2 * half) refl (cut-size at (2 * half)) (2 * y + 1) (omega arith))

pub part_points : (q : List ℕ) (i half n b : ℕ) (w : ℕ → Elem) (x : Elem) → b + n ≤ half → point_sum n (elem_at (cut q i (2 * half))) b x w ≡ point_sum n (elems_from q i) b x w
unfolding point_sum
part_points q i half n b w x h = sum_cong_below F n (λ y l. ap (λ u. u ⊗ w y) (part-line q i half x (b + y) (omega arith)))

pub points_inside : (q : List ℕ) (i half n b : ℕ) → Held q i (2 * half) → b + n ≤ half → Words (cut q i (2 * half)) (8 * (b + n))
points_inside q i half n b h k = let w = held_pairs q i half h in let r = w.room in record { room = omega arith; canonical = w.canonical }

-- the weights of a block, from parts of the tables
pub weights-part : (n flag : ℕ) (lambda : Elem) (eq rot : List ℕ) (at : ℕ) (x : Elem) {t : List ℕ}
    → Weights n (weight_line flag lambda (elem_at (cut eq at (2 * n))) (elem_at (cut rot at (2 * n))) x) t → Weights n (weight_line flag lambda (elems_from eq at) (elems_from rot at) x) t
unfolding weight_line
weights-part n flag lambda eq rot at x w =
    record { values = λ y h. w.values y h ∙ ap words_of (same y h); beside = λ y h. w.beside y h ∙ ap (λ e. times_eleven (words_of e)) (same y h) }
  where
    same : (y : ℕ) → y < n → weight_line flag lambda (elem_at (cut eq at (2 * n))) (elem_at (cut rot at (2 * n))) x y ≡ weight_line flag lambda (elems_from eq at) (elems_from rot at) x y
    same y h = ap₂ (λ u v. u ⊕ if_flagged F flag (lambda ⊗ v)) (part-line eq at n x y h) (part-line rot at n x y h)

pub ready_none : {n flag : ℕ} {lambda : Elem} {e r : ℕ → Elem} {one two : List ℕ} → n ≡ 0 → Ready n flag lambda e r one two
ready_none z = record {
  at_one = record { values = λ y h. absurd (omega arith); beside = λ y h. absurd (omega arith) };
  at_two = record { values = λ y h. absurd (omega arith); beside = λ y h. absurd (omega arith) };
}
