-- The kernels of a height at u_0, from what the functions of the tables promise.
use Rattle.std.proofs.Common.{◌≡◌, ℕ, ◌-◌, ◌^◌, ◌≤◌, min, List, ℤ, ap, ◌∙◌, ap₂, arith}
use Rattle.algebra.specs.Ring.{pow}
use Rattle.field.specs.Word.{Fp, word_of, number}
use Rattle.field.specs.Element.{Elem, F, ◌⊗◌, from_word, half_elem, elem_of, words_of}
use Rattle.field.specs.Powers.{generator, root}
use Rattle.field.specs.Slice.{elem_at}
use Rattle.field.proofs.Elements.{elem_of_words}
use Rattle.field.proofs.Residues.{word_of_number}
use Rattle.tables.specs.InUni.{in_uni}
use Rattle.tables.specs.AtField.{eq_uni_f, lack, in_uni_f}
use Rattle.weights.specs.Run.{Run}
use Rattle.weights.specs.RunOf.{run_of}
use Rattle.weights.specs.ColumnFactor.{raised}
use Rattle.weights.specs.HeightTables.{indicator}
use Rattle.prover.specs.UniKernels.{inside, eq_scale, rot_scale, rot_shift, kernels_of}

-- the generator of order 2^l, times x
pub turned_is : (l : ℕ) (x : List ℕ) → l ≤ 10 → {s : ℕ} {w r : List ℕ} → s ≡ number (pow Fp (generator (min l 10)) 1) → w ≡ words_of (from_word (word_of s)) → r ≡ words_of (elem_of w ⊗ elem_of x)
    → r ≡ words_of (root l ⊗ elem_of x)
unfolding pow
turned_is l x h es ew er =
    er ∙ ap (λ v. words_of (v ⊗ elem_of x))
    (elem_of_words _ ew ∙ ap (λ n. from_word (word_of n)) es ∙ ap (λ v. from_word v) (word_of_number _ ∙ Fp.mul_one (generator (min l 10))) ∙ ap (λ n. from_word (generator n)) {x = min l 10} {y = l} (omega arith))

-- kernels of an l_skip of at most 10
at_most : (l : ℕ) → l ≤ 10 → min l 10 ≡ l
at_most l h = omega arith

pub shift_is : (l : ℕ) (r0 u : Elem) → l ≤ 10 → {x b p q e : List ℕ} → x ≡ words_of r0 → b ≡ words_of (root l ⊗ elem_of x) → p ≡ words_of (eq_uni_f (min l 10) u F.one)
    → q ≡ words_of (eq_uni_f (min l 10) (elem_of b) F.one) → e ≡ words_of (elem_of p ⊗ elem_of q) → e ≡ words_of (eq_uni_f l u F.one ⊗ eq_uni_f l (root l ⊗ r0) F.one)
shift_is l r0 u h ex eb ep eq ee =
    ee ∙ ap₂ (λ a b. words_of (a ⊗ b)) (elem_of_words _ ep ∙ ap (λ k. eq_uni_f k u F.one) (at_most l h))
    (elem_of_words _ eq ∙ ap₂ (λ k z. eq_uni_f k z F.one) (at_most l h) (elem_of_words _ eb ∙ ap (λ z. root l ⊗ z) (elem_of_words _ ex)))

-- `eval_in_uni` at n, of which −n is how far h lies below l_skip
pub inside_is : (l n first : ℕ) (lists point lambda : List ℕ) (h : ℕ) (m : ℤ) (u : Elem) → l ≤ 10 → lack m ≡ l - h → {r : List ℕ} → r ≡ words_of (in_uni_f (min l 10) m u)
    → r ≡ words_of (inside (run_of l n first lists point lambda) h u)
unfolding indicator in_uni_f
inside_is l n first lists point lambda h m u k e er =
    er ∙ ap (λ a. words_of (in_uni F half_elem (a - min (lack m) a) (min (lack m) a) (root a) u)) (at_most l k)
    ∙ ap₂ (λ o d. words_of (in_uni F half_elem o d (root l) u)) {x = l - min (lack m) l} {y = min l h} (omega arith) (omega arith)

-- the three kernels
pub kernels_are : (l n first : ℕ) (lists r lambda : List ℕ) (h : ℕ) (u : List ℕ) → l ≤ 10 → h ≤ 24 → {ind x a shift t p q e₁ e₂ e₃ : List ℕ} {d o d' : ℕ}
    → ind ≡ words_of (inside (run_of l n first lists r lambda) h (elem_of u)) → d ≡ l - h → o ≡ l - d → x ≡ words_of (elem_at r 0) → d' ≡ l - h → a ≡ words_of (pow F (elem_of x) (2 ^ d'))
    → p ≡ words_of (eq_uni_f (min o 10) (elem_of u) (elem_of a)) → t ≡ words_of (root o ⊗ elem_of a) → q ≡ words_of (eq_uni_f (min o 10) (elem_of u) (elem_of t))
    → shift ≡ words_of (eq_uni_f l (elem_of u) F.one ⊗ eq_uni_f l (root l ⊗ elem_at r 0) F.one)
    → e₁ ≡ words_of (elem_of ind ⊗ elem_of p) → e₂ ≡ words_of (elem_of ind ⊗ elem_of q) → e₃ ≡ words_of (elem_of ind ⊗ elem_of shift)
    → record { eq = e₁; rot = e₂; shift = e₃ } ≡ kernels_of (run_of l n first lists r lambda) h (elem_of u)
unfolding eq_scale rot_scale rot_shift raised
kernels_are l n first lists r lambda h u small low {ind} {x} {a} {shift} {t} {p} {q} {e₁} {e₂} {e₃} {d} {o} {d'} ei ed eo ex ed' ea ep et eq es f₁ f₂ f₃ =
    λ i. record { eq = one i; rot = two i; shift = three i }
  where
    run : Run Elem
    run = run_of l n first lists r lambda

    same_order : o ≡ min l h
    same_order = omega arith

    power : elem_of a ≡ pow F (elem_at r 0) (2 ^ (l - h))
    power = elem_of_words _ ea ∙ ap₂ (λ z k. pow F z (2 ^ k)) (elem_of_words _ ex) ed'

    limited : min o 10 ≡ min l h
    limited = omega (arith, same_order)

    one : e₁ ≡ words_of (inside run h (elem_of u) ⊗ eq_uni_f (min l h) (elem_of u) (pow F (elem_at r 0) (2 ^ (l - h))))
    one = f₁ ∙ ap₂ (λ y z. words_of (y ⊗ z)) (elem_of_words _ ei) (elem_of_words _ ep ∙ ap₂ (λ k z. eq_uni_f k (elem_of u) z) limited power)

    two : e₂ ≡ words_of (inside run h (elem_of u) ⊗ eq_uni_f (min l h) (elem_of u) (root (min l h) ⊗ pow F (elem_at r 0) (2 ^ (l - h))))
    two =
        f₂ ∙ ap₂ (λ y z. words_of (y ⊗ z)) (elem_of_words _ ei)
        (elem_of_words _ eq ∙ ap₂ (λ k z. eq_uni_f k (elem_of u) z) limited (elem_of_words _ et ∙ ap₂ (λ k z. root k ⊗ z) same_order power))

    three : e₃ ≡ words_of (inside run h (elem_of u) ⊗ (eq_uni_f l (elem_of u) F.one ⊗ eq_uni_f l (root l ⊗ elem_at r 0) F.one))
    three = f₃ ∙ ap₂ (λ y z. words_of (y ⊗ z)) (elem_of_words _ ei) (elem_of_words _ es)
