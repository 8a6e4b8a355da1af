-- The kernel table by doubling: after s orders the first 2^s entries are the kernels of s steps.
use mathlib.Core.Path.{◌≡◌, refl, sym, ◌∙◌, ap, ap₂}
use mathlib.Core.List.{List}
use Prim.Native.Nat.{ℕ, suc, ◌+◌, ◌*◌, ◌-◌, ◌^◌, ◌<◌, ◌≤◌, min}
use native.Mathlib.Nat
use native.Mathlib.Nat.{two-pow-succ}
use native.Mathlib.Numerals.{add-one}
use native.Mathlib.Omega.{arith}
use native.Mathlib.Decide.{dec_lt}
use lib.ListN.{length}
use Rattle.algebra.specs.Ring.{pow}
use Rattle.algebra.proofs.Powers.{two_pow-pos}
use Rattle.field.specs.Word.{Fp, word_of, number}
use Rattle.field.specs.Element.{Elem, F, ◌⊕◌, ◌⊖◌, ◌⊗◌, half_elem, from_word, elem_of, words_of}
use Rattle.field.specs.Powers.{generator, root}
use Rattle.field.specs.Slice.{elem_at, words_at, put}
use Rattle.field.proofs.Residues.{word_of_number}
use Rattle.field.proofs.Slices.{length-put}
use Rattle.field.proofs.Elements.{elem_of_words}
use Rattle.field.proofs.ElementWords.{elem_at_words, words_same, elem_words_is}
use Rattle.field.proofs.Embedding.{from_word-pow, root-raised}
use Rattle.tables.specs.AtField.{lagrange_f}
use Rattle.tables.specs.Doubled.{Doubled}
use Rattle.tables.specs.KernelTable.{kernel_table}
use Rattle.tables.proofs.FieldSkip.{field_skip}
use Rattle.tables.proofs.Roots.{inverse}
use Rattle.tables.proofs.KernelDoubling.{kernel, kernel_start, entry_end, entry_low, entry-high}

-- entry j after s steps, at the field
abbrev pub kernel_f : ℕ → ℕ → Elem → ℕ → Elem
kernel_f l s u j = kernel F half_elem l (inverse F l (root l)) s u j

-- the word that `skip_power` gives, as a power of the root
pub power_word : (s i : ℕ) → s < 10 → {w : ℕ} → w ≡ number (pow Fp (generator (min (s + 1) 10)) i) → from_word (word_of w) ≡ pow F (root (s + 1)) i
power_word s i h e =
    ap (λ n. from_word (word_of n)) e ∙ ap (λ u. from_word u) (word_of_number _) ∙ sym (from_word-pow (generator (min (s + 1) 10)) i)
    ∙ ap (λ n. pow F (root n) i) {x = min (s + 1) 10} {y = s + 1} (omega arith)

pub record Widened (l : ℕ) (u : Elem) (s half : ℕ) (out : List ℕ) : Type 0 where
  pub bound : s ≤ l
  pub size : half ≡ 2 ^ s
  pub kept : length out ≡ 4 * 2 ^ l
  pub entries : (j : ℕ) → j < 2 ^ s → words_at out j ≡ words_of (kernel_f l s u j)

pub widened_start : (l : ℕ) (u : Elem) (old : List ℕ) {a out : List ℕ} → length old ≡ 4 * 2 ^ l → a ≡ words_of F.one → out ≡ put old 0 (elem_of a) → Widened l u 0 1 out
widened_start l u old {a} {out} len ea e =
    record { bound = omega arith; size = refl; kept = ap length e ∙ length-put old 0 (elem_of a) ∙ len; entries = λ j h. first j (omega arith) }
  where
    first : (j : ℕ) → j ≡ 0 → words_at out j ≡ words_of (kernel_f l 0 u j)
    first j z =
        ap₂ words_at e z ∙ words_same old 0 (elem_of a) (omega (arith, two_pow-pos l)) ∙ ap words_of (elem_of_words F.one ea)
        ∙ ap words_of (sym (kernel_start F half_elem l (inverse F l (root l)) u j))

module _ (l : ℕ) (u : Elem) (s half : ℕ) (b : List ℕ) (small : l ≤ 10) (t : Widened l u s half b) (lt : s < l) where
  pub widened_room : 8 * half ≤ length b
  widened_room =
      let p : 2 ^ (s + 1) ≤ 2 ^ l = Nat.pow-le-pow_right {n = 2} (omega arith) (omega arith) in
      omega (arith, t.size, t.kept, two-pow-succ s, ap (λ n. 2 ^ n) (add-one s))

  abbrev d : ℕ
  d = l - s - 1

  raised : pow F (root l) (2 ^ d) ≡ root (s + 1)
  raised = ap (λ n. pow F (root n) (2 ^ d)) {x = l} {y = s + 1 + d} (omega arith) ∙ root-raised (s + 1) d (omega arith)

  abbrev factor : ℕ → Elem
  factor j = pow F (root (s + 1)) (2 ^ suc s - j) ⊗ pow F u (2 ^ d)

  low_entry : (j : ℕ) → j < 2 ^ s → kernel_f l (suc s) u j ≡ half_elem ⊗ kernel_f l s u j ⊕ half_elem ⊗ kernel_f l s u j ⊗ factor j
  low_entry j h = entry_low l (field_skip l (omega arith)) s d (omega arith) (root (s + 1)) u raised j h

  high-entry : (j : ℕ) → j < 2 ^ s → kernel_f l (suc s) u (2 ^ s + j) ≡ half_elem ⊗ kernel_f l s u j ⊖ half_elem ⊗ kernel_f l s u j ⊗ factor j
  high-entry j h = entry-high l (field_skip l (omega arith)) s d (omega arith) (root (s + 1)) u raised j h

  pub widened_turn : (a : List ℕ) {new : List ℕ} → a ≡ words_of (pow F u (2 ^ (l - s - 1)))
      → Doubled b half (λ j e. half_elem ⊗ e ⊕ half_elem ⊗ e ⊗ (pow F (root (s + 1)) (2 * half - j) ⊗ elem_of a)) (λ j e. half_elem ⊗ e ⊖ half_elem ⊗ e ⊗ (pow F (root (s + 1)) (2 * half - j) ⊗ elem_of a)) new
      → Widened l u (s + 1) (half * 2) new
  widened_turn a {new} ea w =
      record {
        bound = omega arith;
        size = omega (arith, t.size, two-pow-succ s, ap (λ n. 2 ^ n) (add-one s));
        kept = w.length_kept ∙ t.kept;
        entries = λ j h. at j (omega (arith, t.size, two-pow-succ s, ap (λ n. 2 ^ n) (add-one s))) (dec_lt j half);
      }
    where
      same : (j : ℕ) → pow F (root (s + 1)) (2 * half - j) ⊗ elem_of a ≡ factor j
      same j = ap₂ (λ n v. pow F (root (s + 1)) (n - j) ⊗ v) (ap (λ n. 2 * n) t.size ∙ sym (Nat.pow-succ' 2 s)) (elem_of_words _ ea)

      old : (j : ℕ) → j < half → elem_at b j ≡ kernel_f l s u j
      old j h = elem_at_words b j _ (t.entries j (omega (arith, t.size)))

      lower : (j : ℕ) → j < half → words_at new j ≡ words_of (kernel_f l (s + 1) u j)
      lower j h =
          w.lower j h ∙ ap₂ (λ e y. words_of (half_elem ⊗ e ⊕ half_elem ⊗ e ⊗ y)) (old j h) (same j)
          ∙ ap words_of (sym (low_entry j (omega (arith, t.size)))) ∙ ap (λ n. words_of (kernel_f l n u j)) (sym (add-one s))

      upper : (j k : ℕ) → half + k ≡ j → k < half → words_at new j ≡ words_of (kernel_f l (s + 1) u j)
      upper j k q h =
          ap (words_at new) (sym q) ∙ w.upper k h ∙ ap₂ (λ e y. words_of (half_elem ⊗ e ⊖ half_elem ⊗ e ⊗ y)) (old k h) (same k)
          ∙ ap words_of (sym (high-entry k (omega (arith, t.size)))) ∙ ap₂ (λ n i. words_of (kernel_f l n u i)) (sym (add-one s)) (ap (λ n. n + k) (sym t.size) ∙ q)

      at : (j : ℕ) → j < half + half → Dec (j < half) → words_at new j ≡ words_of (kernel_f l (s + 1) u j)
      at j h (yes g) = lower j g
      at j h (no g) = upper j (j - half) (omega arith) (omega arith)

pub widened_end : (l : ℕ) (u : Elem) (s half : ℕ) (b : List ℕ) → l ≤ 10 → l ≤ s → Widened l u s half b → b ≡ kernel_table l u
unfolding kernel_table
widened_end l u s half b small h t =
    let e : s ≡ l = let g : s ≤ l = t.bound in omega arith in
    elem_words_is (2 ^ l) (λ i. lagrange_f l i u) b t.kept
    (λ j g. t.entries j (rw e g) ∙ ap (λ n. words_of (kernel_f l n u j)) e ∙ ap words_of (entry_end l (field_skip l (omega arith)) u j (omega arith)))
