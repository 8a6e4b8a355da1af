-- The turns of a pass: after i of them every entry that comes from below i is made.
use Rattle.std.proofs.Common.{◌≡◌, ℕ, suc, ◌+◌, ◌-◌, ◌*◌, ◌%◌, ◌^◌, ◌<◌, ◌≤◌, min, ◌⊎◌, List, length, sym, ap, ◌∙◌, subst, ap₂, inl, inr, le_of_suc-le-suc, eq-or-lt_of_le, arith}
use native.Mathlib.Nat
use native.Mathlib.Nat.{two-pow-succ}
use Rattle.algebra.specs.Ring.{pow}
use Rattle.algebra.proofs.Powers.{two_pow-pos}
use Rattle.field.specs.Word.{Fp, word_of, number}
use Rattle.field.specs.Element.{Elem, F, ◌⊕◌, ◌⊖◌, ◌⊗◌, from_word, elem_of, words_of}
use Rattle.field.specs.Powers.{generator, root}
use Rattle.field.specs.Slice.{elem_at, words_at, put}
use Rattle.field.proofs.Elements.{elem_of_words}
use Rattle.field.proofs.ElementWords.{elem_of_words_at, words_same, words_other}
use Rattle.field.proofs.Slices.{length-put}
use Rattle.tables.specs.Passes.{source, of_order}
use Rattle.tables.proofs.KernelTableLoop.{power_word}
use Rattle.prover.specs.Transforms.{backward, pass_f}
use Rattle.prover.specs.Gained.{Table}
use Rattle.prover.proofs.PassPlaces.{target, source_low, source-high, only_these, source-small, target_space, small, factor, made_low, made-high}

-- after i turns
pub record Made (l s : ℕ) (f : ℕ → Elem) (i : ℕ) (new : List ℕ) : Type 0 where
  pub bound : i ≤ 2 ^ (l - 1)
  pub size : length new ≡ 4 * 2 ^ l
  pub entries : (n : ℕ) → n < 2 ^ l → source s n < i → words_at new n ≡ words_of (f n)

pub made_start : (l s : ℕ) (f : ℕ → Elem) (old : List ℕ) → length old ≡ 4 * 2 ^ l → Made l s f 0 old
made_start l s f old e = record { bound = omega arith; size = e; entries = λ n h k. absurd (omega arith) }

pub made_end : (l s : ℕ) (f : ℕ → Elem) (i : ℕ) (new : List ℕ) → s < l → 2 ^ (l - 1) ≤ i → Made l s f i new → Table (2 ^ l) f new
made_end l s f i new lt h m = record { size = m.size; entries = λ n k. m.entries n k (omega (arith, source-small l s n lt k)) }

module _ (l s : ℕ) (f : ℕ → Elem) (i : ℕ) (b : List ℕ) (lt : s < l) (m : Made l s f i b) (more : i < 2 ^ (l - 1)) where
  abbrev t : ℕ
  t = target s i

  stored : Made l s f (i + 1) (put (put b t (f t)) (t + 2 ^ s) (f (t + 2 ^ s)))
  stored =
      record {
        bound = omega arith;
        size = length-put b1 (t + 2 ^ s) (f (t + 2 ^ s)) ∙ l1;
        entries = λ n h k. entry n h (eq-or-lt_of_le (le_of_suc-le-suc (omega arith)));
      }
    where
      b1 : List ℕ
      b1 = put b t (f t)

      l1 : length b1 ≡ 4 * 2 ^ l
      l1 = length-put b t (f t) ∙ m.size

      entry : (n : ℕ) → n < 2 ^ l → (source s n ≡ i) ⊎ (source s n < i) → words_at (put b1 (t + 2 ^ s) (f (t + 2 ^ s))) n ≡ words_of (f n)
      entry n h (inr k) =
          words_other b1 (t + 2 ^ s) n (f (t + 2 ^ s)) (λ e. omega (arith, ap (source s) e, source-high s i))
          ∙ words_other b t n (f t) (λ e. omega (arith, ap (source s) e, source_low s i)) ∙ m.entries n h k
      entry n h (inl e) = here (only_these s i n e)
        where
          here : (n ≡ t) ⊎ (n ≡ t + 2 ^ s) → words_at (put b1 (t + 2 ^ s) (f (t + 2 ^ s))) n ≡ words_of (f n)
          here (inl q) =
              words_other b1 (t + 2 ^ s) n (f (t + 2 ^ s)) (λ r. omega (arith, two_pow-pos s)) ∙ ap (words_at b1) q
              ∙ words_same b t (f t) (omega (arith, m.size, target_space l s i lt more)) ∙ ap (λ n. words_of (f n)) (sym q)
          here (inr q) =
              ap (words_at (put b1 (t + 2 ^ s) (f (t + 2 ^ s)))) q ∙ words_same b1 (t + 2 ^ s) (f (t + 2 ^ s)) (omega (arith, l1, target_space l s i lt more)) ∙ ap (λ n. words_of (f n)) (sym q)

  -- from the words that are stored
  made_turn : (block : ℕ) → block ≡ 2 ^ s → (x y : List ℕ) {b1 b2 : List ℕ} → elem_of x ≡ f t → elem_of y ≡ f (t + 2 ^ s) → b1 ≡ put b (2 * i - i % block) (elem_of x)
      → b2 ≡ put b1 (2 * i - i % block + block) (elem_of y) → Made l s f (i + 1) b2
  made_turn block eb x y {b1} {b2} ex ey e1 e2 = subst (Made l s f (i + 1)) (sym same) stored
    where
      same : b2 ≡ put (put b t (f t)) (t + 2 ^ s) (f (t + 2 ^ s))
      same =
          e2 ∙ ap₂ (λ n e. put b1 (2 * i - i % n + n) e) eb ey
          ∙ ap (λ z. put z (t + 2 ^ s) (f (t + 2 ^ s))) (e1 ∙ ap₂ (λ n e. put b (2 * i - i % n) e) eb ex)

-- the places that a turn writes
pub turn_room : (l s i : ℕ) {block : ℕ} → s < l → i < 2 ^ (l - 1) → block ≡ 2 ^ s → 2 * i - i % block + block < 2 ^ l
turn_room l s i lt h e = rw e (target_space l s i lt h)

-- a turn of the code
pub pass_turn : (l s : ℕ) (a : List ℕ) (i : ℕ) (b : List ℕ) {block pairs w : ℕ} {x z y lo hi b1 b2 : List ℕ} → l ≤ 10 → s < l → Made l s (pass_f l s (elem_at a)) i b → i < pairs
    → block ≡ 2 ^ s → pairs ≡ 2 ^ (l - 1) → x ≡ words_at a i → w ≡ number (pow Fp (generator (min (s + 1) 10)) (2 * block - i % block)) → z ≡ words_at a (i + pairs)
    → y ≡ words_of (from_word (word_of w) ⊗ elem_of z) → lo ≡ words_of (elem_of x ⊕ elem_of y) → hi ≡ words_of (elem_of x ⊖ elem_of y)
    → b1 ≡ put b (2 * i - i % block) (elem_of lo) → b2 ≡ put b1 (2 * i - i % block + block) (elem_of hi) → Made l s (pass_f l s (elem_at a)) (i + 1) b2
pass_turn l s a i b {block} {pairs} {w} {x} {z} {y} {lo} {hi} fits lt m more eb ep ex ew ez ey elo ehi e1 e2 =
    made_turn l s (pass_f l s (elem_at a)) i b lt m (omega arith) block eb lo hi
    (elem_of_words _ elo ∙ ap₂ ◌⊕◌ first second ∙ sym (made_low l fits s lt (elem_at a) i)) (elem_of_words _ ehi ∙ ap₂ ◌⊖◌ first second ∙ sym (made-high l fits s lt (elem_at a) i)) e1 e2
  where
    first : elem_of x ≡ elem_at a i
    first = ap elem_of ex ∙ elem_of_words_at a i

    power : from_word (word_of w) ≡ pow F (of_order F l (backward l) (suc s)) (i % 2 ^ s)
    power =
        power_word s (2 * block - i % block) (omega arith) ew
        ∙ ap (λ n. pow F (root (s + 1)) n) (ap (λ n. 2 * n - i % n) eb ∙ ap (λ n. n - i % 2 ^ s) (sym (Nat.pow-succ' 2 s)))
        ∙ factor l fits s (i % 2 ^ s) lt (omega (arith, small s i, two-pow-succ s))

    second : elem_of y ≡ pow F (of_order F l (backward l) (suc s)) (i % 2 ^ s) ⊗ elem_at a (i + 2 ^ (l - 1))
    second = elem_of_words _ ey ∙ ap₂ ◌⊗◌ power (ap elem_of ez ∙ elem_of_words_at a (i + pairs) ∙ ap (λ n. elem_at a (i + n)) ep)
