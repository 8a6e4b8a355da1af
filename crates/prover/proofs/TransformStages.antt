-- The passes one after another: what a slice holds after s of them, and that all of them are the transform.
use Rattle.std.proofs.Common.{◌≡◌, ℕ, suc, ◌+◌, ◌-◌, ◌*◌, ◌/◌, ◌%◌, ◌^◌, ◌<◌, ◌≤◌, List, length, sym, ap, ◌∙◌, subst, ap₂, add-one, arith}
use Rattle.algebra.specs.Ring.{pow}
use Rattle.field.specs.Element.{Elem, F, ◌⊕◌, ◌⊗◌, words_of}
use Rattle.field.specs.Powers.{root}
use Rattle.field.specs.Slice.{elem_at}
use Rattle.tables.specs.Passes.{source, of_order, pass}
use Rattle.tables.proofs.FieldSkip.{field_skip}
use Rattle.tables.proofs.Roots.{root_power, root-inverse}
use Rattle.tables.proofs.Passing.{passed_none, passed_all, pass-passed}
use Rattle.prover.specs.Gained.{Elements, Table}
use Rattle.prover.specs.Transforms.{backward, pass_f, passed_f, transformed_f}
use Rattle.prover.proofs.Writing.{own_words}
use Rattle.prover.proofs.ElementTables.{table_entry, table_cong}
use Rattle.prover.proofs.PassPlaces.{w-u, source-small, half_room}

-- what stands in the slices after s passes
pub record Stage (l : ℕ) (v : ℕ → Elem) (s : ℕ) (a b : List ℕ) : Type 0 where
  pub bound : s ≤ l
  pub made : Table (2 ^ l) (passed_f l s v) a
  pub room : length b ≡ 4 * 2 ^ l

pub stage_start : (l : ℕ) (a b : List ℕ) → Elements (2 ^ l) a → length b ≡ 4 * 2 ^ l → Stage l (elem_at a) 0 a b
stage_start l a b e f =
    record {
      bound = omega arith;
      made = record { size = e.size; entries = λ i h. own_words a i (e.canonical i h) ∙ ap words_of (sym (passed_none F l (backward l) (elem_at a) i h)) };
      room = f;
    }

-- a pass reads entries that are there
table_next : (l : ℕ) (v : ℕ → Elem) (s : ℕ) (a b : List ℕ) → l ≤ 10 → s < l → Table (2 ^ l) (passed_f l s v) a → Table (2 ^ l) (pass_f l s (elem_at a)) b → Table (2 ^ l) (passed_f l (s + 1) v) b
unfolding pass
table_next l v s a b fits lt h p = table_cong p (λ i k. read i k ∙ pass-passed F l (backward l) turn s lt v i ∙ ap (λ n. passed_f l n v i) (sym (add-one s)))
  where
    turn : pow F (backward l) (2 ^ l) ≡ F.one
    turn = root_power F l (backward l) (root-inverse F l (root l) (backward l) (w-u l fits) (field_skip l (omega arith)).root)

    read : (i : ℕ) → i < 2 ^ l → pass_f l s (elem_at a) i ≡ pass_f l s (passed_f l s v) i
    read i k =
        let small : source s i < 2 ^ (l - 1) = source-small l s i lt k in
        let twice : 2 ^ l ≡ 2 ^ (l - 1) + 2 ^ (l - 1) = half_room l (omega arith) in
        ap₂ (λ x y. x ⊕ pow F (of_order F l (backward l) (suc s)) (i % 2 ^ suc s) ⊗ y) (table_entry h (source s i) (omega arith)) (table_entry h (source s i + 2 ^ (l - 1)) (omega arith))

table_all : (l : ℕ) (v : ℕ → Elem) (s : ℕ) (a : List ℕ) → s ≡ l → Table (2 ^ l) (passed_f l s v) a → Table (2 ^ l) (transformed_f l v) a
table_all l v s a e h = table_cong h (λ i k. ap (λ n. passed_f l n v i) e ∙ passed_all F l (backward l) v i k)

-- two passes, there and back; the end; and one pass more with a copy
pub stage_next : (l : ℕ) (v : ℕ → Elem) (i : ℕ) (a b : List ℕ) {a' b' : List ℕ} → l ≤ 10 → i < l / 2 → Stage l v (2 * i) a b → Table (2 ^ l) (pass_f l (2 * i) (elem_at a)) b'
    → Table (2 ^ l) (pass_f l (2 * i + 1) (elem_at b')) a' → Stage l v (2 * (i + 1)) a' b'
stage_next l v i a b {a'} {b'} fits lt t p q =
    record {
      bound = omega arith;
      made = subst (λ n. Table (2 ^ l) (passed_f l n v) a') {x = 2 * i + 1 + 1} {y = 2 * (i + 1)} (omega arith) (table_next l v (2 * i + 1) b' a' fits (omega arith) (table_next l v (2 * i) a b' fits (omega arith) t.made p) q);
      room = p.size;
    }

pub stage_even : (l : ℕ) (v : ℕ → Elem) (i : ℕ) (a b : List ℕ) → l / 2 ≤ i → (l % 2 ≡ 1 → ⊥) → Stage l v (2 * i) a b → Table (2 ^ l) (transformed_f l v) a
stage_even l v i a b h even t = let g : 2 * i ≤ l = t.bound in table_all l v (2 * i) a (omega arith) t.made

pub stage_odd : (l : ℕ) (v : ℕ → Elem) (i : ℕ) (a b : List ℕ) {a' b' : List ℕ} → l ≤ 10 → l / 2 ≤ i → l % 2 ≡ 1 → Stage l v (2 * i) a b → Table (2 ^ l) (pass_f l (l - 1) (elem_at a)) b'
    → Table (2 ^ l) (elem_at b') a' → Table (2 ^ l) (transformed_f l v) a'
stage_odd l v i a b {a'} {b'} fits le odd t p q =
    let bound : 2 * i ≤ l = t.bound in
    let here : 2 * i ≡ l - 1 = omega arith in
    table_cong q (table_entry (table_all l v (l - 1 + 1) b' (omega arith) (table_next l v (l - 1) a b' fits (omega arith) (subst (λ s. Table (2 ^ l) (passed_f l s v) a) here t.made) p)))
