-- The turns of one coordinate more, from the last entry down: the entries from 2j on are made, and those before j stand.
use mathlib.Core.Path.{◌≡◌, refl, sym, ◌∙◌, ap, ap₂}
use mathlib.Core.Logic.{◌≢◌}
use mathlib.Core.List.{List, [], ◌∷◌}
use Prim.Native.Nat.{ℕ, ◌+◌, ◌*◌, ◌/◌, ◌%◌, ◌<◌, ◌≤◌}
use native.Mathlib.Omega.{arith}
use native.Mathlib.Decide.{ℕ_discrete}
use lib.ListN.{length}
use Rattle.algebra.specs.Multilinear.{bit_factor}
use Rattle.algebra.proofs.Expression.{:1, ◌:-◌, ◌:*◌, ◌:=◌}
use Rattle.algebra.proofs.Solver.{solve}
use Rattle.field.specs.Element.{Elem, F, ◌⊖◌, ◌⊗◌, elem_of, words_of}
use Rattle.field.specs.Slice.{elem_at, words_at, put}
use Rattle.field.proofs.Slices.{length-put, elem_other}
use Rattle.field.proofs.ElementWords.{words_same, words_other}

pub record Spreading (old : List ℕ) (half : ℕ) (x : Elem) (j : ℕ) (new : List ℕ) : Type 0 where
  pub bound : j ≤ half
  pub kept : length new ≡ length old
  pub made : (k : ℕ) → 2 * j ≤ k → k < 2 * half → words_at new k ≡ words_of (elem_at old (k / 2) ⊗ bit_factor F x (k % 2))
  pub rest : (k : ℕ) → k < j → elem_at new k ≡ elem_at old k

-- an entry without the new coordinate, and with it
low_part : (e x : Elem) → e ⊖ e ⊗ x ≡ e ⊗ bit_factor F x 0
unfolding bit_factor
low_part e x = solve F (e ∷ x ∷ []) (λ e x. e :- e :* x := e :* (:1 :- x)) refl

high_part : (e x : Elem) → e ⊗ x ≡ e ⊗ bit_factor F x 1
unfolding bit_factor
high_part e x = refl

-- one turn: entry i, the last of those before j, is read and makes entries 2i and 2i + 1
module _ (old : List ℕ) (half : ℕ) (x : Elem) (j i : ℕ) (b : List ℕ) (t : Spreading old half x j b) (next : i + 1 ≡ j) (room : 8 * half ≤ length old) where
  pub spreading_turn : (hi lo : List ℕ) {b₁ b₂ : List ℕ} → elem_of hi ≡ elem_at b i ⊗ x → elem_of lo ≡ elem_at b i ⊖ elem_at b i ⊗ x → b₁ ≡ put b (2 * i + 1) (elem_of hi)
      → b₂ ≡ put b₁ (2 * i) (elem_of lo) → Spreading old half x i b₂
  spreading_turn hi lo {b₁} {b₂} eh el e₁ e₂ =
      record {
        bound = omega (arith, top);
        kept = ap length e₂ ∙ length-put b₁ (2 * i) (elem_of lo) ∙ size;
        made = λ k g l. entry k g l (ℕ_discrete k (2 * i)) (ℕ_discrete k (2 * i + 1));
        rest = λ k l.
            ap (λ ws. elem_at ws k) e₂ ∙ elem_other b₁ (2 * i) k (elem_of lo) (λ q. omega arith) ∙ ap (λ ws. elem_at ws k) e₁
            ∙ elem_other b (2 * i + 1) k (elem_of hi) (λ q. omega arith) ∙ t.rest k (omega arith);
      }
    where
      top : j ≤ half
      top = t.bound

      size : length b₁ ≡ length old
      size = ap length e₁ ∙ length-put b (2 * i + 1) (elem_of hi) ∙ t.kept

      here : elem_at b i ≡ elem_at old i
      here = t.rest i (omega arith)

      above : (k : ℕ) → 2 * i ≤ k → k ≢ 2 * i → k ≢ 2 * i + 1 → 2 * j ≤ k
      above k g n n' = omega arith

      part : (k c : ℕ) {e : Elem} → k / 2 ≡ i → k % 2 ≡ c → e ≡ elem_at b i ⊗ bit_factor F x c → words_of e ≡ words_of (elem_at old (k / 2) ⊗ bit_factor F x (k % 2))
      part k c q r e = ap words_of (e ∙ ap₂ (λ a d. a ⊗ bit_factor F x d) (here ∙ ap (elem_at old) (sym q)) (sym r))

      entry : (k : ℕ) → 2 * i ≤ k → k < 2 * half → Dec (k ≡ 2 * i) → Dec (k ≡ 2 * i + 1) → words_at b₂ k ≡ words_of (elem_at old (k / 2) ⊗ bit_factor F x (k % 2))
      entry k g l (yes e) _ =
          ap₂ words_at e₂ e ∙ words_same b₁ (2 * i) (elem_of lo) (omega (arith, size, top)) ∙ part k 0 (omega arith) (omega arith) (el ∙ low_part (elem_at b i) x)
      entry k g l (no n) (yes e) =
          ap₂ words_at e₂ e ∙ words_other b₁ (2 * i) (2 * i + 1) (elem_of lo) (λ q. omega arith) ∙ ap (λ ws. words_at ws (2 * i + 1)) e₁
          ∙ words_same b (2 * i + 1) (elem_of hi) (omega (arith, t.kept, top)) ∙ part k 1 (omega arith) (omega arith) (eh ∙ high_part (elem_at b i) x)
      entry k g l (no n) (no n') =
          ap (λ ws. words_at ws k) e₂ ∙ words_other b₁ (2 * i) k (elem_of lo) n ∙ ap (λ ws. words_at ws k) e₁ ∙ words_other b (2 * i + 1) k (elem_of hi) n'
          ∙ t.made k (above k g n n') l
