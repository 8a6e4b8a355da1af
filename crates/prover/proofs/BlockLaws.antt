-- A buffer is blocks of four words if each of its elements is, words and all.
use Rattle.std.proofs.Common.{◌≡◌, ℕ, zero, suc, ◌+◌, ◌*◌, ◌<◌, List, [], ◌∷◌, ◌++◌, length, get_or, sym, refl, ap, ◌∙◌, ap₂, arith}
use Rattle.field.specs.Slice.{words_at}
use Rattle.prover.specs.Blocks.{blocks}
use Rattle.prover.proofs.Numbers.{four_words}

past_four : (a b c d : ℕ) (ys : List ℕ) (k m : ℕ) → m ≡ suc (suc (suc (suc k))) → get_or (a ∷ b ∷ c ∷ d ∷ ys) m 0 ≡ get_or ys k 0
past_four a b c d ys k m e = ap (λ i. get_or (a ∷ b ∷ c ∷ d ∷ ys) i 0) e

words_past : (a b c d : ℕ) (ys : List ℕ) (i : ℕ) → words_at (a ∷ b ∷ c ∷ d ∷ ys) (suc i) ≡ words_at ys i
unfolding words_at
words_past a b c d ys i =
    four_words (past_four a b c d ys (4 * i) (4 * suc i) (omega arith)) (past_four a b c d ys (4 * i + 1) (4 * suc i + 1) (omega arith))
    (past_four a b c d ys (4 * i + 2) (4 * suc i + 2) (omega arith)) (past_four a b c d ys (4 * i + 3) (4 * suc i + 3) (omega arith))

words_first : (a b c d : ℕ) (ys : List ℕ) → a ∷ b ∷ c ∷ d ∷ [] ≡ words_at (a ∷ b ∷ c ∷ d ∷ ys) 0
unfolding words_at
words_first a b c d ys = refl

pub blocks_is : (m : ℕ) (g : ℕ → List ℕ) (xs : List ℕ) → length xs ≡ 4 * m → ((i : ℕ) → i < m → words_at xs i ≡ g i) → xs ≡ blocks m g
unfolding blocks
blocks_is zero g [] e h = refl
blocks_is zero g (x ∷ xs) e h = absurd (omega arith)
blocks_is (suc m) g [] e h = absurd (omega arith)
blocks_is (suc m) g (a ∷ []) e h = absurd (omega arith)
blocks_is (suc m) g (a ∷ b ∷ []) e h = absurd (omega arith)
blocks_is (suc m) g (a ∷ b ∷ c ∷ []) e h = absurd (omega arith)
blocks_is (suc m) g (a ∷ b ∷ c ∷ d ∷ ys) e h =
    ap₂ (λ u v. u ++ v) (words_first a b c d ys ∙ h 0 (omega arith))
    (blocks_is m (λ i. g (suc i)) ys (omega arith) (λ i l. sym (words_past a b c d ys i) ∙ h (suc i) (omega arith)))
