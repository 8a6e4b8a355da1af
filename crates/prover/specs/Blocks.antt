-- A buffer of n elements of four words each: the words of element i are g i.
use Rattle.std.specs.Prelude.{ℕ, zero, suc, ◌+◌, ◌*◌, cond, List, [], ◌++◌, take, drop, nat_lt}
use Rattle.algebra.specs.Multilinear.{fold_mle}
use Rattle.field.specs.Element.{Elem, F, words_of}
use Rattle.field.specs.Slice.{words_at}
use Rattle.prover.specs.Written.{elems_from}

unfoldable pub blocks : ℕ → (ℕ → List ℕ) → List ℕ
blocks zero g = []
blocks (suc n) g = g 0 ++ blocks n (λ i. g (suc i))

-- the words of n elements from index `at` on
abbrev pub part : List ℕ → ℕ → ℕ → List ℕ
part xs at n = take (4 * n) (drop (4 * at) xs)

-- 2·half elements from index `at` on with their lowest variable put at u: the values first, zeros after; what stands behind them stays.
-- Document 01: after a fold the values stand first, zeros after.
unfoldable pub folded_words : List ℕ → ℕ → ℕ → Elem → ℕ → List ℕ
folded_words xs at half u i =
    cond (nat_lt i half) (words_of (fold_mle F (elems_from xs at) u i)) (cond (nat_lt i (2 * half)) (words_of F.zero) (words_at xs (at + i)))
