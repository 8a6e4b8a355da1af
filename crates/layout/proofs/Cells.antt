-- Counting cells, heights and their logs: the turns of the loops. Assumes nothing.
use Prim.Native.Nat.{ℕ, ◌+◌, ◌*◌, ◌%◌, ◌^◌, ◌<◌, ◌≤◌}
use mathlib.Core.Path.{◌≡◌, ap, ◌∙◌}
use mathlib.Core.Bool.{cond}
use mathlib.Core.List.{List}
use native.Mathlib.Nat.{mul-le-mul, le_antisymm}
use native.Mathlib.Numerals.{add-one}
use native.Mathlib.Decide.{ℕ_discrete}
use native.Mathlib.Omega.{arith}
use lib.ListN.{get_or}
use lib.Dec.{eqb}
use lib.Count.{ones, count_trailing_zeros}
use lib.Pow.{pow_mono}
use Rattle.layout.specs.Checks.{first_of}
use Rattle.layout.specs.Triples.{count_of, width_at, log_at}
use Rattle.layout.specs.Logs.{log_word, height_number}
use Rattle.layout.specs.Stacked.{cells_of, cells_before, cell_count}
use Rattle.layout.specs.Shaped.{Laid}
use Rattle.layout.proofs.Turns.{asks}
use Rattle.layout.proofs.Firsts.{first_more, first_found, passed, refused, differs, same}

pub cells_few : (w h : ℕ) → w ≤ 4096 → h ≤ 24 → w * 2 ^ h ≤ 2 ^ 36
cells_few w h a b = omega (arith, mul-le-mul {n₁ = w} {m₁ = 2 ^ h} {n₂ = 4096} {m₂ = 2 ^ 24} a (pow_mono b))

-- 3
module _ (list : List ℕ) (i : ℕ) where
  pub height_turn : first_of i (height_number list) ≡ 0 → ones (log_at list i) ≡ 1 → first_of (i + 1) (height_number list) ≡ 0
  unfolding height_number
  height_turn e h = first_more i (height_number list) e (passed 3 _ (same (ones (log_at list i)) 1 h))

  pub height-found : i < count_of list → first_of i (height_number list) ≡ 0 → (ones (log_at list i) ≡ 1 → ⊥) → 3 ≡ first_of (count_of list) (height_number list)
  unfolding height_number
  height-found k e h = first_found (count_of list) i (height_number list) 3 k e (refused 3 _ (differs (ones (log_at list i)) 1 h)) (λ z. omega arith)

-- the count of cells
module _ (l n' : ℕ) (list : List ℕ) (ok : Laid l n' list) (i n w v : ℕ) (there : i < count_of list) (was : n ≡ cells_before list i) (is : w ≡ width_at list i) where
  module _ (adds : v ≡ w * 2 ^ log_at list i) where
    pub cells_turn : n + v ≡ cells_before list (i + 1)
    unfolding cells_before cells_of
    cells_turn = cc (add-one i)

    cell_bound : v ≤ 2 ^ 36
    cell_bound = by_case (ℕ_discrete w 0)
      where
        by_case : Dec (w ≡ 0) → v ≤ 2 ^ 36
        by_case (yes z) = omega (arith, adds, ap (λ (x : ℕ). x * 2 ^ log_at list i) z)
        by_case (no z) = omega (arith, adds, cells_few w (log_at list i) (asks l n' list i w ok there is).0 ((asks l n' list i w ok there is).1 (omega arith)))

    pub cells_small' : n ≤ i * 2 ^ 36 → n + v ≤ (i + 1) * 2 ^ 36
    cells_small' h = omega (arith, cell_bound)

pub cells_end : (list : List ℕ) (i n : ℕ) → n ≡ cells_before list i → i ≤ count_of list → count_of list ≤ i → n ≡ cell_count list
cells_end list i n e a b = e ∙ ap (cells_before list) (le_antisymm a b)

-- the list with log heights
pub log_word_lem : (list : List ℕ) (k x : ℕ) → x ≡ cond (eqb (k % 3) 1) (count_trailing_zeros 32 (get_or list k 0)) (get_or list k 0) → x ≡ log_word list k
unfolding log_word
log_word_lem list k x e = e
