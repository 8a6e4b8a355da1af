-- A list in chunks of one size, after the first i of them.
use Prim.Native.Nat.{ℕ, ◌+◌, ◌*◌, ◌/◌, min, ◌≤◌, ◌<◌}
use mathlib.Core.Path.{◌≡◌, sym, ap, ◌∙◌}
use mathlib.Core.List.{List, ◌++◌}
use mathlib.Core.Logic.{⊎_elim}
use native.Mathlib.Nat.{add-zero}
use native.Mathlib.Omega.{arith}
use lib.ListN.{length, get_or, drop, length-append, length-drop, get_or-append}
use lib.Seq.{drop-append_seam, drop-drop, get_or-drop}
use Rattle.text.proofs.Orders.{below_or}

module _ (xs : List ℕ) (size i : ℕ) (rest chunk next : List ℕ) (left : rest ≡ drop (size * i) xs) (cut : rest ≡ chunk ++ next) (full : length chunk ≡ size) where
  pub chunk_next : next ≡ drop (size * (i + 1)) xs
  chunk_next =
      let p : size * i + size ≡ size * (i + 1) = omega arith in
      sym (drop-append_seam chunk next) ∙ ap (λ k. drop k (chunk ++ next)) full ∙ ap (drop size) (sym cut ∙ left) ∙ drop-drop size (size * i) xs ∙ ap (λ k. drop k xs) p

  pub chunk_at : (k : ℕ) → k < size → get_or chunk k 0 ≡ get_or xs (size * i + k) 0
  chunk_at k h = sym (get_or-append chunk next 0 k (omega arith)) ∙ ap (λ l. get_or l k 0) (sym cut ∙ left) ∙ get_or-drop (size * i) xs k 0

  pub chunk_first : 0 < size → get_or chunk 0 0 ≡ get_or xs (size * i) 0
  chunk_first h = chunk_at 0 h ∙ ap (λ k. get_or xs k 0) (add-zero (size * i))

  pub chunk_within : 0 < size → size * i + size ≤ length xs
  chunk_within h = omega (arith, ap length cut, ap length left, length-append chunk next, length-drop (size * i) xs)

-- the end of a loop over the first n pairs of a list, with so many of them left to take
pub pairs_end : (xs rest : List ℕ) (count i n : ℕ) → rest ≡ drop (2 * i) xs → count + i ≡ n → i ≤ length xs / 2 → (0 < count → length rest < 2) → i ≡ min n (length xs / 2)
pairs_end xs rest count i n left taken low none = ⊎_elim
    (λ h. let end = none h in omega (arith, ap length left, length-drop (2 * i) xs))
    (λ h. omega arith)
    (below_or 0 count)
