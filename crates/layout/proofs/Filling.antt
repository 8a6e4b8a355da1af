-- Filling a slice from the front with f 0, f 1, .. Assumes nothing.
use Prim.Native.Nat.{ℕ, suc, ◌+◌, ◌<◌, ◌≤◌}
use mathlib.Core.Path.{◌≡◌, refl, sym, ap, ◌∙◌}
use mathlib.Core.List.{List, [], ◌∷◌, ◌++◌, append_assoc, append-nil}
use native.Mathlib.Numerals.{add-one}
use native.Mathlib.Omega.{arith}
use lib.ListN.{length, get_or, drop, set, length-append, length-drop}
use lib.Seq.{drop-cons, set_at, drop-length}
use Rattle.algebra.specs.Listed.{listed}
use Rattle.algebra.proofs.Lists.{length-listed, listed_last}

-- the slice xs of which the first k are written
abbrev pub Filled : (ℕ → ℕ) → List ℕ → ℕ → List ℕ → Type 0
Filled f xs k now' = now' ≡ listed k f ++ drop k xs

pub fill_start : (f : ℕ → ℕ) (xs : List ℕ) → Filled f xs 0 xs
unfolding listed
fill_start f xs = refl

pub fill_length : (f : ℕ → ℕ) (xs : List ℕ) (k : ℕ) (ys : List ℕ) → k ≤ length xs → Filled f xs k ys → length ys ≡ length xs
fill_length f xs k ys h e =
    omega (arith, ap length e, length-append (listed k f) (drop k xs), length-listed k f, length-drop k xs)

pub fill_turn : (f : ℕ → ℕ) (xs : List ℕ) (k v : ℕ) (ys : List ℕ) → k < length xs → v ≡ f k → Filled f xs k ys → Filled f xs (k + 1) (set ys k v)
fill_turn f xs k v ys h e p =
    ap (λ (zs : List ℕ). set zs k v) (p ∙ ap (λ (zs : List ℕ). listed k f ++ zs) (drop-cons xs k 0 h))
    ∙ (set_at (listed k f) (get_or xs k 0) (drop (suc k) xs) v k (length-listed k f)
    ∙ (ap (λ (x : ℕ). listed k f ++ x ∷ drop (suc k) xs) e
    ∙ (sym (append_assoc (listed k f) (f k ∷ []) (drop (suc k) xs))
    ∙ (ap (λ (zs : List ℕ). zs ++ drop (suc k) xs) (sym (listed_last k f)) ∙ ap (λ (x : ℕ). listed x f ++ drop x xs) (sym (add-one k))))))

pub fill_end : (f : ℕ → ℕ) (xs : List ℕ) (k n : ℕ) (ys : List ℕ) → n ≡ length xs → k ≤ n → n ≤ k → Filled f xs k ys → ys ≡ listed n f
fill_end f xs k n ys e a b p =
    let q : k ≡ length xs = omega arith in
    p ∙ (ap (λ (x : ℕ). listed k f ++ drop x xs) q ∙ (ap (λ (zs : List ℕ). listed k f ++ zs) (drop-length xs)
    ∙ (append-nil (listed k f) ∙ ap (λ (x : ℕ). listed x f) (q ∙ sym e))))
