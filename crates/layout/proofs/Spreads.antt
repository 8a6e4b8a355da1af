-- Cells at a stride, written where there are zeros. Assumes nothing.
use Prim.Native.Nat.{ℕ, suc, ◌+◌, ◌-◌, ◌*◌, ◌<◌, ◌≤◌}
use mathlib.Core.Path.{◌≡◌, refl, sym, ap, ◌∙◌}
use mathlib.Core.List.{List, [], ◌∷◌, ◌++◌, append_assoc, append-nil}
use native.Mathlib.Nat.{add-mul, mul-le-mul_right}
use native.Mathlib.Numerals.{add-one}
use native.Mathlib.Omega.{arith}
use lib.ListN.{length, get_or, take, drop, set, replicate, length-append, length-take, length-drop, length-replicate, replicate-append-replicate}
use lib.Seq.{set_at, take-suc, get_or-drop}
use Rattle.layout.specs.Shaped.{Spreadable}
use Rattle.layout.specs.Stacked.{spread}

pub spread_append : (s : ℕ) (xs ys : List ℕ) → spread s (xs ++ ys) ≡ spread s xs ++ spread s ys
unfolding spread
spread_append s [] ys = refl
spread_append s (x ∷ xs) ys =
    ap (λ (zs : List ℕ). x ∷ (replicate (s - 1) 0 ++ zs)) (spread_append s xs ys)
    ∙ ap (λ (zs : List ℕ). x ∷ zs) (sym (append_assoc (replicate (s - 1) 0) (spread s xs) (spread s ys)))

pub length-spread : (s : ℕ) (xs : List ℕ) → 0 < s → length (spread s xs) ≡ length xs * s
unfolding spread
length-spread s [] h = omega arith
length-spread s (x ∷ xs) h =
    omega (
      arith,
      length-append (replicate (s - 1) 0) (spread s xs),
      length-replicate {A = ℕ} (s - 1) 0,
      length-spread s xs h,
      add-mul (length xs) 1 s,
      ap (λ (k : ℕ). k * s) (sym (add-one (length xs))),
    )

-- one cell is put down at the first of the zeros
pub put-down : (xs : List ℕ) (r s v : ℕ) → 0 < s → s ≤ r → set (xs ++ replicate r 0) (length xs) v ≡ (xs ++ v ∷ replicate (s - 1) 0) ++ replicate (r - s) 0
put-down xs r s v p h =
    let e : r ≡ suc ((s - 1) + (r - s)) = omega arith in
    ap (λ (k : ℕ). set (xs ++ replicate k 0) (length xs) v) e
    ∙ (set_at xs 0 (replicate ((s - 1) + (r - s)) 0) v (length xs) refl
    ∙ (ap (λ (zs : List ℕ). xs ++ v ∷ zs) (sym (replicate-append-replicate (s - 1) (r - s) 0))
    ∙ sym (append_assoc xs (v ∷ replicate (s - 1) 0) (replicate (r - s) 0))))

-- what is written after t cells
abbrev pub written : List ℕ → ℕ → List ℕ → ℕ → ℕ → ℕ → List ℕ
written out at cells from stride t = take at out ++ spread stride (take t (drop from cells))

pub record Spreading (out : List ℕ) (at : ℕ) (cells : List ℕ) (from count stride t : ℕ) (ys : List ℕ) : Type 0 where
  pub bound : t ≤ count
  pub is : ys ≡ written out at cells from stride t ++ replicate (length out - (at + t * stride)) 0

module _ (out : List ℕ) (at : ℕ) (cells : List ℕ) (from count stride : ℕ) (ok : Spreadable out at cells from count stride) where
  pub spread_start : Spreading out at cells from count stride 0 out
  unfolding spread
  spread_start =
      let e : at + 0 * stride ≡ at = omega arith in
      record {
        bound = omega arith;
        is = ok.zeros ∙ (ap (λ (zs : List ℕ). zs ++ replicate (length out - at) 0) (sym (append-nil (take at out)))
            ∙ ap (λ (k : ℕ). (take at out ++ []) ++ replicate (length out - k) 0) (sym e));
      }

  module _ (t : ℕ) (ys : List ℕ) (w : Spreading out at cells from count stride t ys) where
    cell_room : t < count → at + t * stride + stride ≤ length out
    cell_room h = omega (arith, ok.room, add-mul t 1 stride, mul-le-mul_right {m = t + 1} {n = count} stride (omega arith))

    pub cell-place : t < count → at + t * stride < length out
    cell-place h = omega (arith, cell_room h, ok.step)

    prefix : t ≤ count → at + t * stride ≤ length out
    prefix h = omega (arith, ok.room, mul-le-mul_right {m = t} {n = count} stride h)

    pub written-length : length (written out at cells from stride t) ≡ at + t * stride
    written-length =
        let a : length (take at out) ≡ at = length-take at out ∙ omega (arith, prefix w.bound) in
        let b : length (take t (drop from cells)) ≡ t = length-take t (drop from cells) ∙ omega (arith, length-drop from cells, ok.there, w.bound) in
        omega (arith, length-append (take at out) (spread stride (take t (drop from cells))), a, length-spread stride (take t (drop from cells)) ok.step, ap (λ (k : ℕ). k * stride) b)

    pub spread-length : length ys ≡ length out
    spread-length =
        omega (
          arith,
          ap length w.is,
          length-append (written out at cells from stride t) (replicate (length out - (at + t * stride)) 0),
          written-length,
          length-replicate {A = ℕ} (length out - (at + t * stride)) 0,
          prefix w.bound,
        )

    next_written : (v : ℕ) → t < count → v ≡ get_or cells (from + t) 0 → written out at cells from stride (t + 1) ≡ written out at cells from stride t ++ v ∷ replicate (stride - 1) 0
    unfolding spread
    next_written v h e =
        let taken : take (t + 1) (drop from cells) ≡ take t (drop from cells) ++ v ∷ [] =
        ap (λ (k : ℕ). take k (drop from cells)) (add-one t) ∙ (take-suc (drop from cells) t 0 (omega (arith, length-drop from cells, ok.there))
        ∙ ap (λ (x : ℕ). take t (drop from cells) ++ x ∷ []) (get_or-drop from cells t 0 ∙ sym e)) in
        ap (λ (zs : List ℕ). take at out ++ spread stride zs) taken
        ∙ (ap (λ (zs : List ℕ). take at out ++ zs) (spread_append stride (take t (drop from cells)) (v ∷ []) ∙ ap (λ (zs : List ℕ). spread stride (take t (drop from cells)) ++ v ∷ zs) (append-nil (replicate (stride - 1) 0)))
        ∙ sym (append_assoc (take at out) (spread stride (take t (drop from cells))) (v ∷ replicate (stride - 1) 0)))

    pub spread_turn : (v : ℕ) → t < count → v ≡ get_or cells (from + t) 0 → Spreading out at cells from count stride (t + 1) (set ys (at + t * stride) v)
    spread_turn v h e =
        let r = length out - (at + t * stride) in
        let f : r - stride ≡ length out - (at + (t + 1) * stride) = omega (arith, cell_room h, add-mul t 1 stride) in
        record {
          bound = omega arith;
          is = ap (λ (zs : List ℕ). set zs (at + t * stride) v) w.is
              ∙ (ap (λ (k : ℕ). set (written out at cells from stride t ++ replicate r 0) k v) (sym written-length)
              ∙ (put-down (written out at cells from stride t) r stride v ok.step (omega (arith, cell_room h))
              ∙ (ap (λ (zs : List ℕ). zs ++ replicate (r - stride) 0) (sym (next_written v h e))
              ∙ ap (λ (k : ℕ). written out at cells from stride (t + 1) ++ replicate k 0) f)));
        }

    pub spread_end : count ≤ t → ys ≡ take at out ++ spread stride (take count (drop from cells)) ++ replicate (length out - (at + count * stride)) 0
    spread_end h =
        let e : t ≡ count = omega (arith, w.bound) in
        w.is ∙ ap (λ (k : ℕ). written out at cells from stride k ++ replicate (length out - (at + k * stride)) 0) e
