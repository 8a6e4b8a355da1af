-- Rows and columns of an arrangement: where they stand, and one more of them moved. Assumes nothing.
use Prim.Native.Nat.{ℕ, ◌+◌, ◌*◌, ◌^◌, ◌<◌, ◌≤◌}
use mathlib.Core.Path.{◌≡◌, sym, ap, ◌∙◌}
use mathlib.Core.Logic.{◌⊎◌, inl, inr}
use mathlib.Core.List.{List}
use native.Mathlib.Nat
use native.Mathlib.Decide.{ℕ_discrete}
use native.Mathlib.Omega.{arith}
use Rattle.algebra.proofs.Powers.{two_pow-pos}
use Rattle.storage.specs.Reversed.{reversed}
use Rattle.storage.specs.Moving.{grid_at, There, Route, Carried, OnLine}
use Rattle.storage.specs.declared.moving.Grid.{Grid}
use Rattle.storage.proofs.Reversals.{reversed-zero}
use Rattle.storage.proofs.Moves.{carried_none, carried_then}

-- a row whose words are neighbours, and a column whose rows are at even steps
pub row_at : (g : Grid) (k b y : ℕ) {at step : ℕ} → g.column ≡ 1 → y ≡ reversed k b → (at ≡ g.at + b * g.row + y * g.turned + 0 * g.column) × (step ≡ 1) → (c : ℕ) → at + c * step ≡ grid_at g k b c
row_at g k b y {at} {step} one e (d, single) c =
    let s : c * step ≡ c * 1 = ap (λ n. c * n) single in
    let t : y * g.turned ≡ reversed k b * g.turned = ap (λ n. n * g.turned) e in
    let u : c * g.column ≡ c * 1 = ap (λ n. c * n) one in
    let z : 0 * g.column ≡ 0 = Nat.zero-mul g.column in
    omega arith

pub column_at_lem : (g : Grid) (k c : ℕ) {at step : ℕ} → g.turned ≡ 0 → (at ≡ g.at + 0 * g.row + 0 * g.turned + c * g.column) × (step ≡ g.row) → (b : ℕ) → at + b * step ≡ grid_at g k b c
column_at_lem g k c {at} {step} none (d, even) b =
    let s : b * step ≡ b * g.row = ap (λ n. b * n) even in
    let t : reversed k b * g.turned ≡ reversed k b * 0 = ap (λ n. reversed k b * n) none in
    let u : 0 * g.row ≡ 0 = Nat.zero-mul g.row in
    let v : 0 * g.turned ≡ 0 = Nat.zero-mul g.turned in
    omega (arith, Nat.mul-zero (reversed k b))

-- the first place of a row and of a column is there
pub row_there : (g : Grid) (k w size b y : ℕ) → There g k w size → 0 < w → b < 2 ^ k → y ≡ reversed k b → g.at + b * g.row + y * g.turned + 0 * g.column < size
row_there g k w size b y h s l e = rw e (h b 0 l s)

pub column_there : (g : Grid) (k w size c : ℕ) → There g k w size → c < w → g.at + 0 * g.row + 0 * g.turned + c * g.column < size
column_there g k w size c h l =
    let t : reversed k 0 * g.turned ≡ 0 = ap (λ n. n * g.turned) (reversed-zero k) ∙ Nat.zero-mul g.turned in
    let v : 0 * g.turned ≡ 0 = Nat.zero-mul g.turned in
    omega (arith, h 0 c (two_pow-pos k) l)

-- and so is all of it, in a buffer of as many words
pub row_inside : (g : Grid) (k w size b y : ℕ) {at step cur : ℕ} → There g k w size → g.column ≡ 1 → b < 2 ^ k → y ≡ reversed k b
    → (at ≡ g.at + b * g.row + y * g.turned + 0 * g.column) × (step ≡ 1) → cur ≡ size → (i : ℕ) → i < w → at + i * step < cur
row_inside g k w size b y {at} {step} {cur} h one l e d same i s = omega (arith, row_at g k b y one e d i, h b i l s)

pub column-inside : (g : Grid) (k w size c : ℕ) {at step n cur : ℕ} → There g k w size → g.turned ≡ 0 → c < w → (at ≡ g.at + 0 * g.row + 0 * g.turned + c * g.column) × (step ≡ g.row) → n ≡ 2 ^ k
    → cur ≡ size → (i : ℕ) → i < n → at + i * step < cur
column-inside g k w size c {at} {step} {n} {cur} h none l d rows same i s = omega (arith, column_at_lem g k c none d i, h i c (rw rows at s) l)

module _ (from : List ℕ) (f t : Grid) (k : ℕ) where
  pub rows_start : (w : ℕ) (old : List ℕ) → Carried from (Route f t k (λ b. b < 0) w) old old
  rows_start w old = carried_none from old (λ p s g. omega (arith, g.one))

  pub columns_start : (rows : ℕ → Type 0) (old : List ℕ) → Carried from (Route f t k rows 0) old old
  columns_start rows old = carried_none from old (λ p s g. omega (arith, g.column))

  pub rows_turn : (w b at da there db : ℕ) (old mid new : List ℕ) → b < 2 ^ k → ((c : ℕ) → at + c * da ≡ grid_at f k b c) → ((c : ℕ) → there + c * db ≡ grid_at t k b c)
      → Carried from (Route f t k (λ x. x < b) w) old mid → Carried from (OnLine at da there db w) mid new → Carried from (Route f t k (λ x. x < b + 1) w) old new
  rows_turn w b at da there db old mid new l d e m n = carried_then from old mid new m n split left right
    where
      split : (p s : ℕ) → Route f t k (λ x. x < b + 1) w p s → Route f t k (λ x. x < b) w p s ⊎ OnLine at da there db w p s
      split p s r = go (ℕ_discrete r.b b)
        where
          go : Dec (r.b ≡ b) → Route f t k (λ x. x < b) w p s ⊎ OnLine at da there db w p s
          go (yes same) = inr (r.c, r.column, r.to ∙ ap (λ x. grid_at t k x r.c) same ∙ sym (e r.c), r.from ∙ ap (λ x. grid_at f k x r.c) same ∙ sym (d r.c))
          go (no other) = inl (record { b = r.b; c = r.c; one = omega (arith, r.one); row = r.row; column = r.column; to = r.to; from = r.from })

      left : (p s : ℕ) → Route f t k (λ x. x < b) w p s → Route f t k (λ x. x < b + 1) w p s
      left p s r = record { b = r.b; c = r.c; one = omega (arith, r.one); row = r.row; column = r.column; to = r.to; from = r.from }

      right : (p s : ℕ) → OnLine at da there db w p s → Route f t k (λ x. x < b + 1) w p s
      right p s (i, h, x, y) = record { b = b; c = i; one = omega arith; row = l; column = h; to = x ∙ e i; from = y ∙ d i }

  pub columns_turn : (c at da there db n : ℕ) (old mid new : List ℕ) → n ≡ 2 ^ k → ((b : ℕ) → at + b * da ≡ grid_at f k b c) → ((b : ℕ) → there + b * db ≡ grid_at t k b c)
      → Carried from (Route f t k (λ x. x < 2 ^ k) c) old mid → Carried from (OnLine at da there db n) mid new → Carried from (Route f t k (λ x. x < 2 ^ k) (c + 1)) old new
  columns_turn c at da there db n old mid new rows d e m moved = carried_then from old mid new m (rw rows at moved) split left right
    where
      split : (p s : ℕ) → Route f t k (λ x. x < 2 ^ k) (c + 1) p s → Route f t k (λ x. x < 2 ^ k) c p s ⊎ OnLine at da there db (2 ^ k) p s
      split p s r = go (ℕ_discrete r.c c)
        where
          go : Dec (r.c ≡ c) → Route f t k (λ x. x < 2 ^ k) c p s ⊎ OnLine at da there db (2 ^ k) p s
          go (yes same) = inr (r.b, r.row, r.to ∙ ap (grid_at t k r.b) same ∙ sym (e r.b), r.from ∙ ap (grid_at f k r.b) same ∙ sym (d r.b))
          go (no other) = inl (record { b = r.b; c = r.c; one = r.one; row = r.row; column = omega (arith, r.column); to = r.to; from = r.from })

      left : (p s : ℕ) → Route f t k (λ x. x < 2 ^ k) c p s → Route f t k (λ x. x < 2 ^ k) (c + 1) p s
      left p s r = record { b = r.b; c = r.c; one = r.one; row = r.row; column = omega (arith, r.column); to = r.to; from = r.from }

      right : (p s : ℕ) → OnLine at da there db (2 ^ k) p s → Route f t k (λ x. x < 2 ^ k) (c + 1) p s
      right p s (i, h, x, y) = record { b = i; c = c; one = h; row = h; column = omega arith; to = x ∙ e i; from = y ∙ d i }

  pub rows_end : (w b : ℕ) (old new : List ℕ) → b ≤ 2 ^ k → 2 ^ k ≤ b → Carried from (Route f t k (λ x. x < b) w) old new → Carried from (Route f t k (λ x. x < 2 ^ k) w) old new
  rows_end w b old new h l m = rw (Nat.le_antisymm l h) m

  pub columns_end : (rows : ℕ → Type 0) (w c : ℕ) (old new : List ℕ) → c ≤ w → w ≤ c → Carried from (Route f t k rows c) old new → Carried from (Route f t k rows w) old new
  columns_end rows w c old new h l m = rw (Nat.le_antisymm l h) m
