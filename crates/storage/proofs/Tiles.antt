-- A tile: its 1,024 words have room for it, and what goes through it goes from the one arrangement to the other. Assumes nothing.
use Prim.Native.Nat.{ℕ, ◌/◌, ◌%◌, ◌^◌, ◌<◌, ◌≤◌}
use mathlib.Core.Path.{◌≡◌, refl, ap₂, ◌∙◌}
use mathlib.Core.List.{List}
use native.Mathlib.Nat
use native.Mathlib.Omega.{arith}
use Rattle.storage.specs.Moving.{grid_at, There, Route, Carried, tiled}
use Rattle.storage.specs.declared.moving.Grid.{Grid}
use Rattle.storage.proofs.Moves.{carried-through}

pub tile_there : (k w : ℕ) {n : ℕ} → k ≤ 6 → w ≤ 16 → 1024 ≤ n → There tiled k w n
tile_there k w h s r b c l m = omega (arith, Nat.pow-le-pow_right {n = 2} (omega arith) {i = k} {j = 6} h)

-- a place of the tile has one row and one column
tile_row : (k b c q : ℕ) → c < 16 → q ≡ grid_at tiled k b c → b ≡ q / 16
tile_row k b c q h e = omega arith

tile_column : (k b c q : ℕ) → c < 16 → q ≡ grid_at tiled k b c → c ≡ q % 16
tile_column k b c q h e = omega arith

module _ (from : List ℕ) (f t : Grid) (k w : ℕ) (narrow : w ≤ 16) where
  pub tile_through : (before words old new : List ℕ) → Carried from (Route f tiled k (λ b. b < 2 ^ k) w) before words → Carried words (Route tiled t k (λ b. b < 2 ^ k) w) old new
      → Carried from (Route f t k (λ b. b < 2 ^ k) w) old new
  tile_through before words old new m n = carried-through from (λ q. grid_at f k (q / 16) (q % 16)) before words old new m n only there back
    where
      only : (q s : ℕ) → Route f tiled k (λ b. b < 2 ^ k) w q s → s ≡ grid_at f k (q / 16) (q % 16)
      only q s r = r.from ∙ ap₂ (grid_at f k) (tile_row k r.b r.c q (omega (arith, r.column)) r.to) (tile_column k r.b r.c q (omega (arith, r.column)) r.to)

      there : (p s : ℕ) → Route f t k (λ b. b < 2 ^ k) w p s → (q : ℕ) × Route f tiled k (λ b. b < 2 ^ k) w q s × Route tiled t k (λ b. b < 2 ^ k) w p q
      there p s r = (
        grid_at tiled k r.b r.c,
        record { b = r.b; c = r.c; one = r.one; row = r.row; column = r.column; to = refl; from = r.from },
        record { b = r.b; c = r.c; one = r.one; row = r.row; column = r.column; to = r.to; from = refl },
      )

      back : (p q : ℕ) → Route tiled t k (λ b. b < 2 ^ k) w p q → (s : ℕ) × Route f tiled k (λ b. b < 2 ^ k) w q s × Route f t k (λ b. b < 2 ^ k) w p s
      back p q r = (
        grid_at f k r.b r.c,
        record { b = r.b; c = r.c; one = r.one; row = r.row; column = r.column; to = r.from; from = refl },
        record { b = r.b; c = r.c; one = r.one; row = r.row; column = r.column; to = r.to; from = refl },
      )
