-- Groups of rows, tile by tile: where a part of an arrangement lies in the whole, and what is moved once one more part is. Assumes
-- nothing.
use Prim.Native.Nat.{ℕ, suc, ◌+◌, ◌-◌, ◌*◌, ◌^◌, ◌<◌, ◌≤◌}
use mathlib.Core.Path.{◌≡◌, sym, subst, ap, ap₂, ◌∙◌}
use mathlib.Core.Logic.{◌⊎◌, inl, inr}
use mathlib.Core.Bool.{Bool}
use mathlib.Core.List.{List}
use native.Mathlib.Nat
use native.Mathlib.Omega.{arith}
use Rattle.std.proofs.lemmas.Bool.{cases_lt}
use Rattle.algebra.proofs.Powers.{two_pow-pos, two_pow-add}
use Rattle.storage.specs.Reversed.{reversed}
use Rattle.storage.specs.Moving.{grid_at, There, Route, Carried, Ways, Between, Group, part_of}
use Rattle.storage.specs.declared.moving.Grid.{Grid}
use Rattle.storage.proofs.Reversals.{reversed-zero, reversed_split}
use Rattle.storage.proofs.Moves.{carried_then}
use Rattle.storage.proofs.Grids.{columns_end}

-- row b of column d of the part that starts at group i and column c
pub part_at : (g : Grid) (m j i c b d : ℕ) → b < 2 ^ m → grid_at (part_of g (2 ^ m * i) (reversed j i) c (2 ^ j)) m b d ≡ grid_at g (m + j) (2 ^ m * i + b) (c + d)
part_at g m j i c b d h =
    let x = 2 ^ m * i in
    let e : reversed (m + j) (x + b) * g.turned ≡ (reversed m b * 2 ^ j + reversed j i) * g.turned = ap (λ n. n * g.turned) (reversed_split m j i b h) in
    let r : (x + b) * g.row ≡ x * g.row + b * g.row = Nat.add-mul x b g.row in
    let t : (reversed m b * 2 ^ j + reversed j i) * g.turned ≡ reversed m b * 2 ^ j * g.turned + reversed j i * g.turned = Nat.add-mul (reversed m b * 2 ^ j) (reversed j i) g.turned in
    let s : reversed m b * 2 ^ j * g.turned ≡ reversed m b * (2 ^ j * g.turned) = Nat.mul_assoc (reversed m b) (2 ^ j) g.turned in
    let k : (c + d) * g.column ≡ c * g.column + d * g.column = Nat.add-mul c d g.column in
    omega arith

-- a group's rows are rows of the whole
pub in_whole : (m j i b : ℕ) → i < 2 ^ j → b < 2 ^ m → 2 ^ m * i + b < 2 ^ (m + j)
in_whole m j i b h l =
    let e : 2 ^ m * suc i ≤ 2 ^ m * 2 ^ j = Nat.mul-le-mul_left (2 ^ m) h in
    let s : 2 ^ m * suc i ≡ 2 ^ m * i + 2 ^ m = Nat.mul-suc (2 ^ m) i in
    omega (arith, two_pow-add m j)

pub part_there : (g : Grid) (m j i c n w size : ℕ) → There g (m + j) w size → i < 2 ^ j → c + n ≤ w → There (part_of g (2 ^ m * i) (reversed j i) c (2 ^ j)) m n size
part_there g m j i c n w size h l s b d u v = rw (part_at g m j i c b d u) (h (2 ^ m * i + b) (c + d) (in_whole m j i b l u) (omega arith))

-- the first word of a part is there
pub part_begins : (g : Grid) (m j i c w size : ℕ) → There g (m + j) w size → i < 2 ^ j → c < w → g.at + 2 ^ m * i * g.row + reversed j i * g.turned + c * g.column < size
part_begins g m j i c w size h l s =
    let p = part_there g m j i c 1 w size h l (omega arith) 0 0 (two_pow-pos m) (omega arith) in
    let z : reversed m 0 * (2 ^ j * g.turned) ≡ 0 = ap (λ n. n * (2 ^ j * g.turned)) (reversed-zero m) ∙ Nat.zero-mul (2 ^ j * g.turned) in
    let r : 0 * g.row ≡ 0 = Nat.zero-mul g.row in
    let k : 0 * g.column ≡ 0 = Nat.zero-mul g.column in
    omega (arith, p)

pub steps_fit : (m j t : ℕ) → m + j ≤ 24 → t ≤ 4096 → 2 ^ j * t < 2 ^ 64
steps_fit m j t h s =
    let p : 2 ^ j ≤ 2 ^ 24 = Nat.pow-le-pow_right {n = 2} (omega arith) {i = j} {j = 24} (omega arith) in
    let q : 2 ^ j * t ≤ 2 ^ 24 * 4096 = Nat.mul-le-mul p s in
    omega arith

pub part_ways : (storing : Bool) (f t : Grid) (x y c step : ℕ) → Ways storing f t → Ways storing (part_of f x y c step) (part_of t x y c step)
part_ways storing f t x y c step w =
    record {
      into = λ e. (ap (λ n. step * n) (w.into e).0 ∙ Nat.mul-zero step, (w.into e).1);
      out = λ e. ((w.out e).0, ap (λ n. step * n) (w.out e).1 ∙ Nat.mul-zero step);
    }

module _ (from : List ℕ) (f t : Grid) (m j i : ℕ) (inside : i < 2 ^ j) where
  -- n more columns of the group
  pub group_turn : (c n : ℕ) (old mid new : List ℕ) → Carried from (Route f t (m + j) (Group m i) c) old mid
      → Carried from (Route (part_of f (2 ^ m * i) (reversed j i) c (2 ^ j)) (part_of t (2 ^ m * i) (reversed j i) c (2 ^ j)) m (λ b. b < 2 ^ m) n) mid new
      → Carried from (Route f t (m + j) (Group m i) (c + n)) old new
  group_turn c n old mid new before tile = carried_then from old mid new before tile split left right
    where
      split : (p s : ℕ) → Route f t (m + j) (Group m i) (c + n) p s → Route f t (m + j) (Group m i) c p s
          ⊎ Route (part_of f (2 ^ m * i) (reversed j i) c (2 ^ j)) (part_of t (2 ^ m * i) (reversed j i) c (2 ^ j)) m (λ b. b < 2 ^ m) n p s
      split p s r = go (cases_lt r.c c)
        where
          go : (r.c < c) ⊎ (c ≤ r.c) → Route f t (m + j) (Group m i) c p s
              ⊎ Route (part_of f (2 ^ m * i) (reversed j i) c (2 ^ j)) (part_of t (2 ^ m * i) (reversed j i) c (2 ^ j)) m (λ b. b < 2 ^ m) n p s
          go (inl h) = inl (record { b = r.b; c = r.c; one = r.one; row = r.row; column = h; to = r.to; from = r.from })
          go (inr h) =
              let b = r.b - 2 ^ m * i in
              let d = r.c - c in
              let l : b < 2 ^ m = omega (arith, r.one.0, r.one.1) in
              let e : r.b ≡ 2 ^ m * i + b = omega (arith, r.one.0) in
              let k : r.c ≡ c + d = omega arith in
              inr (record {
                b = b;
                c = d;
                one = l;
                row = l;
                column = omega (arith, r.column);
                to = r.to ∙ ap₂ (grid_at t (m + j)) e k ∙ sym (part_at t m j i c b d l);
                from = r.from ∙ ap₂ (grid_at f (m + j)) e k ∙ sym (part_at f m j i c b d l);
              })

      left : (p s : ℕ) → Route f t (m + j) (Group m i) c p s → Route f t (m + j) (Group m i) (c + n) p s
      left p s r = record { b = r.b; c = r.c; one = r.one; row = r.row; column = omega (arith, r.column); to = r.to; from = r.from }

      right : (p s : ℕ) → Route (part_of f (2 ^ m * i) (reversed j i) c (2 ^ j)) (part_of t (2 ^ m * i) (reversed j i) c (2 ^ j)) m (λ b. b < 2 ^ m) n p s
          → Route f t (m + j) (Group m i) (c + n) p s
      right p s r =
          record {
            b = 2 ^ m * i + r.b;
            c = c + r.c;
            one = (omega arith, omega (arith, r.one));
            row = in_whole m j i r.b inside r.one;
            column = omega (arith, r.column);
            to = r.to ∙ part_at t m j i c r.b r.c r.one;
            from = r.from ∙ part_at f m j i c r.b r.c r.one;
          }

-- m bits of a row's number say where in its group it is, the others which group that is
in_group : (k m : ℕ) → m ≤ k → m + (k - m) ≡ k
in_group k m h = omega arith

pub between_groups : {from to : ℕ} {f t : Grid} (k m : ℕ) {w : ℕ} → m ≤ k → Between from f to t k w → Between from f to t (m + (k - m)) w
between_groups {from} {to} {f} {t} k m {w} h b = subst (λ (n : ℕ). Between from f to t n w) (sym (in_group k m h)) b

-- all columns of a group
pub group_end : (from : List ℕ) (f t : Grid) (k m i w c : ℕ) (old new : List ℕ) → m ≤ k → c ≤ w → w ≤ c → Carried from (Route f t (m + (k - m)) (Group m i) c) old new
    → Carried from (Route f t k (Group m i) w) old new
group_end from f t k m i w c old new h l s moved =
    subst (λ (n : ℕ). Carried from (Route f t n (Group m i) w) old new) (in_group k m h) (columns_end from f t (m + (k - m)) (Group m i) w c old new l s moved)

-- one more group, and all
module _ (from : List ℕ) (f t : Grid) (k w m : ℕ) where
  pub groups_turn : (i : ℕ) (old mid new : List ℕ) → Carried from (Route f t k (λ b. b < 2 ^ m * i) w) old mid → Carried from (Route f t k (Group m i) w) mid new
      → Carried from (Route f t k (λ b. b < 2 ^ m * (i + 1)) w) old new
  groups_turn i old mid new before group = carried_then from old mid new before group split left right
    where
      more : 2 ^ m * (i + 1) ≡ 2 ^ m * i + 2 ^ m
      more = omega arith

      split : (p s : ℕ) → Route f t k (λ b. b < 2 ^ m * (i + 1)) w p s → Route f t k (λ b. b < 2 ^ m * i) w p s ⊎ Route f t k (Group m i) w p s
      split p s r = go (cases_lt r.b (2 ^ m * i))
        where
          go : (r.b < 2 ^ m * i) ⊎ (2 ^ m * i ≤ r.b) → Route f t k (λ b. b < 2 ^ m * i) w p s ⊎ Route f t k (Group m i) w p s
          go (inl h) = inl (record { b = r.b; c = r.c; one = h; row = r.row; column = r.column; to = r.to; from = r.from })
          go (inr h) = inr (record { b = r.b; c = r.c; one = (h, omega (arith, r.one, more)); row = r.row; column = r.column; to = r.to; from = r.from })

      left : (p s : ℕ) → Route f t k (λ b. b < 2 ^ m * i) w p s → Route f t k (λ b. b < 2 ^ m * (i + 1)) w p s
      left p s r = record { b = r.b; c = r.c; one = omega (arith, r.one, more); row = r.row; column = r.column; to = r.to; from = r.from }

      right : (p s : ℕ) → Route f t k (Group m i) w p s → Route f t k (λ b. b < 2 ^ m * (i + 1)) w p s
      right p s r = record { b = r.b; c = r.c; one = omega (arith, r.one.1, more); row = r.row; column = r.column; to = r.to; from = r.from }

  pub groups_end : (i j : ℕ) (old new : List ℕ) → k ≡ m + j → 2 ^ j ≤ i → i ≤ 2 ^ j → Carried from (Route f t k (λ b. b < 2 ^ m * i) w) old new
      → Carried from (Route f t k (λ b. b < 2 ^ k) w) old new
  groups_end i j old new e h l moved =
      let d : 2 ^ m * i ≡ 2 ^ k = ap (λ x. 2 ^ m * x) (Nat.le_antisymm l h) ∙ sym (two_pow-add m j) ∙ ap (λ x. 2 ^ x) (sym e) in
      rw d at moved
