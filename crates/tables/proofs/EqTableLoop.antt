-- The eq table from the last coordinate down: after k coordinates the first 2^k entries are the starting element's eq table of the last k.
use mathlib.Core.Path.{◌≡◌, refl, sym, ◌∙◌, ap, ap₂, subst⁻¹}
use mathlib.Core.List.{List, [], ◌∷◌}
use Prim.Native.Nat.{ℕ, suc, ◌+◌, ◌*◌, ◌-◌, ◌/◌, ◌%◌, ◌^◌, ◌<◌, ◌≤◌}
use native.Mathlib.Nat
use native.Mathlib.Nat.{pow-succ'}
use native.Mathlib.Omega.{arith}
use lib.ListN.{length, take, drop}
use lib.Seq.{length-take-le, take_all}
use Rattle.algebra.specs.Listed.{listed}
use Rattle.algebra.specs.Multilinear.{bit_factor, cube_factor}
use Rattle.algebra.proofs.Expression.{◌:*◌, ◌:=◌}
use Rattle.algebra.proofs.Solver.{solve}
use Rattle.algebra.proofs.Powers.{two_pow-pos}
use Rattle.field.specs.Element.{Elem, F, ◌⊗◌, elem_of, words_of}
use Rattle.field.specs.Slice.{elem_at, words_at, put, elem_words}
use Rattle.field.proofs.Slices.{length-put}
use Rattle.field.proofs.Elements.{elem_of_words}
use Rattle.field.proofs.ElementWords.{elem_at_words, words_same, words_take, words_at-elem_words, elem_words_is}
use Rattle.tables.specs.Points.{coordinates}
use Rattle.tables.specs.EqTable.{eq_table}
use Rattle.tables.specs.Spread.{Spread}
use Rattle.tables.specs.FromLast.{FromLast}
use Rattle.tables.proofs.PointLaws.{coordinates-drop, coordinates_cons}

-- what storing the starting element leaves
pub stored_start : (old a : List ℕ) (m : ℕ) {out : List ℕ} → length old ≡ 4 * 2 ^ m → out ≡ put old 0 (elem_of a)
    → (length out ≡ 4 * 2 ^ m) × ((words_at out 0 ≡ words_of (elem_at out 0)) × (elem_at out 0 ≡ elem_of a))
stored_start old a m {out} l e =
    let w : words_at out 0 ≡ words_of (elem_of a) = ap (λ o. words_at o 0) e ∙ words_same old 0 (elem_of a) (omega (arith, two_pow-pos m)) in
    let s : elem_at out 0 ≡ elem_of a = elem_at_words out 0 (elem_of a) w in
    (ap length e ∙ length-put old 0 (elem_of a) ∙ l, (w ∙ ap words_of (sym s), s))

-- the first 2^k entries of a slice are an eq table, entry by entry: there, and back
module _ (start : Elem) (xs : List ℕ) (i k : ℕ) (out : List ℕ) where
  abbrev entry : ℕ → Elem
  entry j = start ⊗ cube_factor F (coordinates xs i k) j

  table_from : eq_table start (drop (4 * i) xs) k ≡ elem_words (2 ^ k) entry
  unfolding eq_table
  table_from = ap (λ us. elem_words (2 ^ k) (λ j. start ⊗ cube_factor F us j)) (coordinates-drop xs i k)

  entry_is : take (4 * 2 ^ k) out ≡ eq_table start (drop (4 * i) xs) k → (j : ℕ) → j < 2 ^ k → words_at out j ≡ words_of (entry j)
  entry_is e j h = sym (words_take (4 * 2 ^ k) out j (omega arith)) ∙ ap (λ ws. words_at ws j) (e ∙ table_from) ∙ words_at-elem_words (2 ^ k) entry j h

  table_is : 4 * 2 ^ k ≤ length out → ((j : ℕ) → j < 2 ^ k → words_at out j ≡ words_of (entry j)) → take (4 * 2 ^ k) out ≡ eq_table start (drop (4 * i) xs) k
  table_is room h =
      elem_words_is (2 ^ k) entry (take (4 * 2 ^ k) out) (length-take-le (4 * 2 ^ k) out room) (λ j l. words_take (4 * 2 ^ k) out j (omega arith) ∙ h j l) ∙ sym table_from

-- no coordinate yet: one entry, the starting element
pub last_start : (xs : List ℕ) (m : ℕ) (old : List ℕ) → length old ≡ 4 * 2 ^ m → words_at old 0 ≡ words_of (elem_at old 0) → FromLast (elem_at old 0) xs m m 1 old
unfolding listed cube_factor
last_start xs m old l below =
    let none : m - m ≡ 0 = omega arith in
    record { bound = omega arith; size = ap (λ k. 2 ^ k) (sym none); kept = l; entries = subst⁻¹ (λ k. take (4 * 2 ^ k) old ≡ eq_table (elem_at old 0) (drop (4 * m) xs) k) none first }
  where
    one : (j : ℕ) → j < 1 → words_at old j ≡ words_of (elem_at old 0 ⊗ cube_factor F (coordinates xs m 0) j)
    one j h = ap (words_at old) {x = j} {y = 0} (omega arith) ∙ below ∙ ap words_of (sym (F.mul_one (elem_at old 0)))

    first : take (4 * 2 ^ 0) old ≡ eq_table (elem_at old 0) (drop (4 * m) xs) 0
    first = table_is (elem_at old 0) xs m 0 old (omega (arith, two_pow-pos m)) one

-- one coordinate more, the one before: it is the lowest bit of the index
module _ (start : Elem) (xs : List ℕ) (m i k half : ℕ) (b : List ℕ) (t : FromLast start xs m i half b) (next : k + 1 ≡ i) where
  top : i ≤ m
  top = t.bound

  twice : 2 ^ (m - k) ≡ 2 * 2 ^ (m - i)
  twice = ap (λ n. 2 ^ n) {x = m - k} {y = suc (m - i)} (omega (arith, top)) ∙ pow-succ' 2 (m - i)

  fits : 2 ^ (m - k) ≤ 2 ^ m
  fits = Nat.pow-le-pow_right {n = 2} (omega arith) (omega arith)

  pub room : 8 * half ≤ length b
  room = omega (arith, t.size, t.kept, twice, fits)

  front : coordinates xs k (m - k) ≡ elem_at xs k ∷ coordinates xs i (m - i)
  front =
      ap (coordinates xs k) {x = m - k} {y = suc (m - i)} (omega (arith, top)) ∙ coordinates_cons xs k (m - i)
      ∙ ap (λ n. elem_at xs k ∷ coordinates xs n (m - i)) {x = suc k} {y = i} (omega arith)

  grown : (a : Elem) → a ≡ elem_at xs k → (j : ℕ) (e : Elem) → e ≡ start ⊗ cube_factor F (coordinates xs i (m - i)) (j / 2)
      → e ⊗ bit_factor F a (j % 2) ≡ start ⊗ cube_factor F (coordinates xs k (m - k)) j
  unfolding cube_factor
  grown a ea j e ee =
      ap₂ (λ u v. u ⊗ bit_factor F v (j % 2)) ee ea
      ∙ solve F (start ∷ cube_factor F (coordinates xs i (m - i)) (j / 2) ∷ bit_factor F (elem_at xs k) (j % 2) ∷ []) (λ s c f. s :* c :* f := s :* (f :* c)) refl
      ∙ ap (λ us. start ⊗ cube_factor F us j) (sym front)

  pub last_turn : (a : List ℕ) {new : List ℕ} → a ≡ words_of (elem_at xs k) → Spread b half (elem_of a) new → FromLast start xs m k (half * 2) new
  last_turn a {new} ea d =
      record {
        bound = omega (arith, top);
        size = omega (arith, t.size, twice);
        kept = kept;
        entries = table_is start xs k (m - k) new (omega (arith, kept, fits)) (λ j h. d.entries j (omega (arith, t.size, twice)) ∙ ap words_of (grown (elem_of a) (elem_of_words (elem_at xs k) ea) j _ (old (j / 2) (omega (arith, twice)))));
      }
    where
      kept : length new ≡ 4 * 2 ^ m
      kept = d.length_kept ∙ t.kept

      old : (j : ℕ) → j < 2 ^ (m - i) → elem_at b j ≡ start ⊗ cube_factor F (coordinates xs i (m - i)) j
      old j h = elem_at_words b j _ (entry_is start xs i (m - i) b t.entries j h)

-- no coordinate left: the whole slice is the table
pub last_end : (start : Elem) (xs : List ℕ) (m i half : ℕ) (b : List ℕ) → i ≤ 0 → FromLast start xs m i half b → b ≡ eq_table start xs m
last_end start xs m i half b h t =
    let all : m - i ≡ m = omega arith in
    sym (take_all (4 * 2 ^ m) b (omega (arith, t.kept))) ∙ ap (λ k. take (4 * 2 ^ k) b) (sym all) ∙ t.entries
    ∙ ap₂ (λ n k. eq_table start (drop (4 * n) xs) k) {x = i} {y = 0} (omega arith) all
