-- The turns of the loops that look for a number, over plain variables. Assumes nothing.
use Prim.Native.Nat.{ℕ, zero, suc, ◌+◌, ◌-◌, ◌*◌, ◌^◌, ◌<◌, ◌≤◌}
use mathlib.Core.Path.{◌≡◌, refl, sym, ap, ◌∙◌}
use mathlib.Core.Bool.{Bool, true, false, cond, ◌&&◌}
use mathlib.Core.Logic.{◌⊎◌, inl, inr, ⊎_elim}
use mathlib.Core.List.{List}
use native.Mathlib.Numerals.{add-one}
use native.Mathlib.Decide.{ℕ_discrete}
use native.Mathlib.Omega.{arith}
use lib.Dec.{ltb, leb, eqb}
use lib.Pow.{pow_mono}
use borrow.Author.Tests.{lt-ltb, le-ltb, leb-true, leb-false, eq-eqb, ne_eqb}
use Rattle.layout.specs.Checks.{refuse, first_of}
use Rattle.layout.specs.Triples.{count_of, width_at, log_at, flag_at, columns_before}
use Rattle.layout.specs.Placing.{slice_length, height, opened, matrix_length, matrix_start}
use Rattle.layout.specs.Refusals.{flag_number, columns_in, width_number, place_number, matrix_number, higher_number, rise_number}
use Rattle.layout.specs.Shaped.{Laid}
use Rattle.layout.proofs.Firsts.{first_more, first_found, first_none, first_only, passed, refused}
use Rattle.layout.proofs.Slices.{cells-small, opened_least}
use Rattle.layout.proofs.Fitting.{matrix_low}

module _ (list : List ℕ) (i : ℕ) where
  pub flag_turn : first_of i (flag_number list) ≡ 0 → flag_at list i ≤ 1 → first_of (i + 1) (flag_number list) ≡ 0
  unfolding flag_number
  flag_turn e h = first_more i (flag_number list) e (passed 1 _ (le-ltb 1 (flag_at list i) h))

  pub flag_found : i < count_of list → first_of i (flag_number list) ≡ 0 → 1 < flag_at list i → 1 ≡ first_of (count_of list) (flag_number list)
  unfolding flag_number
  flag_found k e h = first_found (count_of list) i (flag_number list) 1 k e (refused 1 _ (lt-ltb 1 (flag_at list i) h)) (λ z. omega arith)

-- 2: the count goes on within the first commitment, and begins anew at each later one
module _ (first : ℕ) (list : List ℕ) (i count before w : ℕ) (was : i ≤ first → count ≡ columns_before list i) (kept : before ≡ cond (leb first i) 0 count) (is : w ≡ width_at list i) where
  count_turn : before + w ≡ columns_in first list i
  unfolding columns_in columns_before
  count_turn = by_case (leb first i) refl
    where
      by_case : (t : Bool) → leb first i ≡ t → before + w ≡ columns_in first list i
      by_case true e =
          let now : columns_in first list i ≡ width_at list i = simp (le-ltb i first (leb-true first i e)) in
          omega (arith, is, kept ∙ ap (λ (u : Bool). cond u 0 count) e, now)
      by_case false e =
          let h : i < first = leb-false first i e in
          let now : columns_in first list i ≡ columns_before list i + width_at list i = simp (lt-ltb i first h) in
          omega (arith, is, was (omega arith), kept ∙ ap (λ (u : Bool). cond u 0 count) e, now)

  pub count_next : i + 1 ≤ first → before + w ≡ columns_before list (i + 1)
  unfolding columns_in
  count_next h = count_turn ∙ simp (lt-ltb i first (omega arith)) (ap (columns_before list) (sym (add-one i)))

  pub width_turn : first_of i (width_number first list) ≡ 0 → before + w ≤ 4096 → first_of (i + 1) (width_number first list) ≡ 0
  unfolding width_number
  width_turn e h = first_more i (width_number first list) e (passed 2 _ (le-ltb 4096 (columns_in first list i) (omega (arith, count_turn))))

  pub width-found : i < count_of list → first_of i (width_number first list) ≡ 0 → 4096 < before + w → 2 ≡ first_of (count_of list) (width_number first list)
  unfolding width_number
  width-found k e h = first_found (count_of list) i (width_number first list) 2 k e (refused 2 _ (lt-ltb 4096 (columns_in first list i) (omega (arith, count_turn)))) (λ z. omega arith)

-- 4 and 5
module _ (l n first : ℕ) (list : List ℕ) (i s w h : ℕ) (was : s ≡ matrix_start l n first list i) (wide : w ≡ width_at list i) (log : h ≡ log_at list i) where
  number_is : matrix_number l n w h s ≡ place_number l n first list i
  unfolding place_number
  number_is = cc

  pub place_turn : first_of i (place_number l n first list) ≡ 0 → matrix_number l n w h s ≡ 0 → first_of (i + 1) (place_number l n first list) ≡ 0
  place_turn e z = first_more i (place_number l n first list) e (sym number_is ∙ z)

  pub place_found : i < count_of list → first_of i (place_number l n first list) ≡ 0 → (matrix_number l n w h s ≡ 0 → ⊥)
      → matrix_number l n w h s ≡ first_of (count_of list) (place_number l n first list)
  place_found k e z = first_found (count_of list) i (place_number l n first list) _ k e (sym number_is) z

  pub place_low : matrix_number l n w h s ≡ 0 → 0 < w → h ≤ l + n
  place_low z = matrix_low l n w h s z

-- where the next matrix starts
module _ (l n first : ℕ) (list : List ℕ) (i s w h next : ℕ) (was : s ≡ matrix_start l n first list i)
    (wide : w ≡ width_at list i) (log : h ≡ log_at list i) (is : next ≡ opened l n first (i + 1) (s + w * slice_length l h)) where
  pub start_turn : next ≡ matrix_start l n first list (i + 1)
  unfolding matrix_start matrix_length
  start_turn = cc (add-one i)

pub start_small : (l n first i s w h next : ℕ) → l + n ≤ 24 → w ≤ 4096 → (0 < w → h ≤ 24)
    → next ≡ opened l n first (i + 1) (s + w * slice_length l h) → s ≤ i * 2 ^ 37 → next ≤ (i + 1) * 2 ^ 37
start_small l n first i s w h next a b c e k = by_case (ℕ_discrete w 0)
  where
    high : height l n ≤ 2 ^ 24
    high = pow_mono a

    by_case : Dec (w ≡ 0) → next ≤ (i + 1) * 2 ^ 37
    by_case (yes z) = omega (arith, e, high, opened_least l n first (i + 1) (s + w * slice_length l h), ap (λ (x : ℕ). x * slice_length l h) z)
    by_case (no z) =
        omega (arith, e, high, opened_least l n first (i + 1) (s + w * slice_length l h), cells-small l h w (omega arith) (c (omega arith)) b)

-- 6: the lowest log height of a matrix with columns so far, or the largest u32 where there is none
pub record Lowest (list : List ℕ) (b last : ℕ) : Type 0 where
  pub none : first_of b (rise_number list) ≡ 0
  pub below : (a : ℕ) → a < b → 0 < width_at list a → last ≤ log_at list a
  pub held : (last ≡ 4294967295) ⊎ ((a : ℕ) × (a < b) × (0 < width_at list a) × (log_at list a ≡ last))

pub lowest_start : (list : List ℕ) → Lowest list 0 4294967295
unfolding first_of
lowest_start list = record { none = refl; below = λ a h. absurd (omega arith); held = inl refl }

pub higher_passed : (list : List ℕ) (b a : ℕ) → (0 < width_at list a → 0 < width_at list b → log_at list b ≤ log_at list a) → higher_number list b a ≡ 0
unfolding higher_number
higher_passed list b a h = by_case (ℕ_discrete (width_at list a) 0) (ℕ_discrete (width_at list b) 0)
  where
    by_case : Dec (width_at list a ≡ 0) → Dec (width_at list b ≡ 0) → refuse 6 (ltb 0 (width_at list a) && (ltb 0 (width_at list b) && ltb (log_at list a) (log_at list b))) ≡ 0
    by_case (yes e) d = passed 6 _ (simp (le-ltb 0 (width_at list a) (omega arith)))
    by_case (no e) (yes d) = passed 6 _ (simp (lt-ltb 0 (width_at list a) (omega arith), le-ltb 0 (width_at list b) (omega arith)))
    by_case (no e) (no d) = passed 6 _ (simp (lt-ltb 0 (width_at list a) (omega arith), lt-ltb 0 (width_at list b) (omega arith), le-ltb (log_at list a) (log_at list b) (h (omega arith) (omega arith))))

higher_refused : (list : List ℕ) (b a : ℕ) → 0 < width_at list a → 0 < width_at list b → log_at list a < log_at list b → higher_number list b a ≡ 6
unfolding higher_number
higher_refused list b a p q r = refused 6 _ (simp (lt-ltb 0 (width_at list a) p, lt-ltb 0 (width_at list b) q, lt-ltb (log_at list a) (log_at list b) r))

higher_only : (list : List ℕ) (b a : ℕ) → (higher_number list b a ≡ 0 → ⊥) → higher_number list b a ≡ 6
unfolding higher_number refuse
higher_only list b a h = by_case (ltb 0 (width_at list a) && (ltb 0 (width_at list b) && ltb (log_at list a) (log_at list b))) refl
  where
    by_case : (t : Bool) → ltb 0 (width_at list a) && (ltb 0 (width_at list b) && ltb (log_at list a) (log_at list b)) ≡ t → refuse 6 (ltb 0 (width_at list a) && (ltb 0 (width_at list b) && ltb (log_at list a) (log_at list b))) ≡ 6
    by_case true e = ap (refuse 6) e
    by_case false e = absurd (h (ap (refuse 6) e))

module _ (list : List ℕ) (b last low : ℕ) (is : low ≡ cond (eqb (width_at list b) 0) last (log_at list b)) (was : Lowest list b last) where
  low_empty : width_at list b ≡ 0 → low ≡ last
  low_empty e = is ∙ simp (eq-eqb (width_at list b) 0 e)

  low_some : (width_at list b ≡ 0 → ⊥) → low ≡ log_at list b
  low_some e = is ∙ simp (ne_eqb (width_at list b) 0 e)

  pub rise_turn : low ≤ last → Lowest list (b + 1) low
  unfolding rise_number
  rise_turn h = by_case (ℕ_discrete (width_at list b) 0)
    where
      less : (a : ℕ) → a < b + 1 → (a ≡ b) ⊎ (a < b)
      less a k = split (ℕ_discrete a b)
        where
          split : Dec (a ≡ b) → (a ≡ b) ⊎ (a < b)
          split (yes e) = inl e
          split (no e) = inr (omega arith)

      by_case : Dec (width_at list b ≡ 0) → Lowest list (b + 1) low
      by_case (yes e) =
          record {
            none = first_more b (rise_number list) was.none (first_none b _ (λ a k. higher_passed list b a (λ p q. absurd (omega arith))));
            below = λ a k p. ⊎_elim (λ q. absurd (omega (arith, ap (width_at list) q))) (λ q. omega (arith, was.below a q p, low_empty e)) (less a k);
            held = ⊎_elim (λ q. inl (low_empty e ∙ q)) (λ q. inr (q.0, omega (arith, q.1), q.2, q.3 ∙ sym (low_empty e))) was.held;
          }
      by_case (no e) =
          record {
            none = first_more b (rise_number list) was.none (first_none b _ (λ a k. higher_passed list b a (λ p q. omega (arith, was.below a k p, low_some e))));
            below = λ a k p. ⊎_elim (λ q. omega (arith, ap (log_at list) q, low_some e)) (λ q. omega (arith, was.below a q p)) (less a k);
            held = inr (b, omega arith, omega arith, sym (low_some e));
          }

  pub rise_found : (end : ℕ) → b < end → low < 4294967296 → last < low → 6 ≡ first_of end (rise_number list)
  unfolding rise_number
  rise_found end k fits h = first_found end b (rise_number list) 6 k was.none (sym six) (λ z. omega arith)
    where
      some : width_at list b ≡ 0 → ⊥
      some e = omega (arith, low_empty e)

      six : 6 ≡ first_of b (higher_number list b)
      six =
          ⊎_elim (λ q. absurd (omega arith))
          (λ q. first_only b q.0 (higher_number list b) 6 q.1 (higher_refused list b q.0 q.2 (omega (arith, some)) (omega (arith, q.3, low_some some))) (λ z. omega arith) (higher_only list b))
          was.held

pub kept_le : (first i count before : ℕ) → before ≡ cond (leb first i) 0 count → before ≤ count
kept_le first i count before e = by_case (leb first i) refl
  where
    by_case : (t : Bool) → leb first i ≡ t → before ≤ count
    by_case true q = omega (arith, e ∙ ap (λ (u : Bool). cond u 0 count) q)
    by_case false q = omega (arith, e ∙ ap (λ (u : Bool). cond u 0 count) q)

-- the count of all columns
pub before_more : (list : List ℕ) (i k : ℕ) → columns_before list i ≤ columns_before list (k + i)
unfolding columns_before
before_more list i zero = omega (arith, ap (columns_before list) {x = 0 + i} {y = i} (omega arith))
before_more list i (suc k) =
    omega (arith, before_more list i k, ap (columns_before list) {x = suc k + i} {y = suc (k + i)} (omega arith))

pub before_mono : (list : List ℕ) (i j : ℕ) → i ≤ j → columns_before list i ≤ columns_before list j
before_mono list i j h =
    let e : (j - i) + i ≡ j = omega arith in
    omega (arith, before_more list i (j - i), ap (columns_before list) e)

module _ (list : List ℕ) (i n w : ℕ) (was : n ≡ columns_before list i) (is : w ≡ width_at list i) where
  pub total_turn : n + w ≡ columns_before list (i + 1)
  unfolding columns_before
  total_turn = cc (add-one i)

-- a turn of a loop that goes from matrix to matrix
module _ (l n first : ℕ) (list : List ℕ) (i s w : ℕ) (ok : Laid l n list) (there : i < count_of list) (wide : w ≡ width_at list i) (small : s ≤ i * 2 ^ 37) where
  pub after_asks : (l + n ≤ 24) × (s ≤ 2 ^ 60) × (w ≤ 4096) × (0 < w → log_at list i ≤ 24)
  after_asks =
      let a = ok.shaped in
      (a.sum, omega (arith, a.few), omega (arith, a.widths i there), λ h. omega (arith, ok.logs i there (omega arith), a.sum))

  pub after_small : (next : ℕ) → next ≡ opened l n first (i + 1) (s + w * slice_length l (log_at list i)) → next ≤ (i + 1) * 2 ^ 37
  after_small next e =
      let a = ok.shaped in
      start_small l n first i s w (log_at list i) next a.sum (omega (arith, a.widths i there)) (λ h. omega (arith, ok.logs i there (omega arith), a.sum)) e small

pub asks : (l n : ℕ) (list : List ℕ) (i w : ℕ) → Laid l n list → i < count_of list → w ≡ width_at list i → (w ≤ 4096) × (0 < w → log_at list i ≤ 24)
asks l n list i w ok there is =
    let a = ok.shaped in
    (omega (arith, a.widths i there), λ h. omega (arith, ok.logs i there (omega arith), a.sum))
