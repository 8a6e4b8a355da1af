-- The lists of a run: the turns of their loops, and what is known where they are not refused. Assumes nothing.
use Prim.Native.Nat.{ℕ, zero, suc, ◌+◌, ◌-◌, ◌*◌, ◌/◌, ◌^◌, ◌<◌, ◌≤◌, min}
use mathlib.Core.Path.{◌≡◌, refl, sym, subst, ◌∙◌}
use mathlib.Core.List.{List}
use native.Mathlib.Omega.{arith}
use lib.ListN.{length, get_or, length-take}
use lib.Seq.{take_all}
use lib.Dec.{ltb, eqb}
use borrow.Author.Tests.{lt-ltb, le-ltb, eq-eqb, ne_eqb, ltb-false, eqb-true, eqb-false, not-false}
use Rattle.std.specs.declared.result.Result.{Result}
use Rattle.std.specs.declared.result.Result.TheVariants.{Ok}
use Rattle.field.specs.declared.answer.Refusal.{Refusal}
use Rattle.layout.specs.Answers.{answer_of}
use Rattle.layout.specs.Checks.{refuse, or_else, first_of}
use Rattle.layout.specs.Triples.{count_of, width_at, columns_before, column_count}
use Rattle.layout.specs.Placing.{matrix_start}
use Rattle.layout.specs.Refusals.{limits_number, flags_number, columns_number, laid_number}
use Rattle.layout.specs.Lists.{first_count, named, present, commitment_number, counts_number, width_there, later_number, empty_number, there_number, lists_number, lists_length, run_lists}
use Rattle.layout.specs.Shaped.{Shaped, Laid}
use Rattle.layout.proofs.Firsts.{first_more, first_found, passed, refused, differs, same, or_passed, is_false, positive}
use Rattle.layout.proofs.Handing.{handed}
use Rattle.layout.proofs.Turns.{before_mono, total_turn}
use Rattle.layout.proofs.Passed.{limits_passed, widths_passed, laid_passed}

-- 1
module _ (counts : List ℕ) (c : ℕ) where
  pub later_turn : first_of c (commitment_number counts) ≡ 0 → 0 < c → get_or counts c 0 ≡ 1 → first_of (c + 1) (commitment_number counts) ≡ 0
  unfolding commitment_number
  later_turn e h k = first_more c (commitment_number counts) e (passed 1 _ (simp (lt-ltb 0 c h, same (get_or counts c 0) 1 k)))

  pub later_found : c < length counts → first_of c (commitment_number counts) ≡ 0 → 0 < c → (get_or counts c 0 ≡ 1 → ⊥) → 1 ≡ first_of (length counts) (commitment_number counts)
  unfolding commitment_number
  later_found i e h k = first_found (length counts) c (commitment_number counts) 1 i e (refused 1 _ (simp (lt-ltb 0 c h, differs (get_or counts c 0) 1 k))) (λ z. omega arith)

pub later_start : (counts : List ℕ) → first_of 1 (commitment_number counts) ≡ 0
unfolding commitment_number first_of or_else refuse
later_start counts = refl

-- 7
module _ (first : ℕ) (list : List ℕ) (c w : ℕ) (is : w ≡ width_there list (first + c)) where
  pub empty_turn : first_of c (later_number first list) ≡ 0 → (w ≡ 0 → ⊥) → first_of (c + 1) (later_number first list) ≡ 0
  unfolding later_number
  empty_turn e h = first_more c (later_number first list) e (passed 7 _ (ne_eqb (width_there list (first + c)) 0 (λ z. h (is ∙ z))))

  pub empty_found : (later : ℕ) → c < later → first_of c (later_number first list) ≡ 0 → w ≡ 0 → 7 ≡ first_of later (later_number first list)
  unfolding later_number
  empty_found later k e h = first_found later c (later_number first list) 7 k e (refused 7 _ (eq-eqb (width_there list (first + c)) 0 (sym is ∙ h))) (λ z. omega arith)

pub there_yes : (list : List ℕ) (i : ℕ) → i < count_of list → width_at list i ≡ width_there list i
unfolding width_there
there_yes list i h = simp (lt-ltb i (count_of list) h)

pub there_no : (list : List ℕ) (i : ℕ) → count_of list ≤ i → 0 ≡ width_there list i
unfolding width_there
there_no list i h = simp (le-ltb i (count_of list) h)

-- counting columns
pub sum-small : (list : List ℕ) (i k n w : ℕ) → n ≡ columns_before list k → w ≡ width_at list k → k < i → i ≤ count_of list → column_count list ≤ 2 ^ 30 → n + w ≤ 2 ^ 30
sum-small list i k n w e f h a b = omega (arith, total_turn list k n w e f, before_mono list (k + 1) (count_of list) (omega arith))

-- a list of few matrices has few columns
pub columns-within : (list : List ℕ) → ((i : ℕ) → i < count_of list → width_at list i ≤ 4096) → (i : ℕ) → i ≤ count_of list → columns_before list i ≤ i * 4096
unfolding columns_before
columns-within list h zero k = omega arith
columns-within list h (suc i) k = omega (arith, columns-within list h i (omega arith), h i k)

pub shaped-columns : (l n : ℕ) (list : List ℕ) → Shaped l n list → column_count list ≤ 2 ^ 30
shaped-columns l n list s = omega (arith, columns-within list s.widths (count_of list) (omega arith), s.few)

-- 2 passed
pub columns-shaped : (l n first : ℕ) (list : List ℕ) → limits_number l n ≡ 0 → count_of list ≤ 4111 → columns_number first list ≡ 0 → Shaped l n list
columns-shaped l n first list e h f =
    let a = limits_passed l n e in
    record { skip = a.0; stack = a.1; sum = a.2; few = h; widths = widths_passed first list f }

-- 1 passed
pub record Counted (counts : List ℕ) : Type 0 where
  pub some : 0 < length counts
  pub few : length counts ≤ 16
  pub first : first_count counts ≤ 4096

pub counts-passed : (counts : List ℕ) → counts_number counts ≡ 0 → Counted counts
unfolding counts_number
counts-passed counts e =
    let a = or_passed (refuse 1 (eqb (length counts) 0)) _ e in
    let b = or_passed (refuse 1 (ltb 16 (length counts))) _ a.1 in
    let c = or_passed (refuse 1 (ltb 4096 (first_count counts))) _ b.1 in
    record {
      some = positive (length counts) (eqb-false _ _ (is_false 1 _ (omega arith) a.0));
      few = ltb-false _ _ (is_false 1 _ (omega arith) b.0);
      first = ltb-false _ _ (is_false 1 _ (omega arith) c.0);
    }

pub present_few : (counts lists : List ℕ) → Counted counts → count_of (present counts lists) ≤ 4111
present_few counts lists k =
    omega (arith, length-take (min (3 * named counts) (length lists)) lists, k.few, k.first)

-- where the lengths agree, all matrices are there
pub present_all : (counts lists : List ℕ) → length lists ≡ 3 * named counts → present counts lists ≡ lists
present_all counts lists e = take_all (min (3 * named counts) (length lists)) lists (omega arith)

pub length-passed : (counts lists : List ℕ) → lists_length counts lists ≡ 0 → length lists ≡ 3 * named counts
unfolding lists_length
length-passed counts lists e = eqb-true _ _ (not-false _ (is_false 9 _ (omega arith) e))

-- a run whose lists are not refused
pub record Listed (l n : ℕ) (counts lists : List ℕ) : Type 0 where
  pub limits : limits_number l n ≡ 0
  pub counted : Counted counts
  pub size : length lists ≡ 3 * named counts
  pub flags : flags_number lists ≡ 0
  pub columns : columns_number (first_count counts) lists ≡ 0
  pub placed : laid_number l n (first_count counts) lists ≡ 0
  pub filled : empty_number (first_count counts) (length counts - 1) lists ≡ 0
  pub laid : Laid l n lists

pub lists-passed : (l n : ℕ) (counts lists : List ℕ) → lists_number l n counts lists ≡ 0 → lists_length counts lists ≡ 0 → Listed l n counts lists
unfolding lists_number there_number
lists-passed l n counts lists e f =
    let size = length-passed counts lists f in
    let a = or_passed (limits_number l n) _ e in
    let b = or_passed (counts_number counts) _ a.1 in
    let k = counts-passed counts b.0 in
    let all = subst (λ (p : List ℕ). or_else (flags_number p) (or_else (columns_number (first_count counts) p) (or_else (laid_number l n (first_count counts) p) (empty_number (first_count counts) (length counts - 1) p))) ≡ 0)
    (present_all counts lists size) b.1 in
    let c = or_passed (flags_number lists) _ all in
    let d = or_passed (columns_number (first_count counts) lists) _ c.1 in
    let g = or_passed (laid_number l n (first_count counts) lists) _ d.1 in
    record {
      limits = a.0;
      counted = k;
      size = size;
      flags = c.0;
      columns = d.0;
      placed = g.0;
      filled = g.1;
      laid = laid_passed l n (first_count counts) lists (columns-shaped l n (first_count counts) lists a.0 (omega (arith, size, k.few, k.first)) d.0) g.0;
    }

-- the answer
module _ (l n : ℕ) (counts lists : List ℕ) {a : Result (Unit {0}) Refusal} (is : lists_number l n counts lists ≡ 0) (long : a ≡ answer_of (lists_length counts lists)) where
  pub read_short : (lists_length counts lists ≡ 0 → ⊥) → Ok (record { length = a; first = 0; columns = 0; stacked = 0 }) ≡ run_lists l n counts lists
  unfolding run_lists
  read_short h = handed _ is (simp (← long, ne_eqb (lists_length counts lists) 0 h))

  pub read_done : (first columns end : ℕ) → lists_length counts lists ≡ 0 → first ≡ first_count counts → columns ≡ column_count lists → end ≡ matrix_start l n first lists (count_of lists)
      → Ok (record { length = a; first = first; columns = columns; stacked = end / 2 ^ (l + n) }) ≡ run_lists l n counts lists
  unfolding run_lists
  read_done first columns end z f g h = handed _ is (simp (← long, eq-eqb (lists_length counts lists) 0 z) (cc))
