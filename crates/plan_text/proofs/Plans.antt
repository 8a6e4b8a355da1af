-- The places for the records, counted a matrix a turn, and when the numbers of a text are planned.
use Prim.Native.Nat.{ℕ, ◌+◌, ◌*◌, ◌/◌, ◌%◌, min, ◌≤◌, ◌<◌}
use mathlib.Core.Path.{◌≡◌, refl, ap, ◌∙◌}
use mathlib.Core.Bool.{true, false}
use mathlib.Core.List.{List, ◌++◌}
use native.Mathlib.Omega.{arith}
use native.Mathlib.Numerals.{add-one}
use lib.ListN.{length, get_or, take, drop}
use lib.Seq.{length-take-le}
use borrow.Author.Tests.{le-leb, lt-leb, eqb-true}
use Rattle.std.specs.declared.result.Result.{Result}
use Rattle.std.specs.declared.result.Result.TheVariants.{Err}
use Rattle.field.specs.declared.answer.Refusal.{Refusal}
use Rattle.field.specs.declared.answer.Refusal.TheVariants.{LimitExceeded}
use Rattle.layout.specs.declared.stacked_pcs.StackedLayout.{StackedLayout}
use Rattle.layout.specs.Triples.{columns_before}
use Rattle.layout.specs.Planning.{planned_of, planned_into}
use Rattle.plan_text.specs.declared.Reading.{Reading}
use Rattle.plan_text.specs.declared.Reading.TheVariants.{Between, Within, Wrong}
use Rattle.plan_text.specs.Steps.{count_of, whole_of}
use Rattle.plan_text.specs.Planned.{matrices, places_of, planned, plan_of, records_in, records_of}

module _ (list : List ℕ) (most n i : ℕ) (e : n ≡ min most (columns_before list i)) where
  pub next_places : (n' : ℕ) → n' ≡ min most (n + get_or list (3 * i) 0) → n' ≡ min most (columns_before list (i + 1))
  unfolding columns_before
  next_places n' h = rw add-one (omega arith)

  pub all_places : (room : ℕ) → most ≡ min 4096 (room / 2) → i ≡ length list / 3 → 2 * n ≡ places_of list room
  unfolding places_of
  all_places room m h = ap (λ k. 2 * k) (e ∙ rw (m, h) refl)

pub places_fit : (list : List ℕ) (room : ℕ) → places_of list room ≤ room
unfolding places_of
places_fit list room = omega arith

-- a whole text has two numbers at least
pub two_numbers : (r : Reading) → whole_of r ≡ true → 2 ≤ count_of r
unfolding whole_of
two_numbers (Between count value) h = omega (arith, eqb-true (count % 3) 2 h)
two_numbers (Within count value) h = let z : ◌≡◌ {A = ℕ} 0 1 = cc in absurd (omega arith)
two_numbers (Wrong count value digits) h = let z : ◌≡◌ {A = ℕ} 0 1 = cc in absurd (omega arith)

pub not_between : (r : Reading) → ((count value : ℕ) → r ≡ Between count value → ⊥) → whole_of r ≡ false
unfolding whole_of
not_between (Between count value) h = absurd (h count value refl)
not_between (Within count value) h = refl
not_between (Wrong count value digits) h = refl

module _ (r : Reading) where
  module _ (words : List ℕ) where
    pub not_whole : whole_of r ≡ false → planned r words ≡ false
    unfolding planned
    not_whole h = simp h

    pub too_few : whole_of r ≡ true → length words < count_of r → planned r words ≡ false
    unfolding planned
    too_few h l = simp (h, lt-leb (count_of r) (length words) l)

    pub in_words : whole_of r ≡ true → count_of r ≤ length words → planned r words ≡ true
    unfolding planned
    in_words h l = simp (h, le-leb (count_of r) (length words) l)

    module _ (records : List ℕ) (p : Result StackedLayout Refusal) where
      pub refuses : planned r words ≡ false → p ≡ Err LimitExceeded → (p ≡ plan_of r words (length records)) × (records ≡ records_of r words records)
      unfolding plan_of records_of
      refuses h e = simp h (e, refl)

      pub plans : planned r words ≡ true → (list : List ℕ) (n : ℕ) (after : List ℕ) → list ≡ matrices (count_of r) words → n ≡ places_of list (length records)
          → p ≡ planned_of (get_or words 0 0) (get_or words 1 0) list (length (take n records))
          → after ≡ planned_into (get_or words 0 0) (get_or words 1 0) list (take n records)
          → (p ≡ plan_of r words (length records)) × (after ++ drop n records ≡ records_of r words records)
      unfolding plan_of records_of records_in
      plans h list n after l m e a =
          let fits : n ≤ length records = rw m (places_fit list (length records)) in
          simp h (e ∙ ap (planned_of (get_or words 0 0) (get_or words 1 0) list) (length-take-le n records fits) ∙ rw (m, l) refl, rw (a, m, l) refl)
