-- From a text to its plan: text of document 01's form is planned by its numbers, and any other text is refused as 1.
use Prim.Native.Nat.{ℕ, suc, ◌-◌, ◌≤◌}
use mathlib.Core.Path.{◌≡◌, refl, ap, ◌∙◌}
use mathlib.Core.Bool.{Bool, true, false}
use mathlib.Core.List.{List, ◌∷◌, ◌++◌}
use native.Mathlib.Omega.{arith}
use lib.ListN.{length, drop, length-append}
use lib.Seq.{take_at}
use Rattle.std.specs.declared.result.Result.TheVariants.{Err}
use Rattle.field.specs.declared.answer.Refusal.TheVariants.{LimitExceeded}
use Rattle.layout.specs.Planning.{planned_of}
use Rattle.plan_text.specs.declared.Reading.{Reading}
use Rattle.plan_text.specs.Steps.{State, state, started, steps_of, whole_of}
use Rattle.plan_text.specs.Spelling.{Text}
use Rattle.plan_text.specs.Planned.{matrices, places_of, planned, plan_of}
use Rattle.plan_text.proofs.Plans.{not_whole, in_words}
use Rattle.plan_text.proofs.Spellings.{text_read}
use Rattle.plan_text.proofs.Wholes.{whole_text}

module _ (l n : ℕ) (list rest : List ℕ) (room : ℕ) where
  numbers-planned : whole_of (started (length (l ∷ n ∷ list))) ≡ true
      → plan_of (started (length (l ∷ n ∷ list))) ((l ∷ n ∷ list) ++ rest) room ≡ planned_of l n list (places_of list room)
  unfolding plan_of matrices
  numbers-planned w =
      let many : suc (suc (length list)) ≤ length ((l ∷ n ∷ list) ++ rest) = omega (arith, length-append (l ∷ n ∷ list) rest) in
      let h = in_words (started (length (l ∷ n ∷ list))) ((l ∷ n ∷ list) ++ rest) w many in
      let size : length list ≡ suc (suc (length list)) - 2 = omega arith in
      simp h (ap (λ m. planned_of l n m (places_of m room)) (take_at list rest (suc (suc (length list)) - 2) size))

pub text_planned : (l n : ℕ) (list text words : List ℕ) (room : ℕ) → Text (l ∷ n ∷ list) text → length (l ∷ n ∷ list) ≤ length words
    → (s : State) → s ≡ steps_of (state (started 0) words) text → plan_of s.reading s.words room ≡ planned_of l n list (places_of list room)
text_planned l n list text words room t h s e =
    let r = text_read (l ∷ n ∷ list) text words t h in
    ap (λ u. plan_of u.reading u.words room) (e ∙ r.0) ∙ numbers-planned l n list (drop (length (l ∷ n ∷ list)) words) room r.1

refused_by : (r : Reading) (words : List ℕ) (room : ℕ) → planned r words ≡ false → plan_of r words room ≡ Err LimitExceeded
unfolding plan_of
refused_by r words room h = simp h

module _ (text words : List ℕ) (room : ℕ) (none : (numbers : List ℕ) → Text numbers text → length numbers ≤ length words → ⊥) where
  other_by : (t : Bool) → whole_of (steps_of (state (started 0) words) text).reading ≡ t
      → plan_of (steps_of (state (started 0) words) text).reading (steps_of (state (started 0) words) text).words room ≡ Err LimitExceeded
  other_by true e = let w = whole_text words text e in absurd (none w.0 w.1 w.2)
  other_by false e =
      let s = steps_of (state (started 0) words) text in
      refused_by s.reading s.words room (not_whole s.reading s.words e)

  pub other_refused : (s : State) → s ≡ steps_of (state (started 0) words) text → plan_of s.reading s.words room ≡ Err LimitExceeded
  other_refused s e =
      ap (λ u. plan_of u.reading u.words room) e ∙ other_by (whole_of (steps_of (state (started 0) words) text).reading) refl
