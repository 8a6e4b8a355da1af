-- Run and verdict agree on the lengths that both have, and on the refusal; and where the exported room's number is 0, both are taken. So with slices of the
-- exported lengths no call of a run and no verdict gives 9: the laws of prover and verifier are about these two.
use mathlib.Core.Path.{◌≡◌, refl, sym, ◌∙◌, ap}
use mathlib.Core.List.{List}
use Prim.Native.Nat.{ℕ, zero, suc}
use native.Mathlib.Omega.{arith}
use Rattle.std.specs.Result.{result_unwrap_or, result_map_both}
use Rattle.std.specs.declared.result.Result.{Result}
use Rattle.std.specs.declared.result.Result.TheVariants.{Ok, Err}
use Rattle.field.specs.declared.answer.Refusal.{Refusal}
use Rattle.field.specs.declared.answer.Refusal.TheVariants.{LimitExceeded, TooManyColumns, HeightNotOneBit, LayoutHeightExceeded, LayoutRowOverflow, HeightsRise, NoColumn, OutOfTurn, WrongLength, NotCanonical, NoSuchColumn, InSkipSubgroup, S0Mismatch, FinalSumMismatch}
use Rattle.field.specs.Number.{refusal_number, settled}
use Rattle.field.proofs.Settled.{value_of_done}
use Rattle.layout.specs.Triples.{column_count}
use Rattle.layout.specs.Placing.{stack_width}
use Rattle.layout.specs.Lists.{first_count}
use Rattle.layout.specs.ByLists.{whole_number}
use Rattle.weights.specs.ClaimCount.{claim_count}
use Rattle.prover.specs.declared.rooms.RunRoom.{RunRoom}
use Rattle.prover.specs.Slots.{table_size}
use Rattle.prover.specs.Rooms.{taken_run, run_room}
use Rattle.verifier.specs.declared.rooms.VerdictRoom.{VerdictRoom}
use Rattle.verifier.specs.Rooms.{taken_verdict, verdict_room}
use Rattle.legrudda.specs.Exported.{room_of}

-- no refusal has the number 0
some_refusal : (e : Refusal) → refusal_number e ≡ 0 → ⊥
some_refusal LimitExceeded h = omega arith
some_refusal TooManyColumns h = omega arith
some_refusal HeightNotOneBit h = omega arith
some_refusal LayoutHeightExceeded h = omega arith
some_refusal LayoutRowOverflow h = omega arith
some_refusal HeightsRise h = omega arith
some_refusal NoColumn h = omega arith
some_refusal OutOfTurn h = omega arith
some_refusal WrongLength h = omega arith
some_refusal NotCanonical h = omega arith
some_refusal NoSuchColumn h = omega arith
some_refusal InSkipSubgroup h = omega arith
some_refusal S0Mismatch h = omega arith
some_refusal FinalSumMismatch h = omega arith

both_there : (a : Result RunRoom Refusal) (b : Result VerdictRoom Refusal) → (room_of a b).number ≡ 0
    → ((x : RunRoom) × (a ≡ Ok x)) × ((y : VerdictRoom) × (b ≡ Ok y))
unfolding room_of
both_there (Ok x) (Ok y) h = ((x, refl), (y, refl))
both_there (Ok x) (Err e) h = absurd (some_refusal e h)
both_there (Err e) b h = absurd (some_refusal e h)

-- one of the lengths that are given, or the refusal
abbrev pub length_in : {T : Type 0} → (T → ℕ) → Result T Refusal → Result ℕ Refusal
length_in f a = result_map_both f (λ e. e) a

-- of two rooms that one number settles
settled_alike : {S T : Type 0} (f : S → ℕ) (g : T → ℕ) (x : S) (y : T) (number : ℕ) → f x ≡ g y → length_in f (settled number x) ≡ length_in g (settled number y)
unfolding settled
settled_alike f g x y zero e = ap Ok e
settled_alike f g x y (suc number) e = refl

module _ (l n : ℕ) (counts lists : List ℕ) where
  abbrev run : RunRoom
  run = taken_run l n (stack_width l n (first_count counts) lists) (table_size l n lists) (column_count lists) (claim_count l n counts lists)

  abbrev verdict : VerdictRoom
  verdict = taken_verdict l n (stack_width l n (first_count counts) lists) (claim_count l n counts lists)

  run_is : {a : RunRoom} → run_room l n counts lists ≡ Ok a → run ≡ a
  unfolding run_room
  run_is e = value_of_done run (whole_number l n counts lists) e

  verdict_is : {b : VerdictRoom} → verdict_room l n counts lists ≡ Ok b → verdict ≡ b
  unfolding verdict_room
  verdict_is f = value_of_done verdict (whole_number l n counts lists) f

  -- of all lists
  pub openings_same : length_in (λ (x : RunRoom). x.openings) (run_room l n counts lists) ≡ length_in (λ (x : VerdictRoom). x.openings) (verdict_room l n counts lists)
  unfolding run_room verdict_room
  openings_same = settled_alike (λ (x : RunRoom). x.openings) (λ (x : VerdictRoom). x.openings) run verdict (whole_number l n counts lists) refl

  pub point_same : length_in (λ (x : RunRoom). x.r) (run_room l n counts lists) ≡ length_in (λ (x : VerdictRoom). x.challenges) (verdict_room l n counts lists)
  unfolding run_room verdict_room
  point_same = settled_alike (λ (x : RunRoom). x.r) (λ (x : VerdictRoom). x.challenges) run verdict (whole_number l n counts lists) refl

  pub coefficients_same : length_in (λ (x : RunRoom). x.coefficients) (run_room l n counts lists) ≡ length_in (λ (x : VerdictRoom). x.coefficients) (verdict_room l n counts lists)
  unfolding run_room verdict_room
  coefficients_same = settled_alike (λ (x : RunRoom). x.coefficients) (λ (x : VerdictRoom). x.coefficients) run verdict (whole_number l n counts lists) refl

  pub claims_same : length_in (λ (x : RunRoom). x.claims) (run_room l n counts lists) ≡ length_in (λ (x : VerdictRoom). x.claims) (verdict_room l n counts lists)
  unfolding run_room verdict_room
  claims_same = settled_alike (λ (x : RunRoom). x.claims) (λ (x : VerdictRoom). x.claims) run verdict (whole_number l n counts lists) refl

  -- of lists that are taken
  module _ {a : RunRoom} {b : VerdictRoom} (e : run_room l n counts lists ≡ Ok a) (f : verdict_room l n counts lists ≡ Ok b) where
    given_alike : (p : RunRoom → ℕ) (q : VerdictRoom → ℕ) → length_in p (run_room l n counts lists) ≡ length_in q (verdict_room l n counts lists) → p a ≡ q b
    given_alike p q h = ap (λ (r : Result ℕ Refusal). result_unwrap_or r 0) (sym (ap (length_in p) e) ∙ h ∙ ap (length_in q) f)

    pub openings_taken : a.openings ≡ b.openings
    openings_taken = given_alike (λ (x : RunRoom). x.openings) (λ (x : VerdictRoom). x.openings) openings_same

    pub point_taken : a.r ≡ b.challenges
    point_taken = given_alike (λ (x : RunRoom). x.r) (λ (x : VerdictRoom). x.challenges) point_same

    pub coefficients_taken : a.coefficients ≡ b.coefficients
    coefficients_taken = given_alike (λ (x : RunRoom). x.coefficients) (λ (x : VerdictRoom). x.coefficients) coefficients_same

    pub claims_taken : a.claims ≡ b.claims
    claims_taken = given_alike (λ (x : RunRoom). x.claims) (λ (x : VerdictRoom). x.claims) claims_same

  pub both-taken : (room_of (run_room l n counts lists) (verdict_room l n counts lists)).number ≡ 0
      → (run_room l n counts lists ≡ Ok run) × (verdict_room l n counts lists ≡ Ok verdict)
  both-taken h =
      let there = both_there (run_room l n counts lists) (verdict_room l n counts lists) h in
      (there.0.1 ∙ ap Ok (sym (run_is there.0.1)), there.1.1 ∙ ap Ok (sym (verdict_is there.1.1)))
