-- No exported call answers 12, whatever it is given: each answer that its promise names has another number.
use mathlib.Core.Path.{◌≡◌, refl, sym, ◌∙◌}
use mathlib.Core.Logic.{◌≢◌}
use mathlib.Core.Bool.{Bool, true, false, cond, ◌&&◌}
use mathlib.Core.List.{List}
use Prim.Native.Nat.{ℕ, zero, suc}
use native.Mathlib.Omega.{arith}
use lib.Dec.{leb}
use Rattle.std.specs.declared.result.Result.{Result}
use Rattle.field.specs.declared.answer.Refusal.{Refusal}
use Rattle.field.specs.Number.{settled, number_of}
use Rattle.field.specs.Slice.{canonical_words, canonical_four}
use Rattle.field.specs.declared.answer.Refusal.TheVariants.{LimitExceeded, WrongLength, NotCanonical}
use Rattle.std.specs.declared.result.Result.TheVariants.{Ok, Err}
use Rattle.tables.specs.EqTable.{eq_table_fits, eq_table_answer}
use Rattle.tables.specs.KernelTable.{kernel_fits, kernel_answer}
use Rattle.layout.specs.declared.stacked_pcs.StackedLayout.{StackedLayout}
use Rattle.layout.specs.declared.stacked_pcs.StackedSlice.{StackedSlice}
use Rattle.layout.specs.declared.stacked_pcs.MatPlace.{MatPlace}
use Rattle.layout.specs.Answers.{answer_of}
use Rattle.layout.specs.ByLists.{whole_number}
use Rattle.layout.specs.Planning.{laid_out, planned_of}
use Rattle.layout.specs.Getting.{get_number, got_of}
use Rattle.layout.specs.Stacking.{stacked_of}
use Rattle.layout.specs.Viewing.{view_number, mat_place_of}
use Rattle.layout.proofs.Answered.{twelve_alone}
use Rattle.layout.proofs.LowNumbers.{not_twelve, whole_low, planning_low, get_low, stacking_low, view_low}
use Rattle.ordering.specs.Unsorted.{unsorted_of}
use Rattle.ordering.proofs.NeverSix.{never}
use Rattle.prover.specs.declared.turns.Turn.{Turn}
use Rattle.prover.specs.declared.rooms.RunRoom.{RunRoom}
use Rattle.prover.specs.Given.{Given, Work}
use Rattle.prover.specs.Rooms.{run_room}
use Rattle.prover.specs.Calls.{step_of, start_step, uni_step, pair_of, pair_step, fold_step, openings_step}
use Rattle.prover.specs.FirstCalls.{first_step, claims_answer}
use Rattle.prover.proofs.NeverTwelve as Runs
use Rattle.verifier.specs.declared.rooms.VerdictRoom.{VerdictRoom}
use Rattle.verifier.specs.Rooms.{verdict_room}
use Rattle.verifier.specs.Asked.{Asked}
use Rattle.verifier.specs.Verdicts.{verdict}
use Rattle.verifier.proofs.LowNumbers as Verdicts
use Rattle.legrudda.specs.Exported.{plan_of, slice_of, place_of, judged_of, stepped_of, pair_stepped_of, room_of}

-- one of two answers
either : {A : Type 0} (number : A → ℕ) (b : Bool) (x y : A) → number x ≢ 12 → number y ≢ 12 → number (cond b x y) ≢ 12
either number true x y h k = h
either number false x y h k = k

pub eq_table_never : (start xs out : List ℕ) → number_of (eq_table_answer start xs out) ≢ 12
unfolding eq_table_answer
eq_table_never start xs out =
    either number_of (eq_table_fits xs out) (cond (canonical_words xs && canonical_four start) (Ok tt) (Err NotCanonical)) (Err WrongLength)
    (either number_of (canonical_words xs && canonical_four start) (Ok tt) (Err NotCanonical) (not_twelve {n = 0} (omega arith)) (not_twelve {n = 10} (omega arith))) (not_twelve {n = 9} (omega arith))

pub kernels_never : (l : ℕ) (out : List ℕ) → number_of (kernel_answer l out) ≢ 12
unfolding kernel_answer
kernels_never l out =
    either number_of (leb l 10) (cond (kernel_fits l out) (Ok tt) (Err WrongLength)) (Err LimitExceeded)
    (either number_of (kernel_fits l out) (Ok tt) (Err WrongLength) (not_twelve {n = 0} (omega arith)) (not_twelve {n = 9} (omega arith))) (not_twelve {n = 1} (omega arith))

-- what is exported of a Result has its number
plan_number_is : (r : Result StackedLayout Refusal) → (plan_of r).number ≡ number_of r
unfolding plan_of
plan_number_is (Ok a) = refl
plan_number_is (Err e) = refl

slice_number_is : (r : Result StackedSlice Refusal) → (slice_of r).number ≡ number_of r
unfolding slice_of
slice_number_is (Ok a) = refl
slice_number_is (Err e) = refl

place_number_is : (r : Result MatPlace Refusal) → (place_of r).number ≡ number_of r
unfolding place_of
place_number_is (Ok a) = refl
place_number_is (Err e) = refl

-- whatever is given where the number is 0
settled_never : {T : Type 0} (x : T) (n : ℕ) → n ≢ 12 → number_of (settled n x) ≢ 12
unfolding answer_of settled
settled_never x zero h = not_twelve {n = 0} (omega arith)
settled_never x (suc n) h = twelve_alone (suc n) h

module _ (l n : ℕ) (list : List ℕ) where
  laid_never : (number : ℕ) → number ≢ 12 → (plan_of (laid_out l n list number)).number ≢ 12
  unfolding laid_out
  laid_never number h e = settled_never _ number h (sym (plan_number_is (laid_out l n list number)) ∙ e)

  pub plan_never : (places : ℕ) → (plan_of (planned_of l n list places)).number ≢ 12
  unfolding planned_of
  plan_never places = laid_never _ (not_twelve (planning_low l n list places))

  pub get_never : (i j : ℕ) → (slice_of (got_of l n list i j)).number ≢ 12
  unfolding got_of
  get_never i j e = settled_never _ (get_number l n list i j) (not_twelve (get_low l n list i j)) (sym (slice_number_is (got_of l n list i j)) ∙ e)

  pub place_never : (stacked : List ℕ) (i : ℕ) → (place_of (mat_place_of l n list stacked i)).number ≢ 12
  unfolding mat_place_of
  place_never stacked i e =
      settled_never _ (view_number l n list stacked i) (not_twelve (view_low l n list stacked i)) (sym (place_number_is (mat_place_of l n list stacked i)) ∙ e)

pub stacked_never : (l n : ℕ) (list cells : List ℕ) (places : ℕ) → (plan_of (stacked_of l n list cells places)).number ≢ 12
unfolding stacked_of
stacked_never l n list cells places = laid_never l n _ _ (not_twelve (stacking_low l n list cells places))

pub unsorted_never : (l n : ℕ) (list : List ℕ) (arrivals places : ℕ) → (plan_of (unsorted_of l n list arrivals places)).number ≢ 12
unfolding unsorted_of
unsorted_never l n list arrivals places =
    laid_never l n _ _
    (never 12 (record { none = λ e. omega arith; one = λ e. omega arith; two = λ e. omega arith; four = λ e. omega arith; five = λ e. omega arith; nine = λ e. omega arith }) l n list arrivals places)

room_number_is : (a : Result RunRoom Refusal) (b : Result VerdictRoom Refusal) → number_of a ≢ 12 → number_of b ≢ 12 → (room_of a b).number ≢ 12
unfolding room_of
room_number_is (Ok a) (Ok b) h k = h
room_number_is (Ok a) (Err e) h k = k
room_number_is (Err e) b h k = h

module _ (l n : ℕ) (counts lists : List ℕ) where
  run_room_never : number_of (run_room l n counts lists) ≢ 12
  unfolding run_room
  run_room_never = settled_never _ (whole_number l n counts lists) (not_twelve (whole_low l n counts lists))

  -- beside any lengths of a verdict
  pub room_never : (b : VerdictRoom) → (room_of (run_room l n counts lists) (Ok b)).number ≢ 12
  room_never b = room_number_is (run_room l n counts lists) (Ok b) run_room_never (not_twelve {n = 0} (omega arith))

  -- beside the verdict's own, as it is exported
  pub both_rooms_never : (room_of (run_room l n counts lists) (verdict_room l n counts lists)).number ≢ 12
  unfolding verdict_room
  both_rooms_never =
      room_number_is (run_room l n counts lists) (verdict_room l n counts lists) run_room_never
      (settled_never _ (whole_number l n counts lists) (not_twelve (whole_low l n counts lists)))

module _ (g : Given) (t : Turn) where
  pub start_never : (w : Work) → (stepped_of (start_step g t w)).number ≢ 12
  unfolding stepped_of step_of
  start_never w = twelve_alone _ (Runs.start_never g w)

  pub first_never : (matrices out : List ℕ) → (stepped_of (first_step g t matrices out)).number ≢ 12
  unfolding stepped_of step_of
  first_never matrices out = twelve_alone _ (Runs.first_never g t matrices out)

  pub uni_never : (matrices u : List ℕ) (w : Work) → (stepped_of (uni_step g t matrices u w)).number ≢ 12
  unfolding stepped_of step_of
  uni_never matrices u w = twelve_alone _ (Runs.uni_never g t matrices u w)

  pub pair_never : (j : ℕ) (w : Work) → (pair_stepped_of (pair_step g t j w)).number ≢ 12
  unfolding pair_stepped_of pair_of
  pair_never j w = twelve_alone _ (Runs.pair_never g t j w)

  pub fold_never : (j : ℕ) (u : List ℕ) (w : Work) → (stepped_of (fold_step g t j u w)).number ≢ 12
  unfolding stepped_of step_of
  fold_never j u w = twelve_alone _ (Runs.fold_never g t j u w)

  pub openings_never : (out : List ℕ) (w : Work) → (stepped_of (openings_step g t out w)).number ≢ 12
  unfolding stepped_of step_of
  openings_never out w = twelve_alone _ (Runs.openings_never g t out w)

pub column-openings_never : (g : Given) (matrices out : List ℕ) → number_of (claims_answer g matrices out) ≢ 12
column-openings_never g matrices out = twelve_alone _ (Runs.claims_never g matrices out)

pub verdict_never : (a : Asked) → (judged_of (verdict a)).number ≢ 12
unfolding judged_of verdict
verdict_never a = twelve_alone _ (Verdicts.verdict_never a)
