-- What a verdict is lent, from the answers of `read_lists` and `claim_count`.
use mathlib.Core.Path.{◌≡◌, sym, ◌∙◌, ap, ap₂}
use mathlib.Core.List.{List, []}
use Prim.Native.Nat.{ℕ}
use Rattle.std.specs.declared.result.Result.{Result}
use Rattle.std.specs.declared.result.Result.TheVariants.{Ok, Err}
use Rattle.std.specs.Prelude.{IsErrAnd}
use Rattle.field.specs.declared.answer.Refusal.{Refusal}
use Rattle.field.specs.Number.{settled}
use Rattle.field.proofs.Settled.{number_of_done, value_of_done}
use Rattle.layout.specs.declared.runs.RunLists.{RunLists}
use Rattle.layout.specs.Answers.{answer_of}
use Rattle.layout.specs.Placing.{stack_width}
use Rattle.layout.specs.Lists.{first_count, lists_number, lists_length, run_lists}
use Rattle.layout.specs.ByLists.{whole_number}
use Rattle.layout.proofs.Answering.{not_zero_by, refused_by}
use Rattle.layout.proofs.Handing.{handed}
use Rattle.layout.proofs.ListAnswers.{whole_lists, whole_length}
use Rattle.layout.proofs.ReadRuns.{read_number, read_length, read_long, read_first, read_columns, read_stacked}
use Rattle.weights.specs.LambdaPowers.{claims_before}
use Rattle.weights.specs.RunOf.{run_of}
use Rattle.weights.specs.ClaimCount.{claim_count}
use Rattle.verifier.specs.declared.rooms.VerdictRoom.{VerdictRoom}
use Rattle.verifier.specs.Rooms.{taken_verdict, verdict_room}

module _ (l n : ℕ) (counts lists : List ℕ) where
  abbrev taken : VerdictRoom
  taken = taken_verdict l n (stack_width l n (first_count counts) lists) (claim_count l n counts lists)

  pub room-taken : whole_number l n counts lists ≡ 0 → verdict_room l n counts lists ≡ Ok taken
  unfolding verdict_room settled
  room-taken z = ap (λ i. settled i taken) z

  -- lent only where the lists have no number
  pub room_done : {room : VerdictRoom} → verdict_room l n counts lists ≡ Ok room → whole_number l n counts lists ≡ 0
  unfolding verdict_room
  room_done e = number_of_done taken (whole_number l n counts lists) e

  pub room_is : {room : VerdictRoom} → verdict_room l n counts lists ≡ Ok room → room ≡ taken
  unfolding verdict_room
  room_is e = sym (value_of_done taken (whole_number l n counts lists) e)

  -- the returns of `verdict_room`
  pub lists-refused : {s : Result RunLists Refusal} {f : Refusal} {r : Result VerdictRoom Refusal} → s ≡ run_lists l n counts lists → s ≡ Err f
      → IsErrAnd r (λ g. g ≡ f) → r ≡ verdict_room l n counts lists
  unfolding verdict_room run_lists
  lists-refused e d h =
      refused_by _ taken (lists_number l n counts lists) (whole_number l n counts lists) e d h (whole_lists l n counts lists (not_zero_by _ _ e d))

  module _ (s : RunLists) (is : run_lists l n counts lists ≡ Ok s) where
    pub length-refused : {f : Refusal} {r : Result VerdictRoom Refusal} → s.length ≡ Err f → IsErrAnd r (λ g. g ≡ f) → r ≡ verdict_room l n counts lists
    unfolding verdict_room answer_of
    length-refused d h =
        refused_by tt taken (lists_length counts lists) (whole_number l n counts lists) (read_length l n counts lists s is) d h
        (whole_length l n counts lists (read_number l n counts lists s is))

    pub lists-taken : {u : Unit {0}} {x : VerdictRoom} (claims : ℕ) → s.length ≡ Ok u
        → ((point lambda : List ℕ) → claims ≡ claims_before (run_of l n s.first lists point lambda) s.columns)
        → x ≡ taken_verdict l n s.stacked claims → Ok x ≡ verdict_room l n counts lists
    unfolding verdict_room
    lists-taken claims q counted e =
        handed _ (sym (whole_length l n counts lists (read_number l n counts lists s is)) ∙ read_long l n counts lists s is q)
        (e
        ∙ ap₂ (taken_verdict l n) (read_stacked l n counts lists s is q)
        (counted [] []
        ∙ ap₂ (λ f c. claims_before (run_of l n f lists [] []) c) (read_first l n counts lists s is q) (read_columns l n counts lists s is q)))
