-- What a run is lent, from the answers of `read_lists` and the starts of the tables.
use Rattle.std.proofs.Common.{◌≡◌, ℕ, ◌+◌, ◌-◌, ◌*◌, ◌%◌, ◌^◌, ◌≤◌, List, [], get_or, refl, sym, ap, ◌∙◌, ap₂, mul-le-mul, arith, pow_mono}
use Rattle.field.specs.declared.answer.Refusal.{Refusal}
use Rattle.std.specs.declared.result.Result.{Result}
use Rattle.std.specs.declared.result.Result.TheVariants.{Ok, Err}
use Rattle.field.proofs.Settled.{number_of_done, value_of_done, refused_whatever}
use Rattle.layout.specs.declared.runs.RunLists.{RunLists}
use Rattle.layout.specs.Answers.{answer_of}
use Rattle.layout.specs.Triples.{column_count}
use Rattle.layout.specs.Placing.{stack_width}
use Rattle.layout.specs.Lists.{first_count, run_lists}
use Rattle.layout.specs.ByLists.{whole_number}
use Rattle.layout.proofs.Handing.{handed}
use Rattle.layout.proofs.ListAnswers.{whole_length}
use Rattle.layout.specs.Walked.{Walked}
use Rattle.layout.proofs.ReadRuns.{read_number, read_length, read_long, read_listed, read_first, read_columns, read_stacked, read_walked}
use Rattle.weights.specs.LambdaPowers.{claims_before}
use Rattle.weights.specs.RunOf.{run_of}
use Rattle.weights.specs.ClaimCount.{claim_count}
use Rattle.weights.proofs.ClaimCounts.{claims-within}
use Rattle.weights.proofs.PlacedColumns.{columns-small, stacked-small}
use Rattle.prover.specs.declared.rooms.RunRoom.{RunRoom}
use Rattle.prover.specs.Slots.{table_size, Slots}
use Rattle.prover.specs.Rooms.{taken_run, run_room}
use Rattle.prover.proofs.Shifts.{shifted}
use Rattle.prover.proofs.SlotLaws.{slots_size, table_small}
use Rattle.prover.proofs.Refusing.{refusal_stops, refusal_passes, lists_refusal}
use Rattle.prover.proofs.PlanLaws.{plan_limits}

-- the numbers of `taken_run`
module _ (l n stacked : ℕ) (sum : l + n ≤ 24) (few : stacked ≤ 2 ^ 30) where
  pub values_fit : stacked * 2 ^ n % 18446744073709551616 ≤ 2 ^ 54
  values_fit =
      omega (
        arith,
        shifted stacked n few (omega arith),
        mul-le-mul {n₁ = stacked} {m₁ = 2 ^ n} {n₂ = 2 ^ 30} {m₂ = 2 ^ 24} few (pow_mono {i = n} {j = 24} (omega arith)),
      )

  -- the lengths, by the two that are shifted, and that of the coefficients
  module _ (entries columns claims : ℕ) where
    abbrev shaped : ℕ → ℕ → ℕ → RunRoom
    shaped coefficients values cells = record {
      r = 4 * (n + 1);
      q_evals = 4 * values;
      eq_r = 4 * entries;
      eq_ub = 4 * columns;
      matrices = cells;
      openings = 4 * stacked;
      coefficients = coefficients;
      claims = 4 * claims;
    }

    pub taken_is : {c : ℕ} → c ≡ 4 * (2 ^ (l + 1) - 1)
        → shaped c (stacked * 2 ^ n % 18446744073709551616) (stacked * 2 ^ (l + n) % 18446744073709551616) ≡ taken_run l n stacked entries columns claims
    taken_is {c} e =
        ap₂ (shaped c) (shifted stacked n few (omega arith)) (shifted stacked (l + n) few sum)
        ∙ ap (λ k. shaped k (stacked * 2 ^ n) (stacked * 2 ^ (l + n))) e

module _ (l n : ℕ) (counts lists : List ℕ) where
  abbrev pub taken : RunRoom
  taken = taken_run l n (stack_width l n (first_count counts) lists) (table_size l n lists) (column_count lists) (claim_count l n counts lists)

  pub room-taken : whole_number l n counts lists ≡ 0 → run_room l n counts lists ≡ Ok taken
  unfolding run_room
  room-taken z = sym (handed (whole_number l n counts lists) z refl)

  pub room_is : {room : RunRoom} → run_room l n counts lists ≡ Ok room → (whole_number l n counts lists ≡ 0) × (taken ≡ room)
  unfolding run_room
  room_is e = (number_of_done taken (whole_number l n counts lists) e, value_of_done taken (whole_number l n counts lists) e)

  -- the returns of `run_room`
  pub lists-refused : {x : Result RunRoom Refusal} {e : Refusal} → run_lists l n counts lists ≡ Err e → x ≡ Err e → x ≡ run_room l n counts lists
  unfolding run_room answer_of
  lists-refused is h = h ∙ sym (refused_whatever tt taken (whole_number l n counts lists) (refusal_stops _ _ (lists_refusal l n counts lists is)))

  module _ (s : RunLists) (is : run_lists l n counts lists ≡ Ok s) where
    pub length-refused : {x : Result RunRoom Refusal} {e : Refusal} → s.length ≡ Err e → x ≡ Err e → x ≡ run_room l n counts lists
    unfolding run_room answer_of
    length-refused q h =
        h ∙ sym (refused_whatever tt taken (whole_number l n counts lists) (refusal_passes _ _ (read_number l n counts lists s is) (sym (read_length l n counts lists s is) ∙ q)))

    module _ {v : Unit {0}} (q : s.length ≡ Ok v) (slots : List ℕ) (starts : Slots l n lists slots) where
      module _ {claims : ℕ} (counted : Walked l n s.first lists s.columns → (point lambda : List ℕ) → claims ≡ claims_before (run_of l n s.first lists point lambda) s.columns) where
        claims_of_lem : claims ≡ claims_before (run_of l n s.first lists [] []) s.columns
        claims_of_lem = counted (read_walked l n counts lists s is q) [] []

        pub room_small : ((l + n ≤ 24) × (s.stacked ≤ 2 ^ 30) × (get_or slots (l + n + 1) 0 ≤ 2 ^ 30) × (s.columns ≤ 2 ^ 30)) × ((l ≤ 10) × (claims ≤ 2 ^ 30))
        room_small =
            let listed = read_listed l n counts lists s is q in
            let limits = plan_limits l n counts lists s is q in
            let columns = columns-small listed s.first s.columns (read_first l n counts lists s is q) (read_columns l n counts lists s is q) in (
              (
                limits.1,
                omega (arith, read_stacked l n counts lists s is q, stacked-small listed),
                omega (arith, slots_size starts, table_small l lists n limits.0 limits.1),
                omega (arith, columns),
              ),
              (listed.laid.shaped.skip, omega (arith, claims_of_lem, claims-within (run_of l n s.first lists [] []) s.columns, columns)),
            )

        pub lists-taken : {x : RunRoom} → x ≡ taken_run l n s.stacked (get_or slots (l + n + 1) 0) s.columns claims → Ok x ≡ run_room l n counts lists
        unfolding run_room
        lists-taken e =
            handed (whole_number l n counts lists) (sym (whole_length l n counts lists (read_number l n counts lists s is)) ∙ read_long l n counts lists s is q)
            (e
            ∙ ap₂ (λ w t. taken_run l n w t s.columns claims) (read_stacked l n counts lists s is q) (slots_size starts)
            ∙ ap₂ (taken_run l n (stack_width l n (first_count counts) lists) (table_size l n lists)) (read_columns l n counts lists s is q)
            (claims_of_lem ∙ ap₂ (λ f c. claims_before (run_of l n f lists [] []) c) (read_first l n counts lists s is q) (read_columns l n counts lists s is q)))
