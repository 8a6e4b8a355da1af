-- The returns of `plan_of`: from the answers of the checks to the one of all, and what the plan is made of where none refuses.
use Rattle.std.proofs.Common.{◌≡◌, ℕ, ◌+◌, ◌*◌, ◌%◌, ◌^◌, ◌≤◌, Bool, true, false, not, List, get_or, sym, ap, ◌∙◌, ap₂, mul-le-mul, arith, pow_mono}
use Rattle.std.specs.declared.result.Result.TheVariants.{Ok, Err}
use Rattle.field.specs.declared.answer.Refusal.{Refusal}
use Rattle.field.specs.declared.answer.Refusal.TheVariants.{OutOfTurn}
use Rattle.field.specs.Number.{settled, refusal_of, refusals}
use Rattle.layout.specs.declared.runs.RunLists.{RunLists}
use Rattle.layout.specs.Answers.{answer_of}
use Rattle.layout.specs.Checks.{or_else, refuse}
use Rattle.layout.specs.Placing.{stack_width}
use Rattle.layout.specs.Lists.{first_count, lists_number, lists_length, run_lists}
use Rattle.layout.proofs.Firsts.{passed, skip, skips, stops}
use Rattle.layout.proofs.RunLaws.{Listed}
use Rattle.layout.proofs.ReadRuns.{read_number, read_length, read_long, read_listed, read_first, read_columns, read_stacked}
use Rattle.weights.proofs.PlacedColumns.{columns-small, stacked-small}
use Rattle.prover.specs.Given.{Given, stacked, columns}
use Rattle.prover.specs.Slots.{table_size, Slots}
use Rattle.prover.specs.CallNumbers.{lengths_number, called_number, Planned}
use Rattle.prover.proofs.Refusing.{refusal_stops, refusal_passes, lists_refusal}
use Rattle.prover.proofs.Shifts.{shifted}
use Rattle.prover.proofs.SlotLaws.{slots_size, table_small}

-- lists that pass: the numbers of the plan are small
module _ (l n : ℕ) (counts lists : List ℕ) (s : RunLists) (is : run_lists l n counts lists ≡ Ok s) {v : Unit {0}} (long : s.length ≡ Ok v) where
  listed : Listed l n counts lists
  listed = read_listed l n counts lists s is long

  pub plan_limits : (n ≤ 20) × (l + n ≤ 24)
  plan_limits = (listed.laid.shaped.stack, listed.laid.shaped.sum)

  abbrev width : ℕ
  width = stack_width l n (first_count counts) lists

  values_are : s.stacked * 2 ^ n % 18446744073709551616 ≡ width * 2 ^ n
  values_are =
      let few : s.stacked ≤ 16838656 = omega (arith, read_stacked l n counts lists s is long, stacked-small listed) in
      shifted s.stacked n (omega arith) (omega (arith, plan_limits.0)) ∙ ap (λ a. a * 2 ^ n) (read_stacked l n counts lists s is long)

  values-small : width * 2 ^ n ≤ 2 ^ 50
  values-small =
      omega (arith, mul-le-mul {n₁ = width} {m₁ = 2 ^ n} {n₂ = 16838656} {m₂ = 2 ^ 20} (stacked-small listed) (pow_mono {i = n} {j = 20} plan_limits.0))

  pub plan-small : (slots : List ℕ) → Slots l n lists slots
      → (n ≤ 20) × (s.stacked * 2 ^ n % 18446744073709551616 ≤ 2 ^ 50) × (get_or slots (l + n + 1) 0 ≤ 2 ^ 50) × (s.columns ≤ 2 ^ 50)
  plan-small slots starts = (
    plan_limits.0,
    omega (arith, values_are, values-small),
    omega (arith, slots_size starts, table_small l lists n plan_limits.0 plan_limits.1),
    omega (arith, columns-small listed s.first s.columns (read_first l n counts lists s is long) (read_columns l n counts lists s is long)),
  )

module _ (g : Given) (turned : Bool) (r q eq rot ub : ℕ) where
  abbrev number : ℕ
  number = called_number g turned r q eq rot ub

  pub lists-refused : {e : Refusal} → run_lists g.skip g.stack g.counts g.lists ≡ Err e → answer_of number ≡ Err e
  unfolding called_number
  lists-refused is = refusal_stops _ _ (lists_refusal g.skip g.stack g.counts g.lists is)

  module _ (s : RunLists) (is : run_lists g.skip g.stack g.counts g.lists ≡ Ok s) where
    passed_lists : lists_number g.skip g.stack g.counts g.lists ≡ 0
    passed_lists = read_number _ _ _ _ s is

    pub turn_refused : not turned ≡ true → answer_of number ≡ Err OutOfTurn
    unfolding called_number answer_of settled refusal_of refusals
    turn_refused h = ap answer_of (sym (skip _ _ passed_lists (stops 8 _ _ (omega arith) h)))

    module _ (t : not turned ≡ false) where
      past_turn : (b : ℕ) {e : Refusal} → answer_of b ≡ Err e → answer_of (or_else (lists_number g.skip g.stack g.counts g.lists) (or_else (refuse 8 (not turned)) b)) ≡ Err e
      past_turn b is = refusal_passes _ _ passed_lists (refusal_passes _ b (passed 8 (not turned) t) is)

      pub length-refused : {e : Refusal} → s.length ≡ Err e → answer_of number ≡ Err e
      unfolding called_number
      length-refused h = past_turn _ (refusal_stops _ _ (sym (read_length _ _ _ _ s is) ∙ h))

      module _ {v : Unit {0}} (long : s.length ≡ Ok v) where
        passed_length : lists_length g.counts g.lists ≡ 0
        passed_length = read_long _ _ _ _ s is long

        module _ (slots : List ℕ) (starts : Slots g.skip g.stack g.lists slots) where
          abbrev size : ℕ
          size = get_or slots (g.skip + g.stack + 1) 0

          -- as the code has it
          abbrev lengths_there : ℕ
          lengths_there = lengths_number g.stack (s.stacked * 2 ^ g.stack % 18446744073709551616) size s.columns r q eq rot ub

          lengths : lengths_there ≡ lengths_number g.stack (stacked g * 2 ^ g.stack) (table_size g.skip g.stack g.lists) (columns g) r q eq rot ub
          lengths =
              ap₂ (λ v z. lengths_number g.stack v z s.columns r q eq rot ub) (values_are _ _ _ _ s is long) (slots_size starts)
              ∙ ap (λ k. lengths_number g.stack (stacked g * 2 ^ g.stack) (table_size g.skip g.stack g.lists) k r q eq rot ub) (read_columns _ _ _ _ s is long)

          pub lengths-refused : {e : Refusal} → answer_of lengths_there ≡ Err e → answer_of number ≡ Err e
          unfolding called_number
          lengths-refused h = past_turn _ (refusal_passes _ _ passed_length (ap answer_of (sym lengths) ∙ h))

          pub plan_done : lengths_there ≡ 0 → Planned g number (record { first = s.first; columns = s.columns; stacked = s.stacked; slots = slots })
          unfolding called_number
          plan_done z = record {
            passed = sym (skip _ _ passed_lists (skips 8 _ _ t (skip _ _ passed_length (sym z ∙ lengths))));
            is_first = read_first _ _ _ _ s is long;
            is_columns = read_columns _ _ _ _ s is long;
            is_stacked = read_stacked _ _ _ _ s is long;
            is_slots = starts;
          }
