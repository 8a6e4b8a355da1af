-- A plan: what the calls that follow it ask, by the plan's own numbers.
use Rattle.std.proofs.Common.{◌≡◌, ℕ, zero, suc, ◌+◌, ◌*◌, ◌^◌, ◌<◌, ◌≤◌, Bool, true, List, length, sym, ap, ◌∙◌, ⊎_elim, le_of_suc-le-suc, eq-or-lt_of_le, mul-le-mul_left, arith, pow_pos}
use Rattle.field.specs.Slice.{canonical_words}
use Rattle.field.proofs.FourWords.{and_both}
use Rattle.layout.specs.Lists.{first_count}
use Rattle.weights.proofs.PlacedColumns.{columns-small, stacked-small}
use Rattle.prover.specs.declared.plans.Plan.{Plan}
use Rattle.prover.specs.Given.{Given, Work, stacked, columns}
use Rattle.prover.specs.Slots.{entries, slot_start, Slots}
use Rattle.prover.specs.Blocks.{part}
use Rattle.prover.specs.CallNumbers.{given_number, Planned, live, live_tables, round_number}
use Rattle.prover.proofs.CallsPassed.{GivenReady, RoundReady, given_passed, round_passed}

module _ (g : Given) (turned : Bool) (w : Work) (s : Plan) where
  pub given_ready : Planned g (given_number g turned w) s → GivenReady g turned w
  given_ready is = given_passed g turned w is.passed

  pub round_ready : (j : ℕ) → Planned g (round_number g turned j w) s → RoundReady g turned j w
  round_ready j is = round_passed g turned j w is.passed

-- the plan's numbers, and the lengths by them
pub record PlanFacts (g : Given) (w : Work) (s : Plan) : Type 0 where
  pub skip_few : g.skip ≤ 10
  pub stack_few : g.stack ≤ 20
  pub sum_few : g.skip + g.stack ≤ 24
  pub first_is : s.first ≡ first_count g.counts
  pub columns_are : s.columns ≡ columns g
  pub columns_few : s.columns ≤ 16838656
  pub stacked_few : s.stacked ≤ 16838656
  pub slots_are : Slots g.skip g.stack g.lists s.slots
  pub q_length : length w.q ≡ 4 * (s.stacked * 2 ^ g.stack)
  pub openings_room : 4 * s.stacked ≤ length w.q
  pub ub_length : length w.ub ≡ 4 * s.columns

pub plan_facts : (g : Given) (turned : Bool) (w : Work) (s : Plan) (number : ℕ) → Planned g number s → GivenReady g turned w → PlanFacts g w s
plan_facts g turned w s number is ready = record {
  skip_few = ready.listed.laid.shaped.skip;
  stack_few = ready.listed.laid.shaped.stack;
  sum_few = ready.listed.laid.shaped.sum;
  first_is = is.is_first;
  columns_are = is.is_columns;
  columns_few = columns-small ready.listed s.first s.columns is.is_first is.is_columns;
  stacked_few = omega (arith, is.is_stacked, stacked-small ready.listed);
  slots_are = is.is_slots;
  q_length = ready.q_length ∙ ap (λ a. 4 * (a * 2 ^ g.stack)) (sym is.is_stacked);
  openings_room = omega (arith, ready.q_length, is.is_stacked, mul-le-mul_left {m = 1} {n = 2 ^ g.stack} (stacked g) (pow_pos g.stack));
  ub_length = ready.ub_length ∙ ap (λ a. 4 * a) (sym is.is_columns);
}

-- the live entries of one height
pub live_table : (l : ℕ) (lists : List ℕ) (j : ℕ) (t : List ℕ) (m h : ℕ) → live_tables l lists j t m ≡ true → h < m
    → canonical_words (part t (slot_start l lists h) (live (entries l lists h) j)) ≡ true
unfolding live_tables
live_table l lists j t zero h e b = absurd (omega arith)
live_table l lists j t (suc m) h e b =
    let f = and_both (live_tables l lists j t m) _ e in
    ⊎_elim (λ q. ap (λ k. canonical_words (part t (slot_start l lists k) (live (entries l lists k) j))) q ∙ f.1) (λ q. live_table l lists j t m h f.0 q)
    (eq-or-lt_of_le (le_of_suc-le-suc b))
