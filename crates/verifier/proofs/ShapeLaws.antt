-- The numbers of a verdict's shape: from the answers of the checks to the answer of their one number, and what is known where it is 0.
use mathlib.Core.Path.{◌≡◌, refl, sym, ◌∙◌, ap, ap₂, subst}
use mathlib.Core.List.{List}
use Prim.Native.Nat.{ℕ, ◌+◌, ◌-◌, ◌*◌, ◌^◌, ◌≤◌}
use lib.ListN.{length}
use Rattle.std.specs.declared.result.Result.{Result}
use Rattle.std.specs.declared.result.Result.TheVariants.{Ok, Err}
use Rattle.std.specs.Prelude.{IsErrAnd}
use Rattle.field.specs.Number.{settled}
use Rattle.field.specs.declared.answer.Refusal.{Refusal}
use Rattle.field.proofs.Settled.{refused_whatever}
use Rattle.layout.specs.Answers.{answer_of}
use Rattle.layout.specs.declared.runs.RunLists.{RunLists}
use Rattle.layout.specs.Checks.{length_number}
use Rattle.layout.specs.Triples.{column_count}
use Rattle.layout.specs.Placing.{stack_width}
use Rattle.layout.specs.Lists.{first_count, lists_number, lists_length, run_lists}
use Rattle.layout.specs.Walked.{Walked}
use Rattle.layout.proofs.Firsts.{or_passed, skip, stop}
use Rattle.layout.proofs.Passed.{limits_passed}
use Rattle.layout.proofs.RunLaws.{Listed, lists-passed}
use Rattle.layout.proofs.CheckChains.{length_is}
use Rattle.layout.proofs.Answering.{zero_by, not_zero_by}
use Rattle.layout.proofs.ReadRuns.{read_number, read_length, read_long, read_first, read_columns, read_stacked}
use Rattle.weights.specs.LambdaPowers.{claims_before}
use Rattle.weights.specs.RunOf.{run_of}
use Rattle.weights.proofs.PlacedColumns.{lists_walked}
use Rattle.verifier.specs.declared.shapes.Shape.{Shape}
use Rattle.verifier.specs.Asked.{Asked}
use Rattle.verifier.specs.Walked.{Placed}
use Rattle.verifier.specs.Sides.{run}
use Rattle.verifier.specs.Numbers.{slices_number, words_number, asked_number, Shaped, IsShape}
use Rattle.verifier.proofs.Placed.{lists-placed}

-- of the lengths of slices that pass, what the steps ask
pub record Sized (l n r challenges coefficients pairs openings observed : ℕ) : Type 0 where
  pub point : r ≡ 4 * (n + 1)
  pub challenges_all : challenges ≡ 4 * (n + 1)
  pub coefficients_all : coefficients ≡ 4 * (2 ^ (l + 1) - 1)
  pub observed_all : observed ≡ coefficients + pairs + openings

pub slices_passed : (l n stacked claims r challenges claimed coefficients pairs openings observed : ℕ)
    → slices_number l n stacked claims r challenges claimed coefficients pairs openings observed ≡ 0
    → Sized l n r challenges coefficients pairs openings observed
unfolding slices_number
slices_passed l n stacked claims r challenges claimed coefficients pairs openings observed e =
    let a = or_passed (length_number r (4 * (n + 1))) _ e in
    let b = or_passed (length_number challenges (4 * (n + 1))) _ a.1 in
    let c = or_passed (length_number claimed (4 * claims)) _ b.1 in
    let d = or_passed (length_number coefficients (4 * (2 ^ (l + 1) - 1))) _ c.1 in
    let f = or_passed (length_number pairs (8 * n)) _ d.1 in
    let g = or_passed (length_number openings (4 * stacked)) _ f.1 in
    record {
      point = length_is _ _ a.0;
      challenges_all = length_is _ _ b.0;
      coefficients_all = length_is _ _ d.0;
      observed_all = length_is _ _ g.1;
    }

-- what is asked of the slices of a verdict
module _ (a : Asked) where
  abbrev pub slices_of : ℕ
  slices_of =
      slices_number a.skip a.stack (stack_width a.skip a.stack (first_count a.counts) a.lists)
      (claims_before (run a) (column_count a.lists)) (length a.r) (length a.challenges) (length a.claims) (length a.coefficients)
      (length a.pairs) (length a.openings) (length a.observed)

  abbrev pub words_of : ℕ
  words_of = words_number a.r a.lambda a.challenges a.claims a.coefficients a.pairs a.openings

  -- a verdict that 1 to 10 let pass
  pub record Ready : Type 0 where
    pub listed : Listed a.skip a.stack a.counts a.lists
    pub sized : Sized a.skip a.stack (length a.r) (length a.challenges) (length a.coefficients) (length a.pairs) (length a.openings)
        (length a.observed)

  pub asked_ready : asked_number a ≡ 0 → Ready
  unfolding asked_number
  asked_ready e =
      let b = or_passed (lists_number a.skip a.stack a.counts a.lists) _ e in
      let c = or_passed (lists_length a.counts a.lists) _ b.1 in
      let d = or_passed slices_of _ c.1 in
      record { listed = lists-passed a.skip a.stack a.counts a.lists b.0 c.0; sized = slices_passed _ _ _ _ _ _ _ _ _ _ _ d.0 }

-- the returns of `shape_of`
module _ (a : Asked) where
  handed_on : (r : Result Shape Refusal) {f : Refusal} → answer_of (asked_number a) ≡ Err f → IsErrAnd r (λ g. g ≡ f) → IsShape a r
  handed_on (Ok s) e h = absurd h
  handed_on (Err g) e h = e ∙ ap Err (sym h)

  -- a check's refusal, by its number
  refused : {S : Type 0} (x : S) (m : ℕ) {s : Result S Refusal} {f : Refusal} (r : Result Shape Refusal) → s ≡ settled m x → s ≡ Err f
      → m ≡ asked_number a → IsErrAnd r (λ g. g ≡ f) → IsShape a r
  unfolding answer_of
  refused x m r e d k h = handed_on r (ap (λ i. settled i tt) (sym k) ∙ refused_whatever x tt m (sym e ∙ d)) h

  pub lists-refused : {s : Result RunLists Refusal} {f : Refusal} (r : Result Shape Refusal) → s ≡ run_lists a.skip a.stack a.counts a.lists
      → s ≡ Err f → IsErrAnd r (λ g. g ≡ f) → IsShape a r
  unfolding run_lists asked_number
  lists-refused r e d h = refused _ (lists_number a.skip a.stack a.counts a.lists) r e d (stop _ _ _ refl (not_zero_by _ _ e d)) h

  module _ (s : RunLists) (is : run_lists a.skip a.stack a.counts a.lists ≡ Ok s) where
    abbrev passed_lists : lists_number a.skip a.stack a.counts a.lists ≡ 0
    passed_lists = read_number a.skip a.stack a.counts a.lists s is

    pub length-refused : {f : Refusal} (r : Result Shape Refusal) → s.length ≡ Err f → IsErrAnd r (λ g. g ≡ f) → IsShape a r
    unfolding asked_number answer_of
    length-refused r d h =
        let long = read_length a.skip a.stack a.counts a.lists s is in
        refused tt (lists_length a.counts a.lists) r long d (skip _ _ passed_lists (stop _ _ _ refl (not_zero_by tt _ long d))) h

    module _ {u : Unit {0}} (q : s.length ≡ Ok u) (claims : ℕ)
        (counted : (point lambda : List ℕ) → claims ≡ claims_before (run_of a.skip a.stack s.first a.lists point lambda) s.columns) where
      abbrev passed_length : lists_length a.counts a.lists ≡ 0
      passed_length = read_long a.skip a.stack a.counts a.lists s is q

      asks : claims ≡ claims_before (run a) (column_count a.lists)
      asks =
          counted a.r a.lambda
          ∙ ap₂ (λ f c. claims_before (run_of a.skip a.stack f a.lists a.r a.lambda) c) (read_first _ _ _ _ s is q) (read_columns _ _ _ _ s is q)

      abbrev slices_read : ℕ
      slices_read =
          slices_number a.skip a.stack s.stacked claims (length a.r) (length a.challenges) (length a.claims) (length a.coefficients)
          (length a.pairs) (length a.openings) (length a.observed)

      slices_are : slices_read ≡ slices_of a
      slices_are =
          ap₂ (λ w c. slices_number a.skip a.stack w c (length a.r) (length a.challenges) (length a.claims) (length a.coefficients) (length a.pairs)
          (length a.openings) (length a.observed)) (read_stacked _ _ _ _ s is q) asks

      module _ {x : Result (Unit {0}) Refusal} (ex : x ≡ answer_of slices_read) where
        pub slices_refused : {f : Refusal} (r : Result Shape Refusal) → x ≡ Err f → IsErrAnd r (λ g. g ≡ f) → IsShape a r
        unfolding asked_number answer_of
        slices_refused r d h =
            refused tt slices_read r ex d
            (skip _ _ passed_lists (skip _ _ passed_length (stop _ _ _ slices_are (not_zero_by tt _ ex d)))) h

        module _ {v : Unit {0}} (dx : x ≡ Ok v) {y : Result (Unit {0}) Refusal} (ey : y ≡ answer_of (words_of a)) where
          passed_slices : slices_of a ≡ 0
          unfolding answer_of
          passed_slices = sym slices_are ∙ zero_by tt _ ex dx

          pub words_refused : {f : Refusal} (r : Result Shape Refusal) → y ≡ Err f → IsErrAnd r (λ g. g ≡ f) → IsShape a r
          unfolding asked_number answer_of
          words_refused r d h =
              refused tt (words_of a) r ey d (skip _ _ passed_lists (skip _ _ passed_length (skip _ _ passed_slices refl))) h

          pub shape_done : {w : Unit {0}} → y ≡ Ok w → IsShape a (Ok (record { first = s.first; columns = s.columns }))
          unfolding asked_number answer_of
          shape_done d = record {
            number = sym (skip _ _ passed_lists (skip _ _ passed_length (skip _ _ passed_slices (sym (zero_by tt _ ey d)))));
            first = read_first _ _ _ _ s is q;
            columns = read_columns _ _ _ _ s is q;
          }

-- the two results
pub shape_taken : (a : Asked) {r : Result Shape Refusal} {s : Shape} → IsShape a r → r ≡ Ok s → Shaped a s
shape_taken a is e = subst (IsShape a) e is

pub shape_refusal : (a : Asked) {r : Result Shape Refusal} {f : Refusal} → IsShape a r → r ≡ Err f → answer_of (asked_number a) ≡ Err f
shape_refusal a is e = subst (IsShape a) e is

-- what the steps after the shape ask
module _ (a : Asked) (s : Shape) (is : Shaped a s) where
  ready : Ready a
  ready = asked_ready a is.number

  pub step_walked : Walked a.skip a.stack s.first a.lists s.columns
  step_walked = lists_walked ready.listed s.first s.columns is.first is.columns

  pub step-placed : Placed a.skip a.stack s.first a.lists s.columns a.r a.challenges
  step-placed = lists-placed ready.listed s.first s.columns is.first is.columns a.r a.challenges ready.sized.point ready.sized.challenges_all

  pub step_first : (a.skip ≤ 10) × (length a.coefficients ≡ 4 * (2 ^ (a.skip + 1) - 1))
  step_first = ((limits_passed a.skip a.stack ready.listed.limits).0, ready.sized.coefficients_all)

  pub step_observed : length a.observed ≡ length a.coefficients + length a.pairs + length a.openings
  step_observed = ready.sized.observed_all
