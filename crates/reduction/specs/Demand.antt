-- Demand 3: one statement about every list of a run's calls after its start. The sums are those of `weights`, from the input alone: `first_coefficient_f`,
-- `honest_f`, `folded_sum_f`, `true_opening_f` and `weighted_claims_f` at the run that the lists, r and lambda make.
use Rattle.std.specs.Prelude.{◌≡◌, ◌⊎◌, ◌↔◌, true, List, [], ℕ, ◌+◌, ◌-◌, ◌*◌, ◌^◌, ◌<◌, ◌≤◌, length}
use Rattle.std.proofs.Math.Option.{some}
use Rattle.algebra.specs.Ring.{num}
use Rattle.field.specs.Element.{Elem, F, ◌⊕◌, words_of}
use Rattle.field.specs.Slice.{elem_at, elem_words, canonical_words}
use Rattle.std.specs.declared.result.Result.TheVariants.{Ok}
use Rattle.tables.specs.AtField.{quadratic_f}
use Rattle.tables.specs.Points.{coordinates, count}
use Rattle.tables.specs.OnSlices.{value_of}
use Rattle.weights.specs.Run.{Run}
use Rattle.weights.specs.Carried.{OneOrTwo}
use Rattle.weights.specs.LambdaPowers.{claims_before}
use Rattle.weights.specs.AtField.{weighted_claims_f, column_value_f, column_rotated_f, first_sum_f, folded_sum_f, honest_f, true_opening_f, first_coefficient_f}
use Rattle.verifier.specs.Verdicts.{verdict}
use Rattle.prover.specs.RowSum.{from_words}
use Rattle.prover.specs.Given.{Given, run, stacked, columns}
use Rattle.prover.specs.OwnSum.{tables_of, own_sum}
use Rattle.prover.specs.CallNumbers.{claims_asked}
use Rattle.prover.specs.FirstCalls.{claims_words}
use Rattle.reduction.specs.Calls.{Task, ask_pair, Call, State, Event, refused, first_sent, paired, opened, lent_slice}
use Rattle.reduction.specs.Steps.{lent_to}
use Rattle.reduction.specs.Lists.{events, outcome, Among}
use Rattle.reduction.specs.Verdict.{head_of, later_of, challenge_at, Fitting, judged}
use Rattle.reduction.specs.Zeros.{ZerosAfter}

-- the run that the sums are over: the lists' columns in lambda order, r and lambda
abbrev pub sums : Given → Run Elem
sums g = run g

module _ (g : Given) (s : State) where
  -- so far: at the matrices lent to the first polynomial and at the challenges of the folds accepted
  abbrev pub sum_so_far : Elem
  sum_so_far = folded_sum_f (sums g) (from_words s.matrices) (head_of s.challenges) (later_of s.challenges)

  abbrev pub honest_so_far : Elem → Elem
  honest_so_far = honest_f (sums g) (from_words s.matrices) (head_of s.challenges) (later_of s.challenges)

  abbrev pub true_values : ℕ → Elem
  true_values = true_opening_f (sums g) (from_words s.matrices) (head_of s.challenges) (later_of s.challenges)

  -- the weighted sum folded at u_0
  abbrev pub sum_at_first : Elem
  sum_at_first = folded_sum_f (sums g) (from_words s.matrices) (head_of s.challenges) []

  -- a pair returned here: the round that was asked, one of 1..n_stack, is the number of challenges accepted so far; the pair is the values at 1 and 2 of
  -- the honest quadratic; what that sums to over 0 and 1; and that it is a quadratic
  pub record HonestPair (asked : Task) (one two : List ℕ) : Type 0 where
    pub round : asked ≡ ask_pair (length s.challenges)
    pub begun : 0 < length s.challenges
    pub within : length s.challenges ≤ g.stack
    pub at_one : one ≡ words_of (honest_so_far F.one)
    pub at_two : two ≡ words_of (honest_so_far (num F 2))
    pub sums_so_far : honest_so_far F.zero ⊕ honest_so_far F.one ≡ sum_so_far
    pub quadratic : (x : Elem) → honest_so_far x ≡ quadratic_f (honest_so_far F.zero) (honest_so_far F.one) (honest_so_far (num F 2)) x

  -- openings returned here: u_0 and every round's challenge are there, and the openings are the true column values
  pub record TrueOpenings (out : List ℕ) : Type 0 where
    pub all : length s.challenges ≡ g.stack + 1
    pub values : out ≡ elem_words (stacked g) true_values

module _ (g : Given) (matrices : List ℕ) where
  -- the lent matrices, cell by cell
  abbrev pub lent_cells : ℕ → Elem
  lent_cells = from_words matrices

  -- these words are the trace columns' openings at r in the verdict's order: of each column its value, and where it is flagged the one with its rows turned
  -- by one next to it
  pub record ColumnOpenings (claims : List ℕ) : Type 0 where
    pub plain : (k : ℕ) → k < columns g → elem_at claims (claims_before (sums g) k) ≡ column_value_f (sums g) lent_cells k
    pub rotated : (k : ℕ) → k < columns g → 0 < (sums g).flag k → elem_at claims (claims_before (sums g) k + 1) ≡ column_rotated_f (sums g) lent_cells k

  -- a first polynomial returned to a call that was lent these matrices: its coefficients are the honest one's; its value at every z is the weighted sum
  -- folded there; and its sum over the subgroup is the weighted sum of the true openings, the words that `column_openings` gives for the same matrices
  pub record HonestFirst (out : List ℕ) : Type 0 where
    pub words : out ≡ elem_words (2 ^ (g.skip + 1) - 1) (first_coefficient_f (sums g) lent_cells)
    pub values : (z : Elem) → value_of out z ≡ folded_sum_f (sums g) lent_cells z []
    pub over_subgroup : first_sum_f (sums g) (coordinates out 0 (count out)) ≡ weighted_claims_f (sums g) (elem_at (claims_words g matrices))
    pub openings : ColumnOpenings (claims_words g matrices)

-- a refused call: it leaves the turn and every word of what it was lent, and the list has come to what it had
pub record Untouched (e : Event) : Type 0 where
  pub turn : e.turned ≡ e.before.turn
  pub work : e.left ≡ lent_to e.before e.call
  pub slice : e.slice ≡ lent_slice e.call.task
  pub after : e.after ≡ e.before

-- Demand 3 of a list of calls from s, what an accepted start left: its first and second part, a field for each sentence; `refusals`, of the calls that are
-- not accepted; and `zeros`, of document 01's buffers.
pub record Demand3 (g : Given) (s : State) (cs : List Call) : Type 0 where
  -- a first polynomial returned is the honest one, for the matrices lent to its call
  pub firsts : (e : Event) → Among e (events s cs) → (out : List ℕ) → e.reply ≡ first_sent out → HonestFirst g e.after.matrices out
  -- after the accepted fold at u_0 and after each later call it has been returned, and its value at u_0 is the weighted sum folded there
  pub first_at_u : (e : Event) → Among e (events s cs) → 0 < length e.after.challenges
      → (out : List ℕ) × (e.after.first ≡ some out) × (value_of out (head_of e.after.challenges) ≡ sum_at_first g e.after)
  -- each pair returned is the values at 1 and 2 of the honest quadratic, which sums over 0 and 1 to the weighted sum folded so far
  pub pairs : (e : Event) → Among e (events s cs) → (one two : List ℕ) → e.reply ≡ paired one two → HonestPair g e.before e.call.task one two
  -- openings returned are the true column values
  pub openings : (e : Event) → Among e (events s cs) → (out : List ℕ) → e.reply ≡ opened out → TrueOpenings g e.before out
  -- a refused call leaves the turn and every word of what it was lent
  pub refusals : (e : Event) → Among e (events s cs) → (k : ℕ) → e.reply ≡ refused k → Untouched e
  -- after the accepted fold at u_0 and after each later call the work buffers' own sum is the weighted sum folded so far
  pub buffers : (e : Event) → Among e (events s cs) → 0 < length e.after.challenges
      → own_sum (run g) (length (later_of e.after.challenges)) (tables_of g.skip g.lists e.after.work) ≡ sum_so_far g e.after
  -- and in them zeros stand after the values
  pub zeros : (e : Event) → Among e (events s cs) → 0 < length e.after.challenges
      → ZerosAfter g (length (later_of e.after.challenges)) e.after.work
  -- on a finished list's pairs and openings, whatever the claims and the first polynomial, the verdict is yes exactly if the weighted claims equal that
  -- polynomial's sum over the subgroup, and its value at u_0 is the weighted sum folded there or a later challenge is 1 or 2
  pub verdicts : (out : List ℕ) → (outcome s cs).openings ≡ some out → (claims coefficients observed : List ℕ)
      → Fitting g claims coefficients observed
      → ((verdict (judged g (outcome s cs) out claims coefficients observed)).answer ≡ Ok tt)
      ↔ ((weighted_claims_f (sums g) (elem_at claims) ≡ first_sum_f (sums g) (coordinates coefficients 0 (count coefficients)))
      × ((value_of coefficients (head_of (outcome s cs).challenges) ≡ sum_at_first g (outcome s cs))
      ⊎ OneOrTwo F (challenge_at (outcome s cs).challenges) g.stack))
  -- on a finished list's own first polynomial, pairs and openings, and the true openings of the trace columns, it is yes
  pub accepted : (out first : List ℕ) → (outcome s cs).openings ≡ some out → (outcome s cs).first ≡ some first → (observed : List ℕ)
      → length observed ≡ length first + 8 * g.stack + 4 * stacked g
      → (verdict (judged g (outcome s cs) out (claims_words g (outcome s cs).matrices) first observed)).answer ≡ Ok tt
  -- and with any other claims exactly if they weigh what the true ones weigh
  pub own_verdicts : (out first : List ℕ) → (outcome s cs).openings ≡ some out → (outcome s cs).first ≡ some first → (claims observed : List ℕ)
      → length claims ≡ claims_asked g → canonical_words claims ≡ true → length observed ≡ length first + 8 * g.stack + 4 * stacked g
      → ((verdict (judged g (outcome s cs) out claims first observed)).answer ≡ Ok tt)
      ↔ (weighted_claims_f (sums g) (elem_at claims) ≡ weighted_claims_f (sums g) (elem_at (claims_words g (outcome s cs).matrices)))
