-- What holds along any list: before the accepted fold at u_0 the buffers are as the start left them; after it they stand for the folds accepted so far;
-- the first polynomial and the pairs returned are the honest ones, and the turn says which calls were accepted.
use mathlib.Core.Path.{◌≡◌, sym, ap, subst}
use mathlib.Core.Logic.{◌⊎◌, inl, inr}
use mathlib.Core.Bool.{true}
use mathlib.Core.List.{List, [], ◌∷◌}
use mathlib.Core.Option.{Option, none, some}
use Prim.Native.Nat.{ℕ, suc, ◌+◌, ◌*◌, ◌<◌, ◌≤◌}
use native.Mathlib.Omega.{arith}
use lib.ListN.{length, take}
use Rattle.algebra.specs.Ring.{num}
use Rattle.field.specs.Element.{Elem, F}
use Rattle.field.specs.Slice.{elem_at, elem_words, canonical_words}
use Rattle.tables.specs.OnSlices.{value_of}
use Rattle.weights.specs.AtField.{folded_sum_f, honest_f, true_opening_f}
use Rattle.prover.specs.RowSum.{from_words}
use Rattle.prover.specs.Given.{Given, Work, run, stacked}
use Rattle.prover.specs.OwnSum.{tables_of, own_sum}
use Rattle.prover.specs.Calls.{start_work}
use Rattle.prover.specs.FirstCalls.{first_words}
use Rattle.reduction.specs.Calls.{Task, own, Reply, refused, first_sent, folded, paired, opened, Call, State, Event}
use Rattle.reduction.specs.Verdict.{head_of, later_of}
use Rattle.reduction.specs.Demand.{sum_so_far, sum_at_first, HonestFirst, HonestPair, TrueOpenings, Untouched}
use Rattle.reduction.specs.Zeros.{ZerosAfter}
use Rattle.reduction.proofs.Stands.{Laid, Stands, stands_sum}
use Rattle.reduction.proofs.FirstWords.{first_values}

-- the words of m honest pairs
pub record Pairs (g : Given) (cells : ℕ → Elem) (u : Elem) (us : List Elem) (m : ℕ) (words : List ℕ) : Type 0 where
  pub size : length words ≡ 8 * m
  pub below : canonical_words words ≡ true
  pub ones : (i : ℕ) → i < m → elem_at words (2 * i) ≡ honest_f (run g) cells u (take i us) F.one
  pub twos : (i : ℕ) → i < m → elem_at words (2 * i + 1) ≡ honest_f (run g) cells u (take i us) (num F 2)

-- the next call due: a pair, a fold, none; t the turn's calls, j the later folds made, m the pairs returned, o the openings, true ones the words `right`
pub data Clock (n t j m : ℕ) (o : Option (List ℕ)) (right : List ℕ) : Type 0 where
  to_pair : t ≡ 2 * j + 3 → m ≡ j → o ≡ none → Clock n t j m o right
  to_fold : t ≡ 2 * j + 4 → j < n → m ≡ suc j → o ≡ none → Clock n t j m o right
  over : t ≡ 2 * n + 4 → j ≡ n → m ≡ n → o ≡ some right → Clock n t j m o right

-- and before the fold at u_0: the first polynomial, that fold; f the polynomial returned, the words `right`
pub data Early (t : ℕ) (f : Option (List ℕ)) (right : List ℕ) : Type 0 where
  to_first : t ≡ 1 → f ≡ none → Early t f right
  to_uni : t ≡ 2 → f ≡ some right → Early t f right

-- before and after the accepted fold at u_0
pub record Fresh (g : Given) (w : Work) (s : State) : Type 0 where
  pub early : Early s.turn.calls s.first (first_words g s.matrices)
  pub work : s.work ≡ start_work g w
  pub challenges : s.challenges ≡ []
  pub pairs : s.pairs ≡ []
  pub openings : s.openings ≡ none

pub record Going (g : Given) (s : State) : Type 0 where
  pub first : Elem
  pub later : List Elem
  pub challenges : s.challenges ≡ first ∷ later
  pub polynomial : s.first ≡ some (first_words g s.matrices)
  pub few : length later ≤ g.stack
  pub stands : Stands g (from_words s.matrices) first later (tables_of g.skip g.lists s.work)
  pub zeros : ZerosAfter g (length later) s.work
  pub rounds : ℕ
  pub pairs : Pairs g (from_words s.matrices) first later rounds s.pairs
  pub clock : Clock g.stack s.turn.calls (length later) rounds s.openings
      (elem_words (stacked g) (true_opening_f (run g) (from_words s.matrices) first later))

abbrev pub Inv : Given → Work → State → Type 0
Inv g w s = Fresh g w s ⊎ Going g s

-- what a reply promises: a first polynomial of the matrices lent to its call, the others of the state before it, and a pair of the round that was asked
abbrev pub Promise : Given → Event → Reply → Type 0
Promise g e (refused k) = Unit {0}
Promise g e (first_sent out) = HonestFirst g e.after.matrices out
Promise g e folded = Unit {0}
Promise g e (paired one two) = HonestPair g e.before e.call.task one two
Promise g e (opened out) = TrueOpenings g e.before out

-- the buffers' own sum
abbrev pub Summed : Given → State → Type 0
Summed g s =
    0 < length s.challenges → own_sum (run g) (length (later_of s.challenges)) (tables_of g.skip g.lists s.work) ≡ sum_so_far g s

-- the first polynomial's value at u_0
abbrev pub Polynomial : Given → State → Type 0
Polynomial g s =
    0 < length s.challenges → (out : List ℕ) × (s.first ≡ some out) × (value_of out (head_of s.challenges) ≡ sum_at_first g s)

-- and zeros behind their values
abbrev pub Zeroed : Given → State → Type 0
Zeroed g s = 0 < length s.challenges → ZerosAfter g (length (later_of s.challenges)) s.work

pub record Kept (g : Given) (e : Event) : Type 0 where
  pub reply : Promise g e e.reply
  pub refusal : (k : ℕ) → e.reply ≡ refused k → Untouched e
  pub at_u : Polynomial g e.after
  pub buffers : Summed g e.after
  pub zeros : Zeroed g e.after

-- the run's own call
abbrev pub own_call : Given → Task → Call
own_call g task = record { given = g; buffers = own; task = task }

module _ (g : Given) (laid : Laid g) (w : Work) (s : State) where
  pub summed : Inv g w s → Summed g s
  summed (inl f) h = absurd (omega (arith, ap length f.challenges))
  summed (inr a) h =
      subst
      (λ cs. own_sum (run g) (length (later_of cs)) (tables_of g.skip g.lists s.work) ≡ folded_sum_f (run g) (from_words s.matrices) (head_of cs) (later_of cs))
      (sym a.challenges)
      (stands_sum g laid (from_words s.matrices) a.first a.later (tables_of g.skip g.lists s.work) a.stands a.few)

  pub polynomial_at : Inv g w s → Polynomial g s
  polynomial_at (inl f) h = absurd (omega (arith, ap length f.challenges))
  polynomial_at (inr a) h = (first_words g s.matrices, a.polynomial, first_values g s.matrices (head_of s.challenges))

  pub zeroed : Inv g w s → Zeroed g s
  zeroed (inl f) h = absurd (omega (arith, ap length f.challenges))
  zeroed (inr a) h = subst (λ cs. ZerosAfter g (length (later_of cs)) s.work) (sym a.challenges) a.zeros
