-- What is known of a call that no number refuses: of a start its lists, r and lambda; of the others whose turn it is.
use mathlib.Core.Path.{◌≡◌, ap}
use mathlib.Core.List.{List}
use mathlib.Core.Bool.{Bool, true, not}
use Prim.Native.Nat.{ℕ, ◌+◌, ◌*◌, ◌≤◌}
use native.Mathlib.Omega.{arith}
use lib.Dec.{leb}
use lib.ListN.{length}
use borrow.Author.Tests.{leb-true, eqb-true, eq-eqb, not-false}
use Rattle.field.specs.Slice.{canonical_words, canonical_four}
use Rattle.field.proofs.FourWords.{and_both}
use Rattle.layout.specs.Checks.{refuse, length_number, word_number}
use Rattle.layout.specs.Lists.{lists_number, lists_length}
use Rattle.layout.proofs.Firsts.{or_passed, is_false, passed}
use Rattle.layout.proofs.RunLaws.{Listed, lists-passed}
use Rattle.prover.specs.declared.turns.Turn.{Turn}
use Rattle.prover.specs.Given.{Given, Work}
use Rattle.prover.specs.Turns.{in_round, first_turn, uni_turn, pair_turn, fold_turn, openings_turn}
use Rattle.prover.specs.CallNumbers.{lengths_number, called_number, given_number, point_number, start_number, uni_number, round_number, pair_number, fold_number, openings_number, listed_number, made_number, first_number}

-- slices of the right length, and words below p
pub right-length : (has asks : ℕ) → has ≡ asks → length_number has asks ≡ 0
right-length has asks e = passed 9 _ (ap not (eq-eqb has asks e))

pub right_words : (xs : List ℕ) → canonical_words xs ≡ true → word_number xs ≡ 0
right_words xs e = passed 10 _ (ap not e)

-- the numbers that every call has
pub record Passed (g : Given) (turned : Bool) (w : Work) : Type 0 where
  pub lists : lists_number g.skip g.stack g.counts g.lists ≡ 0
  pub sizes : lists_length g.counts g.lists ≡ 0
  pub turn : turned ≡ true
  pub point : length g.r ≡ 4 * (g.stack + 1)

given_passed : (g : Given) (turned : Bool) (w : Work) → given_number g turned w ≡ 0 → Passed g turned w
unfolding called_number lengths_number
given_passed g turned w e =
    let a = or_passed (lists_number g.skip g.stack g.counts g.lists) _ e in
    let b = or_passed (refuse 8 (not turned)) _ a.1 in
    let c = or_passed (lists_length g.counts g.lists) _ b.1 in
    let d = or_passed (length_number (length g.r) (4 * (g.stack + 1))) _ c.1 in
    record {
      lists = a.0;
      sizes = c.0;
      turn = not-false _ (is_false 8 _ (omega arith) b.0);
      point = eqb-true _ _ (not-false _ (is_false 9 _ (omega arith) d.0));
    }

-- an accepted start
pub record Begun (g : Given) : Type 0 where
  pub lists : lists_number g.skip g.stack g.counts g.lists ≡ 0
  pub sizes : lists_length g.counts g.lists ≡ 0
  pub point : length g.r ≡ 4 * (g.stack + 1)
  pub r_words : canonical_words g.r ≡ true
  pub lambda_words : canonical_four g.lambda ≡ true

pub start_passed : (g : Given) (w : Work) → start_number g w ≡ 0 → Begun g
unfolding start_number point_number
start_passed g w e =
    let a = or_passed (given_number g true w) _ e in
    let b = or_passed (word_number g.r) _ a.1 in
    let p = given_passed g true w a.0 in
    record {
      lists = p.lists;
      sizes = p.sizes;
      point = p.point;
      r_words = not-false _ (is_false 10 _ (omega arith) b.0);
      lambda_words = not-false _ (is_false 10 _ (omega arith) b.1);
    }

pub begun-listed : (g : Given) → Begun g → Listed g.skip g.stack g.counts g.lists
begun-listed g b = lists-passed g.skip g.stack g.counts g.lists b.lists b.sizes

-- the turns of accepted calls
pub first_turn_lem : (g : Given) (t : Turn) (matrices out : List ℕ) → first_number g t matrices out ≡ 0 → t.calls ≡ 1
unfolding made_number listed_number first_turn
first_turn_lem g t matrices out e =
    let a = or_passed (listed_number g (first_turn t)) _ e in
    let b = or_passed (lists_number g.skip g.stack g.counts g.lists) _ a.0 in
    eqb-true _ _ (not-false _ (is_false 8 _ (omega arith) (or_passed (refuse 8 (not (first_turn t))) _ b.1).0))

pub uni_turn_lem : (g : Given) (t : Turn) (matrices u : List ℕ) (w : Work) → uni_number g t matrices u w ≡ 0 → t.calls ≡ 2
unfolding uni_number uni_turn
uni_turn_lem g t matrices u w e = eqb-true _ _ (given_passed g (uni_turn t) w (or_passed (given_number g (uni_turn t) w) _ e).0).turn

round_turn : (n j calls : ℕ) (t : Turn) → in_round n j calls t ≡ true → (1 ≤ j) × (j ≤ n) × (t.calls ≡ calls)
unfolding in_round
round_turn n j calls t e =
    let a = and_both (leb 1 j) _ e in
    let b = and_both (leb j n) _ a.1 in
    (leb-true _ _ a.0, leb-true _ _ b.0, eqb-true _ _ b.1)

round_passed : (g : Given) (turned : Bool) (j : ℕ) (w : Work) → round_number g turned j w ≡ 0 → turned ≡ true
unfolding round_number
round_passed g turned j w e = (given_passed g turned w (or_passed (given_number g turned w) _ e).0).turn

pub pair_turn_lem : (g : Given) (t : Turn) (j : ℕ) (w : Work) → pair_number g t j w ≡ 0 → (1 ≤ j) × (j ≤ g.stack) × (t.calls ≡ 2 * j + 1)
pair_turn_lem g t j w e = round_turn g.stack j (2 * j + 1) t (round_passed g (pair_turn g.stack j t) j w e)

pub fold_turn_lem : (g : Given) (t : Turn) (j : ℕ) (u : List ℕ) (w : Work) → fold_number g t j u w ≡ 0 → (1 ≤ j) × (j ≤ g.stack) × (t.calls ≡ 2 * j + 2)
unfolding fold_number
fold_turn_lem g t j u w e =
    round_turn g.stack j (2 * j + 2) t
    (round_passed g (fold_turn g.stack j t) j w (or_passed (round_number g (fold_turn g.stack j t) j w) _ e).0)

pub openings_turn_lem : (g : Given) (t : Turn) (out : List ℕ) (w : Work) → openings_number g t out w ≡ 0 → t.calls ≡ 2 * g.stack + 3
unfolding openings_number openings_turn
openings_turn_lem g t out w e =
    eqb-true _ _ (given_passed g (openings_turn g.stack t) w (or_passed (given_number g (openings_turn g.stack t) w) _ e).0).turn
