-- What a call's turn says where it is its turn: the round is one of the run's, and so many calls were accepted.
use Rattle.std.proofs.Common.{◌≡◌, ℕ, ◌+◌, ◌*◌, ◌≤◌, true, leb, eqb-true, leb-true}
use Rattle.field.proofs.FourWords.{and_both}
use Rattle.prover.specs.declared.turns.Turn.{Turn}
use Rattle.prover.specs.Turns.{in_round, first_turn, uni_turn, openings_turn}

pub record InRound (n j calls : ℕ) (t : Turn) : Type 0 where
  pub some : 1 ≤ j
  pub most : j ≤ n
  pub accepted : t.calls ≡ calls

pub in_round_lem : (n j calls : ℕ) (t : Turn) → in_round n j calls t ≡ true → InRound n j calls t
unfolding in_round
in_round_lem n j calls t e =
    let a = and_both (leb 1 j) _ e in
    let b = and_both (leb j n) _ a.1 in
    record { some = leb-true _ _ a.0; most = leb-true _ _ b.0; accepted = eqb-true _ _ b.1 }

pub first_turn_lem : (t : Turn) → first_turn t ≡ true → t.calls ≡ 1
unfolding first_turn
first_turn_lem t e = eqb-true _ _ e

pub uni_turn_lem : (t : Turn) → uni_turn t ≡ true → t.calls ≡ 2
unfolding uni_turn
uni_turn_lem t e = eqb-true _ _ e

pub openings_turn_lem : (n : ℕ) (t : Turn) → openings_turn n t ≡ true → t.calls ≡ 2 * n + 3
unfolding openings_turn
openings_turn_lem n t e = eqb-true _ _ e
