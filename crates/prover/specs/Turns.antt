-- The turn counts the accepted calls of a run: start, the first polynomial, the fold at u_0, for each round a pair and a fold, openings.
use Rattle.std.specs.Prelude.{ℕ, ◌+◌, ◌*◌, Bool, ◌&&◌, ◌==◌, nat_le}
use Rattle.prover.specs.declared.turns.Turn.{Turn}

abbrev pub after : ℕ → Turn
after calls = record { calls = calls }

-- a round of 1..n_stack, at a turn of so many calls
unfoldable pub in_round : ℕ → ℕ → ℕ → Turn → Bool
in_round n j calls t = nat_le 1 j && (nat_le j n && t.calls == calls)

-- whether it is the turn of the first polynomial, of the fold at u_0, of round j's pair, of round j's fold, of the openings
unfoldable pub first_turn : Turn → Bool
first_turn t = t.calls == 1

unfoldable pub uni_turn : Turn → Bool
uni_turn t = t.calls == 2

abbrev pub pair_turn : ℕ → ℕ → Turn → Bool
pair_turn n j t = in_round n j (2 * j + 1) t

abbrev pub fold_turn : ℕ → ℕ → Turn → Bool
fold_turn n j t = in_round n j (2 * j + 2) t

unfoldable pub openings_turn : ℕ → Turn → Bool
openings_turn n t = t.calls == 2 * n + 3
