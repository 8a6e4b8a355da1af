-- No call of a run gives 12, whatever it is given. Assumes nothing.
use Rattle.std.proofs.Common.{ℕ, ◌≤◌, Bool, ◌≢◌, List, arith}
use Rattle.layout.specs.Lists.{lists_length}
use Rattle.layout.proofs.LowNumbers.{low, both, not_twelve, lists_low}
use Rattle.layout.proofs.OtherNumbers.{or_other}
use Rattle.prover.specs.declared.turns.Turn.{Turn}
use Rattle.prover.specs.Given.{Given, Work}
use Rattle.prover.specs.Turns.{uni_turn, pair_turn, fold_turn, openings_turn}
use Rattle.prover.specs.CallNumbers.{lengths_number, called_number, given_number, point_number, live_number, start_number, uni_words, uni_number, round_number, pair_number, fold_number, openings_words, openings_number, first_number, claims_number}
use Rattle.prover.proofs.MadeNumbers.{first_range, claims_range}

module _ (g : Given) where
  given_low : (turned : Bool) (w : Work) → given_number g turned w ≤ 11
  unfolding called_number lists_length lengths_number
  given_low turned w =
      both (lists_low g.skip g.stack g.counts g.lists)
      (both (low 8 _ (omega arith))
      (both (low 9 _ (omega arith))
      (both (low 9 _ (omega arith)) (both (low 9 _ (omega arith)) (both (low 9 _ (omega arith)) (both (low 9 _ (omega arith)) (low 9 _ (omega arith))))))))

  point_low : point_number g.r g.lambda ≤ 11
  unfolding point_number
  point_low = both (low 10 _ (omega arith)) (low 10 _ (omega arith))

  round_low : (turned : Bool) (j : ℕ) (w : Work) → round_number g turned j w ≤ 11
  unfolding round_number live_number
  round_low turned j w =
      both (given_low turned w) (both point_low (both (low 10 _ (omega arith)) (both (low 10 _ (omega arith)) (both (low 10 _ (omega arith)) (low 10 _ (omega arith))))))

  pub start_never : (w : Work) → start_number g w ≢ 12
  unfolding start_number
  start_never w = or_other _ _ (not_twelve (given_low _ w)) (not_twelve point_low)

  pub uni_never : (t : Turn) (matrices u : List ℕ) (w : Work) → uni_number g t matrices u w ≢ 12
  unfolding uni_number uni_words
  uni_never t matrices u w =
      or_other _ _ (not_twelve (given_low (uni_turn t) w))
      (or_other _ _ (not_twelve (low 9 _ (omega arith)))
      (or_other _ _ (not_twelve point_low)
      (or_other _ _ (not_twelve (low 10 _ (omega arith))) (or_other _ _ (not_twelve (low 10 _ (omega arith))) (not_twelve (low 10 _ (omega arith)))))))

  pub pair_never : (t : Turn) (j : ℕ) (w : Work) → pair_number g t j w ≢ 12
  pair_never t j w = not_twelve (round_low (pair_turn g.stack j t) j w)

  pub fold_never : (t : Turn) (j : ℕ) (u : List ℕ) (w : Work) → fold_number g t j u w ≢ 12
  unfolding fold_number
  fold_never t j u w = or_other _ _ (not_twelve (round_low (fold_turn g.stack j t) j w)) (not_twelve (low 10 _ (omega arith)))

  pub openings_never : (t : Turn) (out : List ℕ) (w : Work) → openings_number g t out w ≢ 12
  unfolding openings_number openings_words
  openings_never t out w =
      or_other _ _ (not_twelve (given_low (openings_turn g.stack t) w))
      (or_other _ _ (not_twelve (low 9 _ (omega arith))) (or_other _ _ (not_twelve point_low) (not_twelve (low 10 _ (omega arith)))))

  pub first_never : (t : Turn) (matrices out : List ℕ) → first_number g t matrices out ≢ 12
  first_never t matrices out e = omega (arith, (first_range g t matrices out).0)

  pub claims_never : (matrices out : List ℕ) → claims_number g matrices out ≢ 12
  claims_never matrices out e = omega (arith, (claims_range g matrices out).0)
