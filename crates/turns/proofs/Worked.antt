-- Each call over a lent turn on an accepted and a refused input: the steps are those of the calls by value, which prover computes.
use mathlib.Core.Path.{◌≡◌}
use mathlib.Core.List.{List, [], ◌∷◌}
use Rattle.field.specs.declared.answer.Refusal.TheVariants.{OutOfTurn, WrongLength, NotCanonical}
use Rattle.std.specs.declared.result.Result.TheVariants.{Ok, Err}
use Rattle.prover.specs.declared.stacked_reduction.Step.{Step}
use Rattle.prover.specs.Turns.{after}
use Rattle.prover.proofs.Worked as Worked
use Rattle.prover.proofs.Worked.{g, large, lent, u, matrices, out, step}
use Rattle.prover.specs.Calls.{start_step, uni_step, pair_step, fold_step, openings_step}
use Rattle.prover.specs.FirstCalls.{first_step}

starts : ◌≡◌ {A = List Step} (start_step g (after 7) lent ∷ start_step large (after 7) lent ∷ []) (step (Ok tt) 1 ∷ step (Err NotCanonical) 7 ∷ [])
starts = Worked.starts

firsts : ◌≡◌ {A = List Step} (first_step g (after 0) matrices (out 4) ∷ first_step g (after 1) matrices (out 4) ∷ first_step g (after 2) matrices (out 4) ∷ first_step g (after 1) matrices (out 3)
    ∷ first_step g (after 1) (5 ∷ 7 ∷ 9 ∷ 2013265921 ∷ []) (out 4) ∷ [])
    (step (Err OutOfTurn) 0 ∷ step (Ok tt) 2 ∷ step (Err OutOfTurn) 2 ∷ step (Err WrongLength) 1 ∷ step (Err NotCanonical) 1 ∷ [])
firsts = Worked.firsts

unis : ◌≡◌ {A = List Step} (uni_step g (after 2) matrices (u 17) lent ∷ uni_step g (after 2) matrices (u 1) lent ∷ uni_step g (after 2) matrices (u 2013265921) lent ∷ [])
    (step (Ok tt) 3 ∷ step (Ok tt) 3 ∷ step (Err NotCanonical) 2 ∷ [])
unis = Worked.unis

pair-taken : ((pair_step g (after 3) 1 lent).answer ≡ Ok tt) × ((pair_step g (after 3) 1 lent).turn ≡ after 4)
pair-taken = Worked.pair-taken

pair-refused : pair_step g (after 2) 1 lent ≡ record { answer = Err OutOfTurn; turn = after 2; one = u 0; two = u 0 }
pair-refused = Worked.pair-refused

folds : ◌≡◌ {A = List Step} (fold_step g (after 4) 1 (u 19) lent ∷ fold_step g (after 4) 1 (u 2013265921) lent ∷ []) (step (Ok tt) 5 ∷ step (Err NotCanonical) 4 ∷ [])
folds = Worked.folds

openings : ◌≡◌ {A = List Step} (openings_step g (after 5) (out 8) lent ∷ openings_step g (after 5) (out 7) lent ∷ []) (step (Ok tt) 6 ∷ step (Err WrongLength) 5 ∷ [])
openings = Worked.openings
